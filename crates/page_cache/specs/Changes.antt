-- What calls do to the pages of a cache, page by page.
use Rattle.std.specs.Prelude.{◌≡◌, ◌≢◌, ◌⊎◌, ℕ, ◌+◌, ◌<◌, ◌≤◌, ◌==◌, Bool, true, false, if◌then◌else◌, List, [], ◌∷◌, count_by, Option, Some, None, is_some, IsSome, MatchOption, IsSomeAnd}
use Rattle.std.specs.Option.{option_map}
use Rattle.split_types.specs.declared.ids.Pid.{Pid}
use Rattle.split_types.specs.declared.ids.Serial.{Serial}
use Rattle.split_types.specs.declared.buf.Buf.{Buf}
use Rattle.split_types.specs.declared.buf.Buf.TheVariants.{Page, Bitmap, Dir, Inode}
use Rattle.split_types.specs.Hooks.{is_among}
use Rattle.split_types.specs.Parents.{pages_of}
use Rattle.split_types.specs.Sets.{union_of}
use Rattle.cause_set.specs.Tags.{Tags, same, use_in, held}
use Rattle.page_cache.specs.declared.page.State.{State}
use Rattle.page_cache.specs.Bytes.{filled, zeros}
use Rattle.page_cache.specs.Keys.{key_of}
use Rattle.page_cache.specs.Held.{Held, state_in}
use Rattle.page_cache.specs.Cached.{Cached, page_of, touch_of, held_in, unsettled_in, is_unsettled, is_idle, is_ready, tag_in, tags_in, causes_of}

abbrev pub one_if : Bool → ℕ
one_if test = if test then 1 else 0

-- one page has become what is said, and the others are as they were
pub record ChangesOnly (old new : Cached) (b : Buf) (now : Option Held) : Type 0 where
  pub page : page_of new b ≡ now
  pub others : (k : Buf) → k ≢ b → page_of new k ≡ page_of old k
  pub count : held_in new + one_if (is_some (page_of old b)) ≡ held_in old + one_if (is_some now)
  pub unsettled : unsettled_in new + one_if (is_unsettled (page_of old b))
      ≡ unsettled_in old + one_if (is_unsettled now)
  pub tags :
      (n : ℕ) → held same (tags_in new) n + use_in same (tag_in (page_of old b)) n
      ≡ held same (tags_in old) n + use_in same (tag_in now) n
  pub limit : new.limit ≡ old.limit

-- pages that stay held were touched when they were
abbrev pub KeepsTouches : Cached → Cached → Type 0
KeepsTouches old new = (k : Buf) → IsSome (page_of old k) → IsSome (page_of new k) → touch_of new k ≡ touch_of old k

-- one page comes to be the one touched last, and the others stay in order
pub record Touches (old new : Cached) (b : Buf) : Type 0 where
  pub last : (k : Buf) → k ≢ b → IsSome (page_of new k) → touch_of new k < touch_of new b
  pub order :
      (j k : Buf) → j ≢ b → k ≢ b → IsSome (page_of new j) → IsSome (page_of new k)
      → touch_of old j < touch_of old k → touch_of new j < touch_of new k

-- a page of these bytes, this tag and this state
abbrev pub page_as : Buf → List ℕ → Option ℕ → State → Option Held
page_as b bytes tag state = option_map (λ key. record { key = key; bytes = bytes; tag = tag; state = state }) (key_of b)

-- the bytes of a page; one that isn't held has zeros
abbrev pub bytes_in : Option Held → List ℕ
bytes_in None = zeros
bytes_in (Some p) = p.bytes

-- a page may be written: it is held and not loading, or a place is free
abbrev pub CanWrite : Cached → Buf → Type 0
CanWrite c b = MatchOption (page_of c b) (held_in c < c.limit) (λ p. p.state.loading ≡ false)

-- a page is held and not loading
abbrev pub IsLoaded : Cached → Buf → Type 0
IsLoaded c b = IsSomeAnd (page_of c b) (λ p. p.state.loading ≡ false)

-- some bytes of a page are written, on behalf of a process; it is dirty then, under some tag
pub record Writes (before after : Tags) (old new : Cached) (b : Buf) (from to byte : ℕ) (by : Pid) : Type 0 where
  pub tag : ℕ
  pub page :
      ChangesOnly old new b
      (page_as b (filled (bytes_in (page_of old b)) from to byte) (Some tag) (state_in (page_of old b)))
  pub causes : causes_of after new b ≡ union_of (causes_of before old b ∷ (by.0 ∷ []) ∷ [])
  pub others : (k : Buf) → k ≢ b → causes_of after new k ≡ causes_of before old k
  pub touched : Touches old new b

-- a page comes to be loading, for a process; what bytes it has isn't said
pub record BeginsLoad (old new : Cached) (b : Buf) (by : Pid) : Type 0 where
  pub bytes : List ℕ
  pub page : ChangesOnly old new b (page_as b bytes None record { busy = false; loading = true; pin = Some by })
  pub touches : KeepsTouches old new

-- a page with bytes that were awaited
abbrev pub loaded : List ℕ → Held → Held
loaded bytes p = record p { bytes = bytes; state = record p.state { loading = false } }

-- a page that isn't busy any more
abbrev pub written : Held → Held
written p = record p { state = record p.state { busy = false } }

-- a page that was taken out
abbrev pub taken : Held → Held
taken p = record p { tag = None; state = record p.state { busy = true } }

-- the process pins nothing any more
abbrev pub is_pinned_by : Pid → Option Pid → Bool
is_pinned_by by None = false
is_pinned_by by (Some other) = other.0 == by.0

abbrev pub unpinned : Pid → Held → Held
unpinned by p = record p { state = record p.state { pin = if is_pinned_by by p.state.pin then None else p.state.pin } }

-- each page becomes what a function makes of it, and as many are held, dirty or busy as before, under the same tags
pub record ChangesEach (old new : Cached) (f : Buf → Held → Held) : Type 0 where
  pub pages : (k : Buf) → page_of new k ≡ option_map (f k) (page_of old k)
  pub count : held_in new ≡ held_in old
  pub unsettled : unsettled_in new ≡ unsettled_in old
  pub limit : new.limit ≡ old.limit
  pub touches : KeepsTouches old new

-- the pages of a run are taken out
abbrev pub taken_among : Serial → ℕ → ℕ → Buf → Held → Held
taken_among s page n k p = if is_among s page n k then taken p else p

-- a page is dirty and not busy
abbrev pub IsReady : Cached → Buf → Type 0
IsReady c b = is_ready (page_of c b) ≡ true

-- the buffer is a page of the file
abbrev pub is_of : Serial → Buf → Bool
is_of s (Page t g) = t.0 == s.0
is_of s Bitmap = false
is_of s (Dir k) = false
is_of s (Inode t) = false

-- no page of the file is held any more, and the others are as they were
pub record Frees (before after : Tags) (old new : Cached) (s : Serial) : Type 0 where
  pub pages : (k : Buf) → page_of new k ≡ (if is_of s k then None else page_of old k)
  pub causes : (k : Buf) → is_of s k ≡ false → causes_of after new k ≡ causes_of before old k
  pub count : held_in new + count_by (λ k. is_some (page_of old k)) (pages_of s 0 1008) ≡ held_in old
  pub unsettled : unsettled_in new + count_by (λ k. is_unsettled (page_of old k)) (pages_of s 0 1008) ≡ unsettled_in old
  pub limit : new.limit ≡ old.limit
  pub touches : KeepsTouches old new

-- the page of least last touch among those that are neither dirty, busy, loading nor pinned
pub record IsVictim (c : Cached) (b : Buf) : Type 0 where
  pub idle : is_idle (page_of c b) ≡ true
  pub oldest : (k : Buf) → is_idle (page_of c k) ≡ true → touch_of c b ≤ touch_of c k

-- the one page isn't behind the other, by serial and page
abbrev pub IsUpTo : Buf → Buf → Type 0
IsUpTo (Page s g) (Page t h) = (s.0 < t.0) ⊎ ((s.0 ≡ t.0) × (g ≤ h))
IsUpTo _ _ = ⊥

-- the least page, by serial and page, among those that are dirty and not busy
pub record IsFirstReady (c : Cached) (b : Buf) : Type 0 where
  pub ready : IsReady c b
  pub first : (k : Buf) → IsReady c k → IsUpTo b k
