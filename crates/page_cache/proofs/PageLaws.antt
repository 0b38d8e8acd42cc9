-- What a step does to the fields of a cache.
use Rattle.std.proofs.Common.{◌≡◌, ◌≢◌, ℕ, ◌+◌, ◌-◌, ◌<◌, ◌≤◌, Bool, true, false, List, length, get_or, set, Option, Some, None, IsSome, is_some, arith, refl, ap, sym, ◌∙◌}
use Rattle.std.specs.Prelude.{count_by}
use Rattle.std.specs.Int.{from_bool}
use Rattle.std.specs.Option.{option_map}
use Rattle.std.specs.List.{position_or_len}
use Rattle.std.proofs.lemmas.List.{map-set, length-map, get_or_default}
use Rattle.std.proofs.Math.ListN.{get_or-map}
use Rattle.page_cache.specs.declared.key.PageKey.{PageKey}
use Rattle.page_cache.specs.declared.page.Page.{Page}
use Rattle.page_cache.specs.declared.page.State.{State}
use Rattle.page_cache.specs.declared.page.Mark.{Mark}
use Rattle.page_cache.specs.Keys.{buf_of}
use Rattle.page_cache.specs.Guide.{Guided, marked}
use Rattle.page_cache.specs.Pool.{Pooled, TakesOne, KeepsAll}
use Rattle.page_cache.specs.Bytes.{zeros}
use Rattle.page_cache.specs.Changes.{one_if, loaded}
use Rattle.page_cache.specs.Held.{Held, seen, mark_of, mark_in, key_in}
use Rattle.page_cache.specs.Fields.{all_seen, cached_of}
use Rattle.page_cache.specs.Cached.{Cached, is_page, is_loading}
use Rattle.page_cache.specs.Kept.{AreGuided, IsKept, IsSound}
use Rattle.page_cache.specs.Steps.{Enters, changed, with_state, with_bytes}
use Rattle.page_cache.proofs.SlotLaws.{key-page, absent-page, some-inside}
use Rattle.page_cache.proofs.KeptLaws.{kept-changed, kept-bytes, kept-entered, kept-left, kept-pool, kept-reserved}
use Rattle.page_cache.proofs.FindLaws.{held-count, key-absent}

-- ---- a page that comes

-- a page that isn't held has its key in no place
pub keys-absent : (g : Guided) (places : List (Option Held)) (key : PageKey) → AreGuided g places
    → get_or places (position_or_len (is_page (buf_of key)) places) None ≡ None → (i : ℕ)
    → get_or g.keys i None ≢ Some key
keys-absent g places key a none i here =
    let read : key_in (get_or places i None) ≡ Some key = sym (get_or-map key_in places i None)
    ∙ sym (ap (λ keys. get_or keys i None) a.keys) ∙ here in
    let is = key-page record { 0 = key.serial } key.page (get_or places i None) read in
    let fails = absent-page (buf_of key) places none i in
    absurd (cc)

pub free-keys : (limit spare : ℕ) (places : List (Option Held)) (g : Guided) (pool : Pooled)
    → IsKept limit spare places g pool
    → count_by is_some places < limit → count_by is_some g.keys < length g.keys
free-keys limit spare places g pool k room =
    let len : length g.keys ≡ length places = ap length k.guided.keys ∙ length-map places key_in in
    omega (arith, held-count g places k.guided, len, k.ready.places)

keyless : (x : Option Held) → key_in x ≡ None → x ≡ None
keyless None h = refl
keyless (Some p) h = absurd (cc)

pub place-empty : (g : Guided) (places : List (Option Held)) (at : ℕ) → AreGuided g places
    → get_or g.keys at None ≡ None
    → get_or places at None ≡ None
place-empty g places at a none =
    keyless (get_or places at None) (sym (get_or-map key_in places at None)
    ∙ sym (ap (λ keys. get_or keys at None) a.keys) ∙ none)

pub keys-inside : (g : Guided) (places : List (Option Held)) (at : ℕ) → AreGuided g places → at < length g.keys
    → at < length places
keys-inside g places at a within = rw (ap length a.keys ∙ length-map places key_in) at within

-- a page that is loading is there
pub loading-some : (x : Option Held) → is_loading x ≡ true → IsSome x
loading-some None h = absurd (cc)
loading-some (Some p) h = refl

-- a test as a number
pub as-one : (test : Bool) → from_bool test ≡ one_if test
as-one true = refl
as-one false = refl

some-mapped : {X Y : Type 0} (f : X → Y) (x : Option X) → is_some (option_map f x) ≡ is_some x
some-mapped f None = refl
some-mapped f (Some y) = refl

-- where no memory is taken, that of one page at most is
pub keeps-takes : (old new : Pooled) → KeepsAll old new → TakesOne old new
keeps-takes old new k = record { pages = omega (arith, k.pages); runs = k.runs; reserved = k.reserved }

module _ {T : Type 0} (number : T → ℕ) where
  -- what a place is seen to hold
  pub seen-at : (items : List (Option (Page T))) (at : ℕ) (p : Page T) → get_or items at None ≡ Some p
      → get_or (all_seen number items) at None ≡ seen number (Some p)
  seen-at items at p here = get_or-map (seen number) items at None ∙ ap (seen number) here

  -- a page that is taken out of its place
  pub taken-there : (items : List (Option (Page T))) (at : ℕ) (x : Option (Page T)) (p : Page T)
      → IsSome (get_or (all_seen number items) at None) → x ≡ get_or items at x → x ≡ Some p
      → get_or items at None ≡ Some p
  taken-there items at x p some read is =
      let within : at < length (all_seen number items) = some-inside (all_seen number items) at some in
      let inside : at < length items = omega (arith, within, length-map items (seen number)) in
      get_or_default items at None x inside ∙ sym read ∙ is

  module _ (limit spare : ℕ) (items : List (Option (Page T))) (g : Guided) (pool : Pooled) (at : ℕ) where
    pub keeps-changed : (p : Page T) (tag : Option T) (state : State) (mark : Mark)
        → IsKept limit spare (all_seen number items) g pool
        → get_or items at None ≡ Some p → mark ≡ mark_of (is_some tag) state
        → state.loading ≡ is_loading (get_or (all_seen number items) at None)
        → IsKept limit spare (all_seen number (set items at (Some record p { tag = tag; state = state })))
        (marked g at p.key mark) pool
    keeps-changed p tag state mark k here is loading =
        let old : Held = record { key = p.key; bytes = p.bytes; tag = option_map number p.tag; state = p.state }
        in
        let new : Held = record { key = p.key; bytes = p.bytes; tag = option_map number tag; state = state } in
        let places = all_seen number items in
        let there : get_or places at None ≡ Some old = seen-at items at p here in
        let sound : IsSound old = rw there at (k.sound at) in
        let as_marked : mark ≡ mark_in (Some new) = is
        ∙ ap (λ dirty. mark_of dirty state) (sym (some-mapped number tag)) in
        let q : Page T = record p { tag = tag; state = state } in
        rw (map-set (seen number) items at (Some q), as_marked)
        (kept-changed limit spare spare places g pool pool at old new k there refl sound.bytes k.ready.pages k.ready.runs
        (ap (λ test. pool.reserved + one_if test) (sym (loading ∙ ap is_loading there))))

    pub keeps-bytes : (p : Page T) (bytes : List ℕ) (pool2 : Pooled) → IsKept limit spare (all_seen number items) g pool
        → get_or items at None ≡ Some p
        → length bytes ≡ 4096 → 0 < spare → TakesOne pool pool2
        → IsKept limit (spare - 1) (all_seen number (set items at (Some record p { bytes = bytes }))) g pool2
    keeps-bytes p bytes pool2 k here len room takes =
        let old : Held = record { key = p.key; bytes = p.bytes; tag = option_map number p.tag; state = p.state }
        in
        let places = all_seen number items in
        let there : get_or places at None ≡ Some old = seen-at items at p here in
        let q : Page T = record p { bytes = bytes } in
        rw (map-set (seen number) items at (Some q)) (kept-bytes limit spare (spare - 1) places g pool pool2 at old bytes
        k there len
        (omega (arith, k.ready.pages, takes.pages)) (omega (arith, k.ready.runs, takes.runs)) takes.reserved)

    -- memory is reserved for a page that is loading
    pub keeps-reserved : (p : Page T) → IsKept limit spare (all_seen number items) g pool
        → get_or items at None ≡ Some p → one_if p.state.loading ≤ pool.reserved
    keeps-reserved p k here =
        kept-reserved limit spare (all_seen number items) g pool at (seen number (Some p)) k (seen-at items at p here)
        refl

    pub keeps-loaded : (p : Page T) (bytes : List ℕ) (mark : Mark) (pool1 pool2 : Pooled)
        → IsKept limit spare (all_seen number items) g pool → get_or items at None ≡ Some p
        → length bytes ≡ 4096 → p.state.loading ≡ true
        → mark ≡ mark_of (is_some p.tag) (record p.state { loading = false })
        → pool1 ≡ record pool { pages = pool.pages + 1; reserved = pool.reserved - 1 } → TakesOne pool1 pool2
        → IsKept limit spare
        (all_seen number (set items at (Some record p { bytes = bytes; state = record p.state { loading = false } })))
        (marked g at p.key mark) pool2
    keeps-loaded p bytes mark pool1 pool2 k here len loading is released takes =
        let old : Held = record { key = p.key; bytes = p.bytes; tag = option_map number p.tag; state = p.state } in
        let new : Held = loaded bytes old in
        let places = all_seen number items in
        let there : get_or places at None ≡ Some old = seen-at items at p here in
        let as_marked : mark ≡ mark_in (Some new) = is
        ∙ ap (λ dirty. mark_of dirty (record p.state { loading = false })) (sym (some-mapped number p.tag)) in
        let q : Page T = record p { bytes = bytes; state = record p.state { loading = false } } in
        let some : 1 ≤ pool.reserved = rw loading at (keeps-reserved p k here) in
        let pages : pool1.pages ≡ pool.pages + 1 = ap (λ (v : Pooled). v.pages) released in
        let runs : pool1.runs ≡ pool.runs = ap (λ (v : Pooled). v.runs) released in
        let reserved : pool1.reserved ≡ pool.reserved - 1 = ap (λ (v : Pooled). v.reserved) released in
        rw (map-set (seen number) items at (Some q), as_marked)
        (kept-changed limit spare spare places g pool pool2 at old new k there refl len
        (omega (arith, k.ready.pages, takes.pages, pages)) (omega (arith, k.ready.runs, takes.runs, runs))
        (rw loading (omega (arith, takes.reserved, reserved, some))))

    pub keeps-entered : (key : PageKey) (bytes : List ℕ) (tag : Option T) (state : State) (mark : Mark) (g2 : Guided)
        (pool2 : Pooled) (n : ℕ)
        → IsKept limit spare (all_seen number items) g pool → at < length g.keys → get_or g.keys at None ≡ None
        → 0 < spare
        → count_by is_some (all_seen number items) < limit → length bytes ≡ 4096 → key.page < 1008
        → get_or (all_seen number items) (position_or_len (is_page (buf_of key)) (all_seen number items)) None ≡ None
        → mark ≡ mark_of (is_some tag) state → g2 ≡ marked (record g { keys = set g.keys at (Some key) }) at key mark
        → n ≡ one_if state.loading
        → pool2 ≡ record pool {
          pages = pool.pages - one_if state.loading;
          reserved = pool.reserved + one_if state.loading;
        }
        → IsKept limit (spare - n) (all_seen number (set items at
        (Some record { key = key; bytes = bytes; tag = tag; state = state }))) g2 pool2
    keeps-entered key bytes tag state mark g2 pool2 n k within empty some room len numbered none is guide n_is pool_is =
        let new : Held = record { key = key; bytes = bytes; tag = option_map number tag; state = state } in
        let places = all_seen number items in
        let as_marked : mark ≡ mark_in (Some new) = is
        ∙ ap (λ dirty. mark_of dirty state) (sym (some-mapped number tag)) in
        let q : Page T = record { key = key; bytes = bytes; tag = tag; state = state } in
        rw (map-set (seen number) items at (Some q), guide, n_is, pool_is, as_marked)
        (kept-entered limit spare places g pool at new k (keys-inside g places at k.guided within)
        (place-empty g places at k.guided empty) some room
        record { bytes = len; number = numbered } (key-absent key places (absent-page (buf_of key) places none)))

    pub keeps-left : (p : Page T) (mark : Mark) (g2 g3 : Guided) (pool2 pool3 : Pooled)
        → IsKept limit spare (all_seen number items) g pool
        → get_or items at None ≡ Some p → mark ≡ mark_in None → g2 ≡ marked g at p.key mark
        → g3 ≡ record g2 { keys = set g2.keys at None }
        → pool2 ≡ record pool {
          pages = pool.pages + one_if p.state.loading;
          reserved = pool.reserved - one_if p.state.loading;
        } → KeepsAll pool2 pool3
        → IsKept limit spare (all_seen number (set items at None)) g3 pool3
    keeps-left p mark g2 g3 pool2 pool3 k here is guide gone pool_is keeps =
        let old : Held = record { key = p.key; bytes = p.bytes; tag = option_map number p.tag; state = p.state }
        in
        let places = all_seen number items in
        let there : get_or places at None ≡ Some old = seen-at items at p here in
        let none : Option (Page T) = None in
        let left : IsKept limit spare (set places at None)
        (record (marked g at p.key (mark_in None)) { keys = set g.keys at None }) pool2 =
        rw pool_is (kept-left limit spare places g pool at old k there) in
        rw (map-set (seen number) items at none, gone, guide, is)
        (kept-pool limit spare spare (set places at None) _ pool2 pool3 left keeps.reserved
        (omega (arith, left.ready.pages, keeps.pages)) (omega (arith, left.ready.runs, keeps.runs)))

    -- ---- what is seen after a step

    view-set : (g2 : Guided) (x : Option (Page T)) (y : Option Held) → g2.touches ≡ g.touches → seen number x ≡ y
        → cached_of number limit spare (set items at x) g2
        ≡ record (cached_of number limit spare items g) { places = set (all_seen number items) at y }
    view-set g2 x y touches is =
        let seen_so : List (Option Held) → List ℕ → Cached = λ ps ts.
        record { places = ps; touches = ts; limit = limit; spare = spare } in
        ap (λ ps. seen_so ps g2.touches) (map-set (seen number) items at x ∙ ap (set (all_seen number items) at) is)
        ∙ ap (seen_so (set (all_seen number items) at y)) touches

    pub view-changed : (g2 : Guided) (p : Page T) (tag tag2 : Option T) (state : State) → get_or items at None ≡ Some p
        → tag2 ≡ tag
        → g2.touches ≡ g.touches
        → cached_of number limit spare (set items at (Some record p { tag = tag2; state = state })) g2
        ≡ record (cached_of number limit spare items g) {
          places = set (all_seen number items) at (changed (option_map number tag) state
              (get_or (all_seen number items) at None));
        }
    view-changed g2 p tag tag2 state here same_tag touches =
        let q : Page T = record p { tag = tag2; state = state } in
        let now : seen number (Some q) ≡ changed (option_map number tag) state (get_or (all_seen number items) at None)
        =
        rw (seen-at items at p here, same_tag) refl in
        view-set g2 (Some q) (changed (option_map number tag) state (get_or (all_seen number items) at None)) touches
        now

    pub view-stated : (g2 : Guided) (p : Page T) (state : State) → get_or items at None ≡ Some p
        → g2.touches ≡ g.touches
        → cached_of number limit spare (set items at (Some record p { state = state })) g2
        ≡ record (cached_of number limit spare items g) {
          places = set (all_seen number items) at (with_state state (get_or (all_seen number items) at None));
        }
    view-stated g2 p state here touches =
        let q : Page T = record p { state = state } in
        let now : seen number (Some q) ≡ with_state state (get_or (all_seen number items) at None) =
        rw (seen-at items at p here) refl in
        view-set g2 (Some q) (with_state state (get_or (all_seen number items) at None)) touches now

    pub view-bytes : (p : Page T) (bytes : List ℕ) (f : List ℕ → List ℕ) → get_or items at None ≡ Some p
        → bytes ≡ f p.bytes
        → cached_of number limit (spare - 1) (set items at (Some record p { bytes = bytes })) g
        ≡ record (cached_of number limit spare items g) {
          places = set (all_seen number items) at (with_bytes f (get_or (all_seen number items) at None));
          spare = spare - 1;
        }
    view-bytes p bytes f here is =
        let q : Page T = record p { bytes = bytes } in
        let now : seen number (Some q) ≡ with_bytes f (get_or (all_seen number items) at None) =
        rw (seen-at items at p here, is) refl in
        let seen_so : List (Option Held) → Cached = λ ps.
        record { places = ps; touches = g.touches; limit = limit; spare = spare - 1 } in
        ap seen_so (map-set (seen number) items at (Some q) ∙ ap (set (all_seen number items) at) now)

    pub view-loaded : (g2 : Guided) (p : Page T) (bytes : List ℕ) → get_or items at None ≡ Some p
        → g2.touches ≡ g.touches
        → cached_of number limit spare
        (set items at (Some record p { bytes = bytes; state = record p.state { loading = false } })) g2
        ≡ record (cached_of number limit spare items g) {
          places = set (all_seen number items) at (option_map (loaded bytes) (get_or (all_seen number items) at None));
        }
    view-loaded g2 p bytes here touches =
        let q : Page T = record p { bytes = bytes; state = record p.state { loading = false } } in
        let now : seen number (Some q) ≡ option_map (loaded bytes) (get_or (all_seen number items) at None) =
        rw (seen-at items at p here) refl in
        view-set g2 (Some q) (option_map (loaded bytes) (get_or (all_seen number items) at None)) touches now

    pub view-left : (g2 : Guided) → g2.touches ≡ g.touches
        → cached_of number limit spare (set items at None) g2
        ≡ record (cached_of number limit spare items g) { places = set (all_seen number items) at None }
    view-left g2 touches = let none : Option (Page T) = None in view-set g2 none None touches refl

    pub view-entered : (g2 : Guided) (key : PageKey) (bytes : List ℕ) (tag : Option T) (state : State) (n : ℕ)
        → AreGuided g (all_seen number items)
        → at < length g.keys → get_or g.keys at None ≡ None → bytes ≡ zeros → n ≡ one_if state.loading
        → g2.touches ≡ g.touches
        → Enters (cached_of number limit spare items g)
        (cached_of number limit (spare - n) (set items at
        (Some record { key = key; bytes = bytes; tag = tag; state = state })) g2)
        key (option_map number tag) state at
    view-entered g2 key bytes tag state n a within empty clear n_is touches =
        let places = all_seen number items in
        let q : Page T = record { key = key; bytes = bytes; tag = tag; state = state } in
        let r : List ℕ → Held = λ bs. record { key = key; bytes = bs; tag = option_map number tag; state = state } in
        let seen_so : List (Option Held) → List ℕ → ℕ → Cached = λ ps ts m.
        record { places = ps; touches = ts; limit = limit; spare = spare - m } in
        record {
          within = keys-inside g places at a within;
          empty = place-empty g places at a empty;
          is = ap (λ ps. seen_so ps g2.touches n) (map-set (seen number) items at (Some q))
              ∙ ap (λ bs. seen_so (set places at (Some (r bs))) g2.touches n) clear
              ∙ ap (λ ts. seen_so (set places at (Some (r zeros))) ts n) touches
              ∙ ap (seen_so (set places at (Some (r zeros))) g.touches) n_is;
        }
