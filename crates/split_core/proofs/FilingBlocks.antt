-- The blocks that are kept stand for the history still, after an event that maps nothing and drops nothing.
use Rattle.std.proofs.Common.{◌≡◌, ℕ, ◌+◌, ◌-◌, ◌==◌, ◌<◌, ◌≤◌, List, length, nat_le, Bool, true, false, not, ◌&&◌, ◌||◌, Some, is_none, refl, arith, sym, subst, inl, inr, ap, ◌∙◌, if◌then◌else◌}
use Rattle.std.specs.Bool.{OnTrue, OnFalse}
use Rattle.std.proofs.lemmas.Bool.{cases_Bool, and_parts, and_from, and_left, or_left, eqb-true, not-true, OnTrue_at, OnFalse_at, OnTrue_from}
use Rattle.std.proofs.lemmas.Bool.Decides.{nat_tests}
use Rattle.split_types.specs.declared.ids.Pid.{Pid}
use Rattle.split_types.specs.declared.ids.ReqId.{ReqId}
use Rattle.split_types.specs.declared.ids.Serial.{Serial}
use Rattle.split_types.specs.declared.ids.Slot.{Slot}
use Rattle.split_types.specs.declared.buf.Buf.{Buf}
use Rattle.split_types.specs.declared.buf.Buf.TheVariants.{Page}
use Rattle.split_types.specs.declared.actor.Actor.{Actor}
use Rattle.split_types.specs.declared.request.ReqKind.{ReqKind}
use Rattle.split_types.specs.declared.request.ReqKind.TheVariants.{Read, Pages, Log, Commit, Home, Clear}
use Rattle.split_types.specs.declared.workload.Workload.{Workload}
use Rattle.split_types.specs.declared.event.Event.{Event}
use Rattle.split_types.specs.declared.event.Event.TheVariants.{Make, Put, Drop, Map, Add, Done}
use Rattle.split_types.specs.History.{◌▹◌}
use Rattle.split_types.specs.Hooks.{same_buf, covers}
use Rattle.split_types.specs.Files.{is_live}
use Rattle.split_types.specs.Pages.{is_put_since, is_dirty, is_busy}
use Rattle.split_types.specs.HeldPages.{known_pages}
use Rattle.split_types.specs.FileMaps.{mapped_block, is_in_map, free_blocks, has_no_block, is_reserved, reserved_pages}
use Rattle.split_types.specs.FilesInOrder.{all_files}
use Rattle.split_types.specs.Accepted.{IsAccepted}
use Rattle.split_types.specs.Legal.{IsLegal}
use Rattle.split_types.proofs.Shared.{same_buf-self, pages_are_known, StandsIn, lengths_joined}
use Rattle.split_types.proofs.MapState.{MapsOf}
use Rattle.split_types.proofs.MapLaws.{maps_of}
use Rattle.delayed_alloc.specs.Blocks.{Blocks, free_count}
use Rattle.split_core.specs.Fits.{AddsKind, Fits}
use Rattle.split_core.specs.Filing.{BlocksAre}
use Rattle.split_core.proofs.FilingBlocksUsed.{reserved_known, reserved_same, carried, passed}
use Rattle.split_core.proofs.FilingBlocksFree.{free_counted}

-- ---- requests
-- each page that is written out has a block
covered : (w : Workload) (h : List Event) (by : Actor) (id : ReqId) (kind : ReqKind) (first n : ℕ) (s : Serial) (g : ℕ)
    → AddsKind w h by kind n first
    → covers (record { id = id; kind = kind; first = first; n = n }) (Page s g) ≡ true
    → is_none (mapped_block w h s.0 g) ≡ false
covered w h by id (Pages t k) first n s g fits is =
    let within : (t.0 ≡ s.0) × (k ≤ g) × (g < k + n) = grind (arith, nat_tests)
    in let at : mapped_block w h t.0 (k + (g - k)) ≡ Some (first + (g - k)) =
    fits.1.blocks.place (g - k) (omega (arith, within.1, within.2))
    in let page : k + (g - k) ≡ g = omega (arith, within.1)
    in ap is_none (subst (λ u. mapped_block w h u g ≡ Some (first + (g - k))) within.0
    (subst (λ j. mapped_block w h t.0 j ≡ Some (first + (g - k))) page at))
covered w h by id (Read p t k) first n s g fits is = absurd (cc)
covered w h by id (Log t) first n s g fits is = absurd (cc)
covered w h by id (Commit t) first n s g fits is = absurd (cc)
covered w h by id (Home t) first n s g fits is = absurd (cc)
covered w h by id (Clear t) first n s g fits is = absurd (cc)

add_bits : (live out put none : Bool) → (out ≡ true → none ≡ false)
    → ((live && (not out && put)) && none) ≡ ((live && put) && none)
add_bits false out put none has = refl
add_bits true false put none has = refl
add_bits true true false none has = refl
add_bits true true true none has = sym (has refl)

-- ---- an event of another kind
pub blocks_quiet : (w : Workload) (h : List Event) (e : Event) (a : Blocks) → IsAccepted w → IsLegal w (h ▹ e)
    → Fits w h e
    → ((by : Pid) (slot : Slot) (serial : Serial) → e ≡ Make by slot serial → ⊥)
    → ((by : Pid) (s : Serial) (g from to fill : ℕ) → e ≡ Put by s g from to fill → ⊥)
    → ((by : Pid) (slot : Slot) (serial : Serial) → e ≡ Drop by slot serial → ⊥)
    → ((slot : Slot) (s : Serial) (g n block : ℕ) (new : Bool) (size : ℕ) → e ≡ Map slot s g n block new size → ⊥)
    → ((k : ℕ) (id : ReqId) (ok : Bool) → e ≡ Done k id ok → ⊥)
    → BlocksAre w a h → BlocksAre w a (h ▹ e)
blocks_quiet w h (Make by slot t) a accepted legal fits make put drop map done stands = absurd (make _ _ _ refl)
blocks_quiet w h (Put by t k from to fill) a accepted legal fits make put drop map done stands =
    absurd (put _ _ _ _ _ _ refl)
blocks_quiet w h (Drop by slot t) a accepted legal fits make put drop map done stands = absurd (drop _ _ _ refl)
blocks_quiet w h (Map slot t k n block new size) a accepted legal fits make put drop map done stands =
    absurd (map _ _ _ _ _ _ _ refl)
blocks_quiet w h (Done k id ok) a accepted legal fits make put drop map done stands = absurd (done _ _ _ refl)
blocks_quiet w h (Add by r) a accepted legal fits make put drop map done stands =
    passed w h (Add by r) a accepted legal (λ s x. refl) (λ s. refl)
    (record { dropped = λ s. refl; takers = λ s. refl; committed = λ t. refl })
    (λ s g. add_bits (is_live w h s.0) (covers r (Page s g)) (is_put_since h (Page s g))
    (is_none (mapped_block w h s.0 g))
    (λ out. covered w h by r.id r.kind r.first r.n s g fits.kind.kind out)) stands
blocks_quiet w h e a accepted legal fits make put drop map done stands =
    passed w h e a accepted legal (λ s x. refl) (λ s. refl)
    (record { dropped = λ s. refl; takers = λ s. refl; committed = λ t. refl }) (λ s g. refl) stands

-- ---- a make
make_bits : (new live put none : Bool) → (put ≡ true → new ≡ false)
    → (((new || live) && put) && none) ≡ ((live && put) && none)
make_bits false live put none old = refl
make_bits true true put none old = refl
make_bits true false false none old = refl
make_bits true false true none old = absurd (let both : true ≡ false = old refl in cc)

pub blocks_make : (w : Workload) (h : List Event) (by : Pid) (slot : Slot) (serial : Serial) (a : Blocks)
    → IsAccepted w → IsLegal w (h ▹ Make by slot serial) → Fits w h (Make by slot serial) → BlocksAre w a h
    → BlocksAre w a (h ▹ Make by slot serial)
blocks_make w h by slot serial a accepted legal fits stands =
    carried w h (Make by slot serial) a a accepted legal refl (λ s x. refl) lives
    (record { dropped = λ s. refl; takers = λ s. refl; committed = λ t. refl })
    (stands.reserved ∙ sym (reserved_same w h (Make by slot serial)
    (λ s g. make_bits (serial.0 == s.0) (is_live w h s.0) (is_put_since h (Page s g))
    (is_none (mapped_block w h s.0 g)) (old_page s g)))) stands
  where
    f : MapsOf w h
    f = maps_of w h accepted legal.1

    number : serial.0 ≡ all_files w h
    number = ap (λ t. t.0) fits.kind.serial_is

    -- the new file has no map
    new_file : (s : ℕ) → s < all_files w h → (serial.0 == s) ≡ true → ⊥
    new_file s below new =
        let same : serial.0 ≡ s = eqb-true serial.0 s new in omega (arith, same, below, number)

    lives : (s x : ℕ) → is_in_map w h s x ≡ true → (serial.0 == s || is_live w h s) ≡ is_live w h s
    lives s x within = elim (cases_Bool (serial.0 == s)) [
      | inl new ↦
          (let at = f.blocks.of_map s x within
          in absurd (new_file s (f.numbered s (f.kept s at.0 x at.1)) new))
      | inr old ↦ ap (λ b. b || is_live w h s) old
    ]

    old_page : (s : Serial) (g : ℕ) → is_put_since h (Page s g) ≡ true → (serial.0 == s.0) ≡ false
    old_page s g put = elim (cases_Bool (serial.0 == s.0)) [
      | inl new ↦ absurd (new_file s.0 (f.put s g put).0 new)
      | inr old ↦ old
    ]

-- ---- a put
joined_bits : (live same put none : Bool) → (same ≡ true → live ≡ true) → (same ≡ true → none ≡ true)
    → ((live && (same || put)) && none) ≡ (same || ((live && put) && none))
joined_bits live false put none there free = refl
joined_bits live true put none there free = rw (there refl, free refl) refl

kept_bits : (live same put none : Bool) → (same ≡ true → none ≡ false)
    → ((live && (same || put)) && none) ≡ ((live && put) && none)
kept_bits live false put none has = refl
kept_bits false true put none has = refl
kept_bits true true true none has = refl
kept_bits true true false none has = has refl

-- a page that is the one that is put
same_here : (w : Workload) (h : List Event) (t s : Serial) (k g : ℕ) (b : Bool)
    → same_buf (Page t k) (Page s g) ≡ true → is_none (mapped_block w h s.0 g) ≡ b
    → is_none (mapped_block w h t.0 k) ≡ b
same_here w h t s k g b same is =
    let at : (t.0 ≡ s.0) × (k ≡ g) = grind (arith, nat_tests)
    in subst (λ u. is_none (mapped_block w h u k) ≡ b) (sym at.0)
    (subst (λ j. is_none (mapped_block w h s.0 j) ≡ b) (sym at.1) is)

-- a page that has no block gets a promise, unless it has one
put_more : (w : Workload) (h : List Event) (by : Pid) (s : Serial) (g from to fill : ℕ) → is_live w h s.0 ≡ true
    → is_none (mapped_block w h s.0 g) ≡ true
    → length (reserved_pages w (h ▹ Put by s g from to fill))
    ≡ (if is_reserved w h (Page s g) then length (reserved_pages w h) else length (reserved_pages w h) + 1)
put_more w h by s g from to fill live none =
    lengths_joined (is_reserved w h) (is_reserved w (h ▹ Put by s g from to fill)) h (Put by s g from to fill) (Page s g) (reserved_known w h)
    agree known
  where
    live_at : (t : Serial) (k : ℕ) → same_buf (Page t k) (Page s g) ≡ true → is_live w h t.0 ≡ true
    live_at t k same =
        let at : (t.0 ≡ s.0) × (k ≡ g) = grind (arith, nat_tests)
        in subst (λ u. is_live w h u ≡ true) (sym at.0) live

    agree : (b : Buf) → is_reserved w (h ▹ Put by s g from to fill) b ≡ (same_buf b (Page s g) || is_reserved w h b)
    agree (Page t k) =
        joined_bits (is_live w h t.0) (same_buf (Page t k) (Page s g)) (is_put_since h (Page t k))
        (is_none (mapped_block w h t.0 k)) (live_at t k) (λ same. same_here w h t s k g true same none)
    agree b = refl

    dirty : is_dirty w (h ▹ Put by s g from to fill) (Page s g) ≡ true
    dirty =
        and_from (is_live w h s.0) (same_buf (Page s g) (Page s g) || is_put_since h (Page s g)) live
        (or_left (same_buf (Page s g) (Page s g)) (is_put_since h (Page s g)) (same_buf-self (Page s g)))

    known : StandsIn (Page s g) (known_pages (h ▹ Put by s g from to fill))
    known =
        pages_are_known.unsettled w (h ▹ Put by s g from to fill) (Page s g)
        (or_left (is_dirty w (h ▹ Put by s g from to fill) (Page s g))
        (is_busy w (h ▹ Put by s g from to fill) (Page s g)) dirty)

-- a page that has a block gets none
put_kept : (w : Workload) (h : List Event) (by : Pid) (s : Serial) (g from to fill : ℕ)
    → is_none (mapped_block w h s.0 g) ≡ false
    → length (reserved_pages w (h ▹ Put by s g from to fill)) ≡ length (reserved_pages w h)
put_kept w h by s g from to fill at =
    reserved_same w h (Put by s g from to fill)
    (λ t k. kept_bits (is_live w h t.0) (same_buf (Page t k) (Page s g)) (is_put_since h (Page t k))
    (is_none (mapped_block w h t.0 k)) (λ same. same_here w h t s k g false same at))

-- how many promises there are
put_counts : (w : Workload) (h : List Event) (by : Pid) (s : Serial) (g from to fill : ℕ) (dirty none : Bool)
    → is_live w h s.0 ≡ true → is_dirty w h (Page s g) ≡ dirty → is_none (mapped_block w h s.0 g) ≡ none
    → length (reserved_pages w (h ▹ Put by s g from to fill))
    ≡ (if not dirty && none then length (reserved_pages w h) + 1 else length (reserved_pages w h))
put_counts w h by s g from to fill true true live is at =
    put_more w h by s g from to fill live at
    ∙ ap (λ b. if b then length (reserved_pages w h) else length (reserved_pages w h) + 1)
    (and_from (is_dirty w h (Page s g)) (has_no_block w h (Page s g)) is at)
put_counts w h by s g from to fill false true live is at =
    put_more w h by s g from to fill live at
    ∙ ap (λ b. if b then length (reserved_pages w h) else length (reserved_pages w h) + 1)
    (and_left (is_dirty w h (Page s g)) (has_no_block w h (Page s g)) is)
put_counts w h by s g from to fill true false live is at = put_kept w h by s g from to fill at
put_counts w h by s g from to fill false false live is at = put_kept w h by s g from to fill at

-- where all of that is known of a put
put_promised : (w : Workload) (h : List Event) (by : Pid) (s : Serial) (g from to fill : ℕ) (old new : Blocks)
    → IsAccepted w → IsLegal w (h ▹ Put by s g from to fill) → new.states ≡ old.states
    → new.reserved ≡ length (reserved_pages w (h ▹ Put by s g from to fill)) → BlocksAre w old h
    → BlocksAre w new (h ▹ Put by s g from to fill)
put_promised w h by s g from to fill old new accepted legal states reserved stands =
    carried w h (Put by s g from to fill) old new accepted legal states (λ t x. refl) (λ t x within. refl)
    (record { dropped = λ u. refl; takers = λ u. refl; committed = λ u. refl }) reserved stands

-- a put, where a free block is promised to its page, if it becomes dirty and has none
pub blocks_put : (w : Workload) (h : List Event) (by : Pid) (s : Serial) (g from to fill : ℕ) (promise : Bool)
    (old new : Blocks)
    → IsAccepted w → IsLegal w (h ▹ Put by s g from to fill) → Fits w h (Put by s g from to fill)
    → promise ≡ (not (is_dirty w h (Page s g)) && is_none (mapped_block w h s.0 g)) → BlocksAre w old h
    → OnTrue promise (new ≡ record old { reserved = old.reserved + 1 }) → OnFalse promise (new ≡ old)
    → BlocksAre w new (h ▹ Put by s g from to fill)
blocks_put w h by s g from to fill promise old new accepted legal fits is stands more same =
    elim (cases_Bool promise) [
      | inl due ↦
          (let is_new = OnTrue_at due more
          in put_promised w h by s g from to fill old new accepted legal (ap (λ b. b.states) is_new)
          (ap (λ b. b.reserved) is_new ∙ ap (λ n. n + 1) stands.reserved ∙ sym (counts true (sym due ∙ is))) stands)
      | inr undue ↦
          (let is_old = OnFalse_at undue same
          in put_promised w h by s g from to fill old new accepted legal (ap (λ b. b.states) is_old)
          (ap (λ b. b.reserved) is_old ∙ stands.reserved ∙ sym (counts false (sym undue ∙ is))) stands)
    ]
  where
    counts : (b : Bool) → b ≡ (not (is_dirty w h (Page s g)) && is_none (mapped_block w h s.0 g))
        → length (reserved_pages w (h ▹ Put by s g from to fill))
        ≡ (if b then length (reserved_pages w h) + 1 else length (reserved_pages w h))
    counts b which =
        put_counts w h by s g from to fill (is_dirty w h (Page s g)) (is_none (mapped_block w h s.0 g))
        fits.kind.page.live refl refl
        ∙ ap (λ c. if c then length (reserved_pages w h) + 1 else length (reserved_pages w h)) (sym which)

-- where it isn't refused for want of space, there is a free block more than are promised
room : (none reserved : Bool) (free promised : ℕ) → none ≡ true → reserved ≡ false
    → (none && not reserved && nat_le free promised) ≡ false → promised < free
room true false free promised is out space = grind (arith, nat_tests)
room false reserved free promised is out space = absurd (cc)
room true true free promised is out space = absurd (cc)

-- such a promise can be made
pub put_promises : (w : Workload) (h : List Event) (by : Pid) (s : Serial) (g from to fill : ℕ) (promise : Bool)
    (a : Blocks)
    → IsAccepted w → IsLegal w (h ▹ Put by s g from to fill) → Fits w h (Put by s g from to fill)
    → promise ≡ (not (is_dirty w h (Page s g)) && is_none (mapped_block w h s.0 g)) → BlocksAre w a h
    → OnTrue promise (a.reserved < free_count a)
put_promises w h by s g from to fill promise a accepted legal fits is stands =
    OnTrue_from promise (a.reserved < free_count a) (λ due. less (sym is ∙ due))
  where
    less : (not (is_dirty w h (Page s g)) && is_none (mapped_block w h s.0 g)) ≡ true → a.reserved < free_count a
    less due =
        let both = and_parts (not (is_dirty w h (Page s g))) (is_none (mapped_block w h s.0 g)) due
        in let more =
        room (has_no_block w h (Page s g)) (is_reserved w h (Page s g)) (length (free_blocks w h))
        (length (reserved_pages w h)) both.1
        (and_left (is_dirty w h (Page s g)) (has_no_block w h (Page s g)) (not-true (is_dirty w h (Page s g)) both.0))
        fits.kind.space
        in omega (arith, more, stands.reserved, free_counted w h a stands)
