-- What writeback serves next is read from the cache and the files.
use Rattle.std.proofs.Common.{◌≡◌, ℕ, zero, suc, ◌+◌, ◌<◌, ◌≤◌, ◌==◌, List, [], ◌∷◌, length, filter, slice_get, Bool, true}
use Rattle.std.proofs.Common.{false, not, ◌&&◌, ◌||◌, Option, Some, None, is_some, refl, ap, sym, ◌∙◌, subst, arith, inl, inr}
use Rattle.std.proofs.Common.{cond, if◌then◌else◌}
use Rattle.std.specs.Prelude.{take_while, nat_lt, nat_le, IsSome}
use Rattle.std.specs.List.{prefix_len, range_with_len}
use Rattle.std.proofs.lemmas.Bool.{and_parts, or_left, false_from_ne_true, cond-true}
use Rattle.std.proofs.lemmas.Bool.Decides.{nat_tests}
use Rattle.std.proofs.lemmas.List.Folds.{length-prefix_len}
use Rattle.std.proofs.lemmas.Option.{same_Some}
use Rattle.split_types.specs.declared.ids.Serial.{Serial}
use Rattle.split_types.specs.declared.buf.Buf.{Buf}
use Rattle.split_types.specs.declared.buf.Buf.TheVariants.{Page, Bitmap, Dir, Inode}
use Rattle.split_types.specs.declared.request.Run.{Run}
use Rattle.split_types.specs.declared.workload.Workload.{Workload}
use Rattle.split_types.specs.declared.event.Event.{Event}
use Rattle.split_types.specs.declared.event.Event.TheVariants.{Serve}
use Rattle.split_types.specs.Hooks.{same_buf}
use Rattle.split_types.specs.Pages.{is_dirty, is_busy, is_ready}
use Rattle.split_types.specs.HeldPages.{known_pages}
use Rattle.split_types.specs.FileMaps.{mapped_block}
use Rattle.split_types.specs.ServedRuns as served
use Rattle.split_types.specs.ServedRuns.{is_up_to, lesser_page, least_page, first_ready, run_from, run_to_serve}
use Rattle.split_types.specs.Serving.{next_serve}
use Rattle.split_types.specs.Accepted.{IsAccepted}
use Rattle.split_types.specs.Legal.{IsLegal}
use Rattle.split_types.proofs.Shared.{same_buf-is, find_some, filter_there, in_filter, pages_are_known, ready_parts, maps_known, least_there}
use Rattle.cause_set.specs.Tags.{Tags}
use Rattle.tag_table.specs.Tags.{tags_of}
use Rattle.small_fs.specs.Files.{Files}
use Rattle.page_cache.specs.Held.{Held}
use Rattle.page_cache.specs.Cached as cached
use Rattle.page_cache.specs.Cached.{Cached}
use Rattle.page_cache.specs.Changes.{IsReady, IsUpTo, IsFirstReady}
use Rattle.writeback.specs.ServedRun.{CanServe, IsServedRun, IsNextRun, block_of, goes_on}
use Rattle.split_core.specs.Pages.{CacheStands}
use Rattle.split_core.specs.Filing.{FilesAre}
use Rattle.split_core.specs.StandsFor.{StandsFor}
use Rattle.split_core.specs.declared.plan.Plan.{Plan}
use Rattle.split_core.specs.declared.parts.Parts.{Parts}
use Rattle.split_core.proofs.FilesRead.{some_slot, block_seen}

-- ---- how long a run is
prefix_is : (p : ℕ → Bool) (m from n : ℕ) → n ≤ m → ((k : ℕ) → k < n → p (from + k) ≡ true)
    → (n < m → p (from + n) ≡ false) → prefix_len p (range_with_len from m) ≡ n
prefix_is p zero from n most pass end = omega (arith, most)
prefix_is p (suc m) from zero most pass end =
    let same : from + 0 ≡ from = omega arith in
    ap (λ b. cond b (1 + prefix_len p (range_with_len (from + 1) m)) 0)
    (subst (λ j. p j ≡ false) same (end (omega arith)))
prefix_is p (suc m) from (suc n) most pass end =
    let same : from + 0 ≡ from = omega arith in
    let rest : prefix_len p (range_with_len (from + 1) m) ≡ n =
    prefix_is p m (from + 1) n (omega arith)
    (λ k below. subst (λ j. p j ≡ true) (omega arith) (pass (k + 1) (omega (arith, below))))
    (λ below. subst (λ j. p j ≡ false) (omega arith) (end (omega (arith, below)))) in
    let first : prefix_len p (range_with_len from (suc m)) ≡ 1 + prefix_len p (range_with_len (from + 1) m) =
    ap (λ b. cond b (1 + prefix_len p (range_with_len (from + 1) m)) 0)
    (subst (λ j. p j ≡ true) same (pass 0 (omega arith))) in
    omega (arith, first, rest)

length_is : (p : ℕ → Bool) (m n : ℕ) → n ≤ m → ((k : ℕ) → k < n → p k ≡ true)
    → (n < m → p n ≡ false) → length (take_while p (range_with_len 0 m)) ≡ n
length_is p m n most pass end =
    length-prefix_len p (range_with_len 0 m)
    ∙ prefix_is p m 0 n most (λ k below. subst (λ j. p j ≡ true) (omega arith) (pass k below))
    (λ below. subst (λ j. p j ≡ false) (omega arith) (end below))

-- ---- the first of some pages
numbers : (s t g k : ℕ) → (nat_lt s t || (s == t && nat_le g k)) ≡ true → (nat_lt t s || (t == s && nat_le k g)) ≡ true
    → (s ≡ t) × (g ≡ k)
numbers s t g k up down = (grind (arith, nat_tests), grind (arith, nat_tests))

same_page : (s : Serial) (g : ℕ) (b : Buf) → is_up_to (Page s g) b ≡ true → is_up_to b (Page s g) ≡ true
    → b ≡ Page s g
same_page s g (Page t k) up down =
    let same = numbers s.0 t.0 g k up down in
    ap (λ n. Page (record { 0 = n }) k) (sym same.0) ∙ ap (Page s) (sym same.1)
same_page s g Bitmap up down = absurd (cc)
same_page s g (Dir k) up down = absurd (cc)
same_page s g (Inode k) up down = absurd (cc)

least_is : (bufs : List Buf) (s : Serial) (g i : ℕ) → slice_get bufs i ≡ Some (Page s g)
    → ((j : ℕ) (b : Buf) → slice_get bufs j ≡ Some b → is_up_to (Page s g) b ≡ true)
    → least_page bufs ≡ Some (Page s g)
least_is [] s g i at all = absurd (cc)
least_is (b ∷ bufs) s g zero at all = by_rest (least_page bufs) refl
  where
    same : b ≡ Page s g
    same = same_Some b (Page s g) at

    by_rest : (o : Option Buf) → least_page bufs ≡ o → lesser_page b o ≡ Some (Page s g)
    by_rest None rest = ap Some same
    by_rest (Some d) rest =
        let there = least_there bufs d rest in
        cond-true (is_up_to b d) (Some b) (Some d)
        (subst (λ x. is_up_to x d ≡ true) (sym same) (all (suc there.0) d there.1))
        ∙ ap Some same
least_is (b ∷ bufs) s g (suc i) at all =
    ap (lesser_page b) (least_is bufs s g i at (λ j d there. all (suc j) d there)) ∙ by_test (is_up_to b (Page s g)) refl
  where
    by_test : (t : Bool) → is_up_to b (Page s g) ≡ t → (if t then Some b else Some (Page s g)) ≡ Some (Page s g)
    by_test true is = ap Some (same_page s g b (all 0 b refl) is)
    by_test false is = refl

-- where none passes there is no first
least_none : (p : Buf → Bool) (bufs : List Buf) → ((b : Buf) → p b ≡ false) → least_page (filter p bufs) ≡ None
least_none p [] none = refl
least_none p (b ∷ bufs) none = rw (none b) (least_none p bufs none)

-- ---- pages that are ready
-- a page is ready in the cache where it is dirty there and not busy
ready_in : (x : Option Held) → cached.is_ready x ≡ (is_some (cached.tag_in x) && not (cached.is_busy x))
ready_in None = refl
ready_in (Some p) = refl

-- so it is ready there where it is ready
page_ready : (w : Workload) (c : Cached) (tags : Tags) (h : List Event) (s : Serial) (g : ℕ) → CacheStands w c tags h
    → cached.is_ready (cached.page_of c (Page s g)) ≡ is_ready w h (Page s g)
page_ready w c tags h s g stands =
    let x = cached.page_of c (Page s g) in
    ready_in x ∙ ap (λ b. b && not (cached.is_busy x)) (stands.dirty_are s g)
    ∙ ap (λ b. is_dirty w h (Page s g) && not b) (stands.busy_are s g)

-- the cache and the files stand for a history
pub record Mirror (w : Workload) (h : List Event) (c : Cached) (tags : Tags) (fs : Files) : Type 0 where
  pub accepted : IsAccepted w
  pub legal : IsLegal w h
  pub cache : CacheStands w c tags h
  pub files : FilesAre w fs h

module _ (w : Workload) (h : List Event) (c : Cached) (tags : Tags) (fs : Files) (m : Mirror w h c tags fs) where
  here : (s : Serial) (g : ℕ) → IsReady c (Page s g) → is_ready w h (Page s g) ≡ true
  here s g ready = sym (page_ready w c tags h s g m.cache) ∙ ready

  -- the number of a page that is ready
  small : (s : Serial) (g : ℕ) → is_ready w h (Page s g) ≡ true → g < 1008
  small s g ready = ((maps_known.maps w h m.accepted m.legal).put s g (ready_parts w h s g ready).put).1

  -- its file is there
  pub can_serve : CanServe c fs
  can_serve = record {
    numbers = λ s g ready. small s g (here s g ready);
    files = λ s g ready. subst IsSome
        (sym (some_slot w h fs s m.accepted m.legal m.files (ready_parts w h s g (here s g ready)).live)) refl;
  }

  -- its block
  block_is : (s : Serial) (g : ℕ) → is_ready w h (Page s g) ≡ true → block_of fs s g ≡ mapped_block w h s.0 g
  block_is s g ready =
      block_seen w h fs s g m.accepted m.legal m.files (ready_parts w h s g ready).live (small s g ready)

  -- a page goes on with a run
  goes_is : (s : Serial) (g k : ℕ) → is_ready w h (Page s g) ≡ true
      → goes_on c fs s g k ≡ served.goes_on w h s g k
  goes_is s g k first =
      ap (λ b. b && served.are_apart k (block_of fs s g) (block_of fs s (g + k)))
      (page_ready w c tags h s (g + k) m.cache)
      ∙ by_ready (is_ready w h (Page s (g + k))) refl
    where
      by_ready : (b : Bool) → is_ready w h (Page s (g + k)) ≡ b
          → (b && served.are_apart k (block_of fs s g) (block_of fs s (g + k)))
          ≡ (b && served.are_apart k (mapped_block w h s.0 g) (mapped_block w h s.0 (g + k)))
      by_ready true is =
          ap (λ (o : Option ℕ). served.are_apart k o (block_of fs s (g + k))) (block_is s g first)
          ∙ ap (λ (o : Option ℕ). served.are_apart k (mapped_block w h s.0 g) o) (block_is s (g + k) is)
      by_ready false is = refl

  -- ---- the first page that is ready
  -- only pages are
  none_ready : ((b : Buf) → IsReady c b → ⊥) → (b : Buf) → is_ready w h b ≡ false
  none_ready none (Page s g) =
      false_from_ne_true (is_ready w h (Page s g)) (λ is. none (Page s g) (page_ready w c tags h s g m.cache ∙ is))
  none_ready none Bitmap = refl
  none_ready none (Dir k) = refl
  none_ready none (Inode s) = refl

  up_to : (s t : Serial) (g k : ℕ) → IsUpTo (Page s g) (Page t k) → is_up_to (Page s g) (Page t k) ≡ true
  up_to s t g k (inl lower) = grind (arith, nat_tests)
  up_to s t g k (inr same) = let file = same.0 in let page = same.1 in grind (arith, nat_tests)

  all_behind : (s : Serial) (g : ℕ) → IsFirstReady c (Page s g) → (b : Buf) → is_ready w h b ≡ true
      → is_up_to (Page s g) b ≡ true
  all_behind s g first (Page t k) ready =
      up_to s t g k (first.first (Page t k) (page_ready w c tags h t k m.cache ∙ ready))
  all_behind s g first Bitmap ready = absurd (cc)
  all_behind s g first (Dir k) ready = absurd (cc)
  all_behind s g first (Inode t) ready = absurd (cc)

  first_is : (s : Serial) (g : ℕ) → IsFirstReady c (Page s g) → first_ready w h ≡ Some (Page s g)
  first_is s g first =
      let ready = here s g first.ready in
      let known = find_some (same_buf (Page s g)) (known_pages h)
      (pages_are_known.unsettled w h (Page s g) (or_left (is_dirty w h (Page s g)) (is_busy w h (Page s g))
      (and_parts (is_dirty w h (Page s g)) (not (is_busy w h (Page s g))) ready).0)) in
      let same : known.element ≡ Page s g = sym (same_buf-is (Page s g) known.element known.passes) in
      let at = in_filter (is_ready w h) (known_pages h) known.place (Page s g) (known.there ∙ ap Some same) ready in
      least_is (filter (is_ready w h) (known_pages h)) s g at.0 at.1
      (λ j b there. all_behind s g first b (filter_there (is_ready w h) (known_pages h) j b there).2)

  -- ---- the run
  run_is : (run : Run) → IsServedRun c fs run → run_from w h (Page run.serial run.page) ≡ Some run
  run_is run is =
      let first = here run.serial run.page is.first.ready in
      ap (λ n. let r : Run = record { serial = run.serial; page = run.page; n = n } in Some r)
      (length_is (served.goes_on w h run.serial run.page) 16 run.n is.most
      (λ k below. sym (goes_is run.serial run.page k first) ∙ is.goes k below)
      (λ below. sym (goes_is run.serial run.page run.n first) ∙ is.stops below))

  pub serves : (o : Option Run) → IsNextRun c fs o → run_to_serve w h ≡ o
  serves None none =
      ap (λ o. elim o [ None ↦ None | Some b ↦ run_from w h b ])
      (least_none (is_ready w h) (known_pages h) (none_ready none))
  serves (Some run) is =
      ap (λ o. elim o [ None ↦ None | Some b ↦ run_from w h b ]) (first_is run.serial run.page is.first)
      ∙ run_is run is

-- ---- from the parts
mirror : (w : Workload) (plan : Plan) (p : Parts) (h : List Event) → StandsFor w plan p h
    → Mirror w h p.pages.cache (tags_of p.tags) p.filing.fs
mirror w plan p h stands = record {
  accepted = stands.accepted;
  legal = stands.legal;
  cache = stands.parts.pages;
  files = stands.parts.filing.files;
}

pub may_serve : (w : Workload) (plan : Plan) (p : Parts) (h : List Event) → StandsFor w plan p h
    → CanServe p.pages.cache p.filing.fs
may_serve w plan p h stands =
    can_serve w h p.pages.cache (tags_of p.tags) p.filing.fs (mirror w plan p h stands)

abbrev pub serve_of : Option Run → Option Event
serve_of o = elim o [ None ↦ None | Some run ↦ Some (Serve run.serial run.page run.n) ]

pub serve_is : (w : Workload) (plan : Plan) (p : Parts) (h : List Event) (o : Option Run) → StandsFor w plan p h
    → IsNextRun p.pages.cache p.filing.fs o → serve_of o ≡ next_serve w h
serve_is w plan p h o stands is =
    ap serve_of (sym (serves w h p.pages.cache (tags_of p.tags) p.filing.fs (mirror w plan p h stands) o is))
