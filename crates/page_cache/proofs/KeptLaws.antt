-- What always holds of a cache, after each step.
use Rattle.std.proofs.Common.{◌≡◌, ◌≢◌, ℕ, ◌+◌, ◌-◌, ◌^◌, ◌<◌, ◌≤◌, List, map, length, get_or, set, Option, Some, None, IsSome, IfSome, is_some, arith, refl, ap, sym, ◌∙◌, inl, inr, length-set, get_or-set_same, get_or-set_other}
use Rattle.std.specs.Prelude.{count_by}
use Rattle.std.proofs.lemmas.Bool.{cases_eq}
use Rattle.std.proofs.lemmas.List.{map-set, length-replicate}
use Rattle.std.proofs.Math.Seq.{map-set_same}
use Rattle.page_cache.specs.declared.key.PageKey.{PageKey}
use Rattle.page_cache.specs.Guide.{Guided, IsUnused, marked, key_if}
use Rattle.page_cache.specs.Pool.{Pooled}
use Rattle.page_cache.specs.Held.{Held, key_in, mark_in}
use Rattle.page_cache.specs.Cached.{is_idle, is_ready, is_unsettled, is_loading, pin_in}
use Rattle.page_cache.specs.Changes.{one_if}
use Rattle.page_cache.specs.Kept.{ready_in, AreGuided, IsSound, AreDistinct, IsKept}
use Rattle.page_cache.proofs.ListLaws.{map-replicate, empty_places, empty-place, count-replicate}
use Rattle.page_cache.proofs.SlotLaws.{count-set, some-inside}

-- ---- a new cache

pub kept-new : (limit count : ℕ) (g : Guided) (pool : Pooled) → limit ≤ count → 0 < count → count ≤ 2 ^ 32
    → limit < 2 ^ 32
    → IsUnused count g → pool ≡ record { pages = 0; runs = 0; reserved = 0 }
    → IsKept limit 0 (empty_places Held count) g pool
kept-new limit count g pool within some few small unused is =
    let none : Option Held = None in
    let len : length (empty_places Held count) ≡ count = length-replicate count none in
    let no_pages : count_by is_some (empty_places Held count) ≡ 0 = count-replicate is_some count none refl in
    let none_loads : count_by is_loading (empty_places Held count) ≡ 0 = count-replicate is_loading count none refl in
    record {
      some = rw len some;
      few = rw len few;
      small = small;
      guided = record {
        keys = unused.keys ∙ sym (map-replicate key_in count none);
        idle = unused.idle ∙ sym (map-replicate is_idle count none);
        ready = unused.ready ∙ sym (map-replicate ready_in count none);
        unsettled = unused.unsettled ∙ sym (map-replicate is_unsettled count none);
        pins = unused.pins ∙ sym (map-replicate pin_in count none);
        touches = unused.touches ∙ sym len;
      };
      sound = λ i. rw (empty-place {X = Held} count i) tt;
      distinct = λ i j p q h k e. let no = empty-place {X = Held} count i in absurd (cc);
      ready = rw (len, no_pages, none_loads, is) record {
        within = omega arith;
        places = within;
        pages = omega arith;
        runs = omega arith;
        reserved = refl;
      };
    }

-- ---- a place is written

pub sound-set : (places : List (Option Held)) (at : ℕ) (y : Option Held) → at < length places
    → ((i : ℕ) → IfSome (get_or places i None) IsSound) → IfSome y IsSound → (i : ℕ)
    → IfSome (get_or (set places at y) i None) IsSound
sound-set places at y within sound is i =
    elim (cases_eq i at) [
      | inl here ↦ rw (here, get_or-set_same places at y None within) is
      | inr apart ↦ rw (get_or-set_other places at i y None apart) (sound i)
    ]

pub distinct-set : (places : List (Option Held)) (at : ℕ) (y : Option Held) → at < length places → AreDistinct places
    → ((i : ℕ) (p q : Held) → get_or places i None ≡ Some p → y ≡ Some q → p.key ≡ q.key → i ≡ at)
    → AreDistinct (set places at y)
distinct-set places at y within distinct own i j p q h k e =
    let there : (n : ℕ) (r : Held) → n ≢ at → get_or (set places at y) n None ≡ Some r → get_or places n None ≡ Some r =
    λ n r apart m. sym (get_or-set_other places at n y None apart) ∙ m
    in
    let here : (n : ℕ) (r : Held) → n ≡ at → get_or (set places at y) n None ≡ Some r → y ≡ Some r =
    λ n r is m. sym (get_or-set_same places at y None within) ∙ (rw is at m)
    in
    elim (cases_eq i at) [
      | inl i_here ↦
          elim (cases_eq j at) [
            | inl j_here ↦ i_here ∙ sym j_here
            | inr j_apart ↦ i_here ∙ sym (own j q p (there j q j_apart k) (here i p i_here h) (sym e))
          ]
      | inr i_apart ↦
          elim (cases_eq j at) [
            | inl j_here ↦ own i p q (there i p i_apart h) (here j q j_here k) e ∙ sym j_here
            | inr j_apart ↦ distinct i j p q (there i p i_apart h) (there j q j_apart k) e
          ]
    ]

-- the guide of the places where one of them is written and marked
pub guided-set : (g : Guided) (places : List (Option Held)) (at : ℕ) (y : Option Held) (key : PageKey)
    → AreGuided g places
    → key_if (is_ready y) key ≡ ready_in y
    → AreGuided (marked (record g { keys = set g.keys at (key_in y) }) at key (mark_in y)) (set places at y)
guided-set g places at y key a is =
    record {
      keys = ap (λ keys. set keys at (key_in y)) a.keys ∙ sym (map-set key_in places at y);
      idle = ap (λ idle. set idle at (is_idle y)) a.idle ∙ sym (map-set is_idle places at y);
      ready = ap (λ ready. set ready at (key_if (is_ready y) key)) a.ready ∙ ap (set (map ready_in places) at) is
          ∙ sym (map-set ready_in places at y);
      unsettled = ap (λ unsettled. set unsettled at (is_unsettled y)) a.unsettled
          ∙ sym (map-set is_unsettled places at y);
      pins = ap (λ pins. set pins at (pin_in y)) a.pins ∙ sym (map-set pin_in places at y);
      touches = a.touches ∙ sym (length-set places at y);
    }

-- for a page that is loading memory is reserved
pub kept-reserved : (limit spare : ℕ) (places : List (Option Held)) (g : Guided) (pool : Pooled) (at : ℕ)
    (x : Option Held)
    → IsKept limit spare places g pool → get_or places at None ≡ x → IsSome x → one_if (is_loading x) ≤ pool.reserved
kept-reserved limit spare places g pool at x k here some =
    let none : Option Held = None in
    let within : at < length places = some-inside places at (rw here some) in
    let fewer : count_by is_loading (set places at none) + one_if (is_loading x) ≡ count_by is_loading places + 0 =
    count-set is_loading places at x none within here in
    omega (arith, fewer, k.ready.reserved)

-- a page whose key stays
pub kept-changed : (limit spare spare2 : ℕ) (places : List (Option Held)) (g : Guided) (pool pool2 : Pooled) (at : ℕ)
    (p q : Held)
    → IsKept limit spare places g pool → get_or places at None ≡ Some p → q.key ≡ p.key → length q.bytes ≡ 4096
    → spare2 ≤ pool2.pages → spare2 ≤ pool2.runs
    → pool2.reserved + one_if p.state.loading ≡ pool.reserved + one_if q.state.loading
    → IsKept limit spare2 (set places at (Some q)) (marked g at q.key (mark_in (Some q))) pool2
kept-changed limit spare spare2 places g pool pool2 at p q k here key bytes pages runs reserved =
    let within : at < length places = some-inside places at (rw here refl) in
    let sound : IsSound p = rw here at (k.sound at) in
    let keys : map key_in (set places at (Some q)) ≡ map key_in places =
    map-set_same key_in places at (Some q) None (ap Some key ∙ sym (ap key_in here))
    in
    let guided = guided-set g places at (Some q) q.key k.guided refl in
    let many : count_by is_some (set places at (Some q)) ≡ count_by is_some places =
    omega (arith, count-set is_some places at (Some p) (Some q) within here)
    in
    let loading : count_by is_loading (set places at (Some q)) + one_if p.state.loading
    ≡ count_by is_loading places + one_if q.state.loading =
    count-set is_loading places at (Some p) (Some q) within here
    in
    record {
      some = rw (length-set places at (Some q)) k.some;
      few = rw (length-set places at (Some q)) k.few;
      small = k.small;
      guided = record {
        keys = k.guided.keys ∙ sym keys;
        idle = guided.idle;
        ready = guided.ready;
        unsettled = guided.unsettled;
        pins = guided.pins;
        touches = guided.touches;
      };
      sound = sound-set places at (Some q) within k.sound record { bytes = bytes; number = rw key sound.number };
      distinct = distinct-set places at (Some q) within k.distinct
          (λ i a b h e same. let is : b.key ≡ p.key = sym (ap (λ (r : Held). r.key) (some-is q b e)) ∙ key in
          k.distinct i at a p h here (same ∙ is));
      ready = rw (length-set places at (Some q), many) record {
        within = k.ready.within;
        places = k.ready.places;
        pages = pages;
        runs = runs;
        reserved = omega (arith, loading, reserved, k.ready.reserved);
      };
    }
  where
    some-is : (a b : Held) → Some a ≡ Some b → a ≡ b
    some-is a b e = cc

-- other bytes alone
pub kept-bytes : (limit spare spare2 : ℕ) (places : List (Option Held)) (g : Guided) (pool pool2 : Pooled) (at : ℕ)
    (p : Held) (bytes : List ℕ)
    → IsKept limit spare places g pool → get_or places at None ≡ Some p → length bytes ≡ 4096
    → spare2 ≤ pool2.pages → spare2 ≤ pool2.runs → pool2.reserved ≡ pool.reserved
    → IsKept limit spare2 (set places at (Some record p { bytes = bytes })) g pool2
kept-bytes limit spare spare2 places g pool pool2 at p bytes k here len pages runs reserved =
    let q : Held = record p { bytes = bytes } in
    let changed = kept-changed limit spare spare2 places g pool pool2 at p q k here refl len pages runs
    (ap (λ n. n + one_if p.state.loading) reserved) in
    let keys : map key_in (set places at (Some q)) ≡ map key_in places =
    map-set_same key_in places at (Some q) None (sym (ap key_in here)) in
    let idle : map is_idle (set places at (Some q)) ≡ map is_idle places =
    map-set_same is_idle places at (Some q) None (sym (ap is_idle here)) in
    let ready : map ready_in (set places at (Some q)) ≡ map ready_in places =
    map-set_same ready_in places at (Some q) None (sym (ap ready_in here)) in
    let unsettled : map is_unsettled (set places at (Some q)) ≡ map is_unsettled places =
    map-set_same is_unsettled places at (Some q) None (sym (ap is_unsettled here)) in
    let pins : map pin_in (set places at (Some q)) ≡ map pin_in places =
    map-set_same pin_in places at (Some q) None (sym (ap pin_in here)) in
    record {
      some = changed.some;
      few = changed.few;
      small = changed.small;
      guided = record {
        keys = k.guided.keys ∙ sym keys;
        idle = k.guided.idle ∙ sym idle;
        ready = k.guided.ready ∙ sym ready;
        unsettled = k.guided.unsettled ∙ sym unsettled;
        pins = k.guided.pins ∙ sym pins;
        touches = k.guided.touches ∙ sym (length-set places at (Some q));
      };
      sound = changed.sound;
      distinct = changed.distinct;
      ready = changed.ready;
    }

-- a page that comes
pub kept-entered : (limit spare : ℕ) (places : List (Option Held)) (g : Guided) (pool : Pooled) (at : ℕ) (q : Held)
    → IsKept limit spare places g pool → at < length places → get_or places at None ≡ None → 0 < spare
    → count_by is_some places < limit
    → IsSound q → ((i : ℕ) (p : Held) → get_or places i None ≡ Some p → p.key ≢ q.key)
    → IsKept limit (spare - one_if q.state.loading) (set places at (Some q))
    (marked (record g { keys = set g.keys at (Some q.key) }) at q.key (mark_in (Some q)))
    (record pool {
      pages = pool.pages - one_if q.state.loading;
      reserved = pool.reserved + one_if q.state.loading;
    })
kept-entered limit spare places g pool at q k within here some room sound absent =
    let many : count_by is_some (set places at (Some q)) ≡ count_by is_some places + 1 =
    omega (arith, count-set is_some places at None (Some q) within here)
    in
    let loading : count_by is_loading (set places at (Some q)) + 0
    ≡ count_by is_loading places + one_if q.state.loading =
    count-set is_loading places at None (Some q) within here
    in
    record {
      some = rw (length-set places at (Some q)) k.some;
      few = rw (length-set places at (Some q)) k.few;
      small = k.small;
      guided = guided-set g places at (Some q) q.key k.guided refl;
      sound = sound-set places at (Some q) within k.sound sound;
      distinct = distinct-set places at (Some q) within k.distinct
          (λ i a b h e same. let is : q ≡ b = cc in absurd (absent i a h (same ∙ sym (ap (λ (r : Held). r.key) is))));
      ready = rw (length-set places at (Some q), many) record {
        within = omega arith;
        places = k.ready.places;
        pages = omega (arith, k.ready.pages);
        runs = omega (arith, k.ready.runs);
        reserved = omega (arith, loading, k.ready.reserved);
      };
    }

-- a page that goes
pub kept-left : (limit spare : ℕ) (places : List (Option Held)) (g : Guided) (pool : Pooled) (at : ℕ) (p : Held)
    → IsKept limit spare places g pool → get_or places at None ≡ Some p
    → IsKept limit spare (set places at None) (record (marked g at p.key (mark_in None)) { keys = set g.keys at None })
    (record pool {
      pages = pool.pages + one_if p.state.loading;
      reserved = pool.reserved - one_if p.state.loading;
    })
kept-left limit spare places g pool at p k here =
    let within : at < length places = some-inside places at (rw here refl) in
    let none : Option Held = None in
    let many : count_by is_some (set places at none) + 1 ≡ count_by is_some places =
    omega (arith, count-set is_some places at (Some p) none within here)
    in
    let loading : count_by is_loading (set places at none) + one_if p.state.loading
    ≡ count_by is_loading places + 0 =
    count-set is_loading places at (Some p) none within here
    in
    record {
      some = rw (length-set places at none) k.some;
      few = rw (length-set places at none) k.few;
      small = k.small;
      guided = guided-set g places at none p.key k.guided refl;
      sound = sound-set places at none within k.sound tt;
      distinct = distinct-set places at none within k.distinct (λ i a b h e same. absurd (cc));
      ready = rw (length-set places at none) record {
        within = omega (arith, k.ready.within, many);
        places = k.ready.places;
        pages = omega (arith, k.ready.pages);
        runs = k.ready.runs;
        reserved = omega (arith, loading, k.ready.reserved);
      };
    }

-- other touches
pub kept-touched : (limit spare : ℕ) (places : List (Option Held)) (g : Guided) (pool : Pooled) (touches : List ℕ)
    → IsKept limit spare places g pool → length touches ≡ length g.touches
    → IsKept limit spare places (record g { touches = touches }) pool
kept-touched limit spare places g pool touches k len =
    record {
      some = k.some;
      few = k.few;
      small = k.small;
      guided = record {
        keys = k.guided.keys;
        idle = k.guided.idle;
        ready = k.guided.ready;
        unsettled = k.guided.unsettled;
        pins = k.guided.pins;
        touches = len ∙ k.guided.touches;
      };
      sound = k.sound;
      distinct = k.distinct;
      ready = k.ready;
    }

-- another pool
pub kept-pool : (limit spare more : ℕ) (places : List (Option Held)) (g : Guided) (pool new : Pooled)
    → IsKept limit spare places g pool
    → new.reserved ≡ pool.reserved → more ≤ new.pages → more ≤ new.runs → IsKept limit more places g new
kept-pool limit spare more places g pool new k reserved pages runs =
    record {
      some = k.some;
      few = k.few;
      small = k.small;
      guided = k.guided;
      sound = k.sound;
      distinct = k.distinct;
      ready = record {
        within = k.ready.within;
        places = k.ready.places;
        pages = pages;
        runs = runs;
        reserved = reserved ∙ k.ready.reserved;
      };
    }
