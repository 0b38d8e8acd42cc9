-- What holds of pins and their chains.
use Rattle.std.proofs.Common.{◌≡◌, ◌≢◌, ℕ, ◌+◌, ◌-◌, ◌^◌, ◌<◌, ◌≤◌, Bool, true, List, length, get_or, set, Option, Some, None, IfSome, arith, refl, ap, sym, ◌∙◌, inl, inr, length-set}
use Rattle.std.specs.Option.{option_map}
use Rattle.std.proofs.lemmas.Bool.{cases_eq, cases_lt}
use Rattle.std.proofs.lemmas.Bool.Decides.{nat_tests}
use Rattle.std.proofs.lemmas.List.{map-set, length-map, length-replicate}
use Rattle.std.proofs.Math.ListN.{get_or-map}
use Rattle.split_types.specs.declared.ids.Pid.{Pid}
use Rattle.fixed_places.specs.Chains.{Chained, is_chain, is_in, IsFirst}
use Rattle.page_cache.specs.Pins.{chain_of, ArePinned}
use Rattle.page_cache.proofs.ListLaws.{empty_places, map-replicate}

pub pins-new : (places : ℕ) → places ≤ 2 ^ 32
    → ArePinned (record { count = 257; places = empty_places ℕ places }) (empty_places Pid places)
pins-new places few =
    let none : Option Pid = None in
    let len : length (empty_places Pid places) ≡ places = length-replicate places none in
    record {
      few = rw len few;
      count = refl;
      places = sym (map-replicate (option_map chain_of) places none);
    }

pub pins-set : (chained : Chained) (pins : List (Option Pid)) (at : ℕ) (pin : Option Pid) → ArePinned chained pins
    → ArePinned (record chained { places = set chained.places at (option_map chain_of pin) }) (set pins at pin)
pins-set chained pins at pin a =
    record {
      few = rw (length-set pins at pin) a.few;
      count = a.count;
      places =
          ap (λ places. set places at (option_map chain_of pin)) a.places
          ∙ sym (map-set (option_map chain_of) pins at pin);
    }

pub pins-inside : (chained : Chained) (pins : List (Option Pid)) (at : ℕ) → ArePinned chained pins → at < length pins
    → at < length chained.places
pins-inside chained pins at a within = rw (a.places, length-map pins (option_map chain_of)) within

pub inside-pins : (chained : Chained) (pins : List (Option Pid)) (at : ℕ) → ArePinned chained pins
    → at < length chained.places
    → at < length pins
inside-pins chained pins at a within = rw (← length-map pins (option_map chain_of), ← a.places) within

-- ---- a place of a process

-- the place isn't behind another one
abbrev pub UpTo : Option ℕ → ℕ → Type 0
UpTo None i = ⊥
UpTo (Some at) i = at ≤ i

-- how far it is from a place to the end
abbrev pub left_from : ℕ → Option ℕ → ℕ
left_from len None = 0
left_from len (Some at) = len - at

-- where to look for a process next: in its chain, and no place before is its own
pub record IsSought (places : List (Option ℕ)) (pins : List (Option Pid)) (by : Pid) (next : Option ℕ) : Type 0 where
  pub within : IfSome next (λ at. at < length pins)
  pub linked : IfSome next (λ at. get_or places at None ≡ Some (chain_of by))
  pub before : (i : ℕ) → get_or pins i None ≡ Some by → UpTo next i

linked-in : (chain : ℕ) (x : Option ℕ) → is_chain chain x ≡ true → x ≡ Some chain
linked-in chain None h = absurd (cc)
linked-in chain (Some other) h = let e : other ≡ chain = grind (arith, nat_tests) in ap Some e

same-chain : (n : ℕ) → is_chain n (Some n) ≡ true
same-chain n = grind (arith, nat_tests)

first-linked : (places : List (Option ℕ)) (chain from : ℕ) (next : Option ℕ) → IsFirst (is_in chain places) from next
    → IfSome next (λ at. get_or places at None ≡ Some chain)
first-linked places chain from None f = tt
first-linked places chain from (Some at) f = linked-in chain (get_or places at None) f.1

in-chain : (chained : Chained) (pins : List (Option Pid)) (by : Pid) (i : ℕ) → ArePinned chained pins
    → get_or pins i None ≡ Some by
    → is_in (chain_of by) chained.places i ≡ true
in-chain chained pins by i a here =
    rw (a.places, get_or-map (option_map chain_of) pins i None, here) (same-chain (chain_of by))

first-upto : (test : ℕ → Bool) (from : ℕ) (next : Option ℕ) (i : ℕ) → IsFirst test from next → from ≤ i → test i ≡ true
    → UpTo next i
first-upto test from None i f behind is = let no = f i behind in absurd (cc)
first-upto test from (Some at) i f behind is =
    elim (cases_lt i at) [
      | inl before ↦ let no = f.2 i behind before in absurd (cc)
      | inr after ↦ after
    ]

within-pins : (chained : Chained) (pins : List (Option Pid)) (next : Option ℕ) → ArePinned chained pins
    → IfSome next (λ at. at < length chained.places) → IfSome next (λ at. at < length pins)
within-pins chained pins None a within = tt
within-pins chained pins (Some at) a within = inside-pins chained pins at a within

pub sought-start : (chained : Chained) (pins : List (Option Pid)) (by : Pid) (next : Option ℕ) → ArePinned chained pins
    → IfSome next (λ at. at < length chained.places) → IsFirst (is_in (chain_of by) chained.places) 0 next
    → IsSought chained.places pins by next
sought-start chained pins by next a within f =
    record {
      within = within-pins chained pins next a within;
      linked = first-linked chained.places (chain_of by) 0 next f;
      before = λ i here. first-upto (is_in (chain_of by) chained.places) 0 next i f (omega arith)
          (in-chain chained pins by i a here);
    }

pub sought-more : (chained : Chained) (pins : List (Option Pid)) (by : Pid) (at : ℕ) (next : Option ℕ)
    → ArePinned chained pins
    → IsSought chained.places pins by (Some at) → get_or pins at None ≢ Some by
    → IfSome next (λ at. at < length chained.places) → IsFirst (is_in (chain_of by) chained.places) (at + 1) next
    → IsSought chained.places pins by next
sought-more chained pins by at next a sought other within f =
    record {
      within = within-pins chained pins next a within;
      linked = first-linked chained.places (chain_of by) (at + 1) next f;
      before = λ i here.
          elim (cases_eq i at) [
            | inl same ↦ absurd (other (rw (← same) here))
            | inr apart ↦
                let behind = sought.before i here in
                first-upto (is_in (chain_of by) chained.places) (at + 1) next i f (omega arith)
                (in-chain chained pins by i a here)
          ];
    }

-- the way to the end gets shorter
pub nearer : (test : ℕ → Bool) (len at : ℕ) (next : Option ℕ) → at < len → IsFirst test (at + 1) next
    → left_from len next < left_from len (Some at)
nearer test len at None within f = omega arith
nearer test len at (Some next) within f = let behind = f.0 in omega arith
