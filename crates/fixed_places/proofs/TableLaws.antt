-- What holds of a table: new, with one key more, with one key fewer.
use Rattle.std.proofs.Common.{◌≡◌, ◌≢◌, ◌⊎◌, ℕ, zero, suc, ◌+◌, ◌∷◌, ◌^◌, ◌<◌, ◌≤◌, List, map, length, get_or, set, replicate, Option, Some, None, IfSome, true, arith, eq-eqb, refl, ap, sym, ◌∙◌, inl, inr, get_or-set_other, get_or-set_same, length-set}
use Rattle.std.proofs.lemmas.Bool.{cases_eq}
use Rattle.std.proofs.lemmas.List.{length-replicate, length-map, map-set}
use Rattle.std.specs.Option.{option_map}
use Rattle.fixed_places.specs.Keys.{IsAbsent}
use Rattle.fixed_places.specs.Chains.{Chained, is_in, IsFirst}
use Rattle.fixed_places.specs.Spread.{chain_of, IsTable}
use Rattle.fixed_places.proofs.PlaceLaws.{empty_places, get_or-none, get_or-map-option}
use Rattle.fixed_places.proofs.ChainLaws.{UpTo, first-upto, upto-next, is_chain-true}

module _ {K : Type 0} (code : K → ℕ) where
  -- the chains of keys, of that many chains
  abbrev pub chains_of : ℕ → List (Option K) → List (Option ℕ)
  chains_of n keys = map (option_map (λ key. chain_of n (code key))) keys

  pub chains_of-empty : (n places : ℕ) → chains_of n (empty_places K places) ≡ empty_places ℕ places
  chains_of-empty n zero = refl
  chains_of-empty n (suc places) = ap (λ rest. None ∷ rest) (chains_of-empty n places)

  pub table-new : (places : ℕ) → 0 < places → places ≤ 2 ^ 32
      → IsTable code (record { count = places; places = replicate places None }) (replicate places None)
  table-new places some few =
      let len : length (empty_places K places) ≡ places = length-replicate places None in
      record {
        some = rw len some;
        few = rw len few;
        count = sym len;
        spread = sym (chains_of-empty (length (empty_places K places)) places);
        only = λ i j key h k. let no = get_or-none {X = K} places i in absurd (cc);
      }

  -- a write of what a place holds, where no key comes to stand twice
  pub table-set : (chained : Chained) (keys : List (Option K)) (at : ℕ) (held : Option K) → IsTable code chained keys
      → ((i j : ℕ) (key : K) → get_or (set keys at held) i None ≡ Some key → get_or (set keys at held) j None ≡ Some key
      → i ≡ j)
      → IsTable code (record chained {
        places = set chained.places at
            (option_map (λ key. chain_of (length keys) (code key)) held);
      }) (set keys at held)
  table-set chained keys at held t only =
      let len : length (set keys at held) ≡ length keys = length-set keys at held in
      let f : Option K → Option ℕ = option_map (λ key. chain_of (length keys) (code key)) in
      record {
        some = rw len t.some;
        few = rw len t.few;
        count = t.count ∙ sym len;
        spread = rw len (ap (λ places. set places at (f held)) t.spread ∙ sym (map-set f keys at held));
        only = only;
      }

  -- no key stands twice where one is put that stood nowhere
  pub put-only : (keys : List (Option K)) (at : ℕ) (key : K) → at < length keys → IsAbsent keys key
      → ((i j : ℕ) (k : K) → get_or keys i None ≡ Some k → get_or keys j None ≡ Some k → i ≡ j)
      → (i j : ℕ) (k : K) → get_or (set keys at (Some key)) i None ≡ Some k
      → get_or (set keys at (Some key)) j None ≡ Some k → i ≡ j
  put-only keys at key within absent only i j k h m =
      elim (cases_eq i at) [
        | inl here ↦ elim (cases_eq j at) [
          | inl there ↦ here ∙ sym there
          | inr apart ↦
              let e : Some key ≡ Some k = sym (get_or-set_same keys at (Some key) None within) ∙ (rw here at h) in
              let f : get_or keys j None ≡ Some k = sym (get_or-set_other keys at j (Some key) None apart) ∙ m in
              absurd (absent j (f ∙ sym e))
        ]
        | inr apart ↦
            let f : get_or keys i None ≡ Some k = sym (get_or-set_other keys at i (Some key) None apart) ∙ h in
            elim (cases_eq j at) [
              | inl there ↦
                  let e : Some key ≡ Some k = sym (get_or-set_same keys at (Some key) None within) ∙ (rw there at m) in
                  absurd (absent i (f ∙ sym e))
              | inr elsewhere ↦ only i j k f (sym (get_or-set_other keys at j (Some key) None elsewhere) ∙ m)
            ]
      ]

  -- nor where one is taken
  pub taken-only : (keys : List (Option K)) (at : ℕ) → at < length keys
      → ((i j : ℕ) (k : K) → get_or keys i None ≡ Some k → get_or keys j None ≡ Some k → i ≡ j)
      → (i j : ℕ) (k : K) → get_or (set keys at None) i None ≡ Some k → get_or (set keys at None) j None ≡ Some k
      → i ≡ j
  taken-only keys at within only i j k h m = only i j k (stood i h) (stood j m)
    where
      stood : (i : ℕ) → get_or (set keys at None) i None ≡ Some k → get_or keys i None ≡ Some k
      stood i h =
          elim (cases_eq i at) [
            | inl here ↦
                let no : get_or (set keys at None) i None ≡ None = rw here (get_or-set_same keys at None None within) in
                absurd (cc)
            | inr apart ↦ sym (get_or-set_other keys at i None None apart) ∙ h
          ]

  -- where to look for a key next: in its chain, and no place before has the key
  pub record IsSought (places : List (Option ℕ)) (keys : List (Option K)) (key : K) (next : Option ℕ) : Type 0 where
    pub within : IfSome next (λ at. at < length keys)
    pub linked : IfSome next (λ at. get_or places at None ≡ Some (chain_of (length keys) (code key)))
    pub before : (i : ℕ) → get_or keys i None ≡ Some key → UpTo next i

  passes-linked : (places : List (Option ℕ)) (chain from : ℕ) (next : Option ℕ) → IsFirst (is_in chain places) from next
      → IfSome next (λ at. get_or places at None ≡ Some chain)
  passes-linked places chain from None f = tt
  passes-linked places chain from (Some at) f = is_chain-true chain (get_or places at None) f.1

  in-chain : (chained : Chained) (keys : List (Option K)) (key : K) (i : ℕ) → IsTable code chained keys
      → get_or keys i None ≡ Some key
      → is_in (chain_of (length keys) (code key)) chained.places i ≡ true
  in-chain chained keys key i t here =
      let chain = chain_of (length keys) (code key) in
      let f : Option K → Option ℕ = option_map (λ key. chain_of (length keys) (code key)) in
      rw (t.spread, get_or-map-option (λ key. chain_of (length keys) (code key)) keys i, here) (eq-eqb chain chain refl)

  len-places : (chained : Chained) (keys : List (Option K)) → IsTable code chained keys
      → length chained.places ≡ length keys
  len-places chained keys t = ap length t.spread ∙ length-map keys
      (option_map (λ key. chain_of (length keys) (code key)))

  pub sought-start : (chained : Chained) (keys : List (Option K)) (key : K) (next : Option ℕ)
      → IsTable code chained keys
      → IfSome next (λ at. at < length chained.places)
      → IsFirst (is_in (chain_of (length keys) (code key)) chained.places) 0 next
      → IsSought chained.places keys key next
  sought-start chained keys key next t within f = record {
    within = rw (← len-places chained keys t) within;
    linked = passes-linked chained.places (chain_of (length keys) (code key)) 0 next f;
    before = λ i here. first-upto (is_in (chain_of (length keys) (code key)) chained.places) 0 next i f (omega arith)
        (in-chain chained keys key i t here);
  }

  pub sought-more : (chained : Chained) (keys : List (Option K)) (key : K) (at : ℕ) (next : Option ℕ)
      → IsTable code chained keys
      → IsSought chained.places keys key (Some at) → get_or keys at None ≢ Some key
      → IfSome next (λ at. at < length chained.places)
      → IsFirst (is_in (chain_of (length keys) (code key)) chained.places) (at + 1) next
      → IsSought chained.places keys key next
  sought-more chained keys key at next t sought other within f = record {
    within = rw (← len-places chained keys t) within;
    linked = passes-linked chained.places (chain_of (length keys) (code key)) (at + 1) next f;
    before = λ i here.
        upto-next (is_in (chain_of (length keys) (code key)) chained.places) at next i f
        (in-chain chained keys key i t here) (sought.before i here)
        (λ e. other (rw (← e) here));
  }
