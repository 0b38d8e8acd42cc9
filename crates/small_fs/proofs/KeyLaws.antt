-- By what a slot is found.
use Rattle.std.proofs.Common.{◌≡◌, ℕ, ◌<◌, ◌≤◌, ◌==◌, Bool, true, false, List, length, get_or, map, Option, Some, None, inl, inr, refl, sym, subst, ap, ◌∙◌, cond, Less, Equal, Greater, arith, nat_lt}
use Rattle.std.specs.Prelude.{position, option_map, is_none, is_some, IsSome, IfSome}
use Rattle.std.specs.Bool.{Decides}
use Rattle.std.specs.List.{position_or_len}
use Rattle.std.specs.Ordering.{nat_cmp, is_gt}
use Rattle.std.proofs.lemmas.Bool.{lt-ltb, le-ltb, false_from_ne_true, cases_lt, ne_eqb, both_ways, false≢true}
use Rattle.std.specs.Cmp.Lexicographic.{bytes_decides}
use Rattle.std.proofs.lemmas.Bool.Decides.{Decides-eqb, Decides-like}
use Rattle.std.proofs.lemmas.List.{get_or-map, get_or_past, length-map}
use Rattle.std.proofs.lemmas.List.Sums.{position_or_len_is, fails_before_first}
use Rattle.fixed_places.specs.Keys.{IsPlaceOf, IsAbsent}
use Rattle.fixed_places.specs.Tree.{IsLeast, HasNone, Before}
use Rattle.split_types.specs.declared.ids.Serial.{Serial}
use Rattle.split_types.specs.LiveFiles.{LiveFile, Slots, has_name, has_serial, slot_named, slot_of_serial, free_slot}
use Rattle.small_fs.specs.Keys.{name_key, serial_key, names_of, serials_of, free_key}
use Rattle.small_fs.specs.declared.keys.FileName.{FileName}
use Rattle.small_fs.specs.declared.keys.FileSerial.{FileSerial}
use Rattle.small_fs.specs.Fields.{AreWhole, IsWhole}

pub None≢Some : {X : Type 0} {x : X} → None ≡ Some x → ⊥
None≢Some e = cc

pub some_same : {X : Type 0} {x y : X} → Some x ≡ Some y → x ≡ y
some_same e = cc

-- a place of something lies within the list
pub within_some : {X : Type 0} (xs : List (Option X)) (i : ℕ) (x : X) → get_or xs i None ≡ Some x → i < length xs
within_some {X} xs i x e = elim (cases_lt i (length xs)) [
  | inl lt ↦ lt
  | inr past ↦ absurd (None≢Some (sym (get_or_past xs i None past) ∙ e))
]

-- what a file that has a key is
opened : {K : Type 0} (key : LiveFile → K) (file : Option LiveFile) (k : K) → option_map key file ≡ Some k
    → (f : LiveFile) × (file ≡ Some f) × (key f ≡ k)
opened key None k e = absurd (None≢Some e)
opened key (Some f) k e = (f, refl, some_same e)

-- there is a file where there is a key
pub keyed_live : {K : Type 0} (key : LiveFile → K) (slots : Slots) (keys : List (Option K)) (k : K) (at : ℕ)
    → keys ≡ map (option_map key) slots → get_or keys at None ≡ Some k → IsSome (get_or slots at None)
keyed_live {K} key slots keys k at are here =
    let there : get_or (map (option_map key) slots) at None ≡ Some k =
    ap (λ (ks : List (Option K)). get_or ks at None) (sym are) ∙ here in
    let lt : at < length slots =
    omega (arith, within_some (map (option_map key) slots) at k there, length-map slots (option_map key)) in
    let file = opened key (get_or slots at None) k (sym (get_or-map (option_map key) slots at None None lt) ∙ there) in
    ap is_some file.1

pub whole_at : (next : ℕ) (slots : Slots) → AreWhole next slots → (s : ℕ) (f : LiveFile)
    → get_or slots s None ≡ Some f → IsWhole next f
whole_at next slots whole s f e = subst (λ (o : Option LiveFile). IfSome o (IsWhole next)) e
    (whole.each s None (within_some slots s f e))

-- ---- the first place that passes

pub first_is : {X : Type 0} (p : X → Bool) (xs : List X) (i : ℕ) (d : X) → i < length xs → p (get_or xs i d) ≡ true
    → ((k : ℕ) → k < i → p (get_or xs k d) ≡ false) → position p xs ≡ Some i
first_is {X} p xs i d within here before =
    let at : position_or_len p xs ≡ i = position_or_len_is p xs i d (omega arith) before (λ lt. here) in
    ap (λ (n : ℕ). cond (nat_lt n (length xs)) (Some n) None) at
    ∙ ap (λ (b : Bool). let o : Option ℕ = cond b (Some i) None in o) (lt-ltb i (length xs) within)

pub none_is : {X : Type 0} (p : X → Bool) (xs : List X) (d : X)
    → ((k : ℕ) → k < length xs → p (get_or xs k d) ≡ false) → position p xs ≡ None
none_is {X} p xs d none =
    let at : position_or_len p xs ≡ length xs =
    position_or_len_is p xs (length xs) d (omega arith) none (λ lt. absurd (omega arith)) in
    ap (λ (n : ℕ). cond (nat_lt n (length xs)) (Some n) None) at
    ∙ ap (λ (b : Bool). let o : Option ℕ = cond b (Some (length xs)) None in o)
    (le-ltb (length xs) (length xs) (omega arith))

past_all : {X : Type 0} (p : X → Bool) (xs : List X) → position p xs ≡ None → length xs ≤ position_or_len p xs
past_all {X} p xs none = elim (cases_lt (position_or_len p xs) (length xs)) [
  | inl lt ↦
      let some : position p xs ≡ Some (position_or_len p xs) =
      ap (λ (b : Bool). let o : Option ℕ = cond b (Some (position_or_len p xs)) None in o)
      (lt-ltb (position_or_len p xs) (length xs) lt) in
      absurd (None≢Some (sym none ∙ some))
  | inr past ↦ past
]

-- ---- a file by a key

module _ {K : Type 0} (key : LiveFile → K) (k : K) (test : Option LiveFile → Bool)
    (tells : (file : Option LiveFile) → Decides (test file) (option_map key file ≡ Some k)) where
  keyed : (slots : Slots) (i : ℕ) → i < length slots
      → get_or (map (option_map key) slots) i None ≡ option_map key (get_or slots i None)
  keyed slots i lt = get_or-map (option_map key) slots i None None lt

  pub found : (slots : Slots) (at : ℕ) → IsPlaceOf (map (option_map key) slots) k at → position test slots ≡ Some at
  found slots at place =
      let within : at < length slots = omega (arith, place.within, length-map slots (option_map key)) in
      first_is test slots at None within ((tells _).1 (sym (keyed slots at within) ∙ place.here)) (λ i lt.
      false_from_ne_true _ (λ e.
      let same = place.only i (keyed slots i (omega arith) ∙ (tells _).0 e) in absurd (omega arith)))

  pub absent : (slots : Slots) → IsAbsent (map (option_map key) slots) k → position test slots ≡ None
  absent slots none = none_is test slots None (λ i lt.
      false_from_ne_true _ (λ e. none i (keyed slots i lt ∙ (tells _).0 e)))

  -- no file has a key that is not found
  pub none_has : (slots : Slots) → position test slots ≡ None → IsAbsent (map (option_map key) slots) k
  none_has slots none i e = elim (cases_lt i (length slots)) [
    | inl lt ↦
        let passes : test (get_or slots i None) ≡ true = (tells _).1 (sym (keyed slots i lt) ∙ e) in
        let fails : test (get_or slots i None) ≡ false =
        fails_before_first test slots i None (omega (arith, past_all test slots none)) in
        absurd (both_ways _ fails passes)
    | inr past ↦
        let gone : get_or (map (option_map key) slots) i None ≡ None =
        get_or_past (map (option_map key) slots) i None (omega (arith, length-map slots (option_map key))) in
        absurd (None≢Some (sym gone ∙ e))
  ]

-- ---- by name

name_tells : (n : List ℕ) (file : Option LiveFile) → Decides (has_name n file)
    (option_map name_key file ≡ Some (record { 0 = n }))
name_tells n None = (λ e. absurd (false≢true e), λ e. absurd (None≢Some e))
name_tells n (Some f) = Decides-like _
    (λ e. ap (λ (m : List ℕ). let o : Option FileName = Some (record { 0 = m }) in o) e)
    (λ e. ap (λ (k : FileName). k.0) (some_same e)) (bytes_decides f.name n)

pub named : (slots : Slots) (names : List (Option FileName)) (n : List ℕ) (at : ℕ) → names ≡ names_of slots
    → IsPlaceOf names (record { 0 = n }) at → slot_named slots n ≡ Some at
named slots names n at are place =
    found name_key (record { 0 = n }) (has_name n) (name_tells n) slots at (rw are at place)

pub unnamed : (slots : Slots) (names : List (Option FileName)) (n : List ℕ) → names ≡ names_of slots
    → IsAbsent names (record { 0 = n }) → slot_named slots n ≡ None
unnamed slots names n are none = absent name_key (record { 0 = n }) (has_name n) (name_tells n) slots (rw are at none)

pub no_name : (slots : Slots) (names : List (Option FileName)) (n : List ℕ) → names ≡ names_of slots
    → slot_named slots n ≡ None → IsAbsent names (record { 0 = n })
no_name slots names n are none =
    rw are (none_has name_key (record { 0 = n }) (has_name n) (name_tells n) slots none)

-- ---- by serial

serial_tells : (s : Serial) (file : Option LiveFile) → Decides (has_serial s file)
    (option_map serial_key file ≡ Some (record { 0 = s }))
serial_tells s None = (λ e. absurd (false≢true e), λ e. absurd (None≢Some e))
serial_tells s (Some f) = Decides-like _
    (λ e. ap (λ (n : ℕ). let o : Option FileSerial = Some (record { 0 = record { 0 = n } }) in o) e)
    (λ e. ap (λ (k : FileSerial). k.0.0) (some_same e)) (Decides-eqb f.serial.0 s.0)

pub numbered : (slots : Slots) (serials : List (Option FileSerial)) (s : Serial) (at : ℕ) → serials ≡ serials_of slots
    → IsPlaceOf serials (record { 0 = s }) at → slot_of_serial slots s ≡ Some at
numbered slots serials s at are place =
    found serial_key (record { 0 = s }) (has_serial s) (serial_tells s) slots at (rw are at place)

pub unnumbered : (slots : Slots) (serials : List (Option FileSerial)) (s : Serial) → serials ≡ serials_of slots
    → IsAbsent serials (record { 0 = s }) → slot_of_serial slots s ≡ None
unnumbered slots serials s are none =
    absent serial_key (record { 0 = s }) (has_serial s) (serial_tells s) slots (rw are at none)

-- the next serial is new
pub no_serial : (slots : Slots) (serials : List (Option FileSerial)) (next : ℕ) → serials ≡ serials_of slots
    → AreWhole next slots → IsAbsent serials (record { 0 = record { 0 = next } })
no_serial slots serials next are whole i e =
    let there : get_or (serials_of slots) i None ≡ Some (record { 0 = record { 0 = next } }) =
    ap (λ (ks : List (Option FileSerial)). get_or ks i None) (sym are) ∙ e in
    let lt : i < length slots = omega (arith, within_some _ i _ there, length-map slots (option_map serial_key)) in
    let file = opened serial_key (get_or slots i None) (record { 0 = record { 0 = next } })
    (sym (get_or-map (option_map serial_key) slots i None None lt) ∙ there) in
    let below : file.0.serial.0 < next = (whole_at next slots whole i file.0 file.1).below in
    let same : file.0.serial.0 ≡ next = ap (λ (k : FileSerial). k.0.0) file.2 in
    absurd (omega arith)

-- ---- by want of a file

free_is : (s : ℕ) (file : Option LiveFile) (k : ℕ) → free_key s file ≡ Some k → (file ≡ None) × (k ≡ s)
free_is s None k e = (refl, sym (some_same e))
free_is s (Some f) k e = absurd (None≢Some e)

taken : (s : ℕ) (file : Option LiveFile) → free_key s file ≡ None → is_none file ≡ false
taken s None e = absurd (None≢Some (sym e))
taken s (Some f) e = refl

pub none_free : (slots : Slots) (free : List (Option ℕ)) → length slots ≡ 256
    → ((s : ℕ) → s < 256 → get_or free s None ≡ free_key s (get_or slots s None))
    → HasNone free → free_slot slots ≡ None
none_free slots free count are none = none_is is_none slots None (λ s lt.
    taken s (get_or slots s None) (sym (are s (omega arith)) ∙ none s))

pub is_none-some : (file : Option LiveFile) → is_none file ≡ true → file ≡ None
is_none-some None e = refl
is_none-some (Some f) e = absurd (false≢true e)

not_less : (a b : ℕ) → is_gt (nat_cmp a b) ≡ false → b < a → ⊥
not_less a b e lt =
    let above : is_gt (nat_cmp a b) ≡ true =
    ap (λ (t : Bool). is_gt (cond t Less (cond (a == b) Equal Greater))) (le-ltb a b (omega arith))
    ∙ ap (λ (t : Bool). is_gt (cond t Equal Greater)) (ne_eqb a b (λ same. omega arith)) in
    both_ways _ e above

pub has_some : {X : Type 0} (o : Option X) → IsSome o → (x : X) × (o ≡ Some x)
has_some None e = absurd (false≢true e)
has_some (Some x) e = (x, refl)

subst2 : {X : Type 0} (R : X → X → Type 0) {a b c d : X} → a ≡ c → b ≡ d → R a b → R c d
subst2 {X} R {a} {b} {c} {d} p q r = subst (λ (y : X). R c y) q (subst (λ (x : X). R x b) p r)

pub least_free : (slots : Slots) (free : List (Option ℕ)) (at : ℕ) → length slots ≡ 256 → length free ≡ 256
    → ((s : ℕ) → s < 256 → get_or free s None ≡ free_key s (get_or slots s None))
    → IsLeast nat_cmp free at → free_slot slots ≡ Some at
least_free slots free at count len are least =
    let within : at < 256 = omega (arith, least.within) in
    let here = has_some (get_or free at None) least.some in
    let empty = free_is at (get_or slots at None) here.0 (sym (are at within) ∙ here.1) in
    let key : get_or free at None ≡ Some at = here.1 ∙ ap (λ (k : ℕ). Some k) empty.1 in
    first_is is_none slots at None (omega arith) (ap is_none empty.0) (λ k lt.
    false_from_ne_true _ (λ e.
    let none : get_or slots k None ≡ None = is_none-some (get_or slots k None) e in
    let there : get_or free k None ≡ Some k = are k (omega arith) ∙ ap (free_key k) none in
    let before = subst2 (Before nat_cmp) key there (least.least k) in
    not_less at k before lt))
