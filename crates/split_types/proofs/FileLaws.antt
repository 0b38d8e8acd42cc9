-- Files are in order: each that is there has a number, a slot and a name of its own, by which it is found.
use Rattle.std.proofs.Common.{◌≡◌, ℕ, zero, suc, ◌+◌, ◌==◌, ◌<◌, List, [], ◌∷◌, length, map, slice_get, nat_lt, Bool, true, false, not, ◌&&◌, ◌||◌, ◌⊎◌, Option, Some, None, option_map, refl, arith, subst, sym, ap, ◌∙◌, inl, inr, if◌then◌else◌}
use Rattle.std.specs.Prelude.{AllPairs, IsTrue, IsFalse, is_none, is_some, position, slice_index_or, unwrap_or}
use Rattle.std.specs.List.{range_with_len, position_from}
use Rattle.std.specs.Str.{bytes_eq}
use Rattle.std.proofs.lemmas.Bool.{cases_Bool, cond-true, cond-false, eqb-true, eqb-false, eq-eqb, ne_eqb, false_from_ne_true, or_cases, or_left, or_right, and_from, and_parts, not-true, not_from_false, lt-ltb, ltb-true, both_ways}
use Rattle.std.proofs.lemmas.Iterator.Adapters.{position_from-zero}
use Rattle.std.proofs.lemmas.List.FromFn.{length-map-range_with_len, get_or-map-range_with_len}
use Rattle.std.proofs.lemmas.List.Quantifiers.{position-Some}
use Rattle.std.proofs.lemmas.Option.{same_Some, none-some, cond_some, slice_get-get_or, slice_get_within, get_or_from_slice_get}
use Rattle.std.proofs.lemmas.Slice.Eq.{bytes_eq-Decides}
use Rattle.split_types.specs.declared.ids.Pid.{Pid}
use Rattle.split_types.specs.declared.ids.Serial.{Serial}
use Rattle.split_types.specs.declared.ids.Slot.{Slot}
use Rattle.split_types.specs.declared.call.Call.{Call}
use Rattle.split_types.specs.declared.call.Call.TheVariants.{Creat}
use Rattle.split_types.specs.declared.workload.Preset.{Preset}
use Rattle.split_types.specs.declared.workload.Workload.{Workload}
use Rattle.split_types.specs.declared.event.Event.{Event}
use Rattle.split_types.specs.declared.event.Event.TheVariants.{Admit, Make, Drop, Ret}
use Rattle.split_types.specs.History.{◌▹◌}
use Rattle.split_types.specs.Hooks.{maker}
use Rattle.split_types.specs.Names.{is_name}
use Rattle.split_types.specs.Workloads.{file_named, is_call_of}
use Rattle.split_types.specs.Calls.{call_of, returned, name_of}
use Rattle.split_types.specs.Files.{is_live, is_named, is_name_taken, without, live_named, file_for, bound_file}
use Rattle.split_types.specs.FileMaps.{makes}
use Rattle.split_types.specs.FileSizes.{if_live}
use Rattle.split_types.specs.FileSlots.{file_in_slot, slot_of, file_name, name_of_some, live_file}
use Rattle.split_types.specs.IsWorkload.{IsAsked, IsCall, IsPreset, ArePresets}
use Rattle.split_types.specs.Accepted.{IsAccepted}
use Rattle.split_types.specs.Legal.{IsLegal}
use Rattle.split_types.specs.FilesInOrder.{FilesAreInOrder}
use Rattle.split_types.specs.Proving.Came.{Came}
use Rattle.split_types.specs.Proving.Came.Came.{came_make, came_drop}
use Rattle.split_types.proofs.Lists.{some_at, all_at, filter_there, map_there}
use Rattle.split_types.proofs.CameLaws.{came}

-- ---- what a history says of files

-- how many preset files there are and how many files were made; which file is there, which one a slot has and a name,
-- which slot and which name it has, and which one a call is bound to
pub record Filing : Type 0 where
  pub presets : ℕ
  pub made : ℕ
  pub there : ℕ → Bool
  pub slotted : ℕ → Option Serial
  pub place : Serial → Slot
  pub spelled : ℕ → List ℕ
  pub called : List ℕ → Option Serial
  pub bound : ℕ → Option Serial

abbrev pub filing : Workload → List Event → Filing
filing w h = record {
  presets = length w.files;
  made = makes h;
  there = λ s. is_live w h s;
  slotted = λ k. file_in_slot w h k;
  place = λ s. slot_of w h s;
  spelled = λ s. file_name w h s;
  called = λ name. live_named w h name;
  bound = λ p. bound_file w h p;
}

-- the number of the file that is made next
abbrev pub next_file : Filing → Serial
next_file f = record { 0 = f.presets + f.made }

-- a file is made in a slot by a call
abbrev pub with_made : Filing → Slot → Option Call → Filing
with_made f k c = record {
  presets = f.presets;
  made = f.made + 1;
  there = λ s. (next_file f).0 == s || f.there s;
  slotted = λ i. if k.0 == i then Some (next_file f) else f.slotted i;
  place = λ s. elim ((next_file f).0 == s.0) [ true ↦ k | false ↦ f.place s ];
  spelled = λ s. elim ((next_file f).0 == s) [ true ↦ name_of_some c | false ↦ f.spelled s ];
  called = λ name. if is_named c name then Some (next_file f) else f.called name;
  bound = f.bound;
}

-- the file of a slot is dropped
abbrev pub with_dropped : Filing → Slot → Serial → Filing
with_dropped f k d = record {
  presets = f.presets;
  made = f.made;
  there = λ s. not (d.0 == s) && f.there s;
  slotted = λ i. if k.0 == i then None else f.slotted i;
  place = f.place;
  spelled = f.spelled;
  called = λ name. without d (f.called name);
  bound = f.bound;
}

-- the call of a process is bound to another file
abbrev pub with_bound : Filing → ℕ → (ℕ → Option Serial) → Filing
with_bound f p file = record {
  presets = f.presets;
  made = f.made;
  there = f.there;
  slotted = f.slotted;
  place = f.place;
  spelled = f.spelled;
  called = f.called;
  bound = λ q. if p == q then file q else f.bound q;
}

-- ---- files in order

-- a file that is there: it has a number, a slot and a name, and is found by its slot and by its name
pub record IsFiled (f : Filing) (s : Serial) : Type 0 where
  pub numbered : s.0 < f.presets + f.made
  pub within : (f.place s).0 < 256
  pub in_slot : f.slotted (f.place s).0 ≡ Some s
  pub named : IsTrue (is_name (f.spelled s.0))
  pub by_name : f.called (f.spelled s.0) ≡ Some s

-- files that are found by a slot or a name are there and have it; a call is bound to a file that there once was
pub record AreFiled (f : Filing) : Type 0 where
  pub live : (s : Serial) → IsTrue (f.there s.0) → IsFiled f s
  pub of_slot : (k : ℕ) (s : Serial) → f.slotted k ≡ Some s → IsTrue (f.there s.0) × ((f.place s).0 ≡ k)
  pub of_name : (name : List ℕ) (s : Serial) → f.called name ≡ Some s
      → IsTrue (f.there s.0) × IsTrue (bytes_eq (f.spelled s.0) name)
  pub once : (p : ℕ) (s : Serial) → f.bound p ≡ Some s → s.0 < f.presets + f.made

-- ---- plain values
-- tests of numbers and of names
same_number : (n : ℕ) → (n == n) ≡ true
same_number n = eq-eqb n n refl

other_way : (m n : ℕ) → (m == n) ≡ false → (n == m) ≡ false
other_way m n differ = ne_eqb n m (λ same. eqb-false m n differ (sym same))

-- a file of this number
at_number : (P : Serial → Type 0) (s t : Serial) → (s.0 == t.0) ≡ true → P s → P t
at_number P s t same of = subst (λ n. P (record { 0 = n })) (eqb-true s.0 t.0 same) of

same_name : (a b : List ℕ) → bytes_eq a b ≡ true → a ≡ b
same_name a b is = (bytes_eq-Decides a b).0 is

itself : (a : List ℕ) → bytes_eq a a ≡ true
itself a = (bytes_eq-Decides a a).1 refl

-- where a test picks one of two options
picked : {X : Type 0} (b : Bool) (x y : Option X) (z : X) → (if b then x else y) ≡ Some z
    → ((b ≡ true) × (x ≡ Some z)) ⊎ ((b ≡ false) × (y ≡ Some z))
picked true x y z is = inl (refl, is)
picked false x y z is = inr (refl, is)

-- what a choice picks
elim_true : {X : Type 0} (b : Bool) (x y : X) → b ≡ true → (elim b [ true ↦ x | false ↦ y ]) ≡ x
elim_true true x y is = refl
elim_true false x y is = absurd (cc)

elim_false : {X : Type 0} (b : Bool) (x y : X) → b ≡ false → (elim b [ true ↦ x | false ↦ y ]) ≡ y
elim_false true x y is = absurd (cc)
elim_false false x y is = refl

-- options
no_file : {X : Type 0} (o : Option X) → is_some o ≡ false → o ≡ None
no_file None is = refl
no_file (Some x) is = absurd (cc)

not_mapped : {X Y : Type 0} (g : X → Y) (o : Option X) → is_none (option_map g o) ≡ true → o ≡ None
not_mapped g None is = refl
not_mapped g (Some x) is = absurd (cc)

mapped_from : {X Y : Type 0} (g : X → Y) (o : Option X) (y : Y) → option_map g o ≡ Some y
    → (x : X) × (o ≡ Some x) × (g x ≡ y)
mapped_from g None y is = absurd (cc)
mapped_from g (Some x) y is = (x, refl, same_Some (g x) y is)

-- the least of the first n numbers that has none has none
free_number : {X Y : Type 0} (g : X → Y) (o : ℕ → Option X) (n k : ℕ)
    → position is_none (map (λ i. option_map g (o i)) (range_with_len 0 n)) ≡ Some k → (k < n) × (o k ≡ None)
free_number {Y = Y} g o n k at =
    let each : ℕ → Option Y = λ i. option_map g (o i)
    in let first = position-Some is_none (map each (range_with_len 0 n)) k None at
    in let below : k < n = omega (arith, first.0, length-map-range_with_len each 0 n)
    in (
      below,
      not_mapped g (o k)
          (sym (ap is_none (get_or-map-range_with_len each 0 n k k None below (omega arith))) ∙ first.1),
    )

-- ---- a make
-- the slot and the name of the new file, and of every other
new_place : (f : Filing) (k : Slot) (c : Option Call) → (with_made f k c).place (next_file f) ≡ k
new_place f k c = elim_true ((next_file f).0 == (next_file f).0) k (f.place (next_file f)) (same_number (next_file f).0)

new_name : (f : Filing) (k : Slot) (c : Option Call) → (with_made f k c).spelled (next_file f).0 ≡ name_of_some c
new_name f k c =
    elim_true ((next_file f).0 == (next_file f).0) (name_of_some c) (f.spelled (next_file f).0)
    (same_number (next_file f).0)

old_place : (f : Filing) (k : Slot) (c : Option Call) (s : Serial) → ((next_file f).0 == s.0) ≡ false
    → (with_made f k c).place s ≡ f.place s
old_place f k c s other = elim_false ((next_file f).0 == s.0) k (f.place s) other

old_name : (f : Filing) (k : Slot) (c : Option Call) (s : Serial) → ((next_file f).0 == s.0) ≡ false
    → (with_made f k c).spelled s.0 ≡ f.spelled s.0
old_name f k c s other = elim_false ((next_file f).0 == s.0) (name_of_some c) (f.spelled s.0) other

-- the new file is found by its slot and its name
made_new : (f : Filing) (k : Slot) (name : List ℕ) → k.0 < 256 → IsTrue (is_name name)
    → IsFiled (with_made f k (Some (Creat name))) (next_file f)
made_new f k name below valid = record {
  numbered = omega arith;
  within = subst (λ t. t.0 < 256) (sym place) below;
  in_slot = ap (with_made f k c).slotted (ap (λ t. t.0) place) ∙ cond-true (k.0 == k.0) _ _ (same_number k.0);
  named = subst (λ n. IsTrue (is_name n)) (sym spelled) valid;
  by_name = ap (with_made f k c).called spelled ∙ cond-true (bytes_eq name name) _ _ (itself name);
}
  where
    c : Option Call
    c = Some (Creat name)

    place : (with_made f k c).place (next_file f) ≡ k
    place = new_place f k c

    spelled : (with_made f k c).spelled (next_file f).0 ≡ name
    spelled = new_name f k c

-- and every other by its own, since the slot and the name were free
made_old : (f : Filing) (k : Slot) (name : List ℕ) → f.slotted k.0 ≡ None → f.called name ≡ None → (s : Serial)
    → ((next_file f).0 == s.0) ≡ false → IsFiled f s → IsFiled (with_made f k (Some (Creat name))) s
made_old f k name free unused s other is = record {
  numbered = omega (arith, is.numbered);
  within = subst (λ t. t.0 < 256) (sym place) is.within;
  in_slot =
      ap (with_made f k c).slotted (ap (λ t. t.0) place)
      ∙ cond-false (k.0 == (f.place s).0) _ _ another_slot ∙ is.in_slot;
  named = subst (λ n. IsTrue (is_name n)) (sym spelled) is.named;
  by_name =
      ap (with_made f k c).called spelled
      ∙ cond-false (bytes_eq name (f.spelled s.0)) _ _ another_name ∙ is.by_name;
}
  where
    c : Option Call
    c = Some (Creat name)

    place : (with_made f k c).place s ≡ f.place s
    place = old_place f k c s other

    spelled : (with_made f k c).spelled s.0 ≡ f.spelled s.0
    spelled = old_name f k c s other

    another_slot : (k.0 == (f.place s).0) ≡ false
    another_slot = false_from_ne_true (k.0 == (f.place s).0)
        (λ same. none-some s (sym free ∙ ap f.slotted (eqb-true k.0 (f.place s).0 same) ∙ is.in_slot))

    another_name : bytes_eq name (f.spelled s.0) ≡ false
    another_name = false_from_ne_true (bytes_eq name (f.spelled s.0))
        (λ same. none-some s (sym unused ∙ ap f.called (same_name name (f.spelled s.0) same) ∙ is.by_name))

-- the new file has a number that no file had
not_next : (f : Filing) → AreFiled f → (s : Serial) → IsTrue (f.there s.0) → ((next_file f).0 == s.0) ≡ false
not_next f are s there = ne_eqb (f.presets + f.made) s.0 (λ same. omega (arith, (are.live s there).numbered, same))

-- files stay in order where one is made
made : (f : Filing) (k : Slot) (name : List ℕ) → k.0 < 256 → IsTrue (is_name name) → f.slotted k.0 ≡ None
    → f.called name ≡ None → AreFiled f → AreFiled (with_made f k (Some (Creat name)))
made f k name below valid free unused are = record {
  live = λ s there. elim (cases_Bool ((next_file f).0 == s.0)) [
    | inl new ↦ at_number (IsFiled g) (next_file f) s new (made_new f k name below valid)
    | inr old ↦ made_old f k name free unused s old (are.live s (older s old there))
  ];
  of_slot = λ i s at. elim (picked (k.0 == i) (Some (next_file f)) (f.slotted i) s at) [
    | inl new ↦ at_number (λ t. IsTrue (g.there t.0) × ((g.place t).0 ≡ i)) (next_file f) s
        (number_is s new.1) (new_there, ap (λ t. t.0) (new_place f k c) ∙ eqb-true k.0 i new.0)
    | inr old ↦ (let is = are.of_slot i s old.1
        in let other = not_next f are s is.0
        in (or_right ((next_file f).0 == s.0) (f.there s.0) is.0, ap (λ t. t.0) (old_place f k c s other) ∙ is.1))
  ];
  of_name = λ n s at. elim (picked (bytes_eq name n) (Some (next_file f)) (f.called n) s at) [
    | inl new ↦ at_number (λ t. IsTrue (g.there t.0) × IsTrue (bytes_eq (g.spelled t.0) n)) (next_file f) s
        (number_is s new.1) (new_there, ap (λ m. bytes_eq m n) (new_name f k c) ∙ new.0)
    | inr old ↦ (let is = are.of_name n s old.1
        in let other = not_next f are s is.0
        in (
          or_right ((next_file f).0 == s.0) (f.there s.0) is.0,
          ap (λ m. bytes_eq m n) (old_name f k c s other) ∙ is.1,
        ))
  ];
  once = λ p s at. omega (arith, are.once p s at);
}
  where
    c : Option Call
    c = Some (Creat name)

    g : Filing
    g = with_made f k c

    older : (s : Serial) → ((next_file f).0 == s.0) ≡ false → IsTrue (g.there s.0) → IsTrue (f.there s.0)
    older s old there = elim (or_cases ((next_file f).0 == s.0) (f.there s.0) there) [
      | inl new ↦ absurd (both_ways ((next_file f).0 == s.0) old new)
      | inr before ↦ before
    ]

    number_is : (s : Serial) → Some (next_file f) ≡ Some s → ((next_file f).0 == s.0) ≡ true
    number_is s is = eq-eqb (next_file f).0 s.0 (ap (λ t. t.0) (same_Some (next_file f) s is))

    new_there : IsTrue (g.there (next_file f).0)
    new_there = or_left ((next_file f).0 == (next_file f).0) (f.there (next_file f).0) (same_number (next_file f).0)

-- ---- a drop
-- what is left is another file
without_parts : (d s : Serial) (o : Option Serial) → without d o ≡ Some s → (o ≡ Some s) × ((s.0 == d.0) ≡ false)
without_parts d s None is = absurd (cc)
without_parts d s (Some t) is = elim (picked (t.0 == d.0) None (Some t) s is) [
  | inl same ↦ absurd (none-some s same.1)
  | inr other ↦ (other.1, ap (λ u. u.0 == d.0) (sym (same_Some t s other.1)) ∙ other.0)
]

-- another file has another slot
places_apart : (f : Filing) (d s : Serial) → IsFiled f d → IsFiled f s → (d.0 == s.0) ≡ false
    → ((f.place d).0 == (f.place s).0) ≡ false
places_apart f d s one two other = false_from_ne_true ((f.place d).0 == (f.place s).0)
    (λ same. eqb-false d.0 s.0 other (ap (λ t. t.0) (same_Some d s
    (sym one.in_slot ∙ ap f.slotted (eqb-true (f.place d).0 (f.place s).0 same) ∙ two.in_slot))))

-- so every other file is still found
dropped_filed : (f : Filing) (d s : Serial) → IsFiled f d → IsFiled f s → (d.0 == s.0) ≡ false
    → IsFiled (with_dropped f (f.place d) d) s
dropped_filed f d s gone is other = record {
  numbered = is.numbered;
  within = is.within;
  in_slot = cond-false ((f.place d).0 == (f.place s).0) _ _ (places_apart f d s gone is other) ∙ is.in_slot;
  named = is.named;
  by_name = ap (without d) is.by_name ∙ cond-false (s.0 == d.0) _ _ (other_way d.0 s.0 other);
}

-- files stay in order where one is dropped
dropped : (f : Filing) (d : Serial) → IsTrue (f.there d.0) → AreFiled f → AreFiled (with_dropped f (f.place d) d)
dropped f d here are = record {
  live = λ s there. (let both = and_parts (not (d.0 == s.0)) (f.there s.0) there
      in dropped_filed f d s (are.live d here) (are.live s both.1) (not-true (d.0 == s.0) both.0));
  of_slot = λ i s at. elim (picked ((f.place d).0 == i) None (f.slotted i) s at) [
    | inl gone ↦ absurd (none-some s gone.1)
    | inr stays ↦ (let is = are.of_slot i s stays.1
        in (
          and_from (not (d.0 == s.0)) (f.there s.0)
              (not_from_false (d.0 == s.0) (other_file i s stays.0 is.1)) is.0,
          is.1,
        ))
  ];
  of_name = λ name s at. (let parts = without_parts d s (f.called name) at
      in let is = are.of_name name s parts.0
      in (
        and_from (not (d.0 == s.0)) (f.there s.0)
            (not_from_false (d.0 == s.0) (other_way s.0 d.0 parts.1)) is.0,
        is.1,
      ));
  once = are.once;
}
  where
    -- a file of another slot is another file
    other_file : (i : ℕ) (s : Serial) → ((f.place d).0 == i) ≡ false → (f.place s).0 ≡ i → (d.0 == s.0) ≡ false
    other_file i s differ is = false_from_ne_true (d.0 == s.0)
        (λ same. eqb-false (f.place d).0 i differ (at_number (λ t. (f.place d).0 ≡ (f.place t).0) d s same refl ∙ is))

-- ---- a call is bound
-- files stay in order where it is bound to one that has a number
rebound : (f : Filing) (p : ℕ) (file : ℕ → Option Serial)
    → ((q : ℕ) (s : Serial) → file q ≡ Some s → s.0 < f.presets + f.made) → AreFiled f
    → AreFiled (with_bound f p file)
rebound f p file numbered are = record {
  live = λ s there. (let is = are.live s there
      in record {
        numbered = is.numbered;
        within = is.within;
        in_slot = is.in_slot;
        named = is.named;
        by_name = is.by_name;
      });
  of_slot = are.of_slot;
  of_name = are.of_name;
  once = λ q s at. elim (picked (p == q) (file q) (f.bound q) s at) [
    | inl own ↦ numbered q s own.1
    | inr other ↦ are.once q s other.1
  ];
}

-- ---- the start
-- the place of the first that passes
position_at : {X : Type 0} (test : X → Bool) (k : ℕ) (xs : List X) (i : ℕ) (x : X) → slice_get xs i ≡ Some x
    → test x ≡ true → ((j : ℕ) (y : X) → j < i → slice_get xs j ≡ Some y → test y ≡ false)
    → position_from test k xs ≡ Some (k + i)
position_at test k [] i x at passes before = absurd (cc)
position_at test k (y ∷ ys) zero x at passes before =
    let same : y ≡ x = cc in
    let here : test y ≡ true = ap test same ∙ passes in
    rw here (ap Some (omega arith))
position_at test k (y ∷ ys) (suc i) x at passes before =
    rw (before 0 y (omega arith) refl) (position_at test (k + 1) ys i x at passes
    (λ j z lt is. before (suc j) z (omega arith) is) ∙ ap Some (omega arith))

-- no two preset files have one name
apart_at : (files : List Preset) (i j : ℕ) (f g : Preset) → AllPairs (λ f g. IsFalse (bytes_eq f.name g.name)) files
    → i < j → slice_get files i ≡ Some f → slice_get files j ≡ Some g → bytes_eq f.name g.name ≡ false
apart_at files i j f g apart lt fi gj =
    ap (λ (y : Preset). bytes_eq f.name y.name) (sym (get_or_from_slice_get files j g f gj))
    ∙ ap (λ (y : Preset). bytes_eq y.name (slice_index_or files j f).name) (sym (get_or_from_slice_get files i f f fi))
    ∙ apart i j f lt (slice_get_within files j g gj)

-- the name of the preset file of a number
abbrev preset_name : List Preset → ℕ → List ℕ
preset_name files s = unwrap_or (option_map (λ f. f.name) (slice_get files s)) []

-- it is that of the file there
name_is : (files : List Preset) (s : ℕ) (f : Preset) → slice_get files s ≡ Some f → preset_name files s ≡ f.name
name_is files s f at = rw at refl

-- a preset file is found by its name
found_by_name : (files : List Preset) (s : ℕ) (f : Preset)
    → AllPairs (λ f g. IsFalse (bytes_eq f.name g.name)) files → slice_get files s ≡ Some f
    → file_named files f.name ≡ Some s
found_by_name files s f apart at =
    position_from-zero (λ (g : Preset). bytes_eq g.name f.name) files
    ∙ position_at (λ (g : Preset). bytes_eq g.name f.name) 0 files s f at (itself f.name)
    (λ j g lt is. apart_at files j s g f apart lt is at)
    ∙ ap Some (omega arith)

-- and the one that a name finds has it
name_found : (files : List Preset) (name : List ℕ) (s : ℕ) → file_named files name ≡ Some s
    → (s < length files) × (bytes_eq (preset_name files s) name ≡ true)
name_found files name s at =
    let d : Preset = record { name = name; pages = 0; fill = 0 }
    in let first = position-Some (λ (f : Preset). bytes_eq f.name name) files s d at
    in (
      first.0,
      ap (λ n. bytes_eq n name) (name_is files s (slice_index_or files s d) (slice_get-get_or files s d first.0))
          ∙ first.1,
    )

-- the preset files are in order
start : (w : Workload) → ArePresets w → AreFiled (filing w [])
start w presets = record {
  live = λ s there. (let below : s.0 < length w.files = ltb-true s.0 (length w.files) there
      in let f = some_at w.files s.0 below
      in let name : preset_name w.files s.0 ≡ f.0.name = name_is w.files s.0 f.0 f.1
      in let is : IsPreset f.0 = all_at IsPreset w.files s.0 f.0 presets.each f.1
      in record {
        numbered = omega (arith, below);
        within = omega (arith, below, presets.few);
        in_slot = cond-true (nat_lt s.0 (length w.files)) (Some s) None there;
        named = subst (λ n. IsTrue (is_name n)) (sym name) is.name;
        by_name =
            ap (λ n. option_map numbered (file_named w.files n)) name
            ∙ ap (option_map numbered) (found_by_name w.files s.0 f.0 presets.apart f.1);
      });
  of_slot = λ k s at. (let parts = cond_some (nat_lt k (length w.files)) (numbered k) s at
      in let same : k ≡ s.0 = ap (λ t. t.0) parts.1
      in (subst (λ n. IsTrue (nat_lt n (length w.files))) same parts.0, sym same));
  of_name = λ name s at. (let from = mapped_from numbered (file_named w.files name) s at
      in let is = name_found w.files name from.0 from.1
      in let same : from.0 ≡ s.0 = ap (λ t. t.0) from.2
      in subst (λ n. IsTrue (nat_lt n (length w.files)) × IsTrue (bytes_eq (preset_name w.files n) name)) same
      (lt-ltb from.0 (length w.files) is.0, is.1));
  once = λ p s at. absurd (none-some s at);
}
  where
    numbered : ℕ → Serial
    numbered n = record { 0 = n }

-- ---- one event more
-- the name of a creat is one
creat_named : (w : Workload) (h : List Event) (p : ℕ) (name : List ℕ) → IsAccepted w
    → call_of w h p ≡ Some (Creat name) → IsTrue (is_name name)
creat_named w h p name accepted call =
    let from = map_there (λ (x : Pid × Call). x.1) _ (returned h p) (Creat name) call
    in let line = filter_there (is_call_of p) w.calls (returned h p) from.0 from.1
    in let asked : IsCall (length w.procs) from.0 =
    all_at (IsCall (length w.procs)) w.calls line.0 from.0 accepted.workload.calls.each line.1
    in subst IsAsked from.2 asked.asked

-- each kind of event leaves files in order
made_next : (w : Workload) (h : List Event) (by : Pid) (slot : Slot) (serial : Serial) → IsAccepted w
    → Came w h (Make by slot serial) → AreFiled (filing w h) → AreFiled (filing w (h ▹ Make by slot serial))
made_next w h by slot serial accepted (came_make p name k admitted idle unused at) are =
    let free = free_number (live_file w h) (file_in_slot w h) 256 k at
    in let call = admitted.has.call
    in subst (λ c. AreFiled (with_made (filing w h) (record { 0 = k }) c)) (sym call)
    (made (filing w h) (record { 0 = k }) name free.0 (creat_named w h p.0 name accepted call) free.1
    (no_file (live_named w h name) (subst (λ c. is_name_taken w h c ≡ false) call unused)) are)

-- the file that a call works on is there
pub live_of : (w : Workload) (h : List Event) (o : Option Serial) (s : Serial) → if_live w h o ≡ Some s
    → is_live w h s.0 ≡ true
live_of w h None s is = absurd (cc)
live_of w h (Some t) s is = elim (picked (is_live w h t.0) (Some t) None s is) [
  | inl live ↦ subst (λ u. is_live w h u.0 ≡ true) (same_Some t s live.1) live.0
  | inr none ↦ absurd (none-some s none.1)
]

dropped_next : (w : Workload) (h : List Event) (by : Pid) (slot : Slot) (serial : Serial)
    → Came w h (Drop by slot serial) → AreFiled (filing w h) → AreFiled (filing w (h ▹ Drop by slot serial))
dropped_next w h by slot serial (came_drop p name d working idle) are =
    dropped (filing w h) d (live_of w h (bound_file w h p.0) d working.file) are

-- the file that a call finds by its name has a number
file_numbered : (w : Workload) (h : List Event) → AreFiled (filing w h) → (c : Option Call) (s : Serial)
    → file_for w h c ≡ Some s → s.0 < length w.files + makes h
file_numbered w h are None s at = absurd (none-some s at)
file_numbered w h are (Some (Creat name)) s at = absurd (none-some s at)
file_numbered w h are (Some c) s at = (are.live s (are.of_name (name_of c) s at).0).numbered

files_next : (w : Workload) (h : List Event) (e : Event) → IsAccepted w → Came w h e → AreFiled (filing w h)
    → AreFiled (filing w (h ▹ e))
files_next w h (Make by slot serial) accepted row are = made_next w h by slot serial accepted row are
files_next w h (Drop by slot serial) accepted row are = dropped_next w h by slot serial row are
files_next w h (Admit by) accepted row are =
    rebound (filing w h) by.0 (λ q. file_for w h (call_of w h q))
    (λ q s at. file_numbered w h are (call_of w h q) s at) are
files_next w h (Ret by reply) accepted row are =
    rebound (filing w h) by.0 (λ q. None) (λ q s at. absurd (none-some s at)) are
files_next w h e accepted row are = are

are_filed : (w : Workload) (h : List Event) → IsAccepted w → IsLegal w h → AreFiled (filing w h)
are_filed w [] accepted legal = start w accepted.workload.presets
are_filed w (h ▹ e) accepted legal =
    files_next w h e accepted (came w h (maker e) e legal.0) (are_filed w h accepted legal.1)

pub files_are_in_order : FilesAreInOrder
files_are_in_order w h accepted legal =
    let are = are_filed w h accepted legal
    in record {
      live = λ s there. (let is = are.live s there
          in record {
            numbered = is.numbered;
            slot_within = is.within;
            in_slot = is.in_slot;
            named = is.named;
            by_name = is.by_name;
          });
      of_slot = are.of_slot;
      of_name = are.of_name;
      bound = are.once;
    }
