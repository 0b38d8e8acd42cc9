-- The slots after one of them was changed.
use Rattle.std.proofs.Common.{◌≡◌, ℕ, ◌+◌, ◌<◌, ◌≤◌, List, [], ◌∷◌, ◌++◌, length, get_or, set, take, drop, map, replicate, Option, Some, None, inl, inr, refl, sym, subst, ap, ◌∙◌, cond, arith}
use Rattle.std.specs.Prelude.{option_map, is_none, is_some, IsSome, IfSome, slice_index}
use Rattle.std.proofs.lemmas.Bool.{cases_eq}
use Rattle.std.proofs.lemmas.List.{map-set, set-get_or, get_or-map, get_or-set_same, get_or-set_other, set-set, set_at, drop_more, append_assoc, length-append, length-take, length-drop, length-set, length-replicate}
use Rattle.std.proofs.lemmas.List.FromFn.{length-map-range_with_len, map-range_with_len_more}
use Rattle.std.proofs.lemmas.List.Elements.{All-set, All-weaker}
use Rattle.std.proofs.lemmas.List.Quantifiers.{position-Some}
use Rattle.std.proofs.lemmas.List.Sums.{sum_by-set, sum_by-le, get_or-le-sum_by}
use Rattle.std.proofs.lemmas.List.Folds.{sum_by-replicate}
use Rattle.split_types.specs.declared.ids.Serial.{Serial}
use Rattle.split_types.specs.declared.ids.Slot.{Slot}
use Rattle.split_types.specs.LiveFiles.{LiveFile, Slots, free_slot, made_file, maps_to, unmapped, run_of, with_run}
use Rattle.small_fs.specs.declared.keys.FileName.{FileName}
use Rattle.small_fs.specs.declared.keys.FileSerial.{FileSerial}
use Rattle.small_fs.specs.Files.{Files, next_file, with_file, changed}
use Rattle.small_fs.specs.Keys.{name_key, serial_key, free_key}
use Rattle.small_fs.specs.Uses.{uses_in, uses_of}
use Rattle.small_fs.specs.Fields.{AreIndexed, AreWhole, IsWhole, AreCounted}
use Rattle.small_fs.proofs.UsesLaws.{uses_few}
use Rattle.small_fs.proofs.KeyLaws.{None≢Some, some_same, within_some, is_none-some, whole_at}

-- ---- the next file

next_is : (o : Option ℕ) (next : ℕ) (at : Slot) (serial : Serial)
    → (let p : Option (Slot × Serial) = option_map (λ s. (record { 0 = s }, record { 0 = next })) o in p)
    ≡ Some (at, serial)
    → o ≡ Some at.0
next_is None next at serial e = absurd (None≢Some e)
next_is (Some k) next at serial e = ap (λ (p : Slot × Serial). Some p.0.0) (some_same e)

pub next_free : (fs : Files) (at : Slot) (serial : Serial) → next_file fs ≡ Some (at, serial)
    → free_slot fs.slots ≡ Some at.0
next_free fs at serial e = next_is (free_slot fs.slots) fs.next at serial e

-- the least free slot is one, and has no file
pub record IsFree (slots : Slots) (at : ℕ) : Type 0 where
  pub within : at < length slots
  pub none : get_or slots at None ≡ None

pub is_free : (slots : Slots) (at : ℕ) → free_slot slots ≡ Some at → IsFree slots at
is_free slots at e =
    let p = position-Some is_none slots at None e in
    record { within = p.0; none = is_none-some (get_or slots at None) p.1 }

-- ---- another file in a slot

-- keys after another was put into a place
pub keys_set : {K : Type 0} (key : LiveFile → K) (slots : Slots) (keys new : List (Option K)) (at : ℕ)
    (v : Option LiveFile)
    → keys ≡ map (option_map key) slots → new ≡ set keys at (option_map key v)
    → new ≡ map (option_map key) (set slots at v)
keys_set {K} key slots keys new at v are put =
    put ∙ ap (λ (ks : List (Option K)). set ks at (option_map key v)) are ∙ sym (map-set (option_map key) slots at v)

-- nothing of a slot that has no file is in its place among the keys
pub no_key : {K : Type 0} (key : LiveFile → K) (slots : Slots) (keys : List (Option K)) (at : ℕ)
    → keys ≡ map (option_map key) slots → at < length slots → get_or slots at None ≡ None → get_or keys at None ≡ None
no_key {K} key slots keys at are lt none =
    ap (λ (ks : List (Option K)). get_or ks at None) are ∙ get_or-map (option_map key) slots at None None lt
    ∙ ap (option_map key) none

pub index_set : (slots : Slots) (names : List (Option FileName)) (serials : List (Option FileSerial))
    (free : List (Option ℕ)) (names' : List (Option FileName)) (serials' : List (Option FileSerial))
    (free' : List (Option ℕ)) (at : ℕ) (v : Option LiveFile) → length slots ≡ 256 → at < 256
    → AreIndexed slots names serials free → names' ≡ set names at (option_map name_key v)
    → serials' ≡ set serials at (option_map serial_key v) → free' ≡ set free at (free_key at v)
    → AreIndexed (set slots at v) names' serials' free'
index_set slots names serials free names' serials' free' at v count lt i n s f = record {
  names_are = keys_set name_key slots names names' at v i.names_are n;
  serials_are = keys_set serial_key slots serials serials' at v i.serials_are s;
  free_len = ap length f ∙ length-set free at (free_key at v) ∙ i.free_len;
  free_are = λ k within. ap (λ (ks : List (Option ℕ)). get_or ks k None) f ∙ elim (cases_eq k at) [
    | inl same ↦ rw same (get_or-set_same free at (free_key at v) None (omega (arith, i.free_len))
        ∙ sym (ap (free_key at) (get_or-set_same slots at v None (omega arith))))
    | inr other ↦ get_or-set_other free at k (free_key at v) None other ∙ i.free_are k within
        ∙ sym (ap (free_key k) (get_or-set_other slots at k v None other))
  ];
}

later : (next more : ℕ) → next ≤ more → (file : Option LiveFile) → IfSome file (IsWhole next)
    → IfSome file (IsWhole more)
later next more le None h = h
later next more le (Some f) h = record { pages = h.pages; below = omega (arith, h.below) }

pub whole_set : (next more : ℕ) (slots : Slots) (at : ℕ) (v : Option LiveFile) → next ≤ more → AreWhole next slots
    → IfSome v (IsWhole more) → AreWhole more (set slots at v)
whole_set next more slots at v le whole is = record {
  count = length-set slots at v ∙ whole.count;
  each = All-set (λ file. IfSome file (IsWhole more)) slots at v is
      (All-weaker (λ file. IfSome file (IsWhole next)) (λ file. IfSome file (IsWhole more)) (later next more le) slots
      whole.each);
}

pub counted_set : (slots : Slots) (pages pages' : List ℕ) (at : ℕ) (v : Option LiveFile) → at < length slots
    → AreCounted slots pages
    → ((b : ℕ) → slice_index pages' b + uses_of b (get_or slots at None) ≡ slice_index pages b + uses_of b v)
    → AreCounted (set slots at v) pages'
counted_set slots pages pages' at v lt counted moved b =
    omega (arith, sum_by-set (uses_of b) slots at v None lt, counted b, moved b)

-- ---- a file that was made

pub uses_none : (block n : ℕ) → uses_in block (replicate n None) ≡ 0
uses_none block n = omega (arith, sum_by-replicate (λ (o : Option ℕ). cond (maps_to block o) 1 0) n None)

pub made_uses : (block : ℕ) (serial : Serial) (name : List ℕ) → uses_of block (Some (made_file serial name)) ≡ 0
unfolding unmapped
made_uses block serial name = uses_none block 1008

pub made_whole : (next : ℕ) (name : List ℕ) → IsWhole (next + 1) (made_file (record { 0 = next }) name)
unfolding unmapped
made_whole next name = record { pages = length-replicate {A = Option ℕ} 1008 None; below = omega arith }

-- ---- a file that was changed

-- what a change of a file keeps
pub record Keeps (f f' : LiveFile) : Type 0 where
  pub name : f'.name ≡ f.name
  pub serial : f'.serial ≡ f.serial
  pub pages : length f'.blocks ≡ length f.blocks

keys_kept : {K : Type 0} (key : LiveFile → K) (slots : Slots) (s : ℕ) (f f' : LiveFile) → s < length slots
    → get_or slots s None ≡ Some f → key f' ≡ key f
    → map (option_map key) slots ≡ map (option_map key) (set slots s (Some f'))
keys_kept {K} key slots s f f' lt is same =
    let here : get_or (map (option_map key) slots) s None ≡ Some (key f') =
    get_or-map (option_map key) slots s None None lt ∙ ap (option_map key) is ∙ sym (ap (λ (k : K). Some k) same) in
    sym (set-get_or (map (option_map key) slots) s None) ∙ ap (set (map (option_map key) slots) s) here
    ∙ sym (map-set (option_map key) slots s (Some f'))

pub index_kept : (slots : Slots) (names : List (Option FileName)) (serials : List (Option FileSerial))
    (free : List (Option ℕ)) (s : ℕ) (f f' : LiveFile) → s < length slots → get_or slots s None ≡ Some f → Keeps f f'
    → AreIndexed slots names serials free → AreIndexed (set slots s (Some f')) names serials free
index_kept slots names serials free s f f' lt is keeps i = record {
  names_are = i.names_are
      ∙ keys_kept name_key slots s f f' lt is
      (ap (λ (n : List ℕ). let k : FileName = record { 0 = n } in k) keeps.name);
  serials_are = i.serials_are
      ∙ keys_kept serial_key slots s f f' lt is
      (ap (λ (n : Serial). let k : FileSerial = record { 0 = n } in k) keeps.serial);
  free_len = i.free_len;
  free_are = λ k within. i.free_are k within ∙ elim (cases_eq k s) [
    | inl same ↦ rw same (ap (free_key s) is ∙ sym (ap (free_key s) (get_or-set_same slots s (Some f') None lt)))
    | inr other ↦ sym (ap (free_key k) (get_or-set_other slots s k (Some f') None other))
  ];
}

pub whole_kept : (next : ℕ) (slots : Slots) (s : ℕ) (f f' : LiveFile) → get_or slots s None ≡ Some f → Keeps f f'
    → AreWhole next slots → AreWhole next (set slots s (Some f'))
whole_kept next slots s f f' is keeps whole =
    let was = whole_at next slots whole s f is in
    whole_set next next slots s (Some f') (omega arith) whole (record {
      pages = keeps.pages ∙ was.pages;
      below = omega (arith, was.below, ap (λ (n : Serial). n.0) keeps.serial);
    })

pub changed_is : (change : LiveFile → LiveFile) (s : ℕ) (slots : Slots) (f : LiveFile) → get_or slots s None ≡ Some f
    → changed change s slots ≡ set slots s (Some (change f))
changed_is change s slots f is = ap (λ (file : Option LiveFile). set slots s (option_map change file)) is

-- what holds of the files and of what is kept beside them
pub record Stand (next : ℕ) (slots : Slots) (names : List (Option FileName)) (serials : List (Option FileSerial))
    (free : List (Option ℕ)) (pages : List ℕ) : Type 0 where
  pub whole : AreWhole next slots
  pub indexed : AreIndexed slots names serials free
  pub counted : AreCounted slots pages

pub stand_changed : (next : ℕ) (slots slots' : Slots) (names : List (Option FileName))
    (serials : List (Option FileSerial)) (free : List (Option ℕ)) (pages pages' : List ℕ)
    (change : LiveFile → LiveFile) (s : ℕ) (f : LiveFile) → get_or slots s None ≡ Some f → Keeps f (change f)
    → AreWhole next slots → AreIndexed slots names serials free → AreCounted slots pages
    → slots' ≡ changed change s slots
    → ((b : ℕ) → slice_index pages' b + uses_in b f.blocks ≡ slice_index pages b + uses_in b (change f).blocks)
    → Stand next slots' names serials free pages'
stand_changed next slots slots' names serials free pages pages' change s f is keeps whole indexed counted new moved =
    let lt = within_some slots s f is in
    let after : Stand next (set slots s (Some (change f))) names serials free pages' = record {
      whole = whole_kept next slots s f (change f) is keeps whole;
      indexed = index_kept slots names serials free s f (change f) lt is keeps indexed;
      counted = counted_set slots pages pages' s (Some (change f)) lt counted
          (λ b. ap (λ (n : ℕ). slice_index pages' b + n) (ap (uses_of b) is) ∙ moved b);
    } in
    subst (λ (ss : Slots). Stand next ss names serials free pages') (sym (new ∙ changed_is change s slots f is)) after

pub stand_set : (next : ℕ) (slots slots' : Slots) (names names' : List (Option FileName))
    (serials serials' : List (Option FileSerial)) (free free' : List (Option ℕ)) (pages pages' : List ℕ) (at : ℕ)
    (v : Option LiveFile) → at < length slots → AreWhole next slots → AreIndexed slots names serials free
    → AreCounted slots pages → slots' ≡ with_file at v slots → IfSome v (IsWhole next)
    → names' ≡ set names at (option_map name_key v) → serials' ≡ set serials at (option_map serial_key v)
    → free' ≡ set free at (free_key at v)
    → ((b : ℕ) → slice_index pages' b + uses_of b (get_or slots at None) ≡ slice_index pages b + uses_of b v)
    → Stand next slots' names' serials' free' pages'
stand_set next slots slots' names names' serials serials' free free' pages pages' at v lt whole indexed counted
    new is n s f moved =
    let after : Stand next (set slots at v) names' serials' free' pages' = record {
      whole = whole_set next next slots at v (omega arith) whole is;
      indexed = index_set slots names serials free names' serials' free' at v whole.count
          (omega (arith, whole.count)) indexed n s f;
      counted = counted_set slots pages pages' at v lt counted moved;
    } in
    subst (λ (ss : Slots). Stand next ss names' serials' free' pages') (sym new) after

-- a file that is taken out, changed and put back is changed
pub put_back : (slots left : Slots) (change : LiveFile → LiveFile) (s : ℕ) (f g : LiveFile)
    → get_or slots s None ≡ Some f → left ≡ with_file s None slots → g ≡ change f
    → set left s (Some g) ≡ changed change s slots
put_back slots left change s f g is out same =
    ap (λ (ss : Slots). set ss s (Some g)) out ∙ set-set slots s None (Some g)
    ∙ ap (λ (h : LiveFile). set slots s (Some h)) same ∙ sym (changed_is change s slots f is)

-- ---- how many pages have a block

uses_whole : (next block : ℕ) (file : Option LiveFile) → IfSome file (IsWhole next) → uses_of block file ≤ 1008
uses_whole next block None whole = omega arith
uses_whole next block (Some f) whole = omega (arith, uses_few block f.blocks, whole.pages)

pub few_uses : (next : ℕ) (slots : Slots) (pages : List ℕ) → AreWhole next slots → AreCounted slots pages → (b : ℕ)
    → slice_index pages b ≤ 258048
few_uses next slots pages whole counted b =
    omega (
      arith,
      counted b,
      whole.count,
      sum_by-le (uses_of b) 1008 slots
          (All-weaker (λ file. IfSome file (IsWhole next)) (λ file. uses_of b file ≤ 1008) (uses_whole next b) slots
          whole.each),
    )

pub use_counted : (slots : Slots) (pages : List ℕ) → AreCounted slots pages → (s : ℕ) (f : LiveFile)
    → get_or slots s None ≡ Some f → (b : ℕ) → uses_in b f.blocks ≤ slice_index pages b
use_counted slots pages counted s f is b =
    omega (arith, counted b, ap (uses_of b) is, get_or-le-sum_by (uses_of b) slots s None (within_some slots s f is))

-- ---- a run of blocks

pub length-with_run : (page n first : ℕ) (blocks : List (Option ℕ)) → page + n ≤ length blocks
    → length (with_run page n first blocks) ≡ length blocks
length-with_run page n first blocks fit = omega (
  arith,
  length-append (take page blocks ++ run_of first n) (drop (page + n) blocks),
  length-append (take page blocks) (run_of first n),
  length-take page blocks,
  length-drop (page + n) blocks,
  length-map-range_with_len {X = Option ℕ} (λ (b : ℕ). Some b) first n,
)

pub with_run-more : (page n first : ℕ) (blocks : List (Option ℕ)) → page + n < length blocks
    → set (with_run page n first blocks) (page + n) (Some (first + n)) ≡ with_run page (n + 1) first blocks
with_run-more page n first blocks lt =
    let front : List (Option ℕ) = take page blocks ++ run_of first n in
    let rest : List (Option ℕ) = drop (page + n + 1) blocks in
    let len : length front ≡ page + n = omega (
      arith,
      length-append (take page blocks) (run_of first n),
      length-take page blocks,
      length-map-range_with_len {X = Option ℕ} (λ (b : ℕ). Some b) first n,
    ) in
    let last : List (Option ℕ) = Some (first + n) ∷ [] in
    ap (λ (r : List (Option ℕ)). set (front ++ r) (page + n) (Some (first + n)))
    (drop_more blocks (page + n) None lt)
    ∙ set_at front (get_or blocks (page + n) None) rest (Some (first + n)) (page + n) len
    ∙ sym (append_assoc front last rest)
    ∙ ap (λ (r : List (Option ℕ)). r ++ rest) (append_assoc (take page blocks) (run_of first n) last)
    ∙ ap (λ (r : List (Option ℕ)). take page blocks ++ r ++ rest)
    (sym (map-range_with_len_more {X = Option ℕ} (λ (b : ℕ). Some b) first n (first + n) refl))
    ∙ ap (λ (k : ℕ). take page blocks ++ run_of first (n + 1) ++ drop k blocks) (omega arith)

-- the slot where a file was made has one
pub made_live : (fs : Files) (at : Slot) (serial : Serial) (f : LiveFile) (slots : Slots)
    → next_file fs ≡ Some (at, serial) → slots ≡ with_file at.0 (Some f) fs.slots → IsSome (get_or slots at.0 None)
made_live fs at serial f slots next is =
    let free = is_free fs.slots at.0 (next_free fs at serial next) in
    ap (λ (ss : Slots). is_some (get_or ss at.0 None)) is
    ∙ ap is_some (get_or-set_same fs.slots at.0 (Some f) None free.within)
