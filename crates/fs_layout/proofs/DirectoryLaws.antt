-- The directory.
use Rattle.std.proofs.Common.{◌≡◌, ℕ, ◌+◌, ◌-◌, ◌*◌, ◌^◌, ◌<◌, ◌≤◌, Bool, IsTrue, List, [], ◌++◌, ◌∷◌, length, get_or, set, take, drop, Option, Some, None, refl, sym, ap, ◌∙◌, arith, All, nat_le, nat_lt, ◌&&◌}
use Rattle.std.specs.Prelude.{◌↔◌, IfSome, IsSomeAnd, MatchOption, flat_map}
use Rattle.std.proofs.Math.Seq.{take-add}
use Rattle.std.specs.Cmp.{first_so, second_so}
use Rattle.std.specs.List.{list_all}
use Rattle.std.proofs.lemmas.Bool.{leb-true}
use Rattle.std.proofs.lemmas.List.{take_at, drop_at, take_all, take-append-drop, length-append, drop_more, take_more, length-take-le, length-drop, append-nil}
use Rattle.std.proofs.lemmas.Slice.{take-put_mid}
use Rattle.std.proofs.lemmas.Option.{same_Some}
use borrow.Rule.Slice.PartMut.{put_mid}
use Rattle.std.proofs.lemmas.List.Elements.{All-head, All-tail, All-get_or, All-take, All-push}
use Rattle.std.proofs.lemmas.List.Concat.{flat_map-append}
use Rattle.split_types.specs.declared.ids.Serial.{Serial}
use Rattle.split_types.specs.Names.{is_name, is_name_byte}
use Rattle.split_types.specs.DiskLayout.{number, zeros, file_entry, free_entry, IsEntry}
use Rattle.fs_layout.specs.declared.directory.DirEntry.{DirEntry}
use Rattle.fs_layout.specs.declared.directory.DirImage.{DirImage}
use Rattle.fs_layout.specs.Directory.{file_spelling, IsFileImage, entry_spelling, IsEntryImage, dir_spelling, IsDirImage}
use Rattle.std.specs.Bool.{then_some}
use Rattle.std.specs.Option.{option_map}
use Rattle.fs_layout.specs.Reading.{IsReading}
use Rattle.fs_layout.proofs.ReadingLaws.{by_fields, none_read}
use Rattle.fs_layout.specs.Fields.{number_at, with_bytes}
use Rattle.fs_layout.proofs.FieldLaws.{AreBytes, length-zeros, number_again, filled_none, filled_bytes, filled_byte, number_taken, part_taken, zeros_follow, zeros_after, decides_too}

-- ---- an entry of a file

most_named : (name : List ℕ) → IsTrue (is_name name) → length name ≤ 32
most_named name named =
    let some_few = first_so (nat_lt 0 (length name) && nat_le (length name) 32) (list_all is_name_byte name) named in
    leb-true _ _ (second_so (nat_lt 0 (length name)) (nat_le (length name) 32) some_few)

abbrev head : Serial → List ℕ → List ℕ
head serial name = number (serial.0 + 1) ++ length name ∷ name

length-head : (serial : Serial) (name : List ℕ) → length (head serial name) ≡ 5 + length name
length-head serial name = omega arith

length-file_entry : (serial : Serial) (name : List ℕ) → length name ≤ 32 → length (file_entry serial name) ≡ 64
unfolding file_entry
length-file_entry serial name few = omega (
  arith,
  length-append (head serial name) (zeros (59 - length name)),
  length-zeros (59 - length name),
)

length-free_entry : length free_entry ≡ 64
unfolding free_entry
length-free_entry = length-zeros 64

pub length-entry : (e : Option DirEntry) → IsEntryImage e → length (entry_spelling e) ≡ 64
length-entry None value = length-free_entry
length-entry (Some e) value = length-file_entry e.serial e.name (most_named e.name value.named)

-- what stands in an entry of a file
pub record Enters (b : List ℕ) (serial : Serial) (name : List ℕ) : Type 0 where
  pub owner : number_at b 0 ≡ serial.0 + 1
  pub len : get_or b 4 0 ≡ length name
  pub named : take (length name) (drop 5 b) ≡ name

pub enters : (b : List ℕ) (y : DirEntry) → IsFileImage y → b ≡ file_spelling y → Enters b y.serial y.name
unfolding file_entry
enters b y value e = record {
  owner = rw e (number_again (y.serial.0 + 1) value.serial_fits);
  len = rw e refl;
  named = ap (λ (x : List ℕ). take (length y.name) (drop 5 x)) e ∙ take_at y.name (zeros (59 - length y.name))
      (length y.name) refl;
}

pub entry_written : (serial : Serial) (name old cleared owned sized done : List ℕ) → length name ≤ 32
    → length old ≡ 64 → cleared ≡ zeros (length old) → owned ≡ with_bytes cleared 0 (number (serial.0 + 1))
    → sized ≡ set owned 4 (length name) → done ≡ with_bytes sized 5 name → done ≡ file_entry serial name
unfolding file_entry
entry_written serial name old cleared owned sized done few len e0 e1 e2 e3 =
    let s0 = filled_none cleared 64 (e0 ∙ ap zeros len) in
    let s1 = filled_bytes cleared owned [] (number (serial.0 + 1)) 0 64 60 s0 e1 refl refl in
    let s2 = filled_byte owned sized (number (serial.0 + 1)) 4 60 59 (length name) s1 e2 refl refl in
    let s3 = filled_bytes sized done (number (serial.0 + 1) ++ length name ∷ []) name 5 59 (59 - length name) s2 e3
    refl (omega arith) in
    s3.filled

pub free_written : (old cleared : List ℕ) → length old ≡ 64 → cleared ≡ zeros (length old) → cleared ≡ free_entry
unfolding free_entry
free_written old cleared len e = e ∙ ap zeros len

pub entry_parts : (b : List ℕ) (serial : Serial) (name : List ℕ) → AreBytes b → length b ≡ 64
    → serial.0 + 1 ≡ number_at b 0 → serial.0 + 1 < 2 ^ 32 → length name ≡ get_or b 4 0 → length name ≤ 32
    → take (length name) (drop 5 b) ≡ name → IsTrue (is_name name)
    → (take (64 - (5 + length name)) (drop (5 + length name) b) ≡ zeros (64 - (5 + length name))) ↔
    (IsEntry serial name × (b ≡ file_entry serial name))
unfolding file_entry
entry_parts b serial name bytes len is_owner fits is_len few here named =
    let left : 64 - (5 + length name) ≡ 59 - length name = omega arith in
    let at = 5 + length name in (
      λ p.
          let none : take 0 b ≡ [] = refl in
          let first : take 4 b ≡ number (serial.0 + 1) = number_taken b [] 0 bytes (omega arith) none
          ∙ ap number (sym is_owner) in
          let one : take 5 b ≡ number (serial.0 + 1) ++ length name ∷ [] = take_more b 4 0 (omega arith)
          ∙ ap (λ (x : List ℕ). x ++ get_or b 4 0 ∷ []) first ∙ ap (λ (n : ℕ). number (serial.0 + 1) ++ n ∷ [])
          (sym is_len) in
          let third : take at b ≡ head serial name = part_taken b _ name 5 (length name) one here in
          let last : take (59 - length name) (drop at b) ≡ zeros (59 - length name) = rw (← left) p in (
            record { serial_fits = fits; named = named },
            zeros_follow b (head serial name) at (59 - length name)
                (omega arith) third last,
          ),
      λ q. rw left (zeros_after b (head serial name) at (59 - length name) q.1 (length-head serial name)),
    )

pub file_again : (y : DirEntry) (b name : List ℕ) (serial : Serial) → serial.0 + 1 ≡ number_at b 0
    → name ≡ take (get_or b 4 0) (drop 5 b) → IsFileImage y → b ≡ file_spelling y
    → (let x : DirEntry = record { serial = serial; name = name } in x ≡ y)
file_again y b name serial is_owner is_name value e =
    let says = enters b y value e in
    let same : serial.0 ≡ y.serial.0 = omega (arith, is_owner ∙ says.owner) in
    let first : serial ≡ y.serial = rw same refl in
    let second : name ≡ y.name = is_name ∙ ap (λ (n : ℕ). take n (drop 5 b)) says.len ∙ says.named in
    rw (first, second) refl

-- ---- what is read of an entry of a file

-- the bytes of the name, as a part of the entry
named_part : (b : List ℕ) (n : ℕ) → take (5 + n - 5) (drop 5 b) ≡ take n (drop 5 b)
named_part b n = let same : 5 + n - 5 ≡ n = omega arith in ap (λ (k : ℕ). take k (drop 5 b)) same

pub too_long : (b : List ℕ) → 32 < get_or b 4 0 → IsReading IsFileImage file_spelling b None
too_long b long = none_read IsFileImage file_spelling b (λ y value e. let says =
    enters b y value e in omega (arith, says.len, most_named y.name value.named))

pub unnamed : (b : List ℕ) (n : ℕ) → n ≡ get_or b 4 0 → (IsTrue (is_name (take (5 + n - 5) (drop 5 b))) → ⊥)
    → IsReading IsFileImage file_spelling b None
unnamed b n is no_name = none_read IsFileImage file_spelling b (λ y value e.
    let says = enters b y value e in
    let same : take (5 + n - 5) (drop 5 b) ≡ y.name = named_part b n ∙ ap (λ (k : ℕ). take k (drop 5 b)) (is
    ∙ says.len) ∙ says.named in
    no_name (rw same value.named))

pub file_found : (b name : List ℕ) (n : ℕ) (serial : Serial) (test : Bool) → AreBytes b → length b ≡ 64
    → serial.0 + 1 ≡ number_at b 0 → serial.0 + 1 < 2 ^ 32 → n ≡ get_or b 4 0 → n ≤ 32
    → name ≡ take (5 + n - 5) (drop 5 b) → IsTrue (is_name (take (5 + n - 5) (drop 5 b)))
    → (IsTrue test ↔ (take (64 - (5 + n)) (drop (5 + n) b) ≡ zeros (64 - (5 + n))))
    → IsReading IsFileImage file_spelling b (then_some {T = DirEntry} test (record {
      serial = serial;
      name =
          name;
    }))
file_found b name n serial test bytes len is_owner fits is few here named says =
    let part : name ≡ take n (drop 5 b) = here ∙ named_part b n in
    let size : length name ≡ n = ap length part ∙ length-take-le n (drop 5 b) (omega (arith, length-drop 5 b)) in
    let decides = decides_too test (entry_parts b serial name bytes len is_owner fits (size
    ∙ is) (omega (arith, size)) (ap (λ (k : ℕ). take k (drop 5 b)) size ∙ sym part) (rw here named))
    (rw size says) in
    by_fields IsFileImage file_spelling b _ test (λ y value e. file_again y b name serial is_owner (part
    ∙ ap (λ (k : ℕ). take k (drop 5 b)) is) value e) decides

-- ---- any entry

free_number : (b : List ℕ) → b ≡ free_entry → number_at b 0 ≡ 0
unfolding free_entry zeros
free_number b e = rw e refl

none_again : (b : List ℕ) (y : Option DirEntry) → number_at b 0 ≡ 0 → IsEntryImage y → b ≡ entry_spelling y
    → (let x : Option DirEntry = None in x ≡ y)
none_again b None free value e = refl
none_again b (Some y) free value e = let says = enters b y value e in absurd (omega (arith, free, says.owner))

pub free_read : (b : List ℕ) (test : Bool) → length b ≡ 64 → number_at b 0 ≡ 0
    → (IsTrue test ↔ (take 64 (drop 0 b) ≡ zeros 64))
    → IsReading IsEntryImage entry_spelling b (then_some {T = Option DirEntry} test None)
unfolding free_entry
free_read b test len free says = by_fields IsEntryImage entry_spelling b None test (λ y value e. none_again b y free
    value e)
    (λ t. (tt, sym (take_all 64 b (omega arith)) ∙ says.0 t), λ q. says.1 (take_all 64 b (omega arith) ∙ q.1))

-- an entry whose number isn't 0 is that of a file
pub file_read : (b : List ℕ) (read : Option DirEntry) → (number_at b 0 ≡ 0 → ⊥)
    → IsReading IsFileImage file_spelling b read → IsReading IsEntryImage entry_spelling b (option_map Some read)
file_read b read some is = record { found = found_file b read is.found; only = only_file b read some is.only } where
  found_file : (b : List ℕ) (read : Option DirEntry) → IfSome read (λ x. IsFileImage x × (b ≡ file_spelling x))
      → IfSome (option_map Some read) (λ x. IsEntryImage x × (b ≡ entry_spelling x))
  found_file b None found = tt
  found_file b (Some x) found = found

  only_file : (b : List ℕ) (read : Option DirEntry) → (number_at b 0 ≡ 0 → ⊥) → ((x : DirEntry) → IsFileImage x
      → b ≡ file_spelling x → read ≡ Some x) → (y : Option DirEntry) → IsEntryImage y → b ≡ entry_spelling y
      → option_map Some read ≡ Some y
  only_file b read some only None value e = absurd (some (free_number b e))
  only_file b read some only (Some y) value e = ap (option_map Some) (only y value e)

pub mapped : (r : Option DirEntry) (s : Option (Option DirEntry))
    → MatchOption r (s ≡ None) (λ x. IsSomeAnd s (λ z. z ≡ Some x)) → s ≡ option_map Some r
mapped None s e = e
mapped (Some x) None e = absurd e
mapped (Some x) (Some z) e = ap Some e

-- ---- all entries

abbrev entries_text : List (Option DirEntry) → List ℕ
entries_text es = flat_map entry_spelling es

pub length-entries : (es : List (Option DirEntry)) → All IsEntryImage es → length (entries_text es) ≡ 64 * length es
length-entries [] values = refl
length-entries (e ∷ es) values =
    let first = length-entry e (All-head IsEntryImage e es values) in
    let rest = length-entries es (All-tail IsEntryImage e es values) in
    omega (arith, length-append (entry_spelling e) (entries_text es))

entries_more : {X : Type 0} (spelling : X → List ℕ) (es : List X) (j : ℕ) (e : X) → j < length es
    → e ≡ get_or es j e
    → flat_map spelling (take (j + 1) es) ≡ flat_map spelling (take j es) ++ spelling e
entries_more {X} spelling es j e lt is = ap (flat_map spelling) (take_more es j e lt)
    ∙ flat_map-append spelling (take j es) (get_or es j e ∷ []) ∙ ap (λ (x : List ℕ).
    flat_map spelling (take j es) ++ x)
    (append-nil (spelling (get_or es j e)) ∙ ap spelling (sym is))

-- one entry more was put
pub put_dir_more : {X : Type 0} (spelling : X → List ℕ) (es : List X) (out new ys : List ℕ) (j k : ℕ) (e : X)
    → j < length es → e ≡ get_or es j e → ys ≡ spelling e → length ys ≡ 64 → 64 * j ≤ length out
    → new ≡ put_mid (64 * j) k out ys
    → take (64 * j) out ≡ flat_map spelling (take j es)
    → take (64 * (j + 1)) new ≡ flat_map spelling (take (j + 1) es)
put_dir_more {X} spelling es out new ys j k e lt is spelled len within put before =
    ap (take (64 * (j + 1))) put ∙ take-put_mid (64 * j) k out ys (64 * (j + 1)) (omega arith) within
    ∙ ap (λ (x : List ℕ). x ++ ys) before ∙ ap (λ (x : List ℕ). flat_map spelling (take j es) ++ x) spelled
    ∙ sym (entries_more spelling es j e lt is)

-- the piece of a block at a place of an entry
pub piece : (es : List (Option DirEntry)) (j : ℕ) → All IsEntryImage es → j < length es
    → take 64 (drop (64 * j) (entries_text es)) ≡ entry_spelling (get_or es j None)
piece es j values lt =
    let front : length (entries_text (take j es)) ≡ 64 * j = length-entries (take j es) (All-take IsEntryImage j es
    values) ∙ ap (λ (n : ℕ). 64 * n) (length-take-le j es (omega arith)) in
    let split : es ≡ take j es ++ get_or es j None ∷ drop (j + 1) es = sym (take-append-drop j es)
    ∙ ap (λ (x : List (Option DirEntry)). take j es ++ x) (drop_more es j None lt) in
    let spelled : entries_text es ≡ entries_text (take j es) ++ (entry_spelling (get_or es j None) ++ entries_text
    (drop (j + 1) es)) = ap entries_text split ∙ flat_map-append entry_spelling (take j es)
    (get_or es j None ∷ drop (j + 1) es) in
    ap (λ (x : List ℕ). take 64 (drop (64 * j) x)) spelled
    ∙ ap (take 64) (drop_at (entries_text (take j es)) _ (64 * j) front)
    ∙ take_at (entry_spelling (get_or es j None)) _ 64 (length-entry _ (All-get_or IsEntryImage es j None lt
    values))

length_part : (j : ℕ) → 64 * j + 64 - 64 * j ≡ 64
length_part j = omega arith

pub no_entry : (b : List ℕ) (j : ℕ) → j < 64 → IsReading IsEntryImage entry_spelling (take (64 * j + 64 - 64 * j)
    (drop (64 * j) b)) None → IsReading IsDirImage dir_spelling b None
no_entry b j lt refused = none_read IsDirImage dir_spelling b (λ y value e.
    let within : j < length y.entries = omega (arith, value.slots) in
    let here : take (64 * j + 64 - 64 * j) (drop (64 * j) b) ≡ entry_spelling (get_or y.entries j None) =
    ap (λ (n : ℕ). take n (drop (64 * j) b)) (length_part j) ∙ ap (λ (x : List ℕ). take 64 (drop (64 * j) x)) e
    ∙ piece y.entries j value.entries within in
    let read = refused.only (get_or y.entries j None) (All-get_or IsEntryImage y.entries j None within value.entries)
    here in absurd cc)

pub record IsReadTo (b : List ℕ) (j : ℕ) (es : List (Option DirEntry)) : Type 0 where
  pub len : length es ≡ j
  pub found : take (64 * j) b ≡ entries_text es
  pub values : All IsEntryImage es
  pub only : (y : DirImage) → IsDirImage y → b ≡ dir_spelling y → take j y.entries ≡ es

pub read_more : (b : List ℕ) (j : ℕ) (es : List (Option DirEntry)) (e : Option DirEntry) → j < 64 → IsReadTo b j es
    → IsReading IsEntryImage entry_spelling (take (64 * j + 64 - 64 * j) (drop (64 * j) b)) (Some e)
    → IsReadTo b (j + 1) (es ++ e ∷ [])
read_more b j es e lt so_far read =
    let next : 64 * (j + 1) ≡ 64 * j + 64 = omega arith in
    let part : take 64 (drop (64 * j) b) ≡ take (64 * j + 64 - 64 * j) (drop (64 * j) b) =
    ap (λ (n : ℕ). take n (drop (64 * j) b)) (sym (length_part j)) in
    record {
      len = length-append es (e ∷ []) ∙ ap (λ (n : ℕ). n + 1) so_far.len;
      found = ap (λ (n : ℕ). take n b) next ∙ take-add (64 * j) 64 b
          ∙ ap (λ (x : List ℕ). x ++ take 64 (drop (64 * j) b)) so_far.found
          ∙ ap (λ (x : List ℕ). entries_text es ++ x) (part ∙ read.found.1 ∙ sym (append-nil (entry_spelling e)))
          ∙ sym (flat_map-append entry_spelling es (e ∷ []));
      values = All-push IsEntryImage es e so_far.values read.found.0;
      only = λ y value spelled.
          let within : j < length y.entries = omega (arith, value.slots) in
          let here : take (64 * j + 64 - 64 * j) (drop (64 * j) b) ≡ entry_spelling (get_or y.entries j None) =
          sym part ∙ ap (λ (x : List ℕ). take 64 (drop (64 * j) x)) spelled
          ∙ piece y.entries j value.entries within in
          let same = read.only (get_or y.entries j None) (All-get_or IsEntryImage y.entries j None within
          value.entries) here in
          let is : get_or y.entries j None ≡ e = sym (same_Some e (get_or y.entries j None) same) in
          take_more y.entries j None within ∙ ap (λ (x : List (Option DirEntry)). x ++ get_or y.entries j None ∷ [])
          (so_far.only y value spelled) ∙ ap (λ (x : Option DirEntry). es ++ x ∷ []) is;
    }

pub length-dir : (y : DirImage) → IsDirImage y → length (dir_spelling y) ≡ 4096
length-dir y value = length-entries y.entries value.entries ∙ ap (λ (n : ℕ). 64 * n) value.slots

pub all_read : (b : List ℕ) (es : List (Option DirEntry)) → length b ≡ 4096 → IsReadTo b 64 es
    → IsReading IsDirImage dir_spelling b (let x : DirImage = record { entries = es } in Some x)
all_read b es len whole = record {
  found = (record { slots = whole.len; entries = whole.values }, sym (take_all 4096 b (omega arith)) ∙ whole.found);
  only = λ y value spelled.
      let same : y.entries ≡ es = sym (take_all 64 y.entries (omega (arith, value.slots)))
      ∙ whole.only y value spelled in
      rw (← same) refl;
}
