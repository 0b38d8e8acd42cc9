-- The files that are there at the start.
use Rattle.std.proofs.Common.{◌≡◌, ℕ, zero, suc, ◌+◌, ◌-◌, ◌*◌, ◌<◌, ◌≤◌, Bool, false, List, [], ◌∷◌, ◌++◌, length, get_or, set, take, drop, map, max, replicate, Option, Some, None, refl, sym, subst, ap, ◌∙◌, cond, arith, nat_lt}
use Rattle.std.specs.Prelude.{is_none, option_map, slice_index, sum_by, bytes_eq, AllPairs, IfSome, IsFalse}
use Rattle.std.specs.List.{position_or_len}
use Rattle.std.proofs.lemmas.Bool.{lt-ltb}
use Rattle.std.proofs.lemmas.List.{set-set, set_at, get_or-set_same, drop-replicate, append_assoc, length-append, length-replicate, take_more, get_or-take, get_or_default, length-take, length-take-le}
use Rattle.std.proofs.lemmas.List.Sums.{sum_by-cons}
use Rattle.std.proofs.lemmas.List.Folds.{sum_by-replicate}
use Rattle.std.proofs.lemmas.List.Elements.{All-replicate}
use Rattle.split_types.specs.declared.workload.Preset.{Preset}
use Rattle.split_types.specs.LiveFiles.{LiveFile, Slots, has_name, slot_named, free_slot, made_file, grown_file, mapped_file, preset_file, preset_files, run_of, unmapped}
use Rattle.small_fs.specs.Files.{with_file, changed}
use Rattle.small_fs.specs.declared.keys.FileName.{FileName}
use Rattle.small_fs.specs.declared.keys.FileSerial.{FileSerial}
use Rattle.small_fs.specs.Keys.{name_key, serial_key, free_key}
use Rattle.small_fs.specs.Uses.{uses_of}
use Rattle.small_fs.specs.Fields.{IsWhole}
use Rattle.small_fs.proofs.KeyLaws.{none_is}
use Rattle.small_fs.proofs.FilesLaws.{changed_is, Stand}

-- the slots when these preset files are in
abbrev pub preset_front : ℕ → List Preset → ℕ → Slots
preset_front first files free = preset_files 0 first files ++ replicate free None

length-presets : (s b : ℕ) (fs : List Preset) → length (preset_files s b fs) ≡ length fs
length-presets s b [] = refl
length-presets s b (f ∷ fs) = ap suc (length-presets (s + 1) (b + f.pages) fs)

-- ---- the least free slot

all_taken : (s b : ℕ) (fs : List Preset) (rest : Slots)
    → position_or_len is_none (preset_files s b fs ++ None ∷ rest) ≡ length fs
all_taken s b [] rest = refl
all_taken s b (f ∷ fs) rest = omega (arith, all_taken (s + 1) (b + f.pages) fs rest)

-- the slots from a free one on
free_more : (free : ℕ) → 0 < free → replicate {A = Option LiveFile} free None ≡ None ∷ replicate (free - 1) None
free_more zero some = absurd (omega arith)
free_more (suc n) some =
    let left : n ≡ suc n - 1 = omega arith in
    ap (λ (k : ℕ). let slots : Slots = None ∷ replicate k None in slots) left

pub preset_free : (first : ℕ) (fs : List Preset) (free : ℕ) → 0 < free
    → free_slot (preset_front first fs free) ≡ Some (length fs)
preset_free first fs free some =
    let front : Slots = preset_files 0 first fs in
    let rest : Slots = replicate (free - 1) None in
    let at = all_taken 0 first fs rest in
    let lt : length fs < length (front ++ None ∷ rest) =
    omega (arith, length-append front (None ∷ rest), length-presets 0 first fs) in
    ap (λ (r : Slots). free_slot (front ++ r)) (free_more free some)
    ∙ ap (λ (n : ℕ). cond (nat_lt n (length (front ++ None ∷ rest))) (Some n) None) at
    ∙ ap (λ (t : Bool). let o : Option ℕ = cond t (Some (length fs)) None in o) (lt-ltb _ _ lt)

-- ---- names

none_there : (n k : ℕ) → get_or {A = Option LiveFile} (replicate n None) k None ≡ None
none_there zero k = refl
none_there (suc n) zero = refl
none_there (suc n) (suc k) = none_there n k

no_name_there : (name : List ℕ) (fs : List Preset) (s b n k : ℕ)
    → ((i : ℕ) (d : Preset) → i < length fs → bytes_eq (get_or fs i d).name name ≡ false)
    → has_name name (get_or (preset_files s b fs ++ replicate n None) k None) ≡ false
no_name_there name [] s b n k other = ap (has_name name) (none_there n k)
no_name_there name (f ∷ fs) s b n zero other = other 0 f (omega arith)
no_name_there name (f ∷ fs) s b n (suc k) other =
    no_name_there name fs (s + 1) (b + f.pages) n k (λ i d lt. other (suc i) d (omega arith))

pub preset_fresh : (first : ℕ) (fs : List Preset) (i free : ℕ) (f : Preset) → i < length fs → f ≡ get_or fs i f
    → AllPairs (λ f g. IsFalse (bytes_eq f.name g.name)) fs
    → slot_named (preset_front first (take i fs) free) f.name ≡ None
preset_fresh first fs i free f lt is apart =
    none_is (has_name f.name) (preset_front first (take i fs) free) None (λ k within.
    no_name_there f.name (take i fs) 0 first free k (λ j d small.
    let before : j < i = omega (arith, length-take i fs) in
    ap (λ (g : Preset). bytes_eq g.name f.name) (get_or-take i fs j d before)
    ∙ ap (λ (g : Preset). bytes_eq (get_or fs j d).name g.name) (is ∙ get_or_default fs i f d lt)
    ∙ apart j i d before lt))

-- ---- one file more

preset_push : (s b : ℕ) (fs : List Preset) (f : Preset) → preset_files s b (fs ++ f ∷ [])
    ≡ preset_files s b fs ++ Some (preset_file (s + length fs) (b + sum_by (λ f. f.pages) fs) f) ∷ []
preset_push s b [] f =
    let serial : s ≡ s + 0 = omega arith in
    let block : b ≡ b + 0 = omega arith in
    ap (λ (n : ℕ). let slots : Slots = Some (preset_file n b f) ∷ [] in slots) serial
    ∙ ap (λ (n : ℕ). let slots : Slots = Some (preset_file (s + 0) n f) ∷ [] in slots) block
preset_push s b (g ∷ fs) f =
    let serial : s + 1 + length fs ≡ s + length (g ∷ fs) = omega arith in
    let block : b + g.pages + sum_by (λ (f : Preset). f.pages) fs ≡ b + sum_by (λ (f : Preset). f.pages) (g ∷ fs) =
    omega (arith, sum_by-cons (λ (f : Preset). f.pages) g fs) in
    let tail : ℕ → ℕ → Slots = λ n m.
    Some (preset_file s b g) ∷ (preset_files (s + 1) (b + g.pages) fs ++ Some (preset_file n m f) ∷ []) in
    ap (λ (slots : Slots). let more : Slots = Some (preset_file s b g) ∷ slots in more)
    (preset_push (s + 1) (b + g.pages) fs f)
    ∙ ap (λ (n : ℕ). tail n (b + g.pages + sum_by (λ (f : Preset). f.pages) fs)) serial
    ∙ ap (tail (s + length (g ∷ fs))) block

pub preset_more : (first : ℕ) (fs : List Preset) (i free block : ℕ) (f : Preset) → i < length fs
    → f ≡ get_or fs i f → 0 < free → block ≡ first + sum_by (λ f. f.pages) (take i fs)
    → with_file i (Some (preset_file i block f)) (preset_front first (take i fs) free)
    ≡ preset_front first (take (i + 1) fs) (free - 1)
preset_more first fs i free block f lt is some at =
    let front : Slots = preset_files 0 first (take i fs) in
    let rest : Slots = replicate (free - 1) None in
    let len : length (take i fs) ≡ i = length-take-le i fs (omega arith) in
    let size : length front ≡ i = length-presets 0 first (take i fs) ∙ len in
    let serial : i ≡ 0 + length (take i fs) = omega arith in
    let last : ℕ → ℕ → Slots = λ n m. Some (preset_file n m f) ∷ [] in
    ap (λ (r : Slots). set (front ++ r) i (Some (preset_file i block f))) (free_more free some)
    ∙ set_at front None rest (Some (preset_file i block f)) i size
    ∙ sym (append_assoc front (last i block) rest)
    ∙ ap (λ (n : ℕ). front ++ last n block ++ rest) serial
    ∙ ap (λ (m : ℕ). front ++ last (0 + length (take i fs)) m ++ rest) at
    ∙ ap (λ (r : Slots). r ++ rest) (sym (preset_push 0 first (take i fs) f))
    ∙ ap (λ (gs : List Preset). preset_files 0 first gs ++ rest)
    (ap (λ (g : Preset). take i fs ++ g ∷ []) is ∙ sym (take_more fs i f lt))

-- ---- a file that was made, grown and mapped

mapped_once : (serial block : ℕ) (f : Preset) → f.pages ≤ 1008
    → mapped_file 0 f.pages block (4096 * f.pages)
    (grown_file (4096 * f.pages) (made_file (record { 0 = serial }) f.name)) ≡ preset_file serial block f
unfolding unmapped
mapped_once serial block f few =
    let file : ℕ → List (Option ℕ) → LiveFile = λ size bs.
    record { serial = record { 0 = serial }; name = f.name; size = size; disk_size = 4096 * f.pages; blocks = bs } in
    let grown : max 0 (4096 * f.pages) ≡ 4096 * f.pages = omega arith in
    let none_before : 0 + f.pages ≡ f.pages = omega arith in
    let none : drop (0 + f.pages) (replicate {A = Option ℕ} 1008 None) ≡ replicate (1008 - f.pages) None =
    ap (λ (n : ℕ). drop n (replicate {A = Option ℕ} 1008 None)) none_before ∙ drop-replicate f.pages 1008 None in
    ap (λ (size : ℕ). file size (run_of block f.pages ++ drop (0 + f.pages) (replicate 1008 None))) grown
    ∙ ap (λ (bs : List (Option ℕ)). file (4096 * f.pages) (run_of block f.pages ++ bs)) none

pub preset_in : (slots : Slots) (at serial block : ℕ) (f : Preset) → at < length slots → f.pages ≤ 1008
    → changed (mapped_file 0 f.pages block (4096 * f.pages)) at (changed (grown_file (4096 * f.pages)) at
    (with_file at (Some (made_file (record { 0 = serial }) f.name)) slots))
    ≡ with_file at (Some (preset_file serial block f)) slots
preset_in slots at serial block f lt few =
    let made : LiveFile = made_file (record { 0 = serial }) f.name in
    let grown : LiveFile = grown_file (4096 * f.pages) made in
    let first : changed (grown_file (4096 * f.pages)) at (set slots at (Some made)) ≡ set slots at (Some grown) =
    changed_is (grown_file (4096 * f.pages)) at (set slots at (Some made)) made
    (get_or-set_same slots at (Some made) None lt) ∙ set-set slots at (Some made) (Some grown) in
    let map_it : LiveFile → LiveFile = mapped_file 0 f.pages block (4096 * f.pages) in
    ap (changed map_it at) first
    ∙ changed_is map_it at (set slots at (Some grown)) grown (get_or-set_same slots at (Some grown) None lt)
    ∙ set-set slots at (Some grown) (Some (map_it grown))
    ∙ ap (λ (g : LiveFile). set slots at (Some g)) (mapped_once serial block f few)

-- ---- no file

none_keyed : {K : Type 0} (key : LiveFile → K) (n : ℕ) → replicate n None ≡ map (option_map key) (replicate n None)
none_keyed {K} key zero = refl
none_keyed {K} key (suc n) =
    ap (λ (ks : List (Option K)). let more : List (Option K) = None ∷ ks in more) (none_keyed key n)

pub stand_empty : (n : ℕ) (slots : Slots) (names : List (Option FileName)) (serials : List (Option FileSerial))
    (free : List (Option ℕ)) (pages : List ℕ) → n ≡ 256 → slots ≡ replicate n None → names ≡ replicate n None
    → serials ≡ replicate n None → length free ≡ n → ((s : ℕ) → s < n → get_or free s None ≡ Some s)
    → ((b : ℕ) → slice_index pages b ≡ 0) → Stand 0 slots names serials free pages
stand_empty n slots names serials free pages count none no_names no_serials len keys no_pages =
    let empty : Stand 0 (replicate n None) names serials free pages = record {
      whole = record {
        count = length-replicate {A = Option LiveFile} n None ∙ count;
        each = All-replicate (λ file. IfSome file (IsWhole 0)) n None tt;
      };
      indexed = record {
        names_are = no_names ∙ none_keyed name_key n;
        serials_are = no_serials ∙ none_keyed serial_key n;
        free_len = len ∙ count;
        free_are = λ s lt. keys s (omega arith) ∙ sym (ap (free_key s) (none_there n s));
      };
      counted = λ b. omega (arith, no_pages b, sum_by-replicate (uses_of b) n None);
    } in
    subst (λ (ss : Slots). Stand 0 ss names serials free pages) (sym none) empty
