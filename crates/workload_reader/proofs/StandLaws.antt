-- What is kept beside a workload while its lines are read.
use Rattle.std.proofs.Common.{◌≡◌, ◌≢◌, ℕ, zero, suc, ◌+◌, ◌<◌, ◌≤◌, ◌∙◌, Bool, true, false, List, [], ◌∷◌, ◌++◌}
use Rattle.std.proofs.Common.{length, get_or, set, replicate, slice_get, slice_index_or, Option, Some, None, All}
use Rattle.std.proofs.Common.{IsFalse, ap, refl, sym, arith, ◌⊎◌, inl, inr}
use Rattle.std.proofs.lemmas.Bool.{false≢true, cases_lt}
use Rattle.std.proofs.lemmas.List.{get_or-set_same, get_or-set_other, length-set, length_push, length-replicate}
use Rattle.std.proofs.lemmas.Option.{slice_get_within, get_or_from_slice_get}
use Rattle.std.proofs.lemmas.List.Sums.{sum_by_push}
use Rattle.std.specs.Str.{bytes_eq}
use Rattle.std.proofs.lemmas.Slice.Eq.{bytes_eq-Decides}
use Rattle.fixed_places.specs.Keys.{IsAbsent}
use Rattle.split_types.specs.declared.workload.Preset.{Preset}
use Rattle.split_types.specs.declared.workload.Workload.{Workload}
use Rattle.split_types.proofs.Shared.{slice_get-push, some_at, all_at}
use Rattle.workload_reader.specs.declared.file_name.FileName.{FileName}
use Rattle.workload_reader.specs.declared.line.Line.TheVariants as kind
use Rattle.workload_reader.specs.FileNames.{AreNames}
use Rattle.workload_reader.specs.Line.{nothing, with_line}
use Rattle.workload_reader.specs.Standing.{StandsFor}
use Rattle.workload_reader.specs.Table.{IsRight}

in_none : (n i : ℕ) → let none : Option FileName = None in slice_index_or (replicate n none) i None ≡ None
in_none zero i = refl
in_none (suc n) zero = refl
in_none (suc n) (suc i) = in_none n i

no_names : (keys : List (Option FileName)) → keys ≡ replicate 256 None → AreNames keys []
no_names keys none = record {
  places = ap length none ∙ length-replicate {A = Option FileName} 256 None;
  held = λ i f there. absurd (cc there);
  empty = λ i past. ap (λ l. slice_index_or l i None) none ∙ in_none 256 i;
}

-- before any line
pub begun : (names : List (Option FileName)) → names ≡ replicate 256 None → StandsFor nothing 0 0 0 0 names
begun names none = record {
  pages_are = refl;
  spanned_is = refl;
  turns_are = refl;
  least_is = record { above = λ n least k d within. absurd (omega arith); below = λ n all. omega arith };
  names_are = no_names names none;
  few_accounts = omega arith;
  few_procs = omega arith;
  device_most = omega arith;
  few_files = omega arith;
  few_pages = omega arith;
  few_spanned = omega arith;
  few_turns = omega arith;
}

-- one file more
pub one_more : (keys : List (Option FileName)) (files : List Preset) (f : Preset) → AreNames keys files
    → length files < 256
    → AreNames (set keys (length files) (Some (record { 0 = f.name }))) (files ++ f ∷ [])
one_more keys files f names few = record {
  places = length-set keys (length files) _ ∙ names.places;
  held = λ i g there. held i g (slice_get-push files f i g there);
  empty = λ i past.
      let far : i ≢ length files = λ e. absurd (omega (arith, length_push files f)) in
      get_or-set_other keys (length files) i _ None far ∙ names.empty i (omega (arith, length_push files f));
} where
  held : (i : ℕ) (g : Preset) → (slice_get files i ≡ Some g) ⊎ ((i ≡ length files) × (f ≡ g))
      → slice_index_or (set keys (length files) (Some (record { 0 = f.name }))) i None ≡ Some (record { 0 = g.name })
  held i g (inl old) =
      let within = slice_get_within files i g old in
      let far : i ≢ length files = λ e. absurd (omega arith) in
      get_or-set_other keys (length files) i _ None far ∙ names.held i g old
  held i g (inr new) =
      let within : length files < length keys = omega (arith, names.places) in
      ap (λ k. slice_index_or (set keys (length files) (Some (record { 0 = f.name }))) k None) new.0
      ∙ get_or-set_same keys (length files) _ None within
      ∙ ap (λ x. let key : FileName = record { 0 = x.name } in Some key) new.1

key_name : Option FileName → List ℕ
key_name (Some key) = key.0
key_name None = []

-- a place that holds a key is that of a file of that name
pub named_at : (keys : List (Option FileName)) (files : List Preset) (name : List ℕ) (i : ℕ) → AreNames keys files
    → slice_index_or keys i None ≡ Some (record { 0 = name })
    → (f : Preset) × (slice_get files i ≡ Some f) × (f.name ≡ name)
unfolding key_name
named_at keys files name i names there =
    let within : i < length files = by_place (cases_lt i (length files)) in
    let some = some_at files i within in
    (some.0, some.1, ap key_name (sym (names.held i some.0 some.1) ∙ there)) where
      by_place : (i < length files) ⊎ (length files ≤ i) → i < length files
      by_place (inl within) = within
      by_place (inr past) = absurd (cc (sym (names.empty i past) ∙ there))

-- no file has the name
pub absent : (keys : List (Option FileName)) (files : List Preset) (name : List ℕ) → AreNames keys files
    → All (λ g. IsFalse (bytes_eq g.name name)) files → IsAbsent keys (record { 0 = name })
absent keys files name names new i there =
    let at = named_at keys files name i names there in
    false≢true
    (sym (all_at (λ g. IsFalse (bytes_eq g.name name)) files i at.0 new at.1)
    ∙ (bytes_eq-Decides at.0.name name).1 at.2)

only_false : (b : Bool) → (b ≡ true → ⊥) → b ≡ false
only_false true never = absurd (never refl)
only_false false never = refl

-- a file of the name is at a place that holds it
held_at : (keys : List (Option FileName)) (files : List Preset) (name : List ℕ) (k : ℕ) (d : Preset)
    → AreNames keys files → k < length files → bytes_eq (get_or files k d).name name ≡ true
    → slice_index_or keys k None ≡ Some (record { 0 = name })
held_at keys files name k d names within same =
    let some = some_at files k within in
    let here : some.0.name ≡ name = ap (λ f. f.name) (sym (get_or_from_slice_get files k some.0 d some.1))
    ∙ (bytes_eq-Decides (get_or files k d).name name).0 same in
    names.held k some.0 some.1 ∙ ap (λ x. let key : FileName = record { 0 = x } in Some key) here

-- no place holds the name, so no file has it
pub new_name : (keys : List (Option FileName)) (files : List Preset) (name : List ℕ) → AreNames keys files
    → IsAbsent keys (record { 0 = name }) → All (λ g. IsFalse (bytes_eq g.name name)) files
new_name keys files name names none k d within =
    only_false (bytes_eq (get_or files k d).name name) (λ same. none k (held_at keys files name k d names within same))

-- one file more, that is right
pub one_file : (w : Workload) (f : Preset) (pages spanned turns least : ℕ) (names : List (Option FileName))
    → StandsFor w pages spanned turns least names → IsRight w (kind.File f)
    → StandsFor (with_line w (kind.File f)) (pages + f.pages) spanned turns least
    (set names (length w.files) (Some (record { 0 = f.name })))
one_file w f pages spanned turns least names s right =
    let few = right.few in
    let fits = right.fits in
    record {
      pages_are = ap (λ n. n + f.pages) s.pages_are ∙ sym (sum_by_push (λ g. g.pages) w.files f);
      spanned_is = s.spanned_is;
      turns_are = s.turns_are;
      least_is = s.least_is;
      names_are = one_more names w.files f s.names_are (omega arith);
      few_accounts = s.few_accounts;
      few_procs = s.few_procs;
      device_most = s.device_most;
      few_files = omega (arith, length_push w.files f);
      few_pages = omega (arith, s.pages_are, s.device_most);
      few_spanned = s.few_spanned;
      few_turns = s.few_turns;
    }
