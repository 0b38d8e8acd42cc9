-- The events of threads, and answers, that numbers make.
use Rattle.std.proofs.Common.{◌≡◌, ℕ, ◌≤◌, ◌==◌, ◌∙◌, Bool, true, false, List, [], ◌∷◌, length, get_or, if◌then◌else◌, Some, ap, refl, sym, subst, arith, eqb-true}
use Rattle.std.proofs.lemmas.Bool.Decides.{nat_tests}
use Rattle.split_types.specs.EventText.{flag}
use Rattle.workload_reader.specs.Fields.{Keeps, IsWithin}
use Rattle.trace_text.specs.declared.numbers.Numbers.{Numbers}
use Rattle.trace_text.specs.declared.row.ThreadRow.{ThreadRow}
use Rattle.trace_text.specs.declared.row.ThreadRow.TheVariants as thread
use Rattle.trace_text.specs.declared.row.RequestRow.{RequestRow}
use Rattle.trace_text.specs.declared.row.RequestRow.TheVariants as asked
use Rattle.trace_text.specs.declared.row.ReplyRow.{ReplyRow}
use Rattle.trace_text.specs.declared.row.ReplyRow.TheVariants as answer
use Rattle.trace_text.specs.EventLines.{EventLine, Shown, smalls, wides, reply_smalls, reply_wides, AreInRange, IsReplyInRange, IsFormed, IsInRange}
use Rattle.trace_text.specs.Numbers.{LineNumbers, HasCounts, wide_of, Holds}
use Rattle.trace_text.specs.Rows.{Thread, thread_count, thread_is_wide, thread_line, map_event, odd_map, shown, request_count, request_event, read_event, reply_count, reply_is_wide, reply_of}
use Rattle.trace_text.specs.Tails.{row_of, number_of, Says}
use Rattle.trace_text.proofs.ClientEvents.{from, all_of_them, in_range, out_of_range, smalls_are, wides_are, none_left}

-- a line of a thread with these numbers
pub record IsThreadLine (adds : ℕ) (row : ThreadRow) (ns ws : List ℕ) (l : EventLine) : Type 0 where
  pub formed : IsFormed adds l
  pub row_is : row_of l ≡ Thread row
  pub number_is : number_of l ≡ []
  pub smalls_is : smalls l ≡ ns
  pub wides_is : wides l ≡ ws
  pub shows : (most : ℕ) → AreInRange (smalls l) (wides l) → Says most l (shown l)
  pub ranged : (most : ℕ) → IsInRange most l → AreInRange (smalls l) (wides l)

seventh : (ns : List ℕ) (new : ℕ) → length ns ≡ 7 → new ≡ get_or ns 5 0
    → get_or ns 0 0 ∷ get_or ns 1 0 ∷ get_or ns 2 0 ∷ get_or ns 3 0 ∷ get_or ns 4 0 ∷ new ∷ get_or ns 6 0 ∷ [] ≡ ns
seventh ns new is same = ap (λ k. get_or ns 0 0 ∷ get_or ns 1 0 ∷ get_or ns 2 0 ∷ get_or ns 3 0 ∷ get_or ns 4 0 ∷ k ∷
    get_or ns 6 0 ∷ []) same ∙ all_of_them 7 ns is

map_is_line : (adds : ℕ) (ns ws : List ℕ) (zero_is one_is : Bool) → (get_or ns 5 0 == 0) ≡ zero_is
    → (get_or ns 5 0 == 1) ≡ one_is → length ns ≡ 7 → length ws ≡ 0
    → IsThreadLine adds thread.Map ns ws (if zero_is then map_event ns false
    else (if one_is then map_event ns true else odd_map ns (get_or ns 5 0)))
map_is_line adds ns ws true one_is zero_e one_e is none = record {
  formed = tt;
  row_is = refl;
  number_is = refl;
  smalls_is = seventh ns 0 is (sym (eqb-true (get_or ns 5 0) 0 zero_e));
  wides_is = none_left ws none;
  shows = λ most range. (refl, (tt, range));
  ranged = λ most range. range.1;
}
map_is_line adds ns ws false true zero_e one_e is none = record {
  formed = tt;
  row_is = refl;
  number_is = refl;
  smalls_is = seventh ns 1 is (sym (eqb-true (get_or ns 5 0) 1 one_e));
  wides_is = none_left ws none;
  shows = λ most range. (refl, (tt, range));
  ranged = λ most range. range.1;
}
map_is_line adds ns ws false false zero_e one_e is none = record {
  formed = above (get_or ns 5 0) zero_e one_e;
  row_is = refl;
  number_is = refl;
  smalls_is = seventh ns (get_or ns 5 0) is refl;
  wides_is = none_left ws none;
  shows = λ most range never. never;
  ranged = λ most never. absurd never;
} where
  above : (n : ℕ) → (n == 0) ≡ false → (n == 1) ≡ false → 2 ≤ n
  above n no_zero no_one = grind (arith, nat_tests)

-- each row's
pub thread_is_line : (adds : ℕ) (row : ThreadRow) (ns ws : List ℕ) → length ns ≡ thread_count row
    → length ws ≡ flag (thread_is_wide row) → IsThreadLine adds row ns ws (thread_line row ns ws)
thread_is_line adds thread.Serve ns ws is wide = record {
  formed = tt;
  row_is = refl;
  number_is = refl;
  smalls_is = all_of_them 3 ns is;
  wides_is = none_left ws wide;
  shows = λ most range. (refl, (tt, range));
  ranged = λ most range. range.1;
}
thread_is_line adds thread.Map ns ws is wide = map_is_line adds ns ws (get_or ns 5 0 == 0) (get_or ns 5 0 == 1) refl
    refl is wide
thread_is_line adds thread.Skip ns ws is wide = record {
  formed = tt;
  row_is = refl;
  number_is = refl;
  smalls_is = all_of_them 0 ns is;
  wides_is = none_left ws wide;
  shows = λ most range. (refl, (tt, range));
  ranged = λ most range. range.1;
}
thread_is_line adds thread.Seal ns ws is wide = record {
  formed = tt;
  row_is = refl;
  number_is = refl;
  smalls_is = all_of_them 2 ns is;
  wides_is = none_left ws wide;
  shows = λ most range. (refl, (tt, range));
  ranged = λ most range. range.1;
}
thread_is_line adds thread.Send ns ws is wide = record {
  formed = tt;
  row_is = refl;
  number_is = refl;
  smalls_is = all_of_them 1 ns is;
  wides_is = all_of_them 1 ws wide;
  shows = λ most range. (refl, (tt, range));
  ranged = λ most range. range.1;
}
thread_is_line adds thread.Tick ns ws is wide = record {
  formed = tt;
  row_is = refl;
  number_is = refl;
  smalls_is = all_of_them 0 ns is;
  wides_is = all_of_them 1 ws wide;
  shows = λ most range. (refl, (tt, range));
  ranged = λ most range. range.1;
}

thread_few : (row : ThreadRow) → thread_count row ≤ 7
thread_few thread.Serve = omega arith
thread_few thread.Map = omega arith
thread_few thread.Skip = omega arith
thread_few thread.Seal = omega arith
thread_few thread.Send = omega arith
thread_few thread.Tick = omega arith

thread_first : (row : ThreadRow) (n : Numbers) → thread_line row (from 0 (thread_count row) n.small)
    (wide_of (thread_is_wide row) n) ≡ thread_line row n.small (n.wide ∷ [])
thread_first thread.Serve n = refl
thread_first thread.Map n = refl
thread_first thread.Skip n = refl
thread_first thread.Seal n = refl
thread_first thread.Send n = refl
thread_first thread.Tick n = refl

pub thread_out : (row : ThreadRow) (most : ℕ) (x : LineNumbers) (n : Numbers)
    → HasCounts (thread_count row) (thread_is_wide row) x → Holds (thread_count row) (thread_is_wide row) x n
    → n.within ≡ false → IsInRange most (thread_line row x.0 x.1) → ⊥
thread_out row most x n counts holds unfit range =
    let is = thread_is_line 0 row x.0 x.1 counts.0 counts.1 in
    out_of_range holds unfit (subst (AreInRange x.0) is.wides_is
    (subst (λ ns. AreInRange ns (wides (thread_line row x.0 x.1))) is.smalls_is (is.ranged most range)))

pub thread_made : (row : ThreadRow) (most : ℕ) (x : LineNumbers) (n : Numbers)
    → HasCounts (thread_count row) (thread_is_wide row) x → Holds (thread_count row) (thread_is_wide row) x n
    → n.within ≡ true → Says most (thread_line row x.0 x.1) (shown (thread_line row n.small (n.wide ∷ [])))
thread_made row most x n counts holds fits =
    let is = thread_is_line 0 row x.0 x.1 counts.0 counts.1 in
    let them = ap (λ ns. thread_line row ns x.1) (smalls_are holds fits (thread_few row))
    ∙ ap (λ ws. thread_line row (from 0 (thread_count row) n.small) ws) (wides_are holds fits)
    ∙ thread_first row n in
    subst (λ l. Says most (thread_line row x.0 x.1) (shown l)) them
    (is.shows most (subst (λ ns. AreInRange ns (wides (thread_line row x.0 x.1))) (sym is.smalls_is)
    (subst (AreInRange x.0) (sym is.wides_is) (in_range holds fits))))

pub request_smalls : (row : RequestRow) (adds : ℕ) (ns : List ℕ) → length ns ≡ request_count row
    → smalls (Shown (request_event row adds ns)) ≡ ns
request_smalls asked.Pages adds ns is = all_of_them 4 ns is
request_smalls asked.Log adds ns is = all_of_them 3 ns is
request_smalls asked.Commit adds ns is = all_of_them 3 ns is
request_smalls asked.Home adds ns is = all_of_them 3 ns is
request_smalls asked.Clear adds ns is = all_of_them 3 ns is

request_few : (row : RequestRow) → request_count row ≤ 7
request_few asked.Pages = omega arith
request_few asked.Log = omega arith
request_few asked.Commit = omega arith
request_few asked.Home = omega arith
request_few asked.Clear = omega arith

request_first : (row : RequestRow) (adds : ℕ) (small : List ℕ)
    → request_event row adds (from 0 (request_count row) small) ≡ request_event row adds small
request_first asked.Pages adds small = refl
request_first asked.Log adds small = refl
request_first asked.Commit adds small = refl
request_first asked.Home adds small = refl
request_first asked.Clear adds small = refl

request_actor : (row : RequestRow) (most adds : ℕ) (ns : List ℕ)
    → AreInRange (smalls (Shown (request_event row adds ns))) [] → IsInRange most (Shown (request_event row adds ns))
request_actor asked.Pages most adds ns range = (tt, range)
request_actor asked.Log most adds ns range = (tt, range)
request_actor asked.Commit most adds ns range = (tt, range)
request_actor asked.Home most adds ns range = (tt, range)
request_actor asked.Clear most adds ns range = (tt, range)

pub request_out : (row : RequestRow) (most adds : ℕ) (x : LineNumbers) (n : Numbers)
    → HasCounts (request_count row) false x → Holds (request_count row) false x n
    → n.within ≡ false → IsInRange most (Shown (request_event row adds x.0)) → ⊥
request_out row most adds x n counts holds unfit range =
    out_of_range holds unfit (subst (AreInRange x.0) (none_left x.1 counts.1)
    (subst (λ ns. AreInRange ns []) (request_smalls row adds x.0 counts.0) range.1))

pub request_made : (row : RequestRow) (most adds : ℕ) (x : LineNumbers) (n : Numbers)
    → HasCounts (request_count row) false x → Holds (request_count row) false x n
    → n.within ≡ true → Says most (Shown (request_event row adds x.0)) (Some (request_event row adds n.small))
request_made row most adds x n counts holds fits = (
  ap (λ ns. Shown (request_event row adds ns)) (smalls_are holds fits (request_few row))
      ∙ ap (λ e. Shown e) (request_first row adds n.small),
  request_actor row most adds x.0 (subst (λ ns. AreInRange ns []) (sym (request_smalls row adds x.0 counts.0))
      (subst (AreInRange x.0) (sym (none_left x.1 counts.1)) (in_range holds fits))),
)

pub read_range : (p most adds : ℕ) (x : LineNumbers) → HasCounts 4 false x
    → IsInRange most (Shown (read_event (record { 0 = p }) adds x.0)) → IsWithin 1 most p × AreInRange x.0 x.1
read_range p most adds x counts range = (
  (range.0.least, range.0.most),
  subst (AreInRange x.0) (none_left x.1 counts.1)
      (subst (λ ns. AreInRange ns []) (all_of_them 4 x.0 counts.0) range.1),
)

pub read_out : (p most adds : ℕ) (x : LineNumbers) (n : Numbers) → HasCounts 4 false x → Holds 4 false x n
    → n.within ≡ false → IsInRange most (Shown (read_event (record { 0 = p }) adds x.0)) → ⊥
read_out p most adds x n counts holds unfit range = out_of_range holds unfit (read_range p most adds x counts range).1

pub read_made : (p q most adds : ℕ) (x : LineNumbers) (n : Numbers) → (q ≡ p) × IsWithin 1 most p → HasCounts 4 false x
    → Holds 4 false x n → n.within ≡ true
    → Says most (Shown (read_event (record { 0 = p }) adds x.0)) (Some (read_event (record { 0 = q }) adds n.small))
read_made p q most adds x n in_it counts holds fits = (
  ap (λ ns. Shown (read_event (record { 0 = p }) adds ns)) (smalls_are holds fits (omega arith))
      ∙ ap (λ k. Shown (read_event (record { 0 = k }) adds n.small)) (sym in_it.0),
  (
    record { least = in_it.1.0; most = in_it.1.1 },
    subst (λ ns. AreInRange ns []) (sym (all_of_them 4 x.0 counts.0))
        (subst (AreInRange x.0) (sym (none_left x.1 counts.1)) (in_range holds fits)),
  ),
)

pub reply_smalls_are : (row : ReplyRow) (ns ws : List ℕ) → length ns ≡ reply_count row
    → reply_smalls (reply_of row ns ws) ≡ ns
reply_smalls_are answer.Count ns ws is = all_of_them 1 ns is
reply_smalls_are answer.NoSpace ns ws is = all_of_them 1 ns is
reply_smalls_are answer.Done ns ws is = none_left ns is
reply_smalls_are answer.NoFile ns ws is = none_left ns is
reply_smalls_are answer.Exists ns ws is = none_left ns is
reply_smalls_are answer.NoSlot ns ws is = none_left ns is
reply_smalls_are answer.TooBig ns ws is = none_left ns is
reply_smalls_are answer.Stopped ns ws is = none_left ns is
reply_smalls_are answer.ReadFault ns ws is = none_left ns is

pub reply_wides_are : (row : ReplyRow) (ns ws : List ℕ) → length ws ≡ flag (reply_is_wide row)
    → reply_wides (reply_of row ns ws) ≡ ws
reply_wides_are answer.Count ns ws is = all_of_them 1 ws is
reply_wides_are answer.NoSpace ns ws is = none_left ws is
reply_wides_are answer.Done ns ws is = none_left ws is
reply_wides_are answer.NoFile ns ws is = none_left ws is
reply_wides_are answer.Exists ns ws is = none_left ws is
reply_wides_are answer.NoSlot ns ws is = none_left ws is
reply_wides_are answer.TooBig ns ws is = none_left ws is
reply_wides_are answer.Stopped ns ws is = none_left ws is
reply_wides_are answer.ReadFault ns ws is = none_left ws is

reply_few : (row : ReplyRow) → reply_count row ≤ 7
reply_few answer.Count = omega arith
reply_few answer.NoSpace = omega arith
reply_few answer.Done = omega arith
reply_few answer.NoFile = omega arith
reply_few answer.Exists = omega arith
reply_few answer.NoSlot = omega arith
reply_few answer.TooBig = omega arith
reply_few answer.Stopped = omega arith
reply_few answer.ReadFault = omega arith

reply_first : (row : ReplyRow) (n : Numbers) → reply_of row n.small (n.wide ∷ [])
    ≡ reply_of row (from 0 (reply_count row) n.small) (wide_of (reply_is_wide row) n)
reply_first answer.Count n = refl
reply_first answer.NoSpace n = refl
reply_first answer.Done n = refl
reply_first answer.NoFile n = refl
reply_first answer.Exists n = refl
reply_first answer.NoSlot n = refl
reply_first answer.TooBig n = refl
reply_first answer.Stopped n = refl
reply_first answer.ReadFault n = refl

pub reply_out : (row : ReplyRow) (x : LineNumbers) (n : Numbers) → HasCounts (reply_count row) (reply_is_wide row) x
    → Holds (reply_count row) (reply_is_wide row) x n
    → n.within ≡ false → IsReplyInRange (reply_of row x.0 x.1) → ⊥
reply_out row x n counts holds unfit range =
    out_of_range holds unfit (subst (AreInRange x.0) (reply_wides_are row x.0 x.1 counts.1)
    (subst (λ ns. AreInRange ns (reply_wides (reply_of row x.0 x.1))) (reply_smalls_are row x.0 x.1 counts.0)
    range))

pub reply_made : (row : ReplyRow) (x : LineNumbers) (n : Numbers) → HasCounts (reply_count row) (reply_is_wide row) x
    → Holds (reply_count row) (reply_is_wide row) x n
    → n.within ≡ true → Keeps IsReplyInRange (reply_of row x.0 x.1) (Some (reply_of row n.small (n.wide ∷ [])))
reply_made row x n counts holds fits = (
  reply_first row n
      ∙ ap (λ ws. reply_of row (from 0 (reply_count row) n.small) ws) (sym (wides_are holds fits))
      ∙ ap (λ ns. reply_of row ns x.1) (sym (smalls_are holds fits (reply_few row))),
  subst (λ ns. AreInRange ns (reply_wides (reply_of row x.0 x.1))) (sym (reply_smalls_are row x.0 x.1 counts.0))
      (subst (AreInRange x.0) (sym (reply_wides_are row x.0 x.1 counts.1)) (in_range holds fits)),
)
