-- What right lines say is an accepted workload.
use Rattle.std.proofs.Common.{◌≡◌, ℕ, suc, ◌+◌, ◌<◌, ◌≤◌, ◌==◌, ◌∙◌, Bool, true, false, List, [], ◌∷◌, ◌++◌, All, AllPairs, IsTrue}
use Rattle.std.proofs.Common.{IsFalse, sum_by, length, arith, refl, sym, ap, subst, length-append, nat_lt}
use Rattle.std.proofs.Common.{if◌then◌else◌}
use Rattle.std.proofs.lemmas.List.{append_assoc, append-nil}
use Rattle.std.proofs.lemmas.List.Elements.{All-push, All-nil}
use Rattle.std.proofs.lemmas.List.Quantifiers.{all_pairs_push}
use Rattle.std.proofs.lemmas.Bool.{false≢true, ne_eqb}
use Rattle.std.proofs.lemmas.List.Sums.{sum_by_push}
use Rattle.std.specs.Str.{bytes_eq}
use Rattle.split_types.specs.declared.actor.Actor.{Actor}
use Rattle.split_types.specs.declared.actor.Actor.TheVariants as actor
use Rattle.split_types.specs.declared.ids.Pid.{Pid}
use Rattle.split_types.specs.declared.call.Call.{Call}
use Rattle.split_types.specs.declared.call.Call.TheVariants as call
use Rattle.split_types.specs.declared.workload.Account.{Account}
use Rattle.split_types.specs.declared.workload.Process.{Process}
use Rattle.split_types.specs.declared.workload.Preset.{Preset}
use Rattle.split_types.specs.declared.workload.Go.{Go}
use Rattle.split_types.specs.declared.workload.Workload.{Workload}
use Rattle.split_types.specs.Names.{is_name}
use Rattle.split_types.specs.Calls.{name_of}
use Rattle.split_types.specs.Workloads.{first_block, span}
use Rattle.split_types.specs.IsWorkload.{IsAccount, IsProcess, IsPreset, IsAsked, IsCall, IsTurnOf, IsGo}
use Rattle.split_types.specs.IsWorkload.{most_processes, least_device}
use Rattle.split_types.specs.WorkloadText.{workload_text, Spells}
use Rattle.split_types.specs.Accepted.{IsAccepted}
use Rattle.workload_reader.specs.declared.line.Line.{Line}
use Rattle.workload_reader.specs.declared.line.Line.TheVariants as kind
use Rattle.workload_reader.specs.Line.{IsFormed, said, with_line, has_ended, lines_text}
use Rattle.workload_reader.specs.Refusal.{AreRight, ReadsFront}
use Rattle.workload_reader.specs.Table.{IsRight, IsCallInRange, IsPlaceInRange, IsActorOf}
use Rattle.workload_reader.proofs.Whole.{push, call_line, heads, body, body_text, whole_is}

-- what is said when lines of one kind stand behind others
pub said_push : {X : Type 0} (f : X → Line) (put : List X → Workload)
    → ((xs : List X) (x : X) → with_line (put xs) (f x) ≡ put (xs ++ x ∷ []))
    → (xs done : List X) (base : List Line) → said base ≡ put done → said (push f xs base) ≡ put (done ++ xs)
said_push f put adds [] done base is = is ∙ ap put (sym (append-nil done))
said_push f put adds (x ∷ xs) done base is =
    said_push f put adds xs (done ++ x ∷ []) (f x ∷ base) (ap (λ w. with_line w (f x)) is ∙ adds done x)
    ∙ ap put (append_assoc done (x ∷ []) xs)

-- what each line that is right adds to, all lines of its kind come to
gathered : {X : Type 0} (f : X → Line) (put : List X → Workload)
    → ((xs : List X) (x : X) → with_line (put xs) (f x) ≡ put (xs ++ x ∷ []))
    → (P : List X → Type 0)
    → ((xs : List X) (x : X) → IsFormed (f x) → IsRight (put xs) (f x) → P xs → P (xs ++ x ∷ []))
    → (xs done : List X) (base : List Line) → said base ≡ put done → AreRight (push f xs base)
    → AreRight base × (P done → P (done ++ xs))
gathered f put adds P step [] done base is right = (right, λ h. subst P (sym (append-nil done)) h)
gathered f put adds P step (x ∷ xs) done base is right =
    let more = gathered f put adds P step xs (done ++ x ∷ []) (f x ∷ base)
    (ap (λ w. with_line w (f x)) is ∙ adds done x) right in
    let here = more.0 in (
      here.0,
      λ h. subst P (append_assoc done (x ∷ []) xs)
          (more.1 (step done x here.1 (subst (λ w. IsRight w (f x)) is here.3) h)),
    )

-- what was said when the lines of one list stood last
abbrev pub put_accounts : Workload → List Account → Workload
put_accounts w accounts = record w { accounts = accounts; procs = []; files = []; calls = []; fails = []; go = [] }

abbrev pub put_procs : Workload → List Process → Workload
put_procs w procs = record w { procs = procs; files = []; calls = []; fails = []; go = [] }

abbrev pub put_files : Workload → List Preset → Workload
put_files w files = record w { files = files; calls = []; fails = []; go = [] }

abbrev pub put_calls : Workload → List (Pid × Call) → Workload
put_calls w calls = record w { calls = calls; fails = []; go = [] }

abbrev pub put_fails : Workload → List ℕ → Workload
put_fails w fails = record w { fails = fails; go = [] }

abbrev pub put_go : Workload → List Go → Workload
put_go w go = record w { go = go }

-- the lines of the head, and with those of the first lists
abbrev pub base_accounts : Workload → List Line
base_accounts w = heads 5 w

abbrev pub base_procs : Workload → List Line
base_procs w = push (λ a. kind.Account a) w.accounts (base_accounts w)

abbrev pub base_files : Workload → List Line
base_files w = push (λ p. kind.Process p) w.procs (base_procs w)

abbrev pub base_calls : Workload → List Line
base_calls w = push (λ f. kind.File f) w.files (base_files w)

abbrev pub base_fails : Workload → List Line
base_fails w = push call_line w.calls (base_calls w)

abbrev pub base_go : Workload → List Line
base_go w = push (λ s. kind.Fail s) w.fails (base_fails w)

pub said_procs : (w : Workload) → said (base_procs w) ≡ put_procs w []
said_procs w = said_push (λ a. kind.Account a) (put_accounts w) (λ _ _. refl) w.accounts [] (base_accounts w) refl

pub said_files : (w : Workload) → said (base_files w) ≡ put_files w []
said_files w = said_push (λ p. kind.Process p) (put_procs w) (λ _ _. refl) w.procs [] (base_procs w) (said_procs w)

pub said_calls : (w : Workload) → said (base_calls w) ≡ put_calls w []
said_calls w = said_push (λ f. kind.File f) (put_files w) (λ _ _. refl) w.files [] (base_files w) (said_files w)

pub said_fails : (w : Workload) → said (base_fails w) ≡ put_fails w []
said_fails w = said_push call_line (put_calls w) (λ _ _. refl) w.calls [] (base_calls w) (said_calls w)

pub said_go : (w : Workload) → said (base_go w) ≡ put_go w []
said_go w = said_push (λ s. kind.Fail s) (put_fails w) (λ _ _. refl) w.fails [] (base_fails w) (said_fails w)

pub said_body : (w : Workload) → said (body w) ≡ w
said_body w = said_push (λ g. kind.Go g) (put_go w) (λ _ _. refl) w.go [] (base_go w) (said_go w)

-- what each list comes to
record AccountsSoFar (accounts : List Account) : Type 0 where
  few : length accounts ≤ 32
  each : All IsAccount accounts

one_account : (w : Workload) (accounts : List Account) (a : Account) → IsFormed (kind.Account a)
    → IsRight (put_accounts w accounts) (kind.Account a) → AccountsSoFar accounts → AccountsSoFar (accounts ++ a ∷ [])
one_account w accounts a formed right so = record {
  few = omega (arith, right.few, length-append accounts (a ∷ []));
  each = All-push IsAccount accounts a so.each right.in_range;
}

record ProcessesSoFar (w : Workload) (procs : List Process) : Type 0 where
  few : length procs ≤ most_processes w
  below_cache : length procs < w.cache
  each : All (IsProcess (length w.accounts)) procs

one_process : (w : Workload) (procs : List Process) (p : Process) → IsFormed (kind.Process p)
    → IsRight (put_procs w procs) (kind.Process p) → ProcessesSoFar w procs → ProcessesSoFar w (procs ++ p ∷ [])
one_process w procs p formed right so = record {
  few = rw (length-append procs (p ∷ [])) right.few.0;
  below_cache = rw (length-append procs (p ∷ [])) right.few.1;
  each = All-push (IsProcess (length w.accounts)) procs p so.each (record {
    account_least = right.refers.least;
    account_most = right.refers.most;
    weight_least = right.in_range.weight_least;
    weight_most = right.in_range.weight_most;
    deadline_most = right.in_range.deadline_most;
  });
}

record FilesSoFar (w : Workload) (files : List Preset) : Type 0 where
  few : length files ≤ 256
  each : All IsPreset files
  apart : AllPairs (λ f g. IsFalse (bytes_eq f.name g.name)) files
  fit : first_block w + sum_by (λ f. f.pages) files ≤ w.device

one_file : (w : Workload) (files : List Preset) (f : Preset) → IsFormed (kind.File f)
    → IsRight (put_files w files) (kind.File f) → FilesSoFar w files → FilesSoFar w (files ++ f ∷ [])
one_file w files f formed right so = record {
  few = omega (arith, right.few, length-append files (f ∷ []));
  each =
      All-push IsPreset files f so.each (record {
        name = formed;
        pages_most = right.in_range.pages_most;
        fill_most = right.in_range.fill_most;
      });
  apart = all_pairs_push (λ f g. IsFalse (bytes_eq f.name g.name)) files f so.apart right.new;
  fit = omega (arith, right.fits, sum_by_push (λ f. f.pages) files f);
}

record CallsSoFar (w : Workload) (calls : List (Pid × Call)) : Type 0 where
  few : length calls ≤ 65536
  few_pages : sum_by (λ c. span c.1) calls ≤ 131072
  each : All (IsCall (length w.procs)) calls

-- what is asked of a call, whose name is one
asked : (c : Call) → IsTrue (is_name (name_of c)) → IsCallInRange c → IsAsked c
asked (call.Creat name) formed range = formed
asked (call.Write name off len fill) formed range = (
  record {
    named = formed;
    off_most = range.0.off_most;
    len_least = range.0.len_least;
    len_most = range.0.len_most;
  },
  range.1,
)
asked (call.Read name off len) formed range = record {
  named = formed;
  off_most = range.off_most;
  len_least = range.len_least;
  len_most = range.len_most;
}
asked (call.Fsync name) formed range = formed
asked (call.Unlink name) formed range = formed

one_call : (w : Workload) (calls : List (Pid × Call)) (c : Pid × Call) → IsFormed (call_line c)
    → IsRight (put_calls w calls) (call_line c) → CallsSoFar w calls → CallsSoFar w (calls ++ c ∷ [])
one_call w calls c formed right so = record {
  few = omega (arith, right.few.0, length-append calls (c ∷ []));
  few_pages = omega (arith, right.few.1, sum_by_push (λ c. span c.1) calls c);
  each =
      All-push (IsCall (length w.procs)) calls c so.each (record {
        by_least = right.refers.least;
        by_most = right.refers.most;
        asked = asked c.1 formed right.in_range;
      });
}

one_fail : (w : Workload) (fails : List ℕ) (s : ℕ) → IsFormed (kind.Fail s) → IsRight (put_fails w fails) (kind.Fail s)
    → fails ≡ [] → fails ++ s ∷ [] ≡ []
one_fail w fails s formed right so = absurd right.built

record GoSoFar (w : Workload) (go : List Go) : Type 0 where
  few : sum_by (λ g. g.times) go ≤ 16777216
  each : All (IsGo (length w.procs)) go

turn : (procs : ℕ) (a : Actor) → IsPlaceInRange a → IsActorOf procs a → IsTurnOf procs a
turn procs (actor.Client p) range refers = (refers.least, refers.most)
turn procs (actor.Dn k) range refers = range
turn procs a range refers = tt

one_go : (w : Workload) (go : List Go) (g : Go) → IsFormed (kind.Go g) → IsRight (put_go w go) (kind.Go g)
    → GoSoFar w go → GoSoFar w (go ++ g ∷ [])
one_go w go g formed right so = record {
  few = omega (arith, right.few, sum_by_push (λ g. g.times) go g);
  each = All-push (IsGo (length w.procs)) go g so.each (record {
    times_least = right.in_range.times_least;
    times_most = right.in_range.times_most;
    actor = turn (length w.procs) g.actor right.in_range.place right.refers;
  });
}

-- the disk is larger than what stands before the data
first : (w : Workload) → least_device w ≤ w.device → first_block w + 0 ≤ w.device
first w least = by_layout (nat_lt w.version 2) w.device least where
  by_layout : (early : Bool) (device : ℕ) → (if early then 1024 else 2048) ≤ device
      → (if early then 526 else 1318) + 0 ≤ device
  by_layout true device least = omega (arith, least)
  by_layout false device least = omega (arith, least)

-- the workload whose lines are right is accepted
pub accepted : (w : Workload) → AreRight (kind.End ∷ body w) → IsAccepted w
accepted w right =
    let go = gathered (λ g. kind.Go g) (put_go w) (λ _ _. refl) (GoSoFar w) (one_go w) w.go [] (base_go w)
    (said_go w) right.0 in
    let fails = gathered (λ s. kind.Fail s) (put_fails w) (λ _ _. refl) (λ s. s ≡ []) (one_fail w) w.fails []
    (base_fails w) (said_fails w) go.0 in
    let calls = gathered call_line (put_calls w) (λ _ _. refl) (CallsSoFar w) (one_call w) w.calls [] (base_calls w)
    (said_calls w) fails.0 in
    let files = gathered (λ f. kind.File f) (put_files w) (λ _ _. refl) (FilesSoFar w) (one_file w) w.files []
    (base_files w) (said_files w) calls.0 in
    let procs = gathered (λ p. kind.Process p) (put_procs w) (λ _ _. refl) (ProcessesSoFar w) (one_process w) w.procs []
    (base_procs w) (said_procs w) files.0 in
    let accounts = gathered (λ a. kind.Account a) (put_accounts w) (λ _ _. refl) AccountsSoFar
    (one_account w) w.accounts [] (base_accounts w) refl procs.0 in
    let sched = accounts.0 in
    let depth = sched.0 in
    let cache = depth.0 in
    let device = cache.0 in
    let version = device.0 in
    let acs : AccountsSoFar w.accounts = accounts.1 (record { few = omega arith; each = All-nil IsAccount }) in
    let ps : ProcessesSoFar w w.procs = procs.1 (record {
      few = omega arith;
      below_cache = omega (arith, cache.3.in_range.0);
      each = All-nil (IsProcess (length w.accounts));
    }) in
    let fs : FilesSoFar w w.files = files.1 (record {
      few = omega arith;
      each = All-nil IsPreset;
      apart = λ i j d lt within. absurd (omega (arith, within));
      fit = first w device.3.in_range.0;
    }) in
    let cs : CallsSoFar w w.calls = calls.1 (record {
      few = omega arith;
      few_pages = omega arith;
      each = All-nil (IsCall (length w.procs));
    }) in
    let none : w.fails ≡ [] = fails.1 refl in
    let gs : GoSoFar w w.go = go.1 (record { few = omega arith; each = All-nil (IsGo (length w.procs)) }) in
    record {
      workload = record {
        machine = record {
          version_least = version.1.0;
          version_most = version.1.1;
          device_least = device.3.in_range.0;
          device_most = device.3.in_range.1;
          cache_least = cache.3.in_range.0;
          cache_most = cache.3.in_range.1;
          depth_least = depth.3.in_range.0;
          depth_most = depth.3.in_range.1;
        };
        accounts = record { few = acs.few; each = acs.each };
        processes = record { few = ps.few; below_cache = ps.below_cache; each = ps.each };
        presets = record { few = fs.few; each = fs.each; apart = fs.apart; fit = fs.fit };
        calls = record { few = cs.few; few_pages = cs.few_pages; each = cs.each };
        fails = record {
          rising = rw none (λ i j d lt within. absurd (omega (arith, within)));
          each = rw none (All-nil (λ s. s ≤ 4294967295));
        };
        turns = record { few = gs.few; each = gs.each };
      };
      built = record {
        version = version.3.built;
        sched = sched.3.built;
        fails = none;
      };
    }

-- lines up to `end` that are right say an accepted workload, of which they are the text
pub spelled : (before : List Line) → AreRight before → has_ended before ≡ true
    → IsAccepted (said before) × (lines_text before ≡ workload_text (said before))
spelled before right ended =
    let is : before ≡ kind.End ∷ body (said before) = whole_is before right ended in
    (accepted (said before) (subst AreRight is right), ap lines_text is ∙ body_text (said before))

-- a text whose lines are those of a workload spells it
pub spells : (text : List ℕ) (w : Workload) (lines : ℕ) (rest : List ℕ) → ReadsFront text w lines rest → rest ≡ []
    → length text ≤ 16777216 → Spells text w
spells text w lines rest front none short =
    let found = spelled front.before front.right front.ended in
    record {
      accepted = subst IsAccepted front.said_is found.0;
      text_is =
          front.text_is ∙ ap (λ r. lines_text front.before ++ r) none ∙ append-nil (lines_text front.before) ∙ found.1
          ∙ ap workload_text front.said_is;
      short = short;
    }

-- a list of no length is empty
pub gone : (xs : List ℕ) → true ≡ (length xs == 0) → xs ≡ []
gone [] e = refl
gone (x ∷ xs) e = absurd (false≢true (sym (e ∙ ne_eqb (suc (length xs)) 0 (λ z. omega (arith, z)))))
