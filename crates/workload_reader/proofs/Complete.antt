-- The lines of an accepted workload are right.
use Rattle.std.proofs.Common.{◌≡◌, ℕ, ◌+◌, ◌<◌, ◌≤◌, ◌∙◌, true, List, [], ◌∷◌, ◌++◌, All, AllPairs, IsFalse, sum_by}
use Rattle.std.proofs.Common.{length}
use Rattle.std.proofs.Common.{get_or, refl, sym, ap, subst, arith, length-append, append_assoc}
use Rattle.std.proofs.Math.ListN.{get_or-append}
use Rattle.std.proofs.Math.Seq.{get_or-append_seam}
use Rattle.std.proofs.lemmas.List.{append-nil}
use Rattle.std.proofs.lemmas.List.Elements.{All-head, All-tail}
use Rattle.std.proofs.lemmas.List.Sums.{sum_by-append, sum_by-cons}
use Rattle.std.specs.Str.{bytes_eq}
use Rattle.split_types.specs.declared.actor.Actor.{Actor}
use Rattle.split_types.specs.declared.actor.Actor.TheVariants as actor
use Rattle.split_types.specs.declared.call.Call.{Call}
use Rattle.split_types.specs.declared.call.Call.TheVariants as call
use Rattle.split_types.specs.declared.workload.Preset.{Preset}
use Rattle.split_types.specs.declared.workload.Workload.{Workload}
use Rattle.split_types.specs.Names.{is_name}
use Rattle.split_types.specs.Calls.{name_of}
use Rattle.split_types.specs.Workloads.{span}
use Rattle.split_types.specs.IsWorkload.{IsAccount, IsProcess, IsPreset, IsAsked, IsCall, IsTurnOf, IsGo}
use Rattle.split_types.specs.WorkloadText.{Spells}
use Rattle.split_types.specs.Accepted.{IsAccepted}
use Rattle.workload_reader.specs.declared.line.Line.{Line}
use Rattle.workload_reader.specs.declared.line.Line.TheVariants as kind
use Rattle.workload_reader.specs.Line.{IsFormed, place, stands, stage, said, with_line}
use Rattle.workload_reader.specs.Refusal.{AreRight, ReadsFront}
use Rattle.workload_reader.specs.Table.{IsRight, IsCallInRange, IsPlaceInRange, IsActorOf}
use Rattle.workload_reader.proofs.HeadLaws.{may}
use Rattle.workload_reader.proofs.Sound.{put_accounts, put_procs, put_files, put_calls, put_fails, put_go}
use Rattle.workload_reader.proofs.Sound.{base_accounts, base_procs}
use Rattle.workload_reader.proofs.Sound.{base_files, base_calls, base_fails, base_go, said_procs, said_files}
use Rattle.workload_reader.proofs.Sound.{said_calls}
use Rattle.workload_reader.proofs.Sound.{said_fails, said_go, said_body}
use Rattle.workload_reader.proofs.Whole.{push, call_line, heads, body, body_text}

-- what holds of all holds of one in the middle
all_mid : {X : Type 0} (P : X → Type 0) (ys : List X) (x : X) (zs : List X) → All P (ys ++ x ∷ zs) → P x
all_mid P [] x zs all = All-head P x zs all
all_mid P (y ∷ ys) x zs all = all_mid P ys x zs (All-tail P y (ys ++ x ∷ zs) all)

few_mid : {X : Type 0} (xs ys : List X) (x : X) (zs : List X) → xs ≡ ys ++ x ∷ zs → length ys + 1 ≤ length xs
few_mid xs ys x zs is = omega (arith, ap length is, length-append ys (x ∷ zs))

sum_mid : {X : Type 0} (f : X → ℕ) (xs ys : List X) (x : X) (zs : List X) → xs ≡ ys ++ x ∷ zs
    → sum_by f ys + f x ≤ sum_by f xs
sum_mid f xs ys x zs is = omega (arith, ap (sum_by f) is, sum_by-append f ys (x ∷ zs), sum_by-cons f x zs)

-- the lines of one list are right behind others, and stand in their place
record Stack (k : ℕ) (lines : List Line) : Type 0 where
  right : AreRight lines
  begun : 5 ≤ stage lines
  late : stage lines ≤ k + 1

-- each line of a list is right behind those before it
abbrev EachRight : {X : Type 0} → (X → Line) → (List X → Workload) → List X → Type 0
EachRight {X} f put all =
    (ys : List X) (x : X) (zs : List X) → all ≡ ys ++ x ∷ zs → IsFormed (f x) × IsRight (put ys) (f x)

stacked : {X : Type 0} (f : X → Line) (k : ℕ) (put : List X → Workload) (all : List X) → ((x : X) → place (f x) ≡ k)
    → ((xs : List X) (x : X) → with_line (put xs) (f x) ≡ put (xs ++ x ∷ [])) → EachRight f put all → 5 ≤ k → k < 11
    → (xs done : List X) (base : List Line) → all ≡ done ++ xs → said base ≡ put done → Stack k base
    → Stack k (push f xs base)
stacked f k put all at adds each least most [] done base split is s = s
stacked f k put all at adds each least most (x ∷ xs) done base split is s =
    let here = each done x xs split in
    let stand : stands (stage base) (place (f x)) ≡ true =
    ap (stands (stage base)) (at x) ∙ may (stage base) k least s.begun s.late (omega (arith, s.late)) in
    stacked f k put all at adds each least most xs (done ++ x ∷ []) (f x ∷ base)
    (split ∙ sym (append_assoc done (x ∷ []) xs)) (ap (λ w. with_line w (f x)) is ∙ adds done x)
    (record {
      right = (s.right, here.0, stand, subst (λ w. IsRight w (f x)) (sym is) here.1);
      begun = omega (arith, at x);
      late = omega (arith, at x);
    })

-- the lines before stand in an earlier place
later : {k : ℕ} (j : ℕ) (lines : List Line) → Stack k lines → k ≤ j → Stack j lines
later j lines s below = record { right = s.right; begun = s.begun; late = omega (arith, s.late) }

each_account : (w : Workload) → IsAccepted w → EachRight (λ a. kind.Account a) (put_accounts w) w.accounts
each_account w h ys a zs is = (
  tt,
  record {
    in_range = all_mid IsAccount ys a zs (subst (All IsAccount) is h.workload.accounts.each);
    refers = tt;
    new = tt;
    few = omega (arith, few_mid w.accounts ys a zs is, h.workload.accounts.few);
    fits = tt;
    built = tt;
  },
)

each_process : (w : Workload) → IsAccepted w → EachRight (λ p. kind.Process p) (put_procs w) w.procs
each_process w h ys p zs is =
    let q = all_mid (IsProcess (length w.accounts)) ys p zs
    (subst (All (IsProcess (length w.accounts))) is h.workload.processes.each) in
    let few = few_mid w.procs ys p zs is in (
      tt,
      record {
        in_range = record {
          weight_least = q.weight_least;
          weight_most = q.weight_most;
          deadline_most = q.deadline_most;
        };
        refers = record { least = q.account_least; most = q.account_most };
        new = tt;
        few = (omega (arith, few, h.workload.processes.few), omega (arith, few, h.workload.processes.below_cache));
        fits = tt;
        built = tt;
      },
    )

-- no file before one has its name
apart : (xs ys : List Preset) (f : Preset) (zs : List Preset) → xs ≡ ys ++ f ∷ zs
    → AllPairs (λ f g. IsFalse (bytes_eq f.name g.name)) xs → All (λ g. IsFalse (bytes_eq g.name f.name)) ys
apart xs ys f zs is pairs k d within =
    let both = subst (AllPairs (λ f g. IsFalse (bytes_eq f.name g.name))) is pairs in
    let pair = both k (length ys) d within (omega (arith, length-append ys (f ∷ zs))) in
    subst (λ g. IsFalse (bytes_eq g.name f.name)) (get_or-append ys (f ∷ zs) d k within)
    (subst (λ g. IsFalse (bytes_eq (get_or (ys ++ f ∷ zs) k d).name g.name)) (get_or-append_seam ys f zs d) pair)

each_file : (w : Workload) → IsAccepted w → EachRight (λ f. kind.File f) (put_files w) w.files
each_file w h ys f zs is =
    let q = all_mid IsPreset ys f zs (subst (All IsPreset) is h.workload.presets.each) in
    let few = few_mid w.files ys f zs is in
    let pages = sum_mid (λ g. g.pages) w.files ys f zs is in (
      q.name,
      record {
        in_range = record { pages_most = q.pages_most; fill_most = q.fill_most };
        refers = tt;
        new = apart w.files ys f zs is h.workload.presets.apart;
        few = omega (arith, few, h.workload.presets.few);
        fits = omega (arith, pages, h.workload.presets.fit);
        built = tt;
      },
    )

call_named : (c : Call) → IsAsked c → is_name (name_of c) ≡ true
call_named (call.Creat name) asked = asked
call_named (call.Write name off len fill) asked = asked.0.named
call_named (call.Read name off len) asked = asked.named
call_named (call.Fsync name) asked = asked
call_named (call.Unlink name) asked = asked

call_range : (c : Call) → IsAsked c → IsCallInRange c
call_range (call.Write name off len fill) asked =
    (record { off_most = asked.0.off_most; len_least = asked.0.len_least; len_most = asked.0.len_most }, asked.1)
call_range (call.Read name off len) asked =
    record { off_most = asked.off_most; len_least = asked.len_least; len_most = asked.len_most }
call_range c asked = tt

each_call : (w : Workload) → IsAccepted w → EachRight call_line (put_calls w) w.calls
each_call w h ys c zs is =
    let q = all_mid (IsCall (length w.procs)) ys c zs
    (subst (All (IsCall (length w.procs))) is h.workload.calls.each) in
    let few = few_mid w.calls ys c zs is in
    let pages = sum_mid (λ c. span c.1) w.calls ys c zs is in (
      call_named c.1 q.asked,
      record {
        in_range = call_range c.1 q.asked;
        refers = record { least = q.by_least; most = q.by_most };
        new = tt;
        few = (omega (arith, few, h.workload.calls.few), omega (arith, pages, h.workload.calls.few_pages));
        fits = tt;
        built = tt;
      },
    )

-- there is none
each_fail : (w : Workload) → IsAccepted w → EachRight (λ s. kind.Fail s) (put_fails w) w.fails
each_fail w h ys s zs is = absurd (omega (arith, few_mid w.fails ys s zs is, ap length h.built.fails))

turn_range : (procs : ℕ) (a : Actor) → IsTurnOf procs a → IsPlaceInRange a
turn_range procs (actor.Dn k) turn = turn
turn_range procs a turn = tt

turn_refers : (procs : ℕ) (a : Actor) → IsTurnOf procs a → IsActorOf procs a
turn_refers procs (actor.Client p) turn = record { least = turn.0; most = turn.1 }
turn_refers procs a turn = tt

each_go : (w : Workload) → IsAccepted w → EachRight (λ g. kind.Go g) (put_go w) w.go
each_go w h ys g zs is =
    let q = all_mid (IsGo (length w.procs)) ys g zs (subst (All (IsGo (length w.procs))) is h.workload.turns.each) in
    let turns = sum_mid (λ g. g.times) w.go ys g zs is in (
      tt,
      record {
        in_range = record {
          times_least = q.times_least;
          times_most = q.times_most;
          place = turn_range (length w.procs) g.actor q.actor;
        };
        refers = turn_refers (length w.procs) g.actor q.actor;
        new = tt;
        few = omega (arith, turns, h.workload.turns.few);
        fits = tt;
        built = tt;
      },
    )

-- the lines that stand once
head_right : (w : Workload) → IsAccepted w → Stack 4 (heads 5 w)
head_right w h =
    let m = h.workload.machine in
    record {
      right = (
        (
          (
            (
              (
                tt,
                (m.version_least, m.version_most),
                refl,
                record { in_range = tt; refers = tt; new = tt; few = tt; fits = tt; built = h.built.version },
              ),
              tt,
              refl,
              record {
                in_range = (m.device_least, m.device_most);
                refers = tt;
                new = tt;
                few = tt;
                fits = tt;
                built = tt;
              },
            ),
            tt,
            refl,
            record { in_range = (m.cache_least, m.cache_most); refers = tt; new = tt; few = tt; fits = tt; built = tt },
          ),
          tt,
          refl,
          record {
            in_range = (m.depth_least, m.depth_most);
            refers = tt;
            new = tt;
            few = tt;
            fits = tt;
            built = tt;
          },
        ),
        tt,
        refl,
        record { in_range = tt; refers = tt; new = tt; few = tt; fits = tt; built = h.built.sched },
      );
      begun = omega arith;
      late = omega arith;
    }

-- the lines of an accepted workload up to `end` are right
pub whole_right : (w : Workload) → IsAccepted w → AreRight (kind.End ∷ body w)
whole_right w h =
    let accounts = stacked (λ a. kind.Account a) 5 (put_accounts w) w.accounts (λ _. refl) (λ _ _. refl)
    (each_account w h)
    (omega arith) (omega arith) w.accounts [] (base_accounts w) refl refl (later 5 _ (head_right w h) (omega arith)) in
    let procs = stacked (λ p. kind.Process p) 6 (put_procs w) w.procs (λ _. refl) (λ _ _. refl) (each_process w h)
    (omega arith) (omega arith) w.procs [] (base_procs w) refl (said_procs w) (later 6 _ accounts (omega arith)) in
    let files = stacked (λ f. kind.File f) 7 (put_files w) w.files (λ _. refl) (λ _ _. refl) (each_file w h)
    (omega arith) (omega arith) w.files [] (base_files w) refl (said_files w) (later 7 _ procs (omega arith)) in
    let calls = stacked call_line 8 (put_calls w) w.calls (λ _. refl) (λ _ _. refl) (each_call w h)
    (omega arith) (omega arith) w.calls [] (base_calls w) refl (said_calls w) (later 8 _ files (omega arith)) in
    let fails = stacked (λ s. kind.Fail s) 9 (put_fails w) w.fails (λ _. refl) (λ _ _. refl) (each_fail w h)
    (omega arith) (omega arith) w.fails [] (base_fails w) refl (said_fails w) (later 9 _ calls (omega arith)) in
    let go = stacked (λ g. kind.Go g) 10 (put_go w) w.go (λ _. refl) (λ _ _. refl) (each_go w h)
    (omega arith) (omega arith) w.go [] (base_go w) refl (said_go w) (later 10 _ fails (omega arith)) in (
      go.right,
      tt,
      may (stage (body w)) 11 (omega arith) go.begun (omega (arith, go.late)) (omega (arith, go.late)),
      record { in_range = tt; refers = tt; new = tt; few = tt; fits = tt; built = tt },
    )

-- a text that spells a workload has its lines, and nothing behind them
pub spelled_front : {text : List ℕ} {w : Workload} → Spells text w → (lines : ℕ) × ReadsFront text w lines []
spelled_front {text} {w} s = (
  length (kind.End ∷ body w),
  record {
    before = kind.End ∷ body w;
    right = whole_right w s.accepted;
    ended = refl;
    said_is = said_body w;
    number = refl;
    text_is = s.text_is ∙ sym (body_text w) ∙ sym (append-nil _);
  },
)
