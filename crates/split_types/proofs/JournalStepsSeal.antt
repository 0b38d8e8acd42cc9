-- What is known of the journal, over a seal.
use Rattle.std.proofs.Common.{◌≡◌, ℕ, ◌+◌, ◌==◌, ◌<◌, ◌≤◌, List, [], ◌∷◌, length, slice_get, true, false, not, ◌⊎◌, Some, None, refl, arith, subst, sym, inl, inr, ap}
use Rattle.std.proofs.lemmas.Bool.{ne_eqb, eq-eqb, cases_eq}
use Rattle.std.proofs.lemmas.List.Filters.{length-filter_both}
use Rattle.split_types.specs.declared.ids.Txn.{Txn}
use Rattle.split_types.specs.declared.request.ReqKind.{ReqKind}
use Rattle.split_types.specs.declared.request.ReqKind.TheVariants.{Read, Pages, Log, Commit, Home, Clear}
use Rattle.split_types.specs.declared.request.Request.{Request}
use Rattle.split_types.specs.declared.workload.Workload.{Workload}
use Rattle.split_types.specs.declared.event.Event.{Event}
use Rattle.split_types.specs.declared.event.Event.TheVariants.{Seal}
use Rattle.split_types.specs.History.{◌▹◌}
use Rattle.split_types.specs.Parents.{metadata_buffers}
use Rattle.split_types.specs.Requests.{requests}
use Rattle.split_types.specs.FileMaps.{is_committed}
use Rattle.split_types.specs.Rounds.{open_round, seals, last_txn, next_txn, slot_of_txn}
use Rattle.split_types.specs.Schedulers.{is_data_done}
use Rattle.split_types.specs.Transactions.{in_journal, oldest_in, is_marked, marked_buffers, under_way}
use Rattle.split_types.specs.Transactions.Stage.{Fresh, Committing, Homing, Clearing}
use Rattle.split_types.specs.Proving.Came.{IsIdle, MaySeal}
use Rattle.split_types.specs.Proving.Came.IsIdle.{idle_fresh, idle_committed, idle_homed, idle_cleared}
use Rattle.split_types.specs.Proving.JournalKnown.{AtStage, AreSlots, IsOpenAt, IsOfSealed, IsLastCommitted, JournalKnown}
use Rattle.split_types.proofs.KeptLists.{case_true, case_false}
use Rattle.split_types.proofs.JournalRows.{row_push, row_length}
use Rattle.split_types.proofs.JournalSteps.{AreOrdered}

metadata_long : length metadata_buffers ≡ 261
unfolding metadata_buffers
metadata_long = refl

-- no more buffers are marked than there are
pub marked_most : (h : List Event) → length (marked_buffers h) ≤ 261
marked_most h =
    omega (
      arith,
      length-filter_both (is_marked h) (λ b. not (is_marked h b)) (λ b. refl) metadata_buffers,
      metadata_long,
    )

-- what an idle commit thread gives
pub record Rested (h : List Event) (base cleared : ℕ) : Type 0 where
  pub none : under_way h ≡ 0
  pub last : 1 ≤ seals h → is_committed h (last_txn h) ≡ true
  pub round : ((base ≡ cleared) × (cleared + length (open_round h) ≡ seals h))
      ⊎ ((in_journal h ≡ []) × (open_round h ≡ []))

none_oldest : (ts : List Txn) → oldest_in ts ≡ None → ts ≡ []
none_oldest [] is = refl
none_oldest (t ∷ ts) is = absurd (cc)

same_txn : (t u : Txn) → t.0 ≡ u.0 → t ≡ u
same_txn t u e = ap (λ n. record { 0 = n }) e

pub rested : (w : Workload) (h : List Event) → IsIdle h → (j : JournalKnown w h) → Rested h j.base j.cleared
rested w h (idle_fresh is) j =
    let at : AtStage h j.cleared Fresh = subst (AtStage h j.cleared) is j.stands
    in record {
      none = at.0;
      last = λ some. absurd (omega (arith, some, at.1));
      round = inl (subst (IsOpenAt h j.base j.cleared) is j.slots.open_is);
    }
rested w h (idle_committed t is done) j =
    let at : AtStage h j.cleared (Committing t) = subst (AtStage h j.cleared) is j.stands
    in let last : IsLastCommitted h (Committing t) = subst (IsLastCommitted h) is j.last
    in record {
      none = done;
      last = λ some. subst (λ u. is_committed h u ≡ true) (same_txn t (last_txn h) at.1) (last done);
      round = inl (subst (IsOpenAt h j.base j.cleared) is j.slots.open_is);
    }
rested w h (idle_homed t is home done none) j =
    let last : IsLastCommitted h (Homing t) = subst (IsLastCommitted h) is j.last
    in record {
      none = done;
      last = λ some. last;
      round = inl (subst (IsOpenAt h j.base j.cleared) is j.slots.open_is);
    }
rested w h (idle_cleared t is done none) j =
    let last : IsLastCommitted h (Clearing t) = subst (IsLastCommitted h) is j.last
    in record {
      none = done;
      last = λ some. last;
      round = inr (none_oldest (in_journal h) none, subst (IsOpenAt h j.base j.cleared) is j.slots.open_is);
    }

-- the slots after a seal: the next one of the round, or the first of a new one
slots_on : (w : Workload) (h : List Event) (k : ℕ) → MaySeal w h → (j : JournalKnown w h) → j.base ≡ j.cleared
    → j.cleared + length (open_round h) ≡ seals h → AreSlots w (h ▹ Seal (next_txn h) k) j.base j.cleared
slots_on w h k may j same long = record {
  order = j.slots.order;
  room = omega (arith, may.left, row_length j.cleared (in_journal h) (seals h) j.row, same);
  slot_is = slot_of;
  open_is = (same, omega (arith, long));
}
  where
    slot_of : (t : Txn) → j.base < t.0 → t.0 ≤ seals h + 1
        → slot_of_txn (h ▹ Seal (next_txn h) k) t + j.base + 1 ≡ t.0
    slot_of t above most = elim (cases_eq (seals h + 1) t.0) [
      | inl is ↦
          omega (
            arith,
            case_true (seals h + 1 == t.0) (length (open_round h)) (slot_of_txn h t)
                (eq-eqb (seals h + 1) t.0 is),
            same,
            long,
            is,
          )
      | inr other ↦
          (let below : t.0 ≤ seals h = omega (arith, most, other)
          in omega (
            arith,
            case_false (seals h + 1 == t.0) (length (open_round h)) (slot_of_txn h t)
                (ne_eqb (seals h + 1) t.0 other),
            j.slots.slot_is t above below,
          ))
    ]

slots_anew : (w : Workload) (h : List Event) (k : ℕ) → MaySeal w h → (j : JournalKnown w h) → in_journal h ≡ []
    → open_round h ≡ [] → AreSlots w (h ▹ Seal (next_txn h) k) (seals h) j.cleared
slots_anew w h k may j none empty = record {
  order = omega (arith, all);
  room = omega (arith, may.left);
  slot_is = slot_of;
  open_is = (sym all, omega (arith, all, ap length empty));
}
  where
    all : j.cleared ≡ seals h
    all = omega (arith, row_length j.cleared (in_journal h) (seals h) j.row, ap length none)

    slot_of : (t : Txn) → seals h < t.0 → t.0 ≤ seals h + 1
        → slot_of_txn (h ▹ Seal (next_txn h) k) t + seals h + 1 ≡ t.0
    slot_of t above most =
        let is : seals h + 1 ≡ t.0 = omega (arith, above, most)
        in omega (
          arith,
          case_true (seals h + 1 == t.0) (length (open_round h)) (slot_of_txn h t)
              (eq-eqb (seals h + 1) t.0 is),
          ap length empty,
          is,
        )

more_sealed : (n : ℕ) (kind : ReqKind) → IsOfSealed n kind → IsOfSealed (n + 1) kind
more_sealed n (Read p s g) is = tt
more_sealed n (Pages s g) is = tt
more_sealed n (Log t) is = (is.0, omega (arith, is.1))
more_sealed n (Commit t) is = (is.0, omega (arith, is.1))
more_sealed n (Home t) is = (is.0, omega (arith, is.1))
more_sealed n (Clear t) is = (is.0, omega (arith, is.1))

ordered_seal : (h : List Event) (k : ℕ)
    → ((i : ℕ) (r : Request) → slice_get (requests h) i ≡ Some r → IsOfSealed (seals h) r.kind)
    → AreOrdered h → AreOrdered (h ▹ Seal (next_txn h) k)
ordered_seal h k numbers ordered i q t at kind = elim (ordered i q t at kind) [
  | inl waits ↦ inl waits
  | inr done ↦
      (let of : IsOfSealed (seals h) (Commit t) = subst (IsOfSealed (seals h)) kind (numbers i q at)
      in inr (other (ne_eqb (seals h + 1) t.0 (λ (e : seals h + 1 ≡ t.0). omega (arith, e, of.1))) done))
]
  where
    other : (seals h + 1 == t.0) ≡ false → is_data_done h t ≡ true
        → is_data_done (h ▹ Seal (next_txn h) k) t ≡ true
    other past done = rw past done

-- a seal, once its slots are known
sealed_with : (w : Workload) (h : List Event) (base : ℕ) → MaySeal w h → (j : JournalKnown w h)
    → Rested h j.base j.cleared
    → AreSlots w (h ▹ Seal (next_txn h) (length (marked_buffers h))) base j.cleared
    → JournalKnown w (h ▹ Seal (next_txn h) (length (marked_buffers h)))
sealed_with w h base may j rest slots = record {
  cleared = j.cleared;
  base = base;
  row = row_push j.cleared (in_journal h) (seals h) (next_txn h) refl j.row;
  slots = slots;
  numbers = λ i r at. more_sealed (seals h) r.kind (j.numbers i r at);
  runs = j.runs;
  stands =
      (rest.none, refl, omega (arith, row_length j.cleared (in_journal h) (seals h) j.row), may.some, marked_most h);
  committed = committed_of;
  last = tt;
  ordered = ordered_seal h (length (marked_buffers h)) j.numbers j.ordered;
}
  where
    committed_of : (t : Txn) → 1 ≤ t.0 → t.0 < seals h + 1 → is_committed h t ≡ true
    committed_of t some below = elim (cases_eq (seals h) t.0) [
      | inl is ↦
          subst (λ u. is_committed h u ≡ true) (same_txn (last_txn h) t is) (rest.last (omega (arith, some, is)))
      | inr other ↦ j.committed t some (omega (arith, below, other))
    ]

pub journal_seal : (w : Workload) (h : List Event) → MaySeal w h → JournalKnown w h
    → JournalKnown w (h ▹ Seal (next_txn h) (length (marked_buffers h)))
journal_seal w h may j = by_round (rested w h may.idle j)
  where
    by_round : Rested h j.base j.cleared → JournalKnown w (h ▹ Seal (next_txn h) (length (marked_buffers h)))
    by_round rest = elim rest.round [
      | inl on ↦
          sealed_with w h j.base may j rest (slots_on w h (length (marked_buffers h)) may j on.0 on.1)
      | inr anew ↦
          sealed_with w h (seals h) may j rest (slots_anew w h (length (marked_buffers h)) may j anew.0 anew.1)
    ]
