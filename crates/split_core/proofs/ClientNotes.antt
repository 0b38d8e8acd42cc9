-- How far each process has come after one event more.
use Rattle.std.proofs.Common.{◌≡◌, ◌≢◌, ℕ, ◌+◌, ◌-◌, ◌<◌, ◌≤◌, List, [], length, true, false, ◌==◌, Some, None, refl, ap, sym, ◌∙◌}
use Rattle.std.proofs.Common.{subst, arith, inl, inr, IsTrue, IsFalse, slice_get, slice_index_or, eq-eqb, ne_eqb}
use Rattle.std.proofs.Common.{eqb-true}
use Rattle.std.specs.Prelude.{replicate, slice_set}
use Rattle.std.proofs.lemmas.Bool.{cases_eq, cases_lt}
use Rattle.std.proofs.lemmas.Option.{slice_get_within, get_or_from_slice_get}
use Rattle.std.proofs.lemmas.List.{get_or-replicate, length-replicate, get_or-set_same, get_or-set_other, length-set}
use Rattle.split_types.specs.declared.ids.Pid.{Pid}
use Rattle.split_types.specs.declared.actor.Actor.TheVariants.{Client}
use Rattle.split_types.specs.declared.call.Reply.{Reply}
use Rattle.split_types.specs.declared.workload.Workload.{Workload}
use Rattle.split_types.specs.declared.event.Event.{Event}
use Rattle.split_types.specs.declared.event.Event.TheVariants.{Enter, Admit, Make, Put, Get, Drop, Flushed, Ret, Add, Done}
use Rattle.split_types.specs.History.{◌▹◌}
use Rattle.split_types.specs.Hooks.{maker}
use Rattle.split_types.specs.Calls.{returned, is_finished}
use Rattle.split_types.specs.Files.{bound_file}
use Rattle.split_types.specs.FileSizes.{size_at_admit}
use Rattle.split_types.specs.Reads.{is_process}
use Rattle.split_types.specs.Workloads.{calls_of}
use Rattle.split_types.specs.Calls.{is_finished}
use Rattle.split_types.proofs.Shared.{some_at}
use Rattle.split_core.specs.declared.note.clients.Client.{Client as Kept}
use Rattle.split_core.specs.declared.note.clients.Clients.{Clients}
use Rattle.split_core.specs.Awaits.{reader_at, done_for}
use Rattle.split_core.specs.Fits.{ClientFits, FitsKind}
use Rattle.split_core.specs.Clients.{client_of, ClientsStand}

-- ---- which processes an event moves on
other_number : (b : Pid) (q : ℕ) → (q ≡ b.0 → ⊥) → (b.0 == q) ≡ false
other_number b q other = ne_eqb b.0 q (λ (e : b.0 ≡ q). other (sym e))

-- an event moves on the process alone that makes it, and the one for which a request reads that it says to be done
pub others_stay : (w : Workload) (h : List Event) (e : Event) (q : ℕ) → FitsKind w h e
    → ((by : Pid) → maker e ≡ Client by → q ≡ by.0 → ⊥) → is_process q (done_for h e) ≡ false
    → client_of w (h ▹ e) q ≡ client_of w h q
others_stay w h (Enter b k) q fits other unread = rw (other_number b q (other b refl)) refl
others_stay w h (Admit b) q fits other unread = rw (other_number b q (other b refl), size_at_admit, bound_file) refl
others_stay w h (Put b s g from to fill) q fits other unread = rw (other_number b q (other b refl)) refl
others_stay w h (Get b s g from to sum) q fits other unread = rw (other_number b q (other b refl)) refl
others_stay w h (Ret b r) q fits other unread = rw (other_number b q (other b refl), bound_file) refl
others_stay w h (Make b slot serial) q fits other unread = rw (other_number b q (other b refl)) refl
others_stay w h (Drop b slot serial) q fits other unread = rw (other_number b q (other b refl)) refl
others_stay w h (Flushed b) q fits other unread = rw (other_number b q (other b refl)) refl
others_stay w h (Add (Client b) r) q fits other unread = rw (other_number b q (other b refl)) refl
others_stay w h (Done k id ok) q fits other unread = rw unread refl
others_stay w h e q fits other unread = refl

-- ---- those that have no call left
-- what is kept of the processes, and how many of them have no call left
pub record Finished (w : Workload) (h : List Event) (items : List Kept) (known found : ℕ) : Type 0 where
  pub long : length items ≡ length w.procs
  pub clients_are : (i : ℕ) (x : Kept) → slice_get items i ≡ Some x → x ≡ client_of w h (i + 1)
  pub before : (i : ℕ) → i < known → IsTrue (is_finished w h (i + 1))
  pub most : found ≤ length w.procs
  pub all : (i : ℕ) (x : Kept) → known ≤ i → i < found → slice_get items i ≡ Some x
      → x.returned ≡ length (calls_of w (i + 1))
  pub left : (x : Kept) → slice_get items found ≡ Some x → x.returned ≢ length (calls_of w (found + 1))

pub clients_stand : (w : Workload) (h : List Event) (c : Clients) (known : ℕ)
    → Finished w h c.clients.items known c.finished → ClientsStand w c h
clients_stand w h c known f = record {
  processes = f.long;
  clients_are = f.clients_are;
  finished_most = f.most;
  finished_are = λ i below. elim (cases_lt i known) [
    | inl early ↦ f.before i early
    | inr late ↦ (let x = some_at c.clients.items i (omega (arith, below, f.most, f.long)) in
        eq-eqb (returned h (i + 1)) (length (calls_of w (i + 1)))
        (sym (ap (λ (y : Kept). y.returned) (f.clients_are i x.0 x.1)) ∙ f.all i x.0 late below x.1))
  ];
  next_is_left = λ below.
      let x = some_at c.clients.items c.finished (omega (arith, below, f.long)) in
      ne_eqb (returned h (c.finished + 1)) (length (calls_of w (c.finished + 1)))
      (λ (e : returned h (c.finished + 1) ≡ length (calls_of w (c.finished + 1))).
      f.left x.0 x.1 (ap (λ (y : Kept). y.returned) (f.clients_are c.finished x.0 x.1) ∙ e));
}

-- ---- before any event
pub clients_none : (w : Workload) (c : Clients) (new : Kept) → c.clients.items ≡ replicate (length w.procs) new
    → ((p : ℕ) → new ≡ client_of w [] p)
    → c.finished ≤ length w.procs
    → ((i : ℕ) (x : Kept) → 0 ≤ i → i < c.finished → slice_get c.clients.items i ≡ Some x
    → x.returned ≡ length (calls_of w (i + 1)))
    → ((x : Kept) → slice_get c.clients.items c.finished ≡ Some x → x.returned ≢ length (calls_of w (c.finished + 1)))
    → ClientsStand w c []
clients_none w c new items is most all left = clients_stand w [] c 0 (record {
  long = ap length items ∙ length-replicate (length w.procs) new;
  clients_are = λ i x at.
      let within = slice_get_within c.clients.items i x at in
      sym (get_or_from_slice_get c.clients.items i x new at) ∙ ap (λ l. slice_index_or l i new) items
      ∙ get_or-replicate (length w.procs) i new new
      (omega (arith, within, ap length items, length-replicate (length w.procs) new)) ∙ is (i + 1);
  before = λ i below. absurd (omega arith);
  most = most;
  all = all;
  left = left;
})

-- ---- an event of a process
-- of a process that has a call left, what is kept after its event
pub record Moved (w : Workload) (h : List Event) (e : Event) (by : Pid) (old new : Clients) : Type 0 where
  pub fits : ClientFits w h by
  pub kind : FitsKind w h e
  pub made : maker e ≡ Client by
  pub stands : ClientsStand w old h
  pub items : new.clients.items ≡ slice_set old.clients.items (by.0 - 1) (client_of w (h ▹ e) by.0)

-- an event of a process isn't a completion
own_not_done : (h : List Event) (e : Event) (by : Pid) → maker e ≡ Client by → done_for h e ≡ None
own_not_done h (Done k id ok) by made = absurd (cc made)
own_not_done h e by made = refl

stays : (w : Workload) (h : List Event) (e : Event) (by : Pid) (q : ℕ) → FitsKind w h e → maker e ≡ Client by
    → (q ≡ by.0 → ⊥) → client_of w (h ▹ e) q ≡ client_of w h q
stays w h e by q fits made other =
    others_stay w h e q fits (λ p is same. other (same ∙ mine p is)) (ap (is_process q) (own_not_done h e by made))
  where
    mine : (p : Pid) → maker e ≡ Client p → p.0 ≡ by.0
    mine p is =
        let same : Client p ≡ Client by = sym is ∙ made in
        let one : p ≡ by = cc in ap (λ (r : Pid). r.0) one

moved_at : (w : Workload) (h : List Event) (e : Event) (by : Pid) (old new : Clients) → Moved w h e by old new
    → (i : ℕ) (x : Kept) → slice_get new.clients.items i ≡ Some x → x ≡ client_of w (h ▹ e) (i + 1)
moved_at w h e by old new m i x at = elim (cases_eq i (by.0 - 1)) [
  | inl here ↦ sym read ∙ ap (λ k. slice_index_or (slice_set old.clients.items (by.0 - 1) mine) k mine) here
      ∙ get_or-set_same old.clients.items (by.0 - 1) mine mine
      (omega (arith, m.fits.first, m.fits.last, m.stands.processes))
      ∙ ap (client_of w (h ▹ e)) (omega (arith, m.fits.first, here))
  | inr other ↦
      (let within = slice_get_within new.clients.items i x at in
      let was = some_at old.clients.items i
      (omega (arith, within, ap length m.items, length-set old.clients.items (by.0 - 1) mine)) in
      sym read ∙ get_or-set_other old.clients.items (by.0 - 1) i mine mine other
      ∙ get_or_from_slice_get old.clients.items i was.0 mine was.1 ∙ m.stands.clients_are i was.0 was.1
      ∙ sym (stays w h e by (i + 1) m.kind m.made (λ same. other (omega (arith, same, m.fits.first)))))
]
  where
    mine : Kept
    mine = client_of w (h ▹ e) by.0

    read : slice_index_or (slice_set old.clients.items (by.0 - 1) mine) i mine ≡ x
    read = ap (λ l. slice_index_or l i mine) (sym m.items) ∙ get_or_from_slice_get new.clients.items i x mine at

pub clients_by : (w : Workload) (h : List Event) (e : Event) (by : Pid) (old new : Clients) → Moved w h e by old new
    → new.finished ≤ length w.procs
    → ((i : ℕ) (x : Kept) → old.finished ≤ i → i < new.finished → slice_get new.clients.items i ≡ Some x
    → x.returned ≡ length (calls_of w (i + 1)))
    → ((x : Kept) → slice_get new.clients.items new.finished ≡ Some x
    → x.returned ≢ length (calls_of w (new.finished + 1)))
    → ClientsStand w new (h ▹ e)
clients_by w h e by old new m most all left = clients_stand w (h ▹ e) new old.finished (record {
  long = ap length m.items ∙ length-set old.clients.items (by.0 - 1) (client_of w (h ▹ e) by.0) ∙ m.stands.processes;
  clients_are = moved_at w h e by old new m;
  before = λ i below. still i below;
  most = most;
  all = all;
  left = left;
})
  where
    still : (i : ℕ) → i < old.finished → IsTrue (is_finished w (h ▹ e) (i + 1))
    still i below =
        let done : returned h (i + 1) ≡ length (calls_of w (i + 1)) = eqb-true _ _ (m.stands.finished_are i below) in
        let same = ap (λ (x : Kept). x.returned) (stays w h e by (i + 1) m.kind m.made (λ is. absurd (busy is done))) in
        eq-eqb (returned (h ▹ e) (i + 1)) (length (calls_of w (i + 1))) (same ∙ done)
      where
        busy : i + 1 ≡ by.0 → returned h (i + 1) ≡ length (calls_of w (i + 1)) → ⊥
        busy is done =
            let left = m.fits.left in
            let here : returned h (i + 1) < length (calls_of w (i + 1)) =
            subst (λ p. returned h p < length (calls_of w p)) (sym is) left in
            omega arith

returned_stays : (h : List Event) (e : Event) (p : ℕ) → ((by : Pid) (r : Reply) → e ≡ Ret by r → ⊥)
    → returned (h ▹ e) p ≡ returned h p
returned_stays h (Ret by r) p none = absurd (none by r refl)
returned_stays h e p none = refl

-- where the event is no return, the same processes have a call left as before
pub clients_on : (w : Workload) (h : List Event) (e : Event) (by : Pid) (old new : Clients) → Moved w h e by old new
    → ((p : Pid) (r : Reply) → e ≡ Ret p r → ⊥) → new.finished ≡ old.finished → ClientsStand w new (h ▹ e)
clients_on w h e by old new m none same = clients_by w h e by old new m (omega (arith, same, m.stands.finished_most))
    (λ i x low below at. absurd (omega (arith, low, below, same)))
    (λ x at is. left (omega (
      arith,
      slice_get_within new.clients.items new.finished x at,
      ap length m.items,
      length-set old.clients.items (by.0 - 1) (client_of w (h ▹ e) by.0),
      m.stands.processes,
    ))
    (sym (ap (λ (y : Kept). y.returned) (moved_at w h e by old new m new.finished x at)
    ∙ returned_stays h e (new.finished + 1) none) ∙ is))
  where
    left : new.finished < length w.procs → returned h (new.finished + 1) ≡ length (calls_of w (new.finished + 1)) → ⊥
    left below is =
        let other : IsFalse (is_finished w h (new.finished + 1)) =
        subst (λ n. IsFalse (is_finished w h (n + 1))) (sym same)
        (m.stands.next_is_left (omega (arith, below, same))) in
        let all : IsTrue (is_finished w h (new.finished + 1)) =
        eq-eqb (returned h (new.finished + 1)) (length (calls_of w (new.finished + 1))) is in
        cc

-- ---- an event of no process
pub clients_stay : (w : Workload) (h : List Event) (e : Event) (c : Clients) → FitsKind w h e
    → ((by : Pid) → maker e ≡ Client by → ⊥) → done_for h e ≡ None
    → ClientsStand w c h → ClientsStand w c (h ▹ e)
clients_stay w h e c fits none unread stands = record {
  processes = stands.processes;
  clients_are = λ i x at. stands.clients_are i x at ∙ sym (same (i + 1));
  finished_most = stands.finished_most;
  finished_are = λ i below. subst (λ n. IsTrue (n == length (calls_of w (i + 1))))
      (sym (ap (λ (x : Kept). x.returned) (same (i + 1)))) (stands.finished_are i below);
  next_is_left = λ below. subst (λ n. IsFalse (n == length (calls_of w (c.finished + 1))))
      (sym (ap (λ (x : Kept). x.returned) (same (c.finished + 1)))) (stands.next_is_left below);
}
  where
    same : (q : ℕ) → client_of w (h ▹ e) q ≡ client_of w h q
    same q = others_stay w h e q fits (λ by is at. none by is) (ap (is_process q) unread)

-- ---- a read that is done
-- a process that awaits nothing more
abbrev pub served : Kept → Kept
served x = record {
  returned = x.returned;
  entered = x.entered;
  admitted = x.admitted;
  acted = x.acted;
  file = x.file;
  size = x.size;
  moved = x.moved;
  got = x.got;
  awaits = false;
}

-- the process for which the request reads awaits that no longer
served_is : (w : Workload) (h : List Event) (e : Event) (by : Pid) → done_for h e ≡ Some by
    → client_of w (h ▹ e) by.0 ≡ served (client_of w h by.0)
served_is w h (Done k id ok) by is =
    let its : is_process by.0 (reader_at h id.0) ≡ true = ap (is_process by.0) is ∙ eq-eqb by.0 by.0 refl in
    rw its refl
served_is w h e by is = absurd (cc is)

-- no process makes a completion
made_by_none : (h : List Event) (e : Event) (by : Pid) → done_for h e ≡ Some by → (p : Pid) → maker e ≡ Client p → ⊥
made_by_none h (Done k id ok) by is p made = absurd (cc made)
made_by_none h e by is p made = absurd (cc is)

-- what is kept after such a completion
pub record Arrived (w : Workload) (h : List Event) (e : Event) (by : Pid) (old new : Clients) : Type 0 where
  pub first : 1 ≤ by.0
  pub last : by.0 ≤ length w.procs
  pub kind : FitsKind w h e
  pub read : done_for h e ≡ Some by
  pub stands : ClientsStand w old h
  pub items : new.clients.items ≡ slice_set old.clients.items (by.0 - 1) (served (client_of w h by.0))
  pub same : new.finished ≡ old.finished

arrived_at : (w : Workload) (h : List Event) (e : Event) (by : Pid) (old new : Clients)
    → Arrived w h e by old new → (i : ℕ) (x : Kept) → slice_get new.clients.items i ≡ Some x
    → x ≡ client_of w (h ▹ e) (i + 1)
arrived_at w h e by old new a i x at = elim (cases_eq i (by.0 - 1)) [
  | inl here ↦ sym read ∙ ap (λ k. slice_index_or (slice_set old.clients.items (by.0 - 1) mine) k mine) here
      ∙ get_or-set_same old.clients.items (by.0 - 1) mine mine (omega (arith, a.first, a.last, a.stands.processes))
      ∙ sym (served_is w h e by a.read) ∙ ap (client_of w (h ▹ e)) (omega (arith, a.first, here))
  | inr other ↦
      (let within = slice_get_within new.clients.items i x at in
      let was = some_at old.clients.items i
      (omega (arith, within, ap length a.items, length-set old.clients.items (by.0 - 1) mine)) in
      sym read ∙ get_or-set_other old.clients.items (by.0 - 1) i mine mine other
      ∙ get_or_from_slice_get old.clients.items i was.0 mine was.1 ∙ a.stands.clients_are i was.0 was.1
      ∙ sym (others_stay w h e (i + 1) a.kind (λ p made same. made_by_none h e by a.read p made)
      (ap (is_process (i + 1)) a.read
      ∙ ne_eqb by.0 (i + 1) (λ (same : by.0 ≡ i + 1). other (omega (arith, same, a.first))))))
]
  where
    mine : Kept
    mine = served (client_of w h by.0)

    read : slice_index_or (slice_set old.clients.items (by.0 - 1) mine) i mine ≡ x
    read = ap (λ l. slice_index_or l i mine) (sym a.items) ∙ get_or_from_slice_get new.clients.items i x mine at

-- a completion returns no call
done_returns : (h : List Event) (e : Event) (by : Pid) (q : ℕ) → done_for h e ≡ Some by
    → returned (h ▹ e) q ≡ returned h q
done_returns h (Done k id ok) by q is = refl
done_returns h e by q is = absurd (cc is)

pub clients_arrive : (w : Workload) (h : List Event) (e : Event) (by : Pid) (old new : Clients)
    → Arrived w h e by old new → ClientsStand w new (h ▹ e)
clients_arrive w h e by old new a = record {
  processes = ap length a.items ∙ length-set old.clients.items (by.0 - 1) (served (client_of w h by.0))
      ∙ a.stands.processes;
  clients_are = arrived_at w h e by old new a;
  finished_most = omega (arith, a.same, a.stands.finished_most);
  finished_are = λ i below.
      subst (λ n. IsTrue (n == length (calls_of w (i + 1)))) (sym (done_returns h e by (i + 1) a.read))
      (a.stands.finished_are i (omega (arith, below, a.same)));
  next_is_left = λ below.
      subst (λ n. IsFalse (n == length (calls_of w (new.finished + 1))))
      (sym (done_returns h e by (new.finished + 1) a.read))
      (subst (λ n. IsFalse (is_finished w h (n + 1))) (sym a.same)
      (a.stands.next_is_left (omega (arith, below, a.same))));
}

-- a process of the workload, as it is read
pub process_at : (w : Workload) (h : List Event) (c : Clients) (by : Pid) (x : Kept) → 1 ≤ by.0
    → by.0 ≤ length w.procs → ClientsStand w c h → x ≡ slice_index_or c.clients.items (by.0 - 1) x
    → x ≡ client_of w h by.0
process_at w h c by x first last stands read =
    let was = some_at c.clients.items (by.0 - 1) (omega (arith, first, last, stands.processes)) in
    read ∙ get_or_from_slice_get c.clients.items (by.0 - 1) was.0 x was.1 ∙ stands.clients_are (by.0 - 1) was.0 was.1
    ∙ ap (client_of w h) (omega (arith, first))

-- the process that makes an event
pub client_at : (w : Workload) (h : List Event) (c : Clients) (by : Pid) (x : Kept) → ClientFits w h by
    → ClientsStand w c h → x ≡ slice_index_or c.clients.items (by.0 - 1) x → x ≡ client_of w h by.0
client_at w h c by x fits stands read = process_at w h c by x fits.first fits.last stands read
