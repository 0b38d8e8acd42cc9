-- What a report shows is read from the parts.
use Rattle.std.proofs.Common.{◌≡◌, ℕ, zero, suc, ◌+◌, ◌-◌, ◌<◌, List, [], ◌∷◌, ◌++◌, length, map, slice_get}
use Rattle.std.proofs.Common.{slice_index, Some, refl, ap, sym, ◌∙◌, subst, arith, inl, inr}
use Rattle.std.proofs.lemmas.Bool.{cases_lt}
use Rattle.std.proofs.lemmas.Grind.{same_number_lists}
use Rattle.std.proofs.lemmas.List.{get_or_append_left, get_or-append-add, map-append, length-append}
use Rattle.std.proofs.lemmas.List.FromFn.{get_or-map-range_with_len, length-map-range_with_len}
use Rattle.cause_set.specs.Members.{pid_of}
use Rattle.split_types.specs.declared.ids.Pid.{Pid}
use Rattle.split_types.specs.declared.actor.Actor.{Actor}
use Rattle.split_types.specs.declared.actor.Actor.TheVariants.{Client, Wb, Cm, Dq, Dn, Tk}
use Rattle.split_types.specs.declared.request.Request.{Request}
use Rattle.split_types.specs.declared.facts.ReqFact.{ReqFact}
use Rattle.split_types.specs.declared.facts.AccountFact.{AccountFact}
use Rattle.split_types.specs.declared.facts.Facts.{Facts}
use Rattle.split_types.specs.declared.workload.Workload.{Workload}
use Rattle.split_types.specs.declared.event.Event.{Event}
use Rattle.split_types.specs.Requests.{requests}
use Rattle.split_types.specs.Share.{share_of, bill_of_parts}
use Rattle.split_types.specs.Bills.{billed}
use Rattle.split_types.specs.Workloads.{processes}
use Rattle.split_types.specs.FactsOf.{request_fact, made, shown_actors, facts_of}
use Rattle.split_types.specs.Accepted.{IsAccepted}
use Rattle.split_types.specs.Legal.{IsLegal}
use Rattle.split_types.proofs.Shared.{bill_of_one, known}
use Rattle.split_core.specs.declared.plan.Plan.{Plan}
use Rattle.split_core.specs.declared.parts.Parts.{Parts}
use Rattle.split_core.specs.declared.note.book.Entry.{Entry}
use Rattle.split_core.specs.declared.note.book.Book.{Book}
use Rattle.split_core.specs.declared.note.money.Money.{Money}
use Rattle.split_core.specs.declared.note.counts.Counts.{Counts}
use Rattle.split_core.specs.Book.{IsEntry, AreEntries, BookStands}
use Rattle.split_core.specs.Money.{MoneyStands}
use Rattle.split_core.specs.Counts.{CountsStand}
use Rattle.split_core.specs.StandsFor.{StandsFor}

-- ---- requests
-- a process with its share of a cost
abbrev pub share_in : ℕ → List ℕ → ℕ → Pid × ℕ
share_in cost set p = (pid_of p, share_of cost set p)

pub shares_are : (cost : ℕ) (set ps : List ℕ)
    → map (share_in cost set) ps ≡ map {B = Pid × ℕ} (λ p. (pid_of p, bill_of_parts cost (set ∷ []) p)) ps
shares_are cost set [] = refl
shares_are cost set (p ∷ ps) =
    ap (λ n. let first : Pid × ℕ = (pid_of p, n) in first ∷ map (share_in cost set) ps) (sym (bill_of_one cost set p))
    ∙ ap (λ l. let first : Pid × ℕ = (pid_of p, bill_of_parts cost (set ∷ []) p) in first ∷ l) (shares_are cost set ps)

-- the entries are those of the requests, in their order
pub entries_are : (w : Workload) (b : Book) (h : List Event) → IsAccepted w → IsLegal w h → BookStands b h
    → AreEntries h b.entries.items
entries_are w b h accepted legal stands i x at =
    let is = stands.entries_are i x at in
    subst (λ n. IsEntry h n x) (sym ((known w h accepted legal).numbered.number_is i x.request is.request_is)) is

requests_from : (xs : List Entry) (rs : List Request) → length xs ≡ length rs
    → ((i : ℕ) (x : Entry) → slice_get xs i ≡ Some x → slice_get rs i ≡ Some x.request) → map (λ x. x.request) xs ≡ rs
requests_from [] [] long each = refl
requests_from [] (r ∷ rs) long each = absurd (cc)
requests_from (x ∷ xs) [] long each = absurd (cc)
requests_from (x ∷ xs) (r ∷ rs) long each =
    let first : r ≡ x.request = cc (each 0 x refl) in
    let rest = requests_from xs rs (cc (long)) (λ i y at. each (suc i) y at) in
    cc

pub requests_are : (w : Workload) (b : Book) (h : List Event) → IsAccepted w → IsLegal w h → BookStands b h
    → map (λ x. x.request) b.entries.items ≡ requests h
requests_are w b h accepted legal stands =
    requests_from b.entries.items (requests h) (stands.added
    ∙ (known w h accepted legal).numbered.counted) (λ i x at. (stands.entries_are i x at).request_is)

-- ---- bills
pub bills_are : (w : Workload) (m : Money) (h : List Event) → MoneyStands w m h
    → m.billed.items ≡ map (billed w h) (processes w)
bills_are w m h stands =
    same_number_lists m.billed.items (map (billed w h) (processes w)) (stands.payers
    ∙ sym (length-map-range_with_len (billed w h) 1 (length w.procs))) (λ i lt.
    let within : i < length w.procs = omega (arith, lt, stands.payers) in
    stands.billed_are i within ∙ sym (get_or-map-range_with_len (billed w h) 1 (length w.procs) i (i + 1) 0 within
    (omega arith)))

-- ---- counts
pub counts_are : (w : Workload) (c : Counts) (h : List Event) → CountsStand w c h
    → c.made.items ≡ map (made h) (shown_actors w)
counts_are w c h stands = same_number_lists c.made.items (map (made h) (shown_actors w)) (stands.actors ∙ sym long) each
  where
    client : ℕ → Actor
    client p = Client (record { 0 = p })

    others : List Actor
    others = Wb ∷ Cm ∷ Dq ∷ Dn 0 ∷ Tk ∷ []

    clients : List ℕ
    clients = map (λ p. made h (client p)) (processes w)

    n : ℕ
    n = length w.procs

    split : map (made h) (shown_actors w) ≡ clients ++ map (made h) others
    split = map-append (made h) (map client (processes w)) others
        ∙ ap (λ l. l ++ map (made h) others) (map-map (processes w))
      where
        map-map : (ps : List ℕ) → map (made h) (map client ps) ≡ map (λ p. made h (client p)) ps
        map-map [] = refl
        map-map (p ∷ ps) = ap (λ l. made h (client p) ∷ l) (map-map ps)

    count : length clients ≡ n
    count = length-map-range_with_len (λ p. made h (client p)) 1 n

    long : length (map (made h) (shown_actors w)) ≡ n + 5
    long = ap length split ∙ length-append clients (map (made h) others) ∙ omega (arith, count)

    later : (k : ℕ) → slice_index (map (made h) (shown_actors w)) (n + k) ≡ slice_index (map (made h) others) k
    later k = ap (λ l. slice_index l (n + k)) split
        ∙ ap (λ m. slice_index (clients ++ map (made h) others) (m + k)) (sym count)
        ∙ get_or-append-add clients (map (made h) others) k 0

    tail : (k : ℕ) → k < 5 → slice_index c.made.items (n + k) ≡ slice_index (map (made h) others) k
    tail zero lt = ap (slice_index c.made.items) (omega arith) ∙ stands.made_are Wb tt
    tail (suc zero) lt = stands.made_are Cm tt
    tail (suc (suc zero)) lt = stands.made_are Dq tt
    tail (suc (suc (suc zero))) lt = stands.made_are (Dn 0) tt
    tail (suc (suc (suc (suc zero)))) lt = stands.made_are Tk tt
    tail (suc (suc (suc (suc (suc k))))) lt = absurd (omega (arith, lt))

    each : (i : ℕ) → i < length c.made.items → slice_index c.made.items i
        ≡ slice_index (map (made h) (shown_actors w)) i
    each i lt = elim (cases_lt i n) [
      | inl below ↦
          ap (slice_index c.made.items) (omega arith)
          ∙ stands.made_are (client (i + 1)) (omega arith, omega (arith, below))
          ∙ sym (get_or-map-range_with_len (λ p. made h (client p)) 1 n i (i + 1) 0 below (omega arith))
          ∙ sym (get_or_append_left clients (map (made h) others) 0 i (omega (arith, below, count)))
          ∙ ap (λ l. slice_index l i) (sym split)
      | inr past ↦
          (let k : ℕ = i - n in
          let place : i ≡ n + k = omega (arith, past) in
          ap (slice_index c.made.items) place ∙ tail k (omega (arith, lt, stands.actors, past)) ∙ sym (later k)
          ∙ ap (slice_index (map (made h) (shown_actors w))) (sym place))
    ]

-- ---- all together
pub facts_are : (w : Workload) (plan : Plan) (p : Parts) (h : List Event) (reqs : List ReqFact) (bills : List ℕ)
    (accounts : List AccountFact) (counts : List ℕ) → StandsFor w plan p h
    → reqs ≡ map (λ x. request_fact w h x.request) p.book.entries.items → bills ≡ p.money.billed.items → accounts ≡ []
    → counts ≡ p.counts.made.items
    → (let f : Facts = record {
      reqs = reqs;
      billed = bills;
      accounts = accounts;
      made = counts;
      clock = p.time.clock;
    } in f ≡ facts_of w h)
facts_are w plan p h reqs bills accounts counts stands are billed none made =
    let facts : reqs ≡ map (request_fact w h) (requests h) = are ∙ map-map p.book.entries.items
    ∙ ap (map (request_fact w h)) (requests_are w p.book h stands.accepted stands.legal stands.parts.book) in
    let bill = billed ∙ bills_are w p.money h stands.parts.money in
    let count = made ∙ counts_are w p.counts h stands.parts.counts in
    let clock = stands.parts.time.clock_is in
    rw (facts, bill, none, count, clock) refl
  where
    map-map : (xs : List Entry) → map (λ x. request_fact w h x.request) xs
        ≡ map (request_fact w h) (map (λ x. x.request) xs)
    map-map [] = refl
    map-map (x ∷ xs) = ap (λ l. request_fact w h x.request ∷ l) (map-map xs)
