-- Turns: the first actor that has a next event, what `go` lines let act, and what is left to drain.
use Rattle.std.proofs.Common.{◌≡◌, ℕ, zero, suc, ◌+◌, ◌-◌, ◌<◌, ◌≤◌, List, [], ◌∷◌, ◌++◌, length, map, take, replicate}
use Rattle.std.proofs.Common.{slice_get, Bool, true, false, Option, Some, None, refl, ap, sym, ◌∙◌, subst, arith}
use Rattle.std.proofs.Common.{nat_le, ◌&&◌, if◌then◌else◌}
use Rattle.std.specs.Prelude.{drop}
use Rattle.std.specs.List.{flat_map}
use Rattle.std.proofs.lemmas.Bool.{eqb-true}
use Rattle.std.proofs.lemmas.Option.{slice_get_past}
use Rattle.std.proofs.lemmas.List.FromFn.{get_or-range_with_len, length-range_with_len}
use Rattle.std.proofs.lemmas.List.{flat_map_more, drop_all, drop_more, replicate-append-replicate}
use Rattle.split_types.specs.declared.actor.Actor.{Actor}
use Rattle.split_types.specs.declared.workload.Go.{Go}
use Rattle.split_types.specs.declared.workload.Workload.{Workload}
use Rattle.split_types.specs.declared.event.Event.{Event}
use Rattle.split_types.specs.History.{◌▹◌}
use Rattle.split_types.specs.Workloads.{processes, calls_of, bound}
use Rattle.split_types.specs.Hooks.{maker}
use Rattle.split_types.specs.Calls.{returned, call_of}
use Rattle.split_types.specs.Clients.{client_state, next_of_call}
use Rattle.split_types.specs.Next.{next}
use Rattle.split_types.specs.Accepted.{IsAccepted}
use Rattle.split_types.specs.Calls.{is_finished}
use Rattle.split_types.specs.Legal.{IsLegal, is_drained, first_next, turn_order, turn, drained_for, drain}
use Rattle.split_types.specs.Legal.{play}
use Rattle.split_types.proofs.Shared.{take_at_some, maker_is, never_stuck}
use Rattle.split_core.specs.declared.step.Step.{Step}
use Rattle.split_core.specs.declared.step.Step.TheVariants.{Made, Idle}
use Rattle.split_core.specs.declared.plan.Plan.{Plan}
use Rattle.split_core.specs.declared.parts.Parts.{Parts}
use Rattle.split_core.specs.StandsFor.{Simulation, StandsFor}
use Rattle.split_core.specs.Steps.{client, clients_from, others, StepsTo, TurnsTo}

-- ---- the first actor with a next event
-- the first of two lists of actors
abbrev pub first_of : Option Event → Option Event → Option Event
first_of None later = later
first_of (Some e) later = Some e

pub first_next-append : (w : Workload) (h : List Event) (xs ys : List Actor)
    → first_next w h (xs ++ ys) ≡ first_of (first_next w h xs) (first_next w h ys)
first_next-append w h [] ys = refl
first_next-append w h (x ∷ xs) ys = by_next (next w h x) (first_next-append w h xs ys)
  where
    by_next : (o : Option Event) → first_next w h (xs ++ ys) ≡ first_of (first_next w h xs) (first_next w h ys)
        → (elim o [ Some e ↦ Some e | None ↦ first_next w h (xs ++ ys) ])
        ≡ first_of (elim o [ Some e ↦ Some e | None ↦ first_next w h xs ]) (first_next w h ys)
    by_next None rest = rest
    by_next (Some e) rest = refl

-- an actor without a next event is passed over
pub pass : (w : Workload) (h : List Event) (a : Actor) (rest : List Actor) → next w h a ≡ None
    → first_next w h (a ∷ rest) ≡ first_next w h rest
pass w h a rest none = ap (λ o. elim o [ Some e ↦ Some e | None ↦ first_next w h rest ]) none

-- one with a next event acts
pub hit : (w : Workload) (h : List Event) (a : Actor) (rest : List Actor) (e : Event) → next w h a ≡ Some e
    → first_next w h (a ∷ rest) ≡ Some e
hit w h a rest e some = ap (λ o. elim o [ Some e ↦ Some e | None ↦ first_next w h rest ]) some

-- a process whose calls have all returned has no next event
none_left : (w : Workload) (h : List Event) (p : ℕ) → is_finished w h p ≡ true → next w h (client p) ≡ None
none_left w h p finished =
    let all = eqb-true (returned h p) (length (calls_of w p)) finished in
    let none : call_of w h p ≡ None = slice_get_past (calls_of w p) (returned h p) (omega (arith, all)) in
    let state = client_state w h (record { 0 = p }) in
    both (nat_le 1 p && nat_le p (length w.procs))
    (ap (λ o. elim o [ None ↦ None | Some call ↦ next_of_call state call ]) none)
  where
    both : (b : Bool) {x : Option Event} → x ≡ None → (if b then x else None) ≡ None
    both true e = e
    both false e = refl

more : (w : Workload) (i : ℕ) → i < length w.procs → clients_from w i ≡ client (i + 1) ∷ clients_from w (i + 1)
more w i below =
    let here = get_or-range_with_len 1 (length w.procs) i 0 below ∙ (let next : 1 + i ≡ i + 1 = omega arith in next) in
    ap (map client) (drop_more (processes w) i 0 (omega (arith, below, length-range_with_len 1 (length w.procs)))
    ∙ ap (λ p. p ∷ drop (i + 1) (processes w)) here)

-- the processes behind one more
pub pass_client : (w : Workload) (h : List Event) (i : ℕ) → i < length w.procs → next w h (client (i + 1)) ≡ None
    → first_next w h (clients_from w i) ≡ first_next w h (clients_from w (i + 1))
pass_client w h i below none =
    ap (first_next w h) (more w i below) ∙ pass w h (client (i + 1)) (clients_from w (i + 1)) none

-- one behind so many with a next event acts
pub hit_client : (w : Workload) (h : List Event) (i : ℕ) (e : Event) → i < length w.procs
    → next w h (client (i + 1)) ≡ Some e → first_next w h (clients_from w i) ≡ Some e
hit_client w h i e below some = ap (first_next w h) (more w i below)
    ∙ hit w h (client (i + 1)) (clients_from w (i + 1)) e some

-- no process is behind the last
pub no_client : (w : Workload) (h : List Event) (i : ℕ) → length w.procs ≤ i → first_next w h (clients_from w i) ≡ None
no_client w h i past = ap (λ l. first_next w h (map client l))
    (drop_all i (processes w) (omega (arith, past, length-range_with_len 1 (length w.procs))))

-- those whose calls have returned are passed over
pub pass_finished : (w : Workload) (h : List Event) (n : ℕ) → n ≤ length w.procs
    → ((i : ℕ) → i < n → is_finished w h (i + 1) ≡ true)
    → first_next w h (clients_from w 0) ≡ first_next w h (clients_from w n)
pass_finished w h zero within finished = refl
pass_finished w h (suc n) within finished =
    pass_finished w h n (omega (arith, within)) (λ i lt. finished i (omega (arith, lt)))
    ∙ pass_client w h n (omega (arith, within)) (none_left w h (n + 1) (finished n (omega arith)))
    ∙ (let next : n + 1 ≡ suc n = omega arith in ap (λ k. first_next w h (clients_from w k)) next)

-- the actors in the order of turns, where so many processes have finished
pub turn_is : (w : Workload) (h : List Event) (n : ℕ) → n ≤ length w.procs
    → ((i : ℕ) → i < n → is_finished w h (i + 1) ≡ true)
    → first_next w h (turn_order w) ≡ first_of (first_next w h (clients_from w n)) (first_next w h others)
turn_is w h n within finished = first_next-append w h (clients_from w 0) others
    ∙ ap (λ o. first_of o (first_next w h others)) (pass_finished w h n within finished)

-- a next event is that of its maker
pub comes : (w : Workload) (h : List Event) (a : Actor) (e : Event) → next w h a ≡ Some e → next w h (maker e) ≡ Some e
comes w h a e is = ap (next w h) (maker_is w h a e is) ∙ is

-- the event that a turn makes is the next of its maker
pub first_comes : (w : Workload) (h : List Event) (actors : List Actor) (e : Event) → first_next w h actors ≡ Some e
    → next w h (maker e) ≡ Some e
first_comes w h [] e is = absurd (cc)
first_comes w h (a ∷ actors) e is = by_next (next w h a) refl (first_comes w h actors e) is
  where
    by_next : (o : Option Event) → next w h a ≡ o → (first_next w h actors ≡ Some e → next w h (maker e) ≡ Some e)
        → (elim o [ Some x ↦ Some x | None ↦ first_next w h actors ]) ≡ Some e → next w h (maker e) ≡ Some e
    by_next None none rest found = rest found
    by_next (Some x) some rest found = comes w h a e (some ∙ found)

-- a core whose clients have finished so far, and what the actors do next there
pub record Asks (v : Simulation) (behind : Option Event) : Type 0 where
  pub accepted : IsAccepted v.workload
  pub legal : IsLegal v.workload v.history
  pub turn : first_next v.workload v.history (turn_order v.workload)
      ≡ first_of behind (first_next v.workload v.history others)

pub asks : (w : Workload) (plan : Plan) (p : Parts) (h : List Event) (v : Simulation) (behind : Option Event)
    → StandsFor w plan p h → (let s : Simulation = record { workload = w; history = h } in s ≡ v)
    → behind ≡ first_next v.workload v.history (clients_from v.workload p.clients.finished) → Asks v behind
asks w plan p h v behind stands same is = subst (λ s. behind
    ≡ first_next s.workload s.history (clients_from s.workload p.clients.finished) → Asks s behind) same here is
  where
    here : behind ≡ first_next w h (clients_from w p.clients.finished)
        → Asks (record { workload = w; history = h }) behind
    here from = record {
      accepted = stands.accepted;
      legal = stands.legal;
      turn = turn_is w h p.clients.finished stands.parts.clients.finished_most stands.parts.clients.finished_are
          ∙ ap (λ o. first_of o (first_next w h others)) (sym from);
    }

-- where the history isn't drained a turn makes the event of the first actor that has one
turn_open : (v : Simulation) (o : Option Event) → is_drained v.workload v.history ≡ false
    → first_next v.workload v.history (turn_order v.workload) ≡ o → turn v.workload v.history ≡ o
turn_open v o going is = by_drained (is_drained v.workload v.history) going ∙ is
  where
    by_drained : (b : Bool) → b ≡ false → (let nothing : Option Event = None in
        if b then nothing else first_next v.workload v.history (turn_order v.workload))
        ≡ first_next v.workload v.history (turn_order v.workload)
    by_drained true e = absurd (cc)
    by_drained false e = refl

-- a turn of the first process that has a next event
pub clients_turn : (v : Simulation) (e : Event) → is_drained v.workload v.history ≡ false → Asks v (Some e)
    → turn v.workload v.history ≡ Some e
clients_turn v e going here = turn_open v (Some e) going here.turn

-- and where no process has one, of the first other actor
pub others_turn : (v : Simulation) (e : Event) → is_drained v.workload v.history ≡ false → Asks v None
    → first_next v.workload v.history others ≡ Some e → turn v.workload v.history ≡ Some e
others_turn v e going here is = turn_open v (Some e) going (here.turn ∙ is)

pub none_drained : (v : Simulation) → Asks v None → first_next v.workload v.history others ≡ None
    → is_drained v.workload v.history ≡ true
none_drained v here is = never_stuck v.workload v.history here.accepted here.legal (here.turn ∙ is)

-- ---- the turns of `go` lines
-- the turns of two lists are those of the first and then those of the second
pub play-append : (w : Workload) (h : List Event) (xs ys : List Actor) → play w h (xs ++ ys) ≡ play w (play w h xs) ys
play-append w h [] ys = refl
play-append w h (x ∷ xs) ys = by_next (next w h x) (play-append w h xs ys) (λ e. play-append w (h ▹ e) xs ys)
  where
    by_next : (o : Option Event) → play w h (xs ++ ys) ≡ play w (play w h xs) ys
        → ((e : Event) → play w (h ▹ e) (xs ++ ys) ≡ play w (play w (h ▹ e) xs) ys)
        → (elim o [ None ↦ play w h (xs ++ ys) | Some e ↦ play w (h ▹ e) (xs ++ ys) ])
        ≡ play w (elim o [ None ↦ play w h xs | Some e ↦ play w (h ▹ e) xs ]) ys
    by_next None none some = none
    by_next (Some e) none some = some e

-- the core took the turns of these actors
pub record Plays (start now : Simulation) (actors : List Actor) : Type 0 where
  pub workload : now.workload ≡ start.workload
  pub history : now.history ≡ play start.workload start.history actors

pub plays_none : (start : Simulation) → Plays start start []
plays_none start = record { workload = refl; history = refl }

pub plays_all : (start now : Simulation) (actors : List Actor) → Plays start now actors
    → now ≡ (let s : Simulation = record {
      workload = start.workload;
      history = play start.workload start.history actors;
    } in s)
plays_all start now actors plays =
    ap (λ w. let s : Simulation = record { workload = w; history = now.history } in s) plays.workload
    ∙ ap (λ h. let s : Simulation = record { workload = start.workload; history = h } in s) plays.history

-- a step of an actor is its turn
idle_turn : (w : Workload) (h : List Event) (a : Actor) → next w h a ≡ None → h ≡ play w h (a ∷ [])
idle_turn w h a is = sym (idle (next w h a) is)
  where
    idle : (o : Option Event) → o ≡ None → (elim o [ None ↦ h | Some e ↦ h ▹ e ]) ≡ h
    idle None e = refl
    idle (Some x) e = absurd (cc)

made_turn : (w : Workload) (h : List Event) (a : Actor) (e : Event) → next w h a ≡ Some e → (h ▹ e) ≡ play w h (a ∷ [])
made_turn w h a e is = sym (made (next w h a) is)
  where
    made : (o : Option Event) → o ≡ Some e → (elim o [ None ↦ h | Some x ↦ h ▹ x ]) ≡ h ▹ e
    made None eq = absurd (cc)
    made (Some x) eq = let here : x ≡ e = cc in ap (λ y. h ▹ y) here

turn_of : (a : Actor) (old new : Simulation) (s : Step) → StepsTo a old new s → Plays old new (a ∷ [])
turn_of a old new (Made i) (e, is, appends) = record {
  workload = ap (λ (v : Simulation). v.workload) appends.appended;
  history = ap (λ (v : Simulation). v.history) appends.appended ∙ made_turn old.workload old.history a e is;
}
turn_of a old new Idle (none, same) = record {
  workload = ap (λ (v : Simulation). v.workload) same;
  history = ap (λ (v : Simulation). v.history) same ∙ idle_turn old.workload old.history a none;
}

pub plays_then : (start old new : Simulation) (xs ys : List Actor) → Plays start old xs → Plays old new ys
    → Plays start new (xs ++ ys)
plays_then start old new xs ys p q = record {
  workload = q.workload ∙ p.workload;
  history = q.history ∙ ap (λ (w : Workload). play w old.history ys) p.workload
      ∙ ap (λ (h : List Event). play start.workload h ys) p.history
      ∙ sym (play-append start.workload start.history xs ys);
}

-- one turn more
pub plays_step : (start old new : Simulation) (xs : List Actor) (a : Actor) (s : Step) → Plays start old xs
    → StepsTo a old new s → Plays start new (xs ++ a ∷ [])
plays_step start old new xs a s p step = plays_then start old new xs (a ∷ []) p (turn_of a old new s step)

-- the actors of one line more
pub lines_more : (xs : List Go) (i : ℕ) (g : Go) → slice_get xs i ≡ Some g
    → flat_map (λ (x : Go). replicate x.times x.actor) (take i xs) ++ replicate g.times g.actor
    ≡ flat_map (λ (x : Go). replicate x.times x.actor) (take (i + 1) xs)
lines_more xs i g at =
    flat_map_more (λ (x : Go). replicate x.times x.actor) [] (take i xs) g
    ∙ ap (flat_map (λ (x : Go). replicate x.times x.actor)) (sym (take_at_some xs i g at))

-- an actor without a next event has none in the turns that are left
pub plays_idle : (start old new : Simulation) (a : Actor) (done times : ℕ) → done ≤ times
    → Plays start old (replicate done a) → StepsTo a old new Idle → Plays start new (replicate times a)
plays_idle start old new a done times within plays (none, same) =
    subst (Plays start new) (replicate-append-replicate done (times - done) a
    ∙ ap (λ n. replicate n a) (omega (arith, within)))
    (plays_then start old new (replicate done a) (replicate (times - done) a) plays (record {
      workload = ap (λ (v : Simulation). v.workload) same;
      history = ap (λ (v : Simulation). v.history) same ∙ sym (stays (times - done));
    }))
  where
    stays : (n : ℕ) → play old.workload old.history (replicate n a) ≡ old.history
    stays zero = refl
    stays (suc n) = ap (λ o. elim o [
      | None ↦ play old.workload old.history (replicate n a)
      | Some e ↦
          play old.workload (old.history ▹ e) (replicate n a)
    ]) none ∙ stays n

-- ---- draining
-- what is left to drain, from here on and from the start
pub record Drains (start now : Simulation) : Type 0 where
  pub workload : now.workload ≡ start.workload
  pub turns : ℕ
  pub same : drained_for turns start.workload now.history ≡ drain start.workload start.history
  pub enough : bound start.workload ≤ length now.history + turns

pub drains_start : (start : Simulation) → Drains start start
drains_start start = record { workload = refl; turns = bound start.workload; same = refl; enough = omega arith }

pub drains_on : (start old new : Simulation) (i : ℕ) → Drains start old → TurnsTo old new (Made i) → Drains start new
drains_on start old new i d (e, is, appends) = on d.turns d.same d.enough
  where
    here : turn start.workload old.history ≡ Some e
    here = ap (λ (w : Workload). turn w old.history) (sym d.workload) ∙ is

    history : new.history ≡ old.history ▹ e
    history = ap (λ (s : Simulation). s.history) appends.appended

    one : (n : ℕ) (o : Option Event) → o ≡ Some e
        → (elim o [ None ↦ old.history | Some x ↦ drained_for n start.workload (old.history ▹ x) ])
        ≡ drained_for n start.workload (old.history ▹ e)
    one n None eq = absurd (cc)
    one n (Some x) eq = let same : x ≡ e = cc in ap (λ y. drained_for n start.workload (old.history ▹ y)) same

    on : (n : ℕ) → drained_for n start.workload old.history ≡ drain start.workload start.history
        → bound start.workload ≤ length old.history + n → Drains start new
    on zero same enough = let ends = ap bound d.workload in absurd (omega (arith, appends.place, appends.below, ends))
    on (suc n) same enough = record {
      workload = ap (λ (s : Simulation). s.workload) appends.appended ∙ d.workload;
      turns = n;
      same = ap (drained_for n start.workload) history ∙ sym (one n (turn start.workload old.history) here) ∙ same;
      enough = let more = ap length history in omega (arith, more);
    }

pub drains_end : (start old new : Simulation) → Drains start old → TurnsTo old new Idle
    → new ≡ (let s : Simulation = record { workload = start.workload; history = drain start.workload start.history } in
    s)
drains_end start old new d (drained, same) =
    same ∙ ap (λ (w : Workload). let s : Simulation = record { workload = w; history = old.history } in s) d.workload
    ∙ ap (λ (h : List Event). let s : Simulation = record { workload = start.workload; history = h } in
    s) (sym (stays d.turns) ∙ d.same)
  where
    by_drained : (b : Bool) → b ≡ true → (let nothing : Option Event = None in
        if b then nothing else first_next old.workload old.history (turn_order old.workload)) ≡ None
    by_drained true e = refl
    by_drained false e = absurd (cc)

    none : turn start.workload old.history ≡ None
    none = ap (λ (w : Workload). turn w old.history) (sym d.workload)
        ∙ by_drained (is_drained old.workload old.history) drained

    by_turn : (n : ℕ) (o : Option Event) → o ≡ None
        → (elim o [ None ↦ old.history | Some x ↦ drained_for n start.workload (old.history ▹ x) ]) ≡ old.history
    by_turn n None e = refl
    by_turn n (Some x) e = absurd (cc)

    stays : (n : ℕ) → drained_for n start.workload old.history ≡ old.history
    stays zero = refl
    stays (suc n) = by_turn n (turn start.workload old.history) none
