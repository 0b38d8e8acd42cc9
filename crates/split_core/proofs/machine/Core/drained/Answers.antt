-- What is left is read from the parts.
use Rattle.std.proofs.Common.{◌≡◌, ◌∙◌, Bool, true, false, not, ◌&&◌, Option, Some, None, is_some, refl, ap, sym, arith}
use Rattle.std.specs.Prelude.{IfNone, IfSome, is_none}
use Rattle.split_types.specs.Legal.{is_drained}
use Rattle.split_types.specs.declared.buf.Buf.{Buf}
use Rattle.page_cache.specs.Cached.{Cached}
use Rattle.page_cache.specs.Changes.{IsReady, IsFirstReady}
use Rattle.journal_core.specs.Journaled.{can_seal, next_due}
use Rattle.split_core.specs.StandsFor.{Simulation}
use Rattle.split_core.proofs.DrainReads.{calls_left, requests_left, pages_left, drained_by}
use Rattle.split_core.proofs.machine.Core.drained.Goals as goal

pub returns-then-parts-len : goal.returns-then-parts-len
returns-then-parts-len c =
    let i = c.self.inside in
    sym (calls_left i.workload i.plan i.parts i.history.events c.self.invariant
    (omega (arith, c.len.ensures, c.if-parts-len.true)))
    ∙ ap (λ (v : Simulation). is_drained v.workload v.history) c.self.view_is

pub returns-then-not-is_empty : goal.returns-then-not-is_empty
returns-then-not-is_empty c =
    let i = c.self.inside in
    sym (requests_left i.workload i.parts.dispatch i.history.events c.self.invariant.parts.dispatch
    (sym c.is_empty.ensures ∙ c.if-not-is_empty.true))
    ∙ ap (λ (v : Simulation). is_drained v.workload v.history) c.self.view_is

-- some page is dirty where one is found
found_ready : (cached : Cached) (o : Option Buf) → is_some o ≡ true → IfSome o (IsFirstReady cached)
    → (b : Buf) × IsReady cached b
found_ready cached None is found = absurd (cc)
found_ready cached (Some b) is found = (b, found.ready)

-- and none where none is found
none_ready : (cached : Cached) (o : Option Buf) → is_some o ≡ false → IfNone o ((b : Buf) → IsReady cached b → ⊥)
    → (b : Buf) → IsReady cached b → ⊥
none_ready cached None is none = none
none_ready cached (Some b) is none = absurd (cc)

none_is : {X : Type 0} (o : Option X) (r : Bool) → is_some o ≡ not r → r ≡ is_none o
none_is None true is = refl
none_is None false is = absurd (cc)
none_is (Some x) true is = absurd (cc)
none_is (Some x) false is = refl

pub returns-then-is_some : goal.returns-then-is_some
returns-then-is_some c =
    let i = c.self.inside in
    let found = found_ready i.parts.pages.cache c.first_dirty.result (sym c.is_some.ensures ∙ c.if-is_some.true)
    c.first_dirty.ensures.first in
    sym (pages_left i.workload i.plan i.parts i.history.events found.0 c.self.invariant found.1)
    ∙ ap (λ (v : Simulation). is_drained v.workload v.history) c.self.view_is

pub returns-then-not-can_seal : goal.returns-then-not-can_seal
returns-then-not-can_seal c =
    let i = c.self.inside in
    let j = i.parts.journaling.journal in
    let none = none_ready i.parts.pages.cache c.first_dirty.result (sym c.is_some.ensures ∙ c.if-is_some.false)
    c.first_dirty.ensures.none in
    let seals : can_seal j ≡ false = sym c.can_seal.ensures ∙ c.if-not-can_seal.true in
    let rests : c.is_none.result ≡ (not (can_seal j) && is_none (next_due j true)) =
    none_is c.next_request.result c.is_none.result c.is_none.ensures ∙ ap is_none c.next_request.ensures ∙ ap (λ b. not b && is_none (next_due j true)) (sym seals) in
    drained_by i.workload i.plan i.parts i.history.events c.is_none.result c.self.invariant
    (omega (arith, c.len.ensures, c.if-parts-len.false)) (sym c.is_empty.ensures ∙ c.if-not-is_empty.false) none rests
    ∙ ap (λ (v : Simulation). is_drained v.workload v.history) c.self.view_is

pub returns-else-not-can_seal : goal.returns-else-not-can_seal
returns-else-not-can_seal c =
    let i = c.self.inside in
    let j = i.parts.journaling.journal in
    let none = none_ready i.parts.pages.cache c.first_dirty.result (sym c.is_some.ensures ∙ c.if-is_some.false)
    c.first_dirty.ensures.none in
    let seals : can_seal j ≡ true = sym c.can_seal.ensures ∙ c.if-not-can_seal.false in
    drained_by i.workload i.plan i.parts i.history.events (not c.can_seal.result) c.self.invariant
    (omega (arith, c.len.ensures, c.if-parts-len.false)) (sym c.is_empty.ensures ∙ c.if-not-is_empty.false) none
    (ap not c.if-not-can_seal.false ∙ ap (λ b. not b && is_none (next_due j true)) (sym seals))
    ∙ ap (λ (v : Simulation). is_drained v.workload v.history) c.self.view_is
