use Rattle.std.proofs.Common.{◌≡◌, ◌+◌, ◌-◌, ◌<◌, length, drop, arith, subst, sym, ap, ◌∙◌}
use Rattle.std.specs.List.{remove}
use Rattle.std.proofs.lemmas.List.{length-drop}
use Rattle.std.proofs.lemmas.List.Quantifiers.{all_pairs_remove}
use Rattle.block_queue.specs.Backlog.{IsById}
use Rattle.block_queue.proofs.Places.{drop-remove, slice_get-behind}
use Rattle.block_queue.proofs.waiting.Waiting.remove.Goals as goal

pub invariant_of-self : goal.invariant_of-self
invariant_of-self c =
    let start = c.self.inside.start in
    let old = c.self.inside.items.items in
    let left : drop start c.remove.new.self.items ≡ remove (drop start old) c.args.at =
    ap (drop start) c.remove.ensures.items ∙ drop-remove old start c.args.at (omega arith) in
    let within : c.args.at < length (drop start old) =
    omega (arith, c.requires, ap length (ap (λ s. s.requests) c.self.view_is)) in (
      omega (arith, length-drop start old),
      subst IsById (sym left)
          (all_pairs_remove (λ a b. a.id.0 < b.id.0) _ _ within c.self.invariant.1),
    )

pub returns-then-at-len-clause-request : goal.returns-then-at-len-clause-request
returns-then-at-len-clause-request c =
    let start = c.self.inside.start in
    let old = c.self.inside.items.items in
    let within : start + c.args.at < length old = omega (
      arith,
      c.requires,
      ap length (ap (λ s. s.requests) c.self.view_is),
      length-drop start old,
    ) in
    rw (← c.self.view_is) (slice_get-behind old start c.args.at c.remove.result within c.remove.ensures.value)

pub returns-then-at-len-clause-requests : goal.returns-then-at-len-clause-requests
returns-then-at-len-clause-requests c =
    rw (c.remove.ensures.items, ← c.self.view_is) (drop-remove c.self.inside.items.items c.self.inside.start c.args.at
    (omega arith))

pub invariant_of-self-2 : goal.invariant_of-self-2
invariant_of-self-2 c =
    let start = c.self.inside.start in
    let old = c.self.inside.items.items in
    let rest : start + c.args.at - start ≡ c.args.at = omega arith in
    let left : drop (start + 1) c.move_up.new.items.items ≡ remove (drop start old) c.args.at = c.move_up.ensures.left
    ∙ ap (remove (drop start old)) rest in
    let within : c.args.at < length (drop start old) =
    omega (arith, c.requires, ap length (ap (λ s. s.requests) c.self.view_is)) in (
      omega (arith, length-drop start old),
      subst IsById (sym left)
          (all_pairs_remove (λ a b. a.id.0 < b.id.0) _ _ within c.self.invariant.1),
    )

pub returns-clause-request : goal.returns-clause-request
returns-clause-request c =
    let start = c.self.inside.start in
    let old = c.self.inside.items.items in
    let within : start + c.args.at < length old = omega (
      arith,
      c.requires,
      ap length (ap (λ s. s.requests) c.self.view_is),
      length-drop start old,
    ) in
    rw (← c.self.view_is) (slice_get-behind old start c.args.at c.index-r.result.now within c.index-r.ensures)
