-- One process more is billed.
use Rattle.std.proofs.Common.{◌≡◌, ℕ, ◌∷◌, ◌+◌, ◌-◌, ◌<◌, length, slice_index, arith, ap, sym, ◌∙◌, subst}
use Rattle.std.proofs.lemmas.List.{length-set}
use Rattle.split_types.specs.Share.{share_of}
use Rattle.split_core.proofs.MoneyNotes.{IsLeftOf, whole_left, rest_left, first_in, to_come, come_all, billed_first}
use Rattle.split_core.proofs.note.money.bill.Goals as goal

pub loop-p-init : goal.loop-p-init
loop-p-init c =
    let all : c.into_iter-p-iterator.result ≡ c.args.tag.now = c.into_iter-p-iterator.ensures.into_iter_gives
    ∙ c.iter-p-items.ensures in
    record {
      left = subst (IsLeftOf c.args.tag.now) (sym all) (whole_left c.args.tag.now c.rises.ensures);
      due = λ i within. ap (λ left. slice_index c.args.billed.now i + to_come c.args.cost c.args.tag.now left (i + 1))
          all
          ∙ ap (λ n. slice_index c.args.billed.now i + n) (come_all c.args.cost c.args.tag.now (i + 1));
    }

pub loop-p-preserved : goal.loop-p-preserved
loop-p-preserved c =
    let set = c.args.tag.now in
    let q : ℕ = c.in-Some.p.0 in
    let first : c.loop-p.p-iterator ≡ q ∷ c.next.new.self = c.in-Some.ensures.steps in
    let left : IsLeftOf set (q ∷ c.next.new.self) = subst (IsLeftOf set) first c.loop-p.invariant.left in
    let payer = c.requires.payers q (first_in set q c.next.new.self left) in
    let due : (i : ℕ) → i < length c.loop-p.billed
    → slice_index c.loop-p.billed i + to_come c.args.cost set (q ∷ c.next.new.self) (i + 1)
    ≡ slice_index c.args.billed.now i + share_of c.args.cost set (i + 1) =
    λ i within. ap (λ l. slice_index c.loop-p.billed i + to_come c.args.cost set l (i + 1)) (sym first)
    ∙ c.loop-p.invariant.due i within in
    rw c.share_of.ensures (record {
      left = rest_left set q c.next.new.self left;
      due = λ i within. billed_first c.args.cost set q c.next.new.self c.loop-p.billed c.args.billed.now left payer.0
          (omega (arith, payer.1, c.loop-p.auto.billed)) due i
          (omega (
            arith,
            within,
            length-set c.loop-p.billed (q - 1)
                (slice_index c.loop-p.billed (q - 1) + share_of c.args.cost set q),
          ));
    })
