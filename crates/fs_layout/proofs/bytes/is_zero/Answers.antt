use Rattle.std.proofs.Common.{◌≡◌, ◌-◌, length, take, drop, ◌∙◌, ap, get_or, arith}
use Rattle.std.proofs.lemmas.List.{length-take, length-drop}
use Rattle.fs_layout.proofs.FieldLaws.{zeros_from_all, get_or-zeros}
use Rattle.fs_layout.proofs.bytes.is_zero.Goals as goal

pub returns : goal.returns
returns c =
    let part = take (c.args.to - c.args.from) (drop c.args.from c.args.bytes.now) in
    let len : length part ≡ c.args.to - c.args.from = omega (
      arith,
      length-take (c.args.to - c.args.from)
          (drop c.args.from c.args.bytes.now),
      length-drop c.args.from c.args.bytes.now,
    ) in (
      λ e. zeros_from_all part _ len (c.are_zero.ensures.0 e),
      λ e. c.are_zero.ensures.1
          (λ i within. ap (λ xs. get_or xs i 0) e ∙ get_or-zeros _ i),
    )
