use Rattle.std.proofs.Common.{refl, arith}
use Rattle.fs_layout.proofs.DirectoryLaws.{too_long, unnamed, file_found}
use Rattle.fs_layout.proofs.directory.read_file.Goals as goal

pub returns-then-len-gt-MOST_NAME : goal.returns-then-len-gt-MOST_NAME
returns-then-len-gt-MOST_NAME c = too_long c.args.b.now c.if-len-gt-MOST_NAME.true

pub returns-in_err-name : goal.returns-in_err-name
returns-in_err-name c = rw c.from_residual.ensures (unnamed c.args.b.now _ refl (λ named. let e =
    c.in_err-name.ensures.exact.1 named in cc))

pub returns : goal.returns
returns c = rw c.then_some.ensures (file_found c.args.b.now _ _ c.args.serial _ (λ i. omega (arith, c.type_inv.b i))
    c.requires.len c.requires.serial c.requires.fits refl (omega arith) c.in_ok-name.ensures.same
    (c.in_ok-name.ensures.exact.0 refl) c.is_zero.ensures)
