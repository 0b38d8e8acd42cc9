-- What follows the bytes in an array of zeros are zeros.
use Rattle.std.proofs.Common.{ap, ◌++◌, length}
use Rattle.std.proofs.lemmas.List.{drop-replicate}
use Rattle.split_types.proofs.name.padded_bytes.Goals as goal

pub returns : goal.returns
returns c = rw c.copy_from_slice.ensures.after (ap (λ l. c.args.bytes.now ++ l)
    (drop-replicate (length c.args.bytes.now) 32 0))
