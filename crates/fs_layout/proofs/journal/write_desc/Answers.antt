use Rattle.fs_layout.proofs.DescriptorLaws.{descriptor_written}
use Rattle.fs_layout.proofs.journal.write_desc.Goals as goal

pub returns : goal.returns
returns c =
    let homes = c.as_slice-homes.ensures in
    descriptor_written c.args.d.now.t.0 c.args.d.now.homes _ _ _ _ _ _ c.requires.value.few c.requires.block
    c.clear.ensures c.put.ensures c.put_number.ensures (rw homes at c.put_number-2.ensures)
    (rw homes at c.put_numbers.ensures)
