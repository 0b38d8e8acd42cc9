use Rattle.std.proofs.Common.{length, ap, sym, ◌∙◌, arith}
use Rattle.fs_layout.specs.Journal.{descriptor_spelling, IsDescriptorImage}
use Rattle.fs_layout.proofs.ReadingLaws.{by_fields, none_read}
use Rattle.fs_layout.proofs.DescriptorLaws.{length-descriptor_block, describes, descriptor_again}
use Rattle.fs_layout.proofs.journal.read_desc.Goals as goal

pub returns-then-b-ne-BLOCK : goal.returns-then-b-ne-BLOCK
returns-then-b-ne-BLOCK c = none_read IsDescriptorImage descriptor_spelling _ (λ y is spelled. c.if-b-ne-BLOCK.true
    (ap length spelled ∙ length-descriptor_block y.t.0 y.homes is.few))

pub returns-then-count-gt-MOST_HOMES : goal.returns-then-count-gt-MOST_HOMES
returns-then-count-gt-MOST_HOMES c = none_read IsDescriptorImage descriptor_spelling c.args.b.now
    (λ y is spelled. let says = describes c.args.b.now y is spelled in omega
    (arith, says.count, c.number_at-count.ensures, is.few, c.if-count-gt-MOST_HOMES.true))

pub returns : goal.returns
returns c =
    let read = c.in_ok-homes.ensures in
    let len = sym c.in_ok-homes.homes.ok.0 ∙ read.len in
    let decides = rw c.deref.ensures.value at c.is_described-is_read.ensures in
    rw (c.then_some.ensures, c.from_vec-homes.ensures) (by_fields IsDescriptorImage descriptor_spelling c.args.b.now
    _ _ (λ y is spelled. descriptor_again y c.args.b.now c.in_ok-homes.homes.items _ _ c.number_at-t.ensures
    c.number_at-count.ensures len read.spelled read.fit is spelled) decides)
