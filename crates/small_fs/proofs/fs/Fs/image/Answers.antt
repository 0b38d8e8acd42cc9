use Rattle.std.proofs.Common.{ap, ◌∙◌}
use Rattle.split_types.specs.declared.buf.Buf.TheVariants.{Bitmap}
use Rattle.split_types.specs.LiveFiles.{metadata_block}
use Rattle.small_fs.specs.Files.{Files}
use Rattle.small_fs.proofs.UsesLaws.{bitmap_counted}
use Rattle.small_fs.proofs.fs.Fs.image.Goals as goal

pub returns-in-Bitmap : goal.returns-in-Bitmap
returns-in-Bitmap c =
    let i = c.self.inside in
    rw c.in-Bitmap.is (c.put.ensures ∙ bitmap_counted i.uses i.files.items c.self.invariant.counted
    ∙ ap (λ (fs : Files). metadata_block fs.first fs.slots Bitmap) c.self.view_is)
