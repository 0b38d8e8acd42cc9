use Rattle.std.proofs.Common.{refl, ap}
use Rattle.split_types.specs.LiveFiles.{grown_file, file_at}
use Rattle.small_fs.specs.Files.{Files}
use Rattle.small_fs.proofs.KeyLaws.{has_some}
use Rattle.small_fs.proofs.FilesLaws.{stand_changed}
use Rattle.small_fs.proofs.fs.Fs.grow.Goals as goal

pub invariant_of-self : goal.invariant_of-self
invariant_of-self c =
    let i = c.self.inside in
    let v = c.self.invariant in
    let s = c.args.s.0 in
    let file = has_some (file_at i.files.items s)
    (rw (ap (λ (fs : Files). file_at fs.slots s) c.self.view_is) c.requires) in
    let stand = stand_changed i.next i.files.items c.grow.new.files.items i.names i.serials i.free i.uses.pages
    i.uses.pages (grown_file c.args.size) s file.0 file.1 (record { name = refl; serial = refl; pages = refl }) v.whole
    v.indexed v.counted c.grow.ensures (λ b. refl) in
    record { whole = stand.whole; indexed = stand.indexed; counted = stand.counted; fits = v.fits }
