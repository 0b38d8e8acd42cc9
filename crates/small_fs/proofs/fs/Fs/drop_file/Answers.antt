use Rattle.std.proofs.Common.{◌≡◌, ℕ, List, None, ap, ◌∙◌, arith}
use Rattle.std.specs.Prelude.{◌==◌, count_by}
use Rattle.small_fs.specs.Uses.{uses_in, uses_of}
use Rattle.small_fs.proofs.UsesLaws.{uses_again}
use Rattle.small_fs.proofs.KeyLaws.{within_some}
use Rattle.small_fs.proofs.FilesLaws.{use_counted, stand_set}
use Rattle.small_fs.proofs.fs.Fs.drop_file.Goals as goal

pub remove_all-requires : goal.remove_all-requires
remove_all-requires c b =
    let i = c.self.inside in
    let f = c.take-3.result in
    let same : count_by (λ (block : ℕ). block == b) c.deref.result.now ≡ uses_in b f.blocks =
    ap (λ (bs : List ℕ). count_by (λ (block : ℕ). block == b) bs) (c.deref.ensures.value ∙ c.into_blocks-blocks.ensures)
    ∙ uses_again b f.blocks in
    omega (arith, use_counted i.files.items i.uses.pages c.self.invariant.counted c.args.s.0 f c.take-3.ensures.file b)

pub invariant_of-self : goal.invariant_of-self
invariant_of-self c =
    let i = c.self.inside in
    let v = c.self.invariant in
    let s = c.args.s.0 in
    let f = c.take-3.result in
    let is = c.take-3.ensures.file in
    let same = λ (b : ℕ).
    ap (λ (bs : List ℕ). count_by (λ (block : ℕ). block == b) bs) (c.deref.ensures.value ∙ c.into_blocks-blocks.ensures)
    ∙ uses_again b f.blocks in
    let stand = stand_set i.next i.files.items c.take-3.new.files.items i.names c.take.new.self i.serials
    c.take-2.new.self i.free c.set.new.self i.uses.pages c.remove_all.new.self.pages s None
    (within_some i.files.items s f is) v.whole v.indexed v.counted c.take-3.ensures.rest tt c.take.ensures.rest
    c.take-2.ensures.rest c.set.ensures
    (λ b. omega (arith, c.remove_all.ensures.pages b, same b, ap (uses_of b) is)) in
    record { whole = stand.whole; indexed = stand.indexed; counted = stand.counted; fits = v.fits }
