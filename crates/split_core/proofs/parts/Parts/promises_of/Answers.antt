-- The pages below the size of the file are all that there are.
use Rattle.std.proofs.Common.{◌≡◌, ◌∙◌, sym, subst, refl, arith, Option}
use Rattle.std.specs.Prelude.{IsSome, IfSome}
use Rattle.split_types.specs.LiveFiles.{LiveFile}
use Rattle.split_types.proofs.Shared.{files_are_in_order, size_most}
use Rattle.split_core.proofs.FilesRead.{file_here}
use Rattle.split_core.proofs.PromiseReads.{promised_none, promised_more, promised_same, promised_all}
use Rattle.split_core.proofs.parts.Parts.promises_of.Goals.{then-is_promised, else-is_promised}
use Rattle.split_core.proofs.parts.Parts.promises_of.Goals as goal

pub size_of-requires : goal.size_of-requires
size_of-requires c =
    subst IsSome
    (sym (file_here c.args.w.now c.args.h.now.events c.args.self.now.filing.fs c.args.slot c.args.serial
    c.requires.accepted c.requires.legal c.requires.stands.filing.files c.requires.file)) refl

pub loop-page-init : goal.loop-page-init
loop-page-init c = record {
  few = omega arith;
  counted = promised_none c.args.w.now c.args.h.now.events c.args.serial;
}

pub is_promised-requires-clause-page : goal.is_promised-requires-clause-page
is_promised-requires-clause-page c =
    let w = c.args.w.now in
    let h = c.args.h.now.events in
    let s = c.args.serial in
    let size = subst (λ (o : Option LiveFile). IfSome o (λ f. c.size_of.result ≡ f.size))
    (file_here w h c.args.self.now.filing.fs c.args.slot s c.requires.accepted c.requires.legal
    c.requires.stands.filing.files c.requires.file) c.size_of.ensures in
    record {
      live = c.requires.file.live;
      numbered = ((files_are_in_order w h c.requires.accepted c.requires.legal).live s c.requires.file.live).numbered;
      page = omega (
        arith,
        size,
        size_most w h s.0 c.requires.accepted c.requires.legal,
        c.div_ceil-pages.ensures,
        c.loop-page-test.true,
      );
    }

pub loop-page-preserved : goal.loop-page-preserved
loop-page-preserved c =
    let w = c.args.w.now in
    let h = c.args.h.now.events in
    let so_far = c.loop-page.invariant in
    elim c.if-is_promised.branch [
      | then-is_promised b ↦
          record {
            few = omega (arith, b.promised-is, so_far.few);
            counted = b.promised-is
                ∙ promised_more w h c.args.serial c.loop-page.page c.loop-page.promised so_far.counted
                (sym c.is_promised.ensures ∙ b.if-is_promised.true);
          }
      | else-is_promised b ↦
          record {
            few = omega (arith, b.promised-is, so_far.few);
            counted = b.promised-is
                ∙ promised_same w h c.args.serial c.loop-page.page c.loop-page.promised so_far.counted
                (sym c.is_promised.ensures ∙ b.if-is_promised.false);
          }
    ]

pub returns : goal.returns
returns c =
    let w = c.args.w.now in
    let h = c.args.h.now.events in
    let s = c.args.serial in
    let size = subst (λ (o : Option LiveFile). IfSome o (λ f. c.size_of.result ≡ f.size))
    (file_here w h c.args.self.now.filing.fs c.args.slot s c.requires.accepted c.requires.legal
    c.requires.stands.filing.files c.requires.file) c.size_of.ensures in
    promised_all w h s c.loop-page.page c.loop-page.promised c.requires.accepted c.requires.legal
    (omega (arith, size, c.div_ceil-pages.ensures, c.loop-page-test.false)) c.loop-page.invariant.counted
