use Rattle.std.proofs.Common.{ℕ, sym, ap, ◌∙◌}
use Rattle.std.specs.Prelude.{Option, option_map}
use Rattle.split_types.specs.declared.ids.Serial.{Serial}
use Rattle.split_types.specs.declared.ids.Slot.{Slot}
use Rattle.small_fs.specs.Files.{next_file}
use Rattle.small_fs.proofs.KeyLaws.{none_free, least_free}
use Rattle.small_fs.proofs.fs.Fs.to_make.Goals as goal

made : ℕ → Option ℕ → Option (Slot × Serial)
made next o = option_map (λ s. (record { 0 = s }, record { 0 = next })) o

pub returns-in_err-at : goal.returns-in_err-at
unfolding made
returns-in_err-at c =
    let i = c.self.inside in
    let v = c.self.invariant in
    c.from_residual.ensures
    ∙ ap (made i.next) (sym (none_free i.files.items i.free v.whole.count v.indexed.free_are c.in_err-at.ensures.none))
    ∙ ap next_file c.self.view_is

pub returns : goal.returns
unfolding made
returns c =
    let i = c.self.inside in
    let v = c.self.invariant in
    ap (made i.next)
    (sym (least_free i.files.items i.free c.in_ok-at.at v.whole.count v.indexed.free_len v.indexed.free_are
    c.in_ok-at.ensures.least)) ∙ ap next_file c.self.view_is
