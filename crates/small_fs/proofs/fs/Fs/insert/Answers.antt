use Rattle.std.proofs.Common.{◌≡◌, ◌+◌, ap, ◌∙◌, arith}
use Rattle.split_types.specs.LiveFiles.{free_slot, slot_named}
use Rattle.small_fs.specs.Files.{Files}
use Rattle.small_fs.specs.Keys.{name_key, serial_key}
use Rattle.small_fs.specs.Uses.{uses_of}
use Rattle.small_fs.proofs.KeyLaws.{no_name, no_serial}
use Rattle.small_fs.proofs.FilesLaws.{next_free, is_free, no_key, index_set, whole_set, counted_set, made_uses, made_whole}
use Rattle.small_fs.proofs.fs.Fs.insert.Goals as goal

pub put-requires-clause-empty : goal.put-requires-clause-empty
put-requires-clause-empty c =
    let i = c.self.inside in
    let free = is_free i.files.items c.args.at.0 (ap (λ (fs : Files). free_slot fs.slots) c.self.view_is
    ∙ next_free c.args.self.now c.args.at _ c.requires.free) in
    no_key name_key i.files.items i.names c.args.at.0 c.self.invariant.indexed.names_are free.within free.none

pub put-requires-clause-absent : goal.put-requires-clause-absent
put-requires-clause-absent c =
    let i = c.self.inside in
    no_name i.files.items i.names c.args.n c.self.invariant.indexed.names_are
    (ap (λ (fs : Files). slot_named fs.slots c.args.n) c.self.view_is ∙ c.requires.fresh)

pub put-requires-2-clause-empty : goal.put-requires-2-clause-empty
put-requires-2-clause-empty c =
    let i = c.self.inside in
    let free = is_free i.files.items c.args.at.0 (ap (λ (fs : Files). free_slot fs.slots) c.self.view_is
    ∙ next_free c.args.self.now c.args.at _ c.requires.free) in
    no_key serial_key i.files.items i.serials c.args.at.0 c.self.invariant.indexed.serials_are free.within free.none

pub put-requires-2-clause-absent : goal.put-requires-2-clause-absent
put-requires-2-clause-absent c =
    let i = c.self.inside in
    no_serial i.files.items i.serials i.next c.self.invariant.indexed.serials_are c.self.invariant.whole

pub invariant_of-self : goal.invariant_of-self
invariant_of-self c =
    let i = c.self.inside in
    let v = c.self.invariant in
    let at = c.args.at.0 in
    let file = c.made.result in
    let free = is_free i.files.items at (ap (λ (fs : Files). free_slot fs.slots) c.self.view_is
    ∙ next_free c.args.self.now c.args.at _ c.requires.free) in
    let next : i.next ≡ c.args.self.now.next = ap (λ (fs : Files). fs.next) c.self.view_is in
    let count = v.whole.count in
    rw c.made.ensures (record {
      whole = whole_set i.next (i.next + 1) i.files.items at _ (omega arith) v.whole (made_whole i.next c.args.n);
      indexed = index_set i.files.items i.names i.serials i.free _ _ _ at _ count (omega (arith, free.within)) v.indexed
          c.put.ensures c.put-2.ensures c.set.ensures;
      counted = counted_set i.files.items i.uses.pages i.uses.pages at _ free.within v.counted
          (λ b. omega (arith, made_uses b (record { 0 = i.next }) c.args.n, ap (uses_of b) free.none));
      fits = omega (arith, c.requires.few);
    })
