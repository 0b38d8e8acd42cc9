use Rattle.std.proofs.Common.{◌≡◌, ◌<◌, [], length, map, get_or, vec_len, refl, ap, sym, ◌∙◌, arith, inl, inr}
use Rattle.std.proofs.lemmas.Bool.Decides.{nat_tests}
use Rattle.std.proofs.lemmas.List.{length-map, get_or-map}
use Rattle.sim_disk.specs.Bytes.{filled}
use Rattle.sim_disk.proofs.Filled.{length-filled}
use Rattle.sim_disk.proofs.SharedLaws.{some_left}
use Rattle.sim_disk.proofs.shared.Shared.make_ready.Goals as goal

-- a byte is left whose block isn't made, so memory is ready
pub unwrap-blank-requires : goal.unwrap-blank-requires
unwrap-blank-requires c =
    let blocks = map (λ v. v.items) c.self.inside.blocks.items in
    let v = c.index.result.now in
    let here : get_or blocks c.args.byte [] ≡ v.items =
    get_or-map (λ v. v.items) c.self.inside.blocks.items c.args.byte v []
    (omega (arith, c.self.invariant.all, length-map c.self.inside.blocks.items (λ v. v.items)))
    ∙ ap (λ v. v.items) (sym c.index.ensures) in
    let nothing : vec_len v ≡ 0 = grind (arith, nat_tests, c.is_empty.ensures, c.if-is_empty.true) in
    let none : get_or blocks c.args.byte [] ≡ [] = elim (c.self.invariant.made c.args.byte) [
      | inl gone ↦ gone
      | inr made ↦ absurd (omega (arith, ap length (sym here ∙ made), length-filled c.args.byte, v.ok.0, nothing))
    ] in
    let some : 0 < c.self.inside.left =
    some_left blocks c.args.byte c.self.inside.left (filled c.args.byte) c.self.invariant (omega arith) refl none in
    let there : 0 < vec_len c.self.inside.ready = omega (
      arith,
      c.requires,
      some,
      ap (λ s. s.left) c.self.view_is,
      ap (λ s. s.ready) c.self.view_is,
    ) in
    c.pop.ensures.variant.1 there
