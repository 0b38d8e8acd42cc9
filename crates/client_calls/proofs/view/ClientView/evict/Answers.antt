use Rattle.std.proofs.Common.{Some, refl, sym, ap, subst, ◌∙◌, inl, inr}
use Rattle.split_types.specs.declared.buf.Buf.{Buf}
use Rattle.client_calls.specs.View.{View}
use Rattle.client_calls.specs.Shows.{IsEvicted}
use Rattle.client_calls.proofs.ShownLaws.{found_is}
use Rattle.client_calls.proofs.view.ClientView.evict.Goals as goal

pub returns-in_err-serial : goal.returns-in_err-serial
returns-in_err-serial g c next evicted =
    let e = subst (λ (x : View). IsEvicted x.cache next) (sym c.self.view_is) evicted in
    let f = found_is _ next c.victim.result e c.victim.ensures.none c.victim.ensures.victim in
    c.from_residual.ensures ∙ rw (f ∙ c.in_err-serial.was) refl

pub returns-in-Page : goal.returns-in-Page
returns-in-Page g c next evicted =
    let e = subst (λ (x : View). IsEvicted x.cache next) (sym c.self.view_is) evicted in
    let f = found_is _ next c.victim.result e c.victim.ensures.none c.victim.ensures.victim in
    rw (f ∙ (c.in_ok-serial.was ∙ ap (λ (b : Buf). Some b) c.in-Page.is)) refl

pub returns-in-Bitmap : goal.returns-in-Bitmap
returns-in-Bitmap g c next evicted =
    let e = subst (λ (x : View). IsEvicted x.cache next) (sym c.self.view_is) evicted in
    let f = found_is _ next c.victim.result e c.victim.ensures.none c.victim.ensures.victim in
    rw (f ∙ c.in_ok-serial.was)
    (elim c.in-Bitmap.is [
      | inl bitmap ↦ rw bitmap refl
      | inr other ↦ elim other [ inl (k, dir) ↦ rw dir refl | inr (slot, inode) ↦ rw inode refl ]
    ])
