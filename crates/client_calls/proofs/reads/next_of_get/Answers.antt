use Rattle.std.proofs.Common.{sym, ap, ◌∙◌}
use Rattle.client_calls.specs.View.{View}
use Rattle.client_calls.proofs.PieceRows.{get_loading, get_held, get_load}
use Rattle.client_calls.proofs.ShownLaws.{stands, get_is, loaded, block_is}
use Rattle.client_calls.proofs.reads.next_of_get.Goals as goal

pub returns-then-page : goal.returns-then-page
returns-then-page g c s shows =
    let fine = shows.read_badly ∙ (ap (λ (x : View). x.progress.bad_read) (sym c.v.view_is) ∙ c.if-v.false) in
    let page = stands _ _ _ _ s _ _ shows c.buf.ensures c.standing-page.ensures in
    sym (get_loading s fine (page.loading ∙ c.if-page.true))

pub returns-then-page-2 : goal.returns-then-page-2
returns-then-page-2 g c s shows =
    let fine = shows.read_badly ∙ (ap (λ (x : View). x.progress.bad_read) (sym c.v.view_is) ∙ c.if-v.false) in
    let page = stands _ _ _ _ s _ _ shows c.buf.ensures c.standing-page.ensures in
    let there = page.loading ∙ c.if-page.false in
    let held = page.held ∙ c.if-page-2.true in
    let all = shows.sum (loaded _ _ _ _ s shows held there) ∙ sym c.sum.ensures in
    rw (c.get.ensures ∙ sym (get_is _ _ _ _ s _ shows all)) (sym (get_held s fine there held))

pub returns-in-Some : goal.returns-in-Some
returns-in-Some g c s shows =
    let fine = shows.read_badly ∙ (ap (λ (x : View). x.progress.bad_read) (sym c.v.view_is) ∙ c.if-v.false) in
    let page = stands _ _ _ _ s _ _ shows c.buf.ensures c.standing-page.ensures in
    let block = shows.block ∙ (block_is _ _ _ c.requires.there ∙ (sym c.block.ensures ∙ c.in-Some.is)) in
    c.next_of_load.ensures s shows
    ∙ sym (get_load s c.in-Some.block fine (page.loading ∙ c.if-page.false) (page.held ∙ c.if-page-2.false) block)
