use Rattle.std.proofs.Common.{sym, ap, ◌∙◌}
use Rattle.split_types.specs.declared.ids.Pid.{Pid}
use Rattle.client_calls.specs.View.{View}
use Rattle.split_types.specs.Clients.{evict_of}
use Rattle.client_calls.proofs.PieceRows.{IsOpen, put_loading, put_stops, put_waits, put_held, put_full, put_absent}
use Rattle.client_calls.proofs.ShownLaws.{stands, lacks_as, waits_as, put_is}
use Rattle.client_calls.proofs.writes.next_of_put.Goals as goal

pub returns-then-page : goal.returns-then-page
returns-then-page g c s shows =
    let fine = shows.read_badly ∙ (ap (λ (x : View). x.progress.bad_read) (sym c.v.view_is) ∙ c.if-v.false) in
    let page = stands _ _ _ _ s _ _ shows c.buf.ensures c.standing-page.ensures in
    sym (put_loading s c.args.fill fine (page.loading ∙ c.if-page.true))

pub returns-then-lacks_space : goal.returns-then-lacks_space
returns-then-lacks_space g c s shows =
    let fine = shows.read_badly ∙ (ap (λ (x : View). x.progress.bad_read) (sym c.v.view_is) ∙ c.if-v.false) in
    let page = stands _ _ _ _ s _ _ shows c.buf.ensures c.standing-page.ensures in
    let is : IsOpen s = record {
      fine = fine;
      there = page.loading ∙ c.if-page.false;
      apart = shows.in_mapped_run ∙ (sym c.is_mapped.ensures ∙ c.if-is_mapped.false);
    } in
    let lacks = lacks_as _ _ _ _ s _ _ _ shows c.requires c.buf.ensures c.standing-page.ensures c.lacks_space.ensures in
    let moved = shows.moved ∙ ap (λ (x : View). x.progress.moved) (sym c.v.view_is) in
    rw (c.stop.ensures, ← moved, ← shows.by) (sym (put_stops s c.args.fill is (lacks ∙ c.if-lacks_space.true)))

pub returns-then-holds_up : goal.returns-then-holds_up
returns-then-holds_up g c s shows =
    let fine = shows.read_badly ∙ (ap (λ (x : View). x.progress.bad_read) (sym c.v.view_is) ∙ c.if-v.false) in
    let page = stands _ _ _ _ s _ _ shows c.buf.ensures c.standing-page.ensures in
    let is : IsOpen s = record {
      fine = fine;
      there = page.loading ∙ c.if-page.false;
      apart = shows.in_mapped_run ∙ (sym c.is_mapped.ensures ∙ c.if-is_mapped.false);
    } in
    let lacks = lacks_as _ _ _ _ s _ _ _ shows c.requires c.buf.ensures c.standing-page.ensures c.lacks_space.ensures in
    let waits = waits_as _ _ _ _ s _ _ shows page c.holds_up.ensures in
    sym (put_waits s c.args.fill is (lacks ∙ c.if-lacks_space.false) (waits ∙ c.if-holds_up.true))

pub returns-then-page-2 : goal.returns-then-page-2
returns-then-page-2 g c s shows =
    let fine = shows.read_badly ∙ (ap (λ (x : View). x.progress.bad_read) (sym c.v.view_is) ∙ c.if-v.false) in
    let page = stands _ _ _ _ s _ _ shows c.buf.ensures c.standing-page.ensures in
    let is : IsOpen s = record {
      fine = fine;
      there = page.loading ∙ c.if-page.false;
      apart = shows.in_mapped_run ∙ (sym c.is_mapped.ensures ∙ c.if-is_mapped.false);
    } in
    let lacks = lacks_as _ _ _ _ s _ _ _ shows c.requires c.buf.ensures c.standing-page.ensures c.lacks_space.ensures in
    let waits = waits_as _ _ _ _ s _ _ shows page c.holds_up.ensures in
    rw (c.put.ensures ∙ sym (put_is _ _ _ _ s c.args.fill shows))
    (sym
    (put_held s c.args.fill is (lacks ∙ c.if-lacks_space.false) (waits ∙ c.if-holds_up.false)
    (page.held ∙ c.if-page-2.true)))

pub returns-then-is_full : goal.returns-then-is_full
returns-then-is_full g c s shows =
    let fine = shows.read_badly ∙ (ap (λ (x : View). x.progress.bad_read) (sym c.v.view_is) ∙ c.if-v.false) in
    let page = stands _ _ _ _ s _ _ shows c.buf.ensures c.standing-page.ensures in
    let is : IsOpen s = record {
      fine = fine;
      there = page.loading ∙ c.if-page.false;
      apart = shows.in_mapped_run ∙ (sym c.is_mapped.ensures ∙ c.if-is_mapped.false);
    } in
    let lacks = lacks_as _ _ _ _ s _ _ _ shows c.requires c.buf.ensures c.standing-page.ensures c.lacks_space.ensures in
    let waits = waits_as _ _ _ _ s _ _ shows page c.holds_up.ensures in
    let full = shows.full ∙ (sym c.is_full.ensures ∙ c.if-is_full.true) in
    c.evict.ensures s.victim shows.victim
    ∙ (ap (λ (p : Pid). evict_of p s.victim) (sym shows.by)
    ∙ sym
    (put_full s c.args.fill is (lacks ∙ c.if-lacks_space.false) (waits ∙ c.if-holds_up.false)
    (page.held ∙ c.if-page-2.false) full))

pub returns : goal.returns
returns g c s shows =
    let fine = shows.read_badly ∙ (ap (λ (x : View). x.progress.bad_read) (sym c.v.view_is) ∙ c.if-v.false) in
    let page = stands _ _ _ _ s _ _ shows c.buf.ensures c.standing-page.ensures in
    let is : IsOpen s = record {
      fine = fine;
      there = page.loading ∙ c.if-page.false;
      apart = shows.in_mapped_run ∙ (sym c.is_mapped.ensures ∙ c.if-is_mapped.false);
    } in
    let lacks = lacks_as _ _ _ _ s _ _ _ shows c.requires c.buf.ensures c.standing-page.ensures c.lacks_space.ensures in
    let waits = waits_as _ _ _ _ s _ _ shows page c.holds_up.ensures in
    let full = shows.full ∙ (sym c.is_full.ensures ∙ c.if-is_full.false) in
    c.next_of_absent.ensures s shows
    ∙ sym
    (put_absent s c.args.fill is (lacks ∙ c.if-lacks_space.false) (waits ∙ c.if-holds_up.false)
    (page.held ∙ c.if-page-2.false) full)
