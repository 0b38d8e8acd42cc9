-- More room changes nothing else.
use Rattle.cause_set.proofs.TagLaws.{moved-none}
use Rattle.tag_table.specs.Tags.{tags_of}
use Rattle.split_core.proofs.PartNotes.{roomy}
use Rattle.split_core.proofs.parts.Parts.room.Goals as goal

pub returns-in_err-room-clause-stands : goal.returns-in_err-room-clause-stands
returns-in_err-room-clause-stands c = λ w h stands.
    record {
      clients = stands.clients;
      filing = c.room.ensures.stands w h stands.filing;
      pages = stands.pages;
      tags = stands.tags;
      journaling = stands.journaling;
      syncs = stands.syncs;
      medium = stands.medium;
      book = stands.book;
      dispatch = stands.dispatch;
      service = stands.service;
      time = stands.time;
      money = stands.money;
      counts = stands.counts;
    }

pub returns-in_err-room-2-clause-stands : goal.returns-in_err-room-2-clause-stands
returns-in_err-room-2-clause-stands c = λ w h stands.
    let p = c.args.self.now in
    let all = roomy w p c.room-2.new.self p.tags h stands c.room-2.ensures.tags
    (c.room-2.ensures.stands w (tags_of p.tags) h stands.pages) (moved-none (tags_of p.tags)) in
    record {
      clients = stands.clients;
      filing = c.room.ensures.stands w h stands.filing;
      pages = all.pages;
      tags = all.tags;
      journaling = all.journaling;
      syncs = stands.syncs;
      medium = stands.medium;
      book = stands.book;
      dispatch = stands.dispatch;
      service = all.service;
      time = stands.time;
      money = stands.money;
      counts = stands.counts;
    }

pub returns-in_err-room-3-clause-stands : goal.returns-in_err-room-3-clause-stands
returns-in_err-room-3-clause-stands c = λ w h stands.
    let p = c.args.self.now in
    let all = roomy w p c.room-2.new.self c.room-3.new.self h stands c.room-2.ensures.tags
    (c.room-2.ensures.stands w (tags_of p.tags) h stands.pages) c.room-3.ensures.moved in
    record {
      clients = stands.clients;
      filing = c.room.ensures.stands w h stands.filing;
      pages = all.pages;
      tags = all.tags;
      journaling = all.journaling;
      syncs = stands.syncs;
      medium = stands.medium;
      book = stands.book;
      dispatch = stands.dispatch;
      service = all.service;
      time = stands.time;
      money = stands.money;
      counts = stands.counts;
    }

pub returns-in_err-room-4-clause-stands : goal.returns-in_err-room-4-clause-stands
returns-in_err-room-4-clause-stands c = λ w h stands.
    let p = c.args.self.now in
    let all = roomy w p c.room-2.new.self c.room-3.new.self h stands c.room-2.ensures.tags
    (c.room-2.ensures.stands w (tags_of p.tags) h stands.pages) c.room-3.ensures.moved in
    record {
      clients = stands.clients;
      filing = c.room.ensures.stands w h stands.filing;
      pages = all.pages;
      tags = all.tags;
      journaling = all.journaling;
      syncs = stands.syncs;
      medium = c.room-4.ensures.stands w h stands.medium;
      book = stands.book;
      dispatch = stands.dispatch;
      service = all.service;
      time = stands.time;
      money = stands.money;
      counts = stands.counts;
    }

pub returns-in_err-room-5-clause-stands : goal.returns-in_err-room-5-clause-stands
returns-in_err-room-5-clause-stands c = λ w h stands.
    let p = c.args.self.now in
    let all = roomy w p c.room-2.new.self c.room-3.new.self h stands c.room-2.ensures.tags
    (c.room-2.ensures.stands w (tags_of p.tags) h stands.pages) c.room-3.ensures.moved in
    record {
      clients = stands.clients;
      filing = c.room.ensures.stands w h stands.filing;
      pages = all.pages;
      tags = all.tags;
      journaling = all.journaling;
      syncs = stands.syncs;
      medium = c.room-4.ensures.stands w h stands.medium;
      book = c.room-5.ensures.stands h stands.book;
      dispatch = stands.dispatch;
      service = all.service;
      time = stands.time;
      money = stands.money;
      counts = stands.counts;
    }

pub returns-clause-stands : goal.returns-clause-stands
returns-clause-stands c = λ w h stands.
    let p = c.args.self.now in
    let all = roomy w p c.room-2.new.self c.room-3.new.self h stands c.room-2.ensures.tags
    (c.room-2.ensures.stands w (tags_of p.tags) h stands.pages) c.room-3.ensures.moved in
    record {
      clients = stands.clients;
      filing = c.room.ensures.stands w h stands.filing;
      pages = all.pages;
      tags = all.tags;
      journaling = all.journaling;
      syncs = stands.syncs;
      medium = c.room-4.ensures.stands w h stands.medium;
      book = c.room-5.ensures.stands h stands.book;
      dispatch = c.room-6.ensures.stands h stands.dispatch;
      service = all.service;
      time = stands.time;
      money = stands.money;
      counts = stands.counts;
    }
