-- Each part stands before any event, and no tag is in use.
use Rattle.std.proofs.Common.{arith}
use Rattle.tag_table.specs.Tags.{tags_of}
use Rattle.split_core.proofs.parts.Parts.new.Goals as goal

pub returns : goal.returns
returns c =
    let tags = tags_of c.in_ok-tags.tags in
    record {
      clients = c.in_ok-clients.ensures.clients;
      filing = c.in_ok-filing.ensures.filing;
      pages = c.in_ok-pages.ensures.pages tags;
      tags = λ n. omega (arith, c.in_ok-tags.ensures n, c.in_ok-pages.ensures.none n, c.new-4.ensures.none n);
      journaling = c.in_ok-pages.ensures.journaling tags;
      syncs = c.in_ok-syncs.ensures;
      medium = c.in_ok-filing.ensures.medium;
      book = c.in_ok-clients.ensures.book;
      dispatch = c.in_ok-dispatch.ensures;
      service = c.new-4.ensures.stands tags;
      time = c.new-5.ensures;
      money = c.in_ok-money.ensures.money;
      counts = c.in_ok-money.ensures.counts;
    }
