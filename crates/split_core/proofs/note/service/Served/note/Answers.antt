-- A run that is served is one of dirty pages, for all for whom they are.
use Rattle.std.proofs.Common.{◌∙◌, ap, arith}
use Rattle.tag_table.specs.Tags.{tags_of}
use Rattle.split_core.specs.Asks.{asks}
use Rattle.split_core.proofs.ServiceNotesRuns.{serves_next, none_serves}
use Rattle.split_core.proofs.ServiceNotes.{after_serve}
use Rattle.split_core.proofs.note.service.Served.note.Goals as goal

pub serve-requires : goal.serve-requires
serve-requires c =
    let next = serves_next c.args.w.now c.args.h.now.events c.args.e.now c.in-Serve.serial c.in-Serve.page c.in-Serve.n
    c.args.pages.now.cache (tags_of c.args.tags.now) c.in-Serve.is c.requires.pages c.requires.fits in
    record {
      idle = none_serves c.args.self.now.state (c.requires.stands.service_is ∙ next.idle);
      some = next.pages.some;
      few = next.pages.most;
      within = next.pages.within;
      dirty = next.pages.dirty;
      covered = λ n. omega (arith, c.requires.covered n);
      room = c.requires.room (ap asks c.in-Serve.is);
    }

pub returns-in-Serve-clause-stands : goal.returns-in-Serve-clause-stands
returns-in-Serve-clause-stands c =
    after_serve c.args.w.now c.args.h.now.events c.args.e.now c.in-Serve.serial c.in-Serve.page c.in-Serve.n
    c.args.pages.now.cache (tags_of c.args.tags.now) (tags_of c.serve.new.tags) c.serve.new.self c.in-Serve.is
    c.requires.pages c.serve.ensures.serving c.serve.ensures.causes
