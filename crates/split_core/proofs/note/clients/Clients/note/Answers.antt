-- An event moves on the process that makes it, and a completion the one for which its request read.
use Rattle.std.proofs.Common.{◌-◌, arith, refl, ◌∙◌, ap, sym, slice_get}
use Rattle.std.specs.Prelude.{slice_set}
use Rattle.split_core.proofs.AwaitLaws.{done_within}
use Rattle.split_core.proofs.ClientNotes.{clients_by, clients_on, clients_stay, client_at, served, clients_arrive}
use Rattle.split_core.proofs.ClientNotes.{process_at}
use Rattle.split_core.proofs.note.clients.Clients.note.Goals as goal

pub overflow_sub-by : goal.overflow_sub-by
overflow_sub-by c = (c.requires.fits.by c.in-Client.by (sym c.requires.made ∙ c.in-Client.is)).first

pub index_mut-requires : goal.index_mut-requires
index_mut-requires c =
    let fits = c.requires.fits.by c.in-Client.by (sym c.requires.made ∙ c.in-Client.is) in
    omega (arith, fits.first, fits.last, c.requires.stands.processes, c.args.self.now.clients.ok.0)

pub note-requires-clause-is : goal.note-requires-clause-is
note-requires-clause-is c =
    let fits = c.requires.fits.by c.in-Client.by (sym c.requires.made ∙ c.in-Client.is) in
    client_at c.args.w.now c.args.h.now.events c.args.self.now c.in-Client.by c.index_mut.result.now fits
    c.requires.stands c.index_mut.ensures.value

pub returns-in-Ret : goal.returns-in-Ret
returns-in-Ret c =
    clients_by c.args.w.now c.args.h.now.events c.args.e.now c.in-Client.by c.args.self.now _
    (record {
      fits = c.requires.fits.by c.in-Client.by (sym c.requires.made ∙ c.in-Client.is);
      kind = c.requires.fits.kind;
      made = sym c.requires.made ∙ c.in-Client.is;
      stands = c.requires.stands;
      items = ap (slice_set c.args.self.now.clients.items (c.in-Client.by.0 - 1)) c.note.ensures;
    })
    c.finished_from-self.ensures.most
    (λ i x low below at. c.finished_from-self.ensures.finished i x low below
    (ap (λ l. slice_get l i) c.deref.ensures.value ∙ at))
    (λ x at. c.finished_from-self.ensures.left x
    (ap (λ l. slice_get l c.finished_from-self.result) c.deref.ensures.value ∙ at))

pub returns-in_default-e : goal.returns-in_default-e
returns-in_default-e c =
    clients_on c.args.w.now c.args.h.now.events c.args.e.now c.in-Client.by c.args.self.now _
    (record {
      fits = c.requires.fits.by c.in-Client.by (sym c.requires.made ∙ c.in-Client.is);
      kind = c.requires.fits.kind;
      made = sym c.requires.made ∙ c.in-Client.is;
      stands = c.requires.stands;
      items = ap (slice_set c.args.self.now.clients.items (c.in-Client.by.0 - 1)) c.note.ensures;
    })
    c.in_default-e.not-Ret refl

pub overflow_sub-by-in-Some : goal.overflow_sub-by-in-Some
overflow_sub-by-in-Some c =
    (done_within c.args.w.now c.args.h.now.events c.args.e.now c.in-Some.by c.requires.fits.legal
    (sym c.reader_of_done.ensures ∙ c.in-Some.is)).0

pub index_mut-requires-in-Some : goal.index_mut-requires-in-Some
index_mut-requires-in-Some c =
    let within = done_within c.args.w.now c.args.h.now.events c.args.e.now c.in-Some.by c.requires.fits.legal
    (sym c.reader_of_done.ensures ∙ c.in-Some.is) in
    omega (arith, within.0, within.1, c.requires.stands.processes, c.args.self.now.clients.ok.0)

pub returns-in-Some : goal.returns-in-Some
returns-in-Some c =
    let read = sym c.reader_of_done.ensures ∙ c.in-Some.is in
    let within = done_within c.args.w.now c.args.h.now.events c.args.e.now c.in-Some.by c.requires.fits.legal read in
    let is = process_at c.args.w.now c.args.h.now.events c.args.self.now c.in-Some.by c.index_mut-in-Some.result.now
    within.0 within.1 c.requires.stands c.index_mut-in-Some.ensures.value in
    clients_arrive c.args.w.now c.args.h.now.events c.args.e.now c.in-Some.by c.args.self.now _
    (record {
      first = within.0;
      last = within.1;
      kind = c.requires.fits.kind;
      read = read;
      stands = c.requires.stands;
      items = ap (λ x. slice_set c.args.self.now.clients.items (c.in-Some.by.0 - 1) (served x)) is;
      same = refl;
    })

pub returns-in_default-reader_of_done : goal.returns-in_default-reader_of_done
returns-in_default-reader_of_done c =
    clients_stay c.args.w.now c.args.h.now.events c.args.e.now c.args.self.now c.requires.fits.kind
    (λ by is. c.in_default.not-Client by (c.requires.made ∙ is))
    (sym c.reader_of_done.ensures ∙ c.in_default-reader_of_done.is) c.requires.stands
