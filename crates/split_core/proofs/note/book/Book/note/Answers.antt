-- A request is written into the book, then its cost, and then that it is done.
use Rattle.std.proofs.Common.{arith, refl}
use Rattle.split_core.proofs.BookNotes.{book_add, book_send, book_done, book_stays}
use Rattle.split_core.proofs.note.book.Book.note.Goals as goal

pub index_mut-requires : goal.index_mut-requires
index_mut-requires c =
    let fits = rw c.in-Send.is at c.requires.fits.kind in
    omega (arith, fits.added, c.requires.stands.added, c.args.self.now.entries.ok.0)

pub index_mut-requires-in-Done : goal.index_mut-requires-in-Done
index_mut-requires-in-Done c =
    let fits = rw c.in-Done.is at c.requires.fits.kind in
    omega (arith, fits.added, c.requires.stands.added, c.args.self.now.entries.ok.0)

pub returns-in-Add : goal.returns-in-Add
returns-in-Add c =
    let fits = rw c.in-Add.is at c.requires.fits.kind in
    let tag = rw c.in-Add.is at c.requires.tag in
    rw c.in-Add.is (book_add c.args.w.now c.args.h.now.events c.in-Add.by c.in-Add.req c.args.self.now _ _ fits
    c.requires.stands c.push_reserved.ensures.items refl tag refl refl)

pub returns-in-Send : goal.returns-in-Send
returns-in-Send c =
    let fits = rw c.in-Send.is at c.requires.fits.kind in
    rw c.in-Send.is (book_send c.args.w.now c.args.h.now.events c.in-Send.id c.in-Send.cost c.args.self.now _
    c.index_mut.result.now _ fits c.requires.stands c.index_mut.ensures.value refl refl refl refl refl)

pub returns-in-Done : goal.returns-in-Done
returns-in-Done c =
    let fits = rw c.in-Done.is at c.requires.fits.kind in
    rw c.in-Done.is (book_done c.args.w.now c.args.h.now.events c.in-Done.k c.in-Done.id c.in-Done.ok c.args.self.now _
    c.index_mut-in-Done.result.now _ fits c.requires.stands c.index_mut-in-Done.ensures.value refl refl refl refl
    refl)

pub returns-in_default : goal.returns-in_default
returns-in_default c =
    book_stays c.args.h.now.events c.args.e.now c.args.self.now c.in_default.not-Add c.in_default.not-Send
    c.in_default.not-Done c.requires.stands
