-- A request for pages comes, or is done; a seal takes those that are left.
use Rattle.std.proofs.Common.{◌+◌, cond, true, false, arith, refl, ap, sym, ◌∙◌}
use Rattle.std.proofs.lemmas.Bool.{lt-ltb, le-ltb}
use Rattle.split_types.proofs.Shared.{adds_most}
use Rattle.split_core.proofs.OrderedNotes.{pages_most, done_left, done_page, done_early, ordered_add, ordered_seal}
use Rattle.split_core.proofs.OrderedNotes.{ordered_done}
use Rattle.split_core.proofs.note.ordered.Ordered.note.Goals as goal

pub overflow_add-self : goal.overflow_add-self
overflow_add-self c = omega (arith, c.requires.stands.added_is, adds_most c.args.h.now.events, c.requires.fits.short)

pub overflow_add-self-then-is_pages : goal.overflow_add-self-then-is_pages
overflow_add-self-then-is_pages c = omega (
  arith,
  c.requires.stands.pages_is,
  pages_most c.args.h.now.events,
  adds_most c.args.h.now.events,
  c.requires.fits.short,
)

pub overflow_sub-self : goal.overflow_sub-self
overflow_sub-self c =
    let h = c.args.h.now.events in
    let legal = rw c.in-Done.is at c.requires.fits.legal in
    let given = rw c.in-Done.is at c.requires.given in
    let r = c.in-Some.request in
    done_page h c.in-Done.k c.in-Done.id c.in-Done.ok r c.args.self.now
    (done_left c.args.w.now h c.in-Done.k c.in-Done.id c.in-Done.ok r legal (sym given.request_is ∙ c.in-Some.is))
    c.requires.stands (sym c.is_pages-in-Some.ensures ∙ c.if-is_pages-2.true)

pub overflow_sub-self-then-id-self : goal.overflow_sub-self-then-id-self
overflow_sub-self-then-id-self c =
    let h = c.args.h.now.events in
    let legal = rw c.in-Done.is at c.requires.fits.legal in
    let given = rw c.in-Done.is at c.requires.given in
    let r = c.in-Some.request in
    done_early h c.in-Done.k c.in-Done.id c.in-Done.ok r c.args.self.now
    (done_left c.args.w.now h c.in-Done.k c.in-Done.id c.in-Done.ok r legal (sym given.request_is ∙ c.in-Some.is))
    c.requires.stands (sym c.is_pages-in-Some.ensures ∙ c.if-is_pages-2.true) c.if-id-self.true

pub returns-then-is_pages : goal.returns-then-is_pages
returns-then-is_pages c =
    let fits = rw c.in-Add.is at c.requires.fits.kind in
    rw c.in-Add.is (ordered_add c.args.w.now c.args.h.now.events c.in-Add.by c.in-Add.req c.args.self.now _ fits
    c.requires.stands refl refl
    (ap (λ b. c.args.self.now.pages + cond b 1 0) (sym c.if-is_pages.true ∙ c.is_pages.ensures)) refl)

pub returns-in-Seal : goal.returns-in-Seal
returns-in-Seal c =
    let fits = rw c.in-Seal.is at c.requires.fits.kind in
    rw c.in-Seal.is (ordered_seal c.args.w.now c.args.h.now.events c.in-Seal.t c.in-Seal.k c.args.self.now _
    c.requires.fits.legal.1 fits c.requires.stands refl refl refl refl)

pub returns-then-id-self : goal.returns-then-id-self
returns-then-id-self c =
    let h = c.args.h.now.events in
    let legal = rw c.in-Done.is at c.requires.fits.legal in
    let given = rw c.in-Done.is at c.requires.given in
    let r = c.in-Some.request in
    rw c.in-Done.is (ordered_done h c.in-Done.k c.in-Done.id c.in-Done.ok r c.args.self.now _ true true
    (done_left c.args.w.now h c.in-Done.k c.in-Done.id c.in-Done.ok r legal (sym given.request_is ∙ c.in-Some.is))
    c.requires.stands (sym c.is_pages-in-Some.ensures ∙ c.if-is_pages-2.true)
    (lt-ltb c.in-Done.id.0 c.args.self.now.before c.if-id-self.true) refl refl refl refl)

pub returns-else-id-self : goal.returns-else-id-self
returns-else-id-self c =
    let h = c.args.h.now.events in
    let legal = rw c.in-Done.is at c.requires.fits.legal in
    let given = rw c.in-Done.is at c.requires.given in
    let r = c.in-Some.request in
    rw c.in-Done.is (ordered_done h c.in-Done.k c.in-Done.id c.in-Done.ok r c.args.self.now _ true false
    (done_left c.args.w.now h c.in-Done.k c.in-Done.id c.in-Done.ok r legal (sym given.request_is ∙ c.in-Some.is))
    c.requires.stands (sym c.is_pages-in-Some.ensures ∙ c.if-is_pages-2.true)
    (le-ltb c.in-Done.id.0 c.args.self.now.before c.if-id-self.false) refl refl refl refl)

pub returns-else-is_pages-2 : goal.returns-else-is_pages-2
returns-else-is_pages-2 c =
    let h = c.args.h.now.events in
    let legal = rw c.in-Done.is at c.requires.fits.legal in
    let given = rw c.in-Done.is at c.requires.given in
    let r = c.in-Some.request in
    rw c.in-Done.is (ordered_done h c.in-Done.k c.in-Done.id c.in-Done.ok r c.args.self.now c.args.self.now false _
    (done_left c.args.w.now h c.in-Done.k c.in-Done.id c.in-Done.ok r legal (sym given.request_is ∙ c.in-Some.is))
    c.requires.stands (sym c.is_pages-in-Some.ensures ∙ c.if-is_pages-2.false) refl refl refl refl refl)
