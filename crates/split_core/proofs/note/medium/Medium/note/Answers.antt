-- A write that is added is carried, one that is sent starts, and one that is done is finished.
use Rattle.std.proofs.Common.{◌≡◌, length, slice_get, true, Some, refl, arith, subst, sym, ap, ◌∙◌}
use Rattle.split_types.specs.declared.event.Event.TheVariants.{Done}
use Rattle.split_types.specs.History.{◌▹◌}
use Rattle.split_types.specs.Legal.{IsLegal}
use Rattle.split_types.specs.Requests as requests
use Rattle.split_types.proofs.Shared.{is_done}
use Rattle.split_core.specs.declared.note.medium.Medium.{Medium}
use Rattle.split_core.specs.Asks.{asks}
use Rattle.split_core.specs.Medium.{MediumStands}
use Rattle.split_core.proofs.MediumNotes.{medium_kept, medium_add_read, medium_add_write}
use Rattle.split_core.proofs.MediumNotesSends.{given_is, front_of, starts, medium_send_read, medium_send_given}
use Rattle.split_core.proofs.MediumNotesDones.{done_is, write_found, medium_done_read, medium_done_write}
use Rattle.split_core.proofs.note.medium.Medium.note.Goals.{in_default-via-in-None-1, in_default-via-in-Some+else-is_write-2, in_default-via-in-None-2, in_default-via-in-Some-request+else-is_write-3}
use Rattle.split_core.proofs.note.medium.Medium.note.Goals as goal

pub returns-then-is_write : goal.returns-then-is_write
returns-then-is_write c =
    let legal = rw c.in-Add.is at c.requires.fits.legal
    in let brings = rw c.in-Add.is at c.requires.cargo
    in let writing : requests.is_write c.in-Add.req ≡ true = sym c.is_write.ensures ∙ c.if-is_write.true
    in rw c.in-Add.is (medium_add_write c.args.w.now c.args.h.now.events c.in-Add.by c.in-Add.req c.args.self.now _
    c.args.cargo c.requires.accepted legal c.requires.stands writing (brings writing) refl
    c.push_back_reserved.ensures.items)

pub returns-in-Add : goal.returns-in-Add
returns-in-Add c =
    let legal = rw c.in-Add.is at c.requires.fits.legal
    in rw c.in-Add.is (medium_add_read c.args.w.now c.args.h.now.events c.in-Add.by c.in-Add.req c.args.self.now
    c.requires.accepted legal c.requires.stands (sym c.is_write.ensures ∙ c.if-is_write.false))

pub start-requires : goal.start-requires
start-requires c =
    let fits = rw c.in-Send.is at c.requires.fits.kind
    in let given = rw c.in-Send.is at c.requires.given
    in let w = c.args.w.now
    in let h = c.args.h.now.events
    in let id = c.in-Send.id
    in let r = c.in-Some.request
    in let same : fits.request ≡ r = given_is w h id c.in-Send.cost r c.args.given.now.request fits given c.in-Some.is
    in let may = starts w h id c.in-Send.cost c.args.self.now r c.in-Some-pop_front.cargo
    c.pop_front.new.self.items c.requires.accepted c.requires.fits.legal.1 fits c.requires.stands
    same (sym c.is_write-in-Send.ensures ∙ c.if-is_write-2.true) c.in-Some-pop_front.ensures.items
    in record {
      whole = may.whole;
      within = may.within;
      apart = may.apart;
      other = may.other;
      room = (c.requires.room (ap asks c.in-Send.is)).disk;
    }

pub returns-in-Some-pop_front : goal.returns-in-Some-pop_front
returns-in-Some-pop_front c =
    let fits = rw c.in-Send.is at c.requires.fits.kind
    in let given = rw c.in-Send.is at c.requires.given
    in let w = c.args.w.now
    in let h = c.args.h.now.events
    in let id = c.in-Send.id
    in let r = c.in-Some.request
    in let same : fits.request ≡ r = given_is w h id c.in-Send.cost r c.args.given.now.request fits given c.in-Some.is
    in let new : Medium = record { disk = c.start.new.disk; carried = c.pop_front.new.self }
    in rw c.in-Send.is (medium_send_given w h id c.in-Send.cost c.args.self.now new r c.in-Some-pop_front.cargo
    c.requires.accepted c.requires.fits.legal.1 fits c.requires.stands same
    (sym c.is_write-in-Send.ensures ∙ c.if-is_write-2.true) c.in-Some-pop_front.ensures.items c.start.ensures.blocks
    c.start.ensures.writes)

pub returns-in-Send : goal.returns-in-Send
returns-in-Send c =
    let fits = rw c.in-Send.is at c.requires.fits.kind
    in let given = rw c.in-Send.is at c.requires.given
    in let w = c.args.w.now
    in let h = c.args.h.now.events
    in let id = c.in-Send.id
    in let same : fits.request ≡ c.in-Some.request =
    given_is w h id c.in-Send.cost c.in-Some.request c.args.given.now.request fits given c.in-Some.is
    in let front = front_of w h id c.in-Send.cost c.args.self.now c.requires.accepted c.requires.fits.legal.1 fits
    c.requires.stands (ap requests.is_write same ∙ sym c.is_write-in-Send.ensures ∙ c.if-is_write-2.true)
    in absurd (omega (arith, ap length front, c.args.self.now.carried.ok.0, c.in_default-pop_front.ensures.cases.0))

pub returns-in-Send-2 : goal.returns-in-Send-2
returns-in-Send-2 c =
    let fits = rw c.in-Send.is at c.requires.fits.kind
    in let given = rw c.in-Send.is at c.requires.given
    in let w = c.args.w.now
    in let h = c.args.h.now.events
    in let id = c.in-Send.id
    in let some : c.args.given.now.request ≡ Some fits.request = given ∙ fits.at
    in elim c.in_default.branch [
      | in_default-via-in-None-1 v ↦ absurd (cc)
      | in_default-via-in-Some+else-is_write-2 v ↦
          (let same : fits.request ≡ v.in-Some.request =
          given_is w h id c.in-Send.cost v.in-Some.request c.args.given.now.request fits given v.in-Some.is
          in rw c.in-Send.is (medium_send_read w h id c.in-Send.cost c.args.self.now fits c.requires.stands
          (ap requests.is_write same ∙ sym v.is_write-in-Send.ensures ∙ v.if-is_write-2.false)))
    ]

pub returns-in-Done-2 : goal.returns-in-Done-2
returns-in-Done-2 c =
    let fits = rw c.in-Done.is at c.requires.fits.kind
    in let given = rw c.in-Done.is at c.requires.given
    in let all = rw c.in-Done.is at c.requires.fits.legal
    in let w = c.args.w.now
    in let h = c.args.h.now.events
    in let k = c.in-Done.k
    in let id = c.in-Done.id
    in let legal : IsLegal w (h ▹ Done k id true) = subst (λ b. IsLegal w (h ▹ Done k id b)) fits.ok_is all
    in let some : c.args.given.now.request ≡ Some fits.request = given.request_is ∙ fits.at
    in elim c.in_default.branch [
      | in_default-via-in-None-2 v ↦ absurd (cc)
      | in_default-via-in-Some-request+else-is_write-3 v ↦
          rw c.in-Done.is (subst (λ b. MediumStands w c.args.self.now (h ▹ Done k id b)) (sym fits.ok_is)
          (medium_done_read w h k id v.in-Some-request.request c.args.self.now c.requires.accepted legal
          c.requires.stands (sym given.request_is ∙ v.in-Some-request.is)
          (sym v.is_write-in-Done.ensures ∙ v.if-is_write-3.false)))
    ]

pub finish-requires : goal.finish-requires
finish-requires c =
    let fits = rw c.in-Done.is at c.requires.fits.kind
    in let given = rw c.in-Done.is at c.requires.given
    in let all = rw c.in-Done.is at c.requires.fits.legal
    in let w = c.args.w.now
    in let h = c.args.h.now.events
    in let k = c.in-Done.k
    in let id = c.in-Done.id
    in let r = c.in-Some-request.request
    in let legal : IsLegal w (h ▹ Done k id true) = subst (λ b. IsLegal w (h ▹ Done k id b)) fits.ok_is all
    in let d = is_done w h k id c.requires.accepted legal
    in let at : slice_get (requests.requests h) id.0 ≡ Some r = sym given.request_is ∙ c.in-Some-request.is
    in let same : d.request ≡ r = done_is w h k id r c.requires.accepted legal.1 d at
    in rw (write_found w h k id c.args.self.now c.requires.accepted legal.1 c.requires.stands d
    (ap requests.is_write same ∙ sym c.is_write-in-Done.ensures ∙ c.if-is_write-3.true)) refl

pub returns-in-Done : goal.returns-in-Done
returns-in-Done c =
    let fits = rw c.in-Done.is at c.requires.fits.kind
    in let given = rw c.in-Done.is at c.requires.given
    in let all = rw c.in-Done.is at c.requires.fits.legal
    in let w = c.args.w.now
    in let h = c.args.h.now.events
    in let k = c.in-Done.k
    in let id = c.in-Done.id
    in let r = c.in-Some-request.request
    in let legal : IsLegal w (h ▹ Done k id true) = subst (λ b. IsLegal w (h ▹ Done k id b)) fits.ok_is all
    in let at : slice_get (requests.requests h) id.0 ≡ Some r = sym given.request_is ∙ c.in-Some-request.is
    in let new : Medium = record { disk = c.finish.new.self; carried = c.args.self.now.carried }
    in rw c.in-Done.is (subst (λ b. MediumStands w new (h ▹ Done k id b)) (sym fits.ok_is)
    (medium_done_write w h k id r c.args.self.now new c.requires.accepted legal c.requires.stands at
    (sym c.is_write-in-Done.ensures ∙ c.if-is_write-3.true)
    (record { writes = c.finish.ensures.writes; blocks = c.finish.ensures.ok fits.ok_is; carried = refl })))

pub returns : goal.returns
returns c =
    medium_kept c.args.w.now c.args.self.now c.args.h.now.events c.args.e.now (λ by r. c.in_default.not-Add by r)
    (λ id cost. c.in_default.not-Send id cost) (λ k id ok. c.in_default.not-Done k id ok) c.requires.stands
