-- The words ask for nothing, or for one thing, which was done.
use Rattle.std.proofs.Common.{◌≡◌, ◌≢◌, ◌⊎◌, refl, subst, rules}
use Rattle.split_top.specs.declared.call.Status.{Status}
use Rattle.split_top.specs.declared.call.Status.TheVariants as status
use Rattle.split_top.specs.declared.command.Command.{Command}
use Rattle.split_top.specs.Outcome.{Told, Obeys}
use Rattle.split_top.proofs.CommandLaws.{one_command}
use Rattle.split_top.proofs.call.plain.Goals as goal

-- a status that is none of the others
completes : (s : Status) → s ≢ status.BadWords → (s ≡ status.ReadFault → ⊥) → (s ≡ status.WriteFault → ⊥)
    → s ≢ status.AuditNo → (s ≡ status.Ok) ⊎ (s ≡ status.Refused) ⊎ (s ≡ status.OutOfMemory)
completes status.Ok words read write audit = search rules
completes status.Refused words read write audit = search rules
completes status.OutOfMemory words read write audit = search rules
completes status.BadWords words read write audit = absurd (words refl)
completes status.ReadFault words read write audit = absurd (read refl)
completes status.WriteFault words read write audit = absurd (write refl)
completes status.AuditNo words read write audit = absurd (audit refl)

pub returns-in-None : goal.returns-in-None
returns-in-None g c = record {
  obeyed = λ command asks. absurd (c.in-None.ensures command asks);
  bad_words = (λ _. c.in-None.ensures, λ _. refl);
  untouched = λ _. (refl, refl);
  read_fault = λ e. absurd (cc e);
  write_fault = λ e. absurd (cc e);
  out_of_memory = λ e. absurd (cc e);
  audit_no = λ e. absurd (cc e);
  complete = λ command asks _ _. absurd (c.in-None.ensures command asks);
  same_room = refl;
}

pub returns-in-Some : goal.returns-in-Some
returns-in-Some g c =
    let told : Told g.row.S.Denot g.row.K.Denot = record {
      left = g.S.Source.left;
      read_faults = g.S.Source.faults;
      held = g.K.Sink.held;
      write_faults = g.K.Sink.faults;
      room = g.K.Sink.room;
    } in
    let asks = c.in-Some.ensures in
    let did = c.obey.ensures in
    record {
      obeyed = λ command other.
          subst
          (λ (k : Command). Obeys told k c.args.source.now c.obey.new.source c.args.sink.now c.obey.new.sink
          c.obey.result)
          (one_command c.in-Some.command command asks other) did.obeyed;
      bad_words = (λ e. absurd (did.bad_words e), λ none. absurd (none c.in-Some.command asks));
      untouched = λ e. absurd (did.bad_words e);
      read_fault = did.read_fault;
      write_fault = did.write_fault;
      out_of_memory = did.out_of_memory;
      audit_no = did.audit_no;
      complete = λ command other no_read no_write.
          completes c.obey.result did.bad_words (λ e. no_read (did.read_fault e).0) (λ e. no_write (did.write_fault e))
          did.audit_no;
      same_room = did.same_room;
    }
