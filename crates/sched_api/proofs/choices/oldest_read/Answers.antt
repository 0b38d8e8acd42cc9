-- The reads of a queue are those that wait, by id.
use Rattle.std.proofs.Common.{not, ap, ◌∙◌}
use Rattle.std.specs.List.{slice_get}
use Rattle.split_types.specs.Requests.{is_write}
use Rattle.sched_api.proofs.FirstKept.{first_kept}
use Rattle.sched_api.proofs.choices.oldest_read.Goals as goal

pub returns : goal.returns
returns c =
    c.copied.ensures ∙ c.first.ensures.value ∙ ap (λ rs. slice_get rs 0) c.reads.ensures
    ∙ first_kept (λ r. not (is_write r)) c.args.q.now.queued
