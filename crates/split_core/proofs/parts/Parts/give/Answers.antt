-- What is handed on of a drop is how many pages of its file have promises, and which transaction takes it.
use Rattle.split_core.proofs.parts.Parts.give.Goals as goal

pub returns-in-Drop : goal.returns-in-Drop
returns-in-Drop c = rw c.in-Drop.is c.give_drop.ensures
