-- Buffers are marked one after another.
use Rattle.std.proofs.Common.{◌≡◌, ℕ, ◌+◌, ◌≤◌, List, take, ap, ◌∙◌, arith}
use Rattle.cause_set.specs.Tags.{Tags, Moved, no_use, one_use}
use Rattle.split_types.specs.declared.buf.Buf.{Buf}
use Rattle.journal_core.specs.Causes.{Covered}
use Rattle.journal_core.specs.Journaled.{Journaled, seen, held_by}
use Rattle.split_core.specs.Journaling.{mark_all}
use Rattle.split_core.proofs.JournalNotesSeen.{seen_keeps}

-- the first so many buffers were marked for the members of a tag that someone holds besides
pub record IsMarked (before now : Tags) (old new : Journaled ℕ) (bs : List Buf) (by i : ℕ) : Type 0 where
  pub moved : Moved before now (held_by old) (held_by new)
  pub marked : seen now new ≡ mark_all (take i bs) (before.members by) (seen before old)
  pub spare : before.spare ≤ now.spare + i

-- ---- a tag that is released at once
-- a tag was given, all was marked for its members, and the tag was released
pub record Marks (start given marked done : Tags) (old new : Journaled ℕ) (tag : ℕ) : Type 0 where
  pub covers : Covered (held_by old) start
  pub gives : Moved start given no_use (one_use tag)
  pub marks : Moved given marked (held_by old) (held_by new)
  pub releases : Moved marked done (one_use tag) no_use

module _ (start given marked done : Tags) (old new : Journaled ℕ) (tag : ℕ)
    (m : Marks start given marked done old new tag) where
  pub marks_moved : Moved start done (held_by old) (held_by new)
  marks_moved = record {
    uses = λ n. omega (arith, m.gives.uses n, m.marks.uses n, m.releases.uses n);
    keeps =
        λ n some.
        m.releases.keeps n (omega (arith, some, m.gives.uses n, m.marks.uses n))
        ∙ m.marks.keeps n (omega (arith, some, m.gives.uses n))
        ∙ m.gives.keeps n (omega (arith, some));
  }

  pub marks_seen : (bs : List Buf) (set : List ℕ) → given.members tag ≡ set
      → seen marked new ≡ mark_all bs (given.members tag) (seen given old)
      → seen done new ≡ mark_all bs set (seen start old)
  marks_seen bs set is all =
      seen_keeps marked done (one_use tag) no_use new m.releases
      (λ n. omega (arith, m.covers n, m.gives.uses n, m.marks.uses n))
      ∙ all ∙ ap (λ more. mark_all bs more (seen given old)) is
      ∙ ap (mark_all bs set)
      (seen_keeps start given no_use (one_use tag) old m.gives (λ n. omega (arith, m.covers n)))
