-- Calls at the front of a text.
use Rattle.std.proofs.Common.{◌≡◌, ℕ, List, ◌∷◌, ◌++◌, Option, Some, None, codes, ap, refl, sym, ◌∙◌, drop, Bor, true}
use Rattle.split_types.specs.declared.call.Call.{Call}
use Rattle.split_types.specs.declared.call.Call.TheVariants.{Creat, Write, Read, Fsync, Unlink}
use Rattle.split_types.specs.WorkloadText.{action_fields}
use Rattle.workload_reader.specs.Fields.{ends_number, FieldAt, ExtentAt, behind, Reads, Keeps}
use Rattle.workload_reader.specs.Kinds.{IsNamed, IsRead, IsWrite, IsCreat, IsFsync, IsUnlink}
use Rattle.workload_reader.specs.Table.{IsCallInRange}
use Rattle.workload_reader.proofs.Alike.{differ, cancel, after_extent}

-- what follows the extent of a read
pub after_read : {text name x : List ℕ} {off len : ℕ} → ExtentAt text name off len x → (c : Call) (rest : List ℕ)
    → IsRead c → text ≡ behind (drop 1 (action_fields c)) (10 ∷ rest) → x ≡ 10 ∷ rest
after_read a (Read name off len) rest is e = after_extent a (record { text_is = e; named = is; ends = refl })
after_read a (Creat name) rest is e = absurd is
after_read a (Write name off len fill) rest is e = absurd is
after_read a (Fsync name) rest is e = absurd is
after_read a (Unlink name) rest is e = absurd is

-- what follows the extent of a write: its byte
pub after_write : {text name x : List ℕ} {off len : ℕ} → ExtentAt text name off len x → (c : Call) (rest : List ℕ)
    → IsWrite c → text ≡ behind (drop 1 (action_fields c)) (10 ∷ rest) → (fill : ℕ) × FieldAt x fill (10 ∷ rest)
after_write a (Write name off len fill) rest is e =
    (fill, record { text_is = after_extent a (record { text_is = e; named = is; ends = refl }); ends = refl })
after_write a (Creat name) rest is e = absurd is
after_write a (Read name off len) rest is e = absurd is
after_write a (Fsync name) rest is e = absurd is
after_write a (Unlink name) rest is e = absurd is

pub action_ends : (c : Call) (rest : List ℕ) → ends_number (behind (action_fields c) rest) ≡ true
action_ends (Creat name) rest = refl
action_ends (Write name off len fill) rest = refl
action_ends (Read name off len) rest = refl
action_ends (Fsync name) rest = refl
action_ends (Unlink name) rest = refl

-- a kind of calls has this word
pub record HasVerb (verb : List ℕ) (IsKind : Call → Type 0) : Type 0 where
  pub named : (c : Call) → IsKind c → IsNamed c
  pub first : (c : Call) → IsKind c → action_fields c ≡ verb ∷ drop 1 (action_fields c)
  pub only : (c : Call) (rest more : List ℕ) → IsNamed c → behind (action_fields c) rest ≡ 32 ∷ verb ++ more → IsKind c

-- what was read behind that word is what was read
pub at_verb : {verb : List ℕ} {IsKind : Call → Type 0} → HasVerb verb IsKind
    → (text more : List ℕ) (r : Option (Option Call × Bor (List ℕ))) → text ≡ 32 ∷ verb ++ more
    → Reads IsKind (λ c. drop 1 (action_fields c)) (Keeps IsCallInRange) more r
    → Reads IsNamed action_fields (Keeps IsCallInRange) text r
at_verb {verb} {IsKind} v text more (Some r) is p = (
  p.0,
  v.named p.0 p.1,
  is ∙ ap (λ l. 32 ∷ verb ++ l) p.2
      ∙ ap (λ l. behind l (10 ∷ r.1.now)) (sym (v.first p.0 p.1)),
  p.3,
)
at_verb {verb} {IsKind} v text more None is p = λ c rest named e.
    let kind = v.only c (10 ∷ rest) more named (sym e ∙ is) in
    let both : 32 ∷ verb ++ more ≡ 32 ∷ verb ++ behind (drop 1 (action_fields c)) (10 ∷ rest) = sym is ∙ e
    ∙ ap (λ l. behind l (10 ∷ rest)) (v.first c kind) in
    p c rest kind (cancel (32 ∷ verb) both)

pub creat_verb : HasVerb (codes "creat") IsCreat
creat_verb = record { named = named; first = first; only = only } where
  named : (c : Call) → IsCreat c → IsNamed c
  named (Creat name) is = is
  named c is = absurd is

  first : (c : Call) → IsCreat c → action_fields c ≡ codes "creat" ∷ drop 1 (action_fields c)
  first (Creat name) is = refl
  first c is = absurd is

  only : (c : Call) (rest more : List ℕ) → IsNamed c → behind (action_fields c) rest ≡ 32 ∷ codes "creat" ++ more
      → IsCreat c
  only (Creat name) rest more is e = is
  only c rest more is e = absurd (differ 1 e refl)

pub write_verb : HasVerb (codes "write") IsWrite
write_verb = record { named = named; first = first; only = only } where
  named : (c : Call) → IsWrite c → IsNamed c
  named (Write name off len fill) is = is
  named c is = absurd is

  first : (c : Call) → IsWrite c → action_fields c ≡ codes "write" ∷ drop 1 (action_fields c)
  first (Write name off len fill) is = refl
  first c is = absurd is

  only : (c : Call) (rest more : List ℕ) → IsNamed c → behind (action_fields c) rest ≡ 32 ∷ codes "write" ++ more
      → IsWrite c
  only (Write name off len fill) rest more is e = is
  only c rest more is e = absurd (differ 1 e refl)

pub read_verb : HasVerb (codes "read") IsRead
read_verb = record { named = named; first = first; only = only } where
  named : (c : Call) → IsRead c → IsNamed c
  named (Read name off len) is = is
  named c is = absurd is

  first : (c : Call) → IsRead c → action_fields c ≡ codes "read" ∷ drop 1 (action_fields c)
  first (Read name off len) is = refl
  first c is = absurd is

  only : (c : Call) (rest more : List ℕ) → IsNamed c → behind (action_fields c) rest ≡ 32 ∷ codes "read" ++ more
      → IsRead c
  only (Read name off len) rest more is e = is
  only c rest more is e = absurd (differ 1 e refl)

pub fsync_verb : HasVerb (codes "fsync") IsFsync
fsync_verb = record { named = named; first = first; only = only } where
  named : (c : Call) → IsFsync c → IsNamed c
  named (Fsync name) is = is
  named c is = absurd is

  first : (c : Call) → IsFsync c → action_fields c ≡ codes "fsync" ∷ drop 1 (action_fields c)
  first (Fsync name) is = refl
  first c is = absurd is

  only : (c : Call) (rest more : List ℕ) → IsNamed c → behind (action_fields c) rest ≡ 32 ∷ codes "fsync" ++ more
      → IsFsync c
  only (Fsync name) rest more is e = is
  only c rest more is e = absurd (differ 1 e refl)

pub unlink_verb : HasVerb (codes "unlink") IsUnlink
unlink_verb = record { named = named; first = first; only = only } where
  named : (c : Call) → IsUnlink c → IsNamed c
  named (Unlink name) is = is
  named c is = absurd is

  first : (c : Call) → IsUnlink c → action_fields c ≡ codes "unlink" ∷ drop 1 (action_fields c)
  first (Unlink name) is = refl
  first c is = absurd is

  only : (c : Call) (rest more : List ℕ) → IsNamed c → behind (action_fields c) rest ≡ 32 ∷ codes "unlink" ++ more
      → IsUnlink c
  only (Unlink name) rest more is e = is
  only c rest more is e = absurd (differ 1 e refl)
