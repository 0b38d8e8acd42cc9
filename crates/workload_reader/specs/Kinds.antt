-- The kinds of calls.
use Rattle.std.specs.Prelude.{IsTrue}
use Rattle.split_types.specs.declared.call.Call.{Call}
use Rattle.split_types.specs.declared.call.Call.TheVariants.{Creat, Write, Read, Fsync, Unlink}
use Rattle.split_types.specs.Names.{is_name}
use Rattle.split_types.specs.Calls.{name_of}

-- it names a file by a name
abbrev pub IsNamed : Call → Type 0
IsNamed c = IsTrue (is_name (name_of c))

-- it does so, and is of this kind
abbrev pub IsCreat : Call → Type 0
IsCreat (Creat name) = IsTrue (is_name name)
IsCreat _ = ⊥

abbrev pub IsWrite : Call → Type 0
IsWrite (Write name off len fill) = IsTrue (is_name name)
IsWrite _ = ⊥

abbrev pub IsRead : Call → Type 0
IsRead (Read name off len) = IsTrue (is_name name)
IsRead _ = ⊥

abbrev pub IsFsync : Call → Type 0
IsFsync (Fsync name) = IsTrue (is_name name)
IsFsync _ = ⊥

abbrev pub IsUnlink : Call → Type 0
IsUnlink (Unlink name) = IsTrue (is_name name)
IsUnlink _ = ⊥
