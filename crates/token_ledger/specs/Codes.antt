-- Numbers that tell most places apart.
use Rattle.std.specs.Prelude.{ℕ, ◌+◌, ◌*◌, Option, Some, None}
use Rattle.split_types.specs.declared.ids.ReqId.{ReqId}
use Rattle.split_types.specs.declared.buf.Buf.{Buf}
use Rattle.split_types.specs.declared.buf.Buf.TheVariants.{Page, Bitmap, Dir, Inode}
use Rattle.token_ledger.specs.declared.place.Place.{Place}
use Rattle.token_ledger.specs.declared.place.Place.TheVariants.{Free, Open}

abbrev pub buf_code : Buf → ℕ
buf_code (Page serial page) = serial.0 * 1024 + page
buf_code Bitmap = 0
buf_code (Dir number) = 1 + number
buf_code (Inode slot) = 5 + slot.0

abbrev pub mark_code : Option ReqId → ℕ
mark_code None = 0
mark_code (Some id) = (id.0 + 1) * 2147483647

abbrev pub place_code : Place → ℕ
place_code Free = 0
place_code (Open buf mark) = buf_code buf + mark_code mark
