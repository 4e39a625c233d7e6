-- A parcel read from left to right, where each field is at once what it means: registers, memories, the top.
-- Our choice: a restatement for proofs.
use Rattle.std.specs.Prelude.{ℕ, ◌+◌, List, ◌∷◌, Option, None, Result, Ok}
use Rattle.std.specs.Int.{w32}
use Rattle.memory_model.specs.Memory.{Memory}
use Rattle.instruction_model.specs.Outcome.{Registers}
use Rattle.space_model.specs.Space.{Top}
use Rattle.parcel_model.specs.declared.error.ParcelError.{ParcelError}
use Rattle.parcel_model.specs.Parcel.{Content, with_entry, memory_of, snapshot_of, status_in}
use Rattle.parcel_model.specs.Reading.{◌>>=◌, number_at, magic_at, words_at, cause_at, value_at, flags_at, limit_at, used_at, content_at, content_size, entry_at, entry_size, entries_at, memory_at, snapshot_at, ended}

-- pc and all registers; x0 is 0
unfoldable pub registers_at : ℕ → List ℕ → Result (Registers × List ℕ) ParcelError
registers_at at bytes = do
  pc ← number_at w32 at bytes
  x ← words_at 31 (at + 4) pc.1
  Ok (record { pc = pc.0; x = 0 ∷ x.0 }, x.1)

-- a memory with this page and the content that was read, and where the content ends
abbrev pub put_content : List (List ℕ) → Memory → ℕ → ℕ → ℕ → Result (Content × List ℕ) ParcelError → Result (Memory × ℕ × List ℕ) ParcelError
put_content known m page permission at read = do
  c ← read
  Ok (with_entry known m (record { page = page; permission = permission; content = c.0 }), at + content_size c.0, c.1)

-- a memory with this page and the content that stands there, and where it ends
unfoldable pub content_in : List (List ℕ) → Memory → ℕ → ℕ → ℕ → List ℕ → Result (Memory × ℕ × List ℕ) ParcelError
content_in known m page permission at bytes = put_content known m page permission (at + 1) (content_at known permission at bytes)

-- a memory with the page that stands there, from which page on the next one may be, and where this one ends
unfoldable pub entry_in : List (List ℕ) → Memory → ℕ → ℕ → List ℕ → Result (Memory × ℕ × ℕ × List ℕ) ParcelError
entry_in known m least at bytes = do
  e ← entry_at known least at bytes
  Ok (with_entry known m e.0, e.0.page + 1, at + entry_size e.0, e.1)

-- the memory of so many pages that stand there, and where they end
unfoldable pub pages_in : List (List ℕ) → ℕ → ℕ → List ℕ → Result (Memory × ℕ × List ℕ) ParcelError
pages_in known count at bytes = do
  o ← entries_at known count 0 at bytes
  Ok (memory_of known o.0, o.1, o.2)

-- the memory that stands there, and where it ends
unfoldable pub memory_in : List (List ℕ) → ℕ → List ℕ → Result (Memory × ℕ × List ℕ) ParcelError
memory_in known at bytes = do
  o ← memory_at known at bytes
  Ok (memory_of known o.0, o.1, o.2)

-- and the snapshot, where the flags tell of one
unfoldable pub snapshot_in : List (List ℕ) → ℕ → ℕ → List ℕ → Result (Option Memory × ℕ × List ℕ) ParcelError
snapshot_in known flags at bytes = do
  s ← snapshot_at known flags at bytes
  Ok (snapshot_of known s.0, s.1, s.2)

-- nothing stands there: how many bytes there are in all
abbrev pub end_at : ℕ → List ℕ → Result ℕ ParcelError
end_at at bytes = ended at at bytes

-- the top
unfoldable pub read_top : List (List ℕ) → List ℕ → Result Top ParcelError
read_top known bytes = do
  m ← magic_at 0 bytes
  r ← registers_at 4 m
  c ← cause_at 132 r.1
  v ← value_at c.0 136 c.1
  f ← flags_at 140 v.1
  l ← limit_at f.0 141 f.1
  n ← number_at w32 145 l.1
  u ← used_at n.0 149 n.1
  o ← memory_in known 153 u.1
  s ← snapshot_in known f.0 o.1 o.2
  e ← end_at s.1 s.2
  Ok (record { registers = r.0; memory = o.0; snapshot = s.0; limit = l.0; fuel = n.0; used = u.0; status = status_in c.0 v.0; devices = None })
