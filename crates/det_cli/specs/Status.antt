-- The status with which the program ends, and what it says of how far a call came.
-- Our choice: the numbers.
use Rattle.std.specs.Prelude.{◌≡◌, ◌<◌, ℕ}
use Rattle.det_cli.specs.declared.end.End.{End}
use Rattle.det_cli.specs.declared.end.End.TheVariants.{Ret, Trapped, Usage, ReadFault, WriteFault, NoMemory}

-- 3 says that a file is refused, whatever is wrong with it
abbrev pub status_of : End → ℕ
status_of Ret = 0
status_of Trapped = 1
status_of Usage = 2
status_of ReadFault = 4
status_of WriteFault = 5
status_of NoMemory = 6
status_of _ = 3

-- all was written
abbrev pub IsDone : End → Type 0
IsDone end = status_of end < 2

-- a file is refused: it is too large, or outside its grammar
abbrev pub IsBad : End → Type 0
IsBad end = status_of end ≡ 3

-- the words, a file, or the loading of one ended the call before anything was written
abbrev pub IsEarly : End → Type 0
IsEarly end = (1 < status_of end) × (status_of end < 5)
