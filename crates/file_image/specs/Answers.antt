-- What a call answers, and what it leaves in a buffer.
-- Our choice: a restatement for proofs.
use Rattle.std.specs.Prelude.{ℕ, List, ◌++◌, length, drop, Result, Ok, Err}
use Rattle.file_model.specs.declared.FileError.{FileError}

-- how many bytes were read
abbrev pub count_of : Result (List ℕ) FileError → Result ℕ FileError
count_of (Ok part) = Ok (length part)
count_of (Err e) = Err e

-- a buffer that begins with what was read
abbrev pub buffer_after : Result (List ℕ) FileError → List ℕ → List ℕ
buffer_after (Ok part) buffer = part ++ drop (length part) buffer
buffer_after (Err e) buffer = buffer
