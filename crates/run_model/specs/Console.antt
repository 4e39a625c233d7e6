-- How a console grows: bytes are only appended to it, and one event appends at most as many as a call may name.
-- Our choice: the most bytes that one event appends.
use Rattle.std.specs.Prelude.{◌≡◌, ℕ, ◌≤◌, List, ◌++◌, length}
use Rattle.call_model.specs.Limits.{greatest_length}
use Rattle.space_model.specs.Space.{Top, console_bytes}

-- the second list is the first one with at most so many bytes behind it
abbrev pub Grows : ℕ → List ℕ → List ℕ → Type 0
Grows most before now = (more : List ℕ) × ((length more ≤ most) × (now ≡ before ++ more))

-- the most bytes that one event appends to a console
abbrev pub most_output : ℕ
most_output = greatest_length

-- what a space has written to its console; without devices it has written nothing
abbrev pub console_in : Top → List ℕ
console_in t = console_bytes t.devices
