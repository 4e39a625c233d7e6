-- What a device's number does to a space.
-- Our choice: a restatement for contracts and proofs.
use Rattle.std.specs.Prelude.{ℕ, Option, Some, None}
use Rattle.space_model.specs.Space.{Top}
use Rattle.space_model.specs.Change.{after_success, after_error, with_count}

-- a number that a device gave goes into a1; where it had none left, a0 is 1 and a1 is 0
abbrev pub after_number : Option ℕ → Top → Top
after_number None t = after_error 1 (with_count 0 t)
after_number (Some n) t = after_success (with_count n t)
