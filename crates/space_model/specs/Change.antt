-- Changes of a top that events have in common.
-- Our choice: a0 is 0 after a call; an event takes a unit of fuel and of the limit.
use Rattle.std.specs.Prelude.{ℕ, ◌+◌, ◌-◌, option_map}
use Rattle.instruction_model.specs.Outcome.{with_register, onward}
use Rattle.space_model.specs.declared.Cause.{Cause}
use Rattle.space_model.specs.declared.Status.TheVariants.{Stopped}
use Rattle.space_model.specs.Space.{Top}

abbrev pub stop : Top → Cause → ℕ → Top
stop t cause value = record t { status = Stopped cause value }

-- a call that has succeeded: a0 is 0, and the next instruction follows
abbrev pub after_success : Top → Top
after_success t = record t { registers = with_register (onward t.registers) 10 0 }

-- a call that is refused, and not as a trap: a0 is the number of the error, and the next instruction follows
abbrev pub after_error : ℕ → Top → Top
after_error number t = record t { registers = with_register (onward t.registers) 10 number }

-- a call that has counted something: a1 is how much
abbrev pub with_count : ℕ → Top → Top
with_count n t = record t { registers = with_register t.registers 11 n }

-- u with t's fuel and limit lowered by n, and t's used raised by n
abbrev pub after_spending : ℕ → Top → Top → Top
after_spending n t u = record u { fuel = t.fuel - n; used = t.used + n; limit = option_map (λ k. k - n) t.limit }

-- the same of one event
abbrev pub after_payment : Top → Top → Top
after_payment t u = after_spending 1 t u
