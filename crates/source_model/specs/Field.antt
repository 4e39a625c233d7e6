-- Numbers of fields as they are read: a value, or the kind of fault.
-- Our choice: a restatement for proofs.
use Rattle.std.specs.Prelude.{ℕ, ◌+◌, ◌-◌, ◌^◌, min, ◌==◌, List, Option, Some, None, option_and_then, Result, Ok, Err, if◌then◌else◌}
use Rattle.source_model.specs.declared.error.AsmErrorKind.{AsmErrorKind}
use Rattle.source_model.specs.declared.error.AsmErrorKind.TheVariants as kinds
use Rattle.source_model.specs.declared.mnemonic.Number.{Number}
use Rattle.source_model.specs.declared.mnemonic.Number.TheVariants.{Plus, Minus}
use Rattle.source_model.specs.declared.statement.Value.{Value}
use Rattle.source_model.specs.declared.statement.Value.TheVariants as values
use Rattle.source_model.specs.Text.{◌>>=◌, is_label}
use Rattle.source_model.specs.Number.{number_of, in_range}
use Rattle.source_model.specs.Register.{register_in}

abbrev pub or_fault : {A : Type 0} → AsmErrorKind → Option A → Result A AsmErrorKind
or_fault kind (Some x) = Ok x
or_fault kind None = Err kind

-- a number of a field
unfoldable pub field : ℕ → ℕ → List ℕ → Result ℕ AsmErrorKind
field below above word = or_fault kinds.Number (option_and_then (in_range below above) (number_of word))

-- a number from 0 on; what is above the bound counts as one more than it
abbrev pub up_to : ℕ → Number → Option ℕ
up_to bound (Plus n) = Some (min n (bound + 1))
up_to bound (Minus n) = if n == 0 then Some 0 else None

unfoldable pub count : ℕ → List ℕ → Result ℕ AsmErrorKind
count bound word = or_fault kinds.Number (option_and_then (up_to bound) (number_of word))

-- a label, or a number from -2 ^ 31 to 2 ^ 32 - 1
unfoldable pub value_of : List ℕ → Result Value AsmErrorKind
value_of word = if is_label word then Ok values.Label else (field (2 ^ 31) (2 ^ 32 - 1) word >>= λ n. Ok (values.Number n))

-- a register
unfoldable pub register_of : List ℕ → Result ℕ AsmErrorKind
register_of word = or_fault kinds.Register (register_in word)
