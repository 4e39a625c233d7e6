-- What a function of the code returned is exactly what a function of the grammar gives, a value or a kind of fault: what reads a line takes no
-- memory.
-- Our choice: a restatement for proofs.
use Rattle.std.specs.Prelude.{◌≡◌, ℕ, min, ◌^◌, Result, Ok, Err}
use Rattle.source_model.specs.declared.error.AsmErrorKind.{AsmErrorKind}
use Rattle.source_model.specs.declared.mnemonic.Number.{Number}
use Rattle.source_model.specs.declared.mnemonic.Number.TheVariants.{Plus, Minus}

abbrev pub GivesExactly : {X Y : Type 0} → (X → Y) → Result X AsmErrorKind → Result Y AsmErrorKind → Type 0
GivesExactly view (Ok x) read = read ≡ Ok (view x)
GivesExactly view (Err e) read = read ≡ Err e

-- numbers from 2 ^ 40 on are no field's and are not told apart
abbrev pub clamp : ℕ → ℕ
clamp n = min n (2 ^ 40)

abbrev pub clamp_number : Number → Number
clamp_number (Plus n) = Plus (clamp n)
clamp_number (Minus n) = Minus (clamp n)
