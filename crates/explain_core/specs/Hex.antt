-- Bytes as text.
-- Our choice: a restatement for proofs.
use Rattle.std.specs.Prelude.{ℕ, ◌-◌, ◌^◌, false, List, []}
use Rattle.std.specs.Fmt.{digits, padded_integral, format_spec}

-- two hexadecimal digits in lower case, as `{:02x}` writes them
abbrev pub hex2 : ℕ → List ℕ
hex2 n = padded_integral (format_spec 32 0 4 2 (2 ^ 64 - 1)) false [] (digits 16 false n)
