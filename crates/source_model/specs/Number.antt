-- Numbers as they are read, byte by byte.
-- Our choice: a restatement for proofs.
use Rattle.std.specs.Prelude.{ℕ, ◌+◌, ◌-◌, ◌*◌, ◌^◌, ◌%◌, not, ◌&&◌, ◌||◌, ◌==◌, nat_lt, List, [], ◌∷◌, drop, Option, Some, None, option_and_then, option_map, if◌then◌else◌}
use Rattle.source_model.specs.declared.mnemonic.Base.{Base}
use Rattle.source_model.specs.declared.mnemonic.Base.TheVariants.{Decimal, Hexadecimal}
use Rattle.source_model.specs.declared.mnemonic.Number.{Number}
use Rattle.source_model.specs.declared.mnemonic.Number.TheVariants.{Plus, Minus}
use Rattle.source_model.specs.Bytes.{is_between, is_digit, is_empty, begins}

abbrev pub digit_of : Base → ℕ → Option ℕ
digit_of Decimal b = if is_digit b then Some (b - 48) else None
digit_of Hexadecimal b = if is_digit b then Some (b - 48) else if is_between 97 102 b then Some (b - 87) else if is_between 65 70 b then Some (b - 55) else None

abbrev pub times : Base → ℕ → ℕ
times Decimal n = 10 * n
times Hexadecimal n = 16 * n

-- the value of digits after a number
unfoldable pub value_from : Base → ℕ → List ℕ → Option ℕ
value_from base so_far [] = Some so_far
value_from base so_far (b ∷ bs) = option_and_then (λ d. value_from base (times base so_far + d) bs) (digit_of base b)

-- digits, and no zero before others
unfoldable pub decimal : List ℕ → Option ℕ
decimal text = if is_empty text || (begins 48 text && not (is_empty (drop 1 text))) then None else value_from Decimal 0 text

unfoldable pub hexadecimal : List ℕ → Option ℕ
hexadecimal text = if is_empty text then None else value_from Hexadecimal 0 text

unfoldable pub number_of : List ℕ → Option Number
number_of word =
    if begins 48 word && begins 120 (drop 1 word) then option_map (λ n. Plus n) (hexadecimal (drop 2 word))
    else if begins 45 word then option_map (λ n. Minus n) (decimal (drop 1 word))
    else option_map (λ n. Plus n) (decimal word)

-- a number that is not below the one nor above the other, modulo 2 ^ 32
abbrev pub in_range : ℕ → ℕ → Number → Option ℕ
in_range below above (Plus n) = if nat_lt above n then None else Some n
in_range below above (Minus n) = if nat_lt below n then None else Some ((2 ^ 32 - n) % 2 ^ 32)

-- a number from 0 on
abbrev pub natural_of : Number → Option ℕ
natural_of (Plus n) = Some n
natural_of (Minus n) = if n == 0 then Some 0 else None
