-- Registers as they are read: a letter and a number, or a name of its own.
-- Our choice: a restatement for proofs.
use Rattle.std.specs.Prelude.{ℕ, ◌+◌, ◌*◌, ◌==◌, nat_lt, ◌&&◌, List, [], ◌∷◌, drop, slice_index, Option, Some, None, option_and_then, if◌then◌else◌, codes}
use Rattle.source_model.specs.declared.mnemonic.Base.TheVariants.{Decimal}
use Rattle.source_model.specs.Bytes.{same_text}
use Rattle.source_model.specs.Number.{digit_of}

-- one or two digits, the first of two not 0
unfoldable pub index_of : List ℕ → Option ℕ
index_of [] = None
index_of (a ∷ []) = digit_of Decimal a
index_of (a ∷ b ∷ []) = if a == 48 then None else option_and_then (λ m. option_and_then (λ n. Some (10 * m + n)) (digit_of Decimal b)) (digit_of Decimal a)
index_of (a ∷ b ∷ c ∷ bs) = None

-- x0 to x31; t0 to t2 and t3 to t6; s0, s1 and s2 to s11; a0 to a7
abbrev pub letter_register : ℕ → ℕ → Option ℕ
letter_register letter n =
    if (letter == 120) && nat_lt n 32 then Some n
    else if (letter == 116) && nat_lt n 3 then Some (n + 5)
    else if (letter == 116) && nat_lt n 7 then Some (n + 25)
    else if (letter == 115) && nat_lt n 2 then Some (n + 8)
    else if (letter == 115) && nat_lt n 12 then Some (n + 16)
    else if (letter == 97) && nat_lt n 8 then Some (n + 10)
    else None

abbrev pub register_in : List ℕ → Option ℕ
register_in word =
    if same_text word (codes "zero") then Some 0
    else if same_text word (codes "ra") then Some 1
    else if same_text word (codes "sp") then Some 2
    else if same_text word (codes "gp") then Some 3
    else if same_text word (codes "tp") then Some 4
    else option_and_then (letter_register (slice_index word 0)) (index_of (drop 1 word))
