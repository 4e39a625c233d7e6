-- The numbers that bound what a call may name.
-- Our choice: the numbers.
use Rattle.std.specs.Prelude.{ℕ, ◌+◌, ◌-◌, ◌<◌, List, [], ◌∷◌}

-- the greatest number of a child
abbrev pub greatest_child : ℕ
greatest_child = 65535

-- the most children that a call names in a row
abbrev pub longest_row : ℕ
longest_row = 64

-- a number that a child may have
abbrev pub IsChild : ℕ → Type 0
IsChild n = n < greatest_child + 1

-- numbers that children may have
abbrev pub AreChildren : List ℕ → Type 0
AreChildren [] = Unit {0}
AreChildren (n ∷ ns) = IsChild n × AreChildren ns

-- the depth of the deepest spaces; the root is at depth 0
abbrev pub greatest_depth : ℕ
greatest_depth = 8

-- how many levels of children a space at this depth may have below it
abbrev pub levels_below : ℕ → ℕ
levels_below depth = greatest_depth - depth

-- the greatest length, in bytes, that a call of a device or on a file names
abbrev pub greatest_length : ℕ
greatest_length = 65536

-- the bytes of a register block
abbrev pub block_size : ℕ
block_size = 136

-- the last address from which on there are the bytes of a register block
abbrev pub last_block : ℕ
last_block = 4294967160
