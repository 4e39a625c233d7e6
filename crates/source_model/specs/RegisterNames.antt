-- The names of registers.
-- Source: RISC-V Assembly Programmer's Manual, "General registers".
use Rattle.std.specs.Prelude.{ℕ, ◌%◌, ◌==◌, List, ◌++◌, Option, option_map, codes}
use Rattle.std.specs.List.{position_from, slice_split}
use Rattle.std.specs.Str.{bytes_eq}

-- the 32 registers in their order, first by names and then by numbers
abbrev pub register_names : List (List ℕ)
register_names =
    slice_split (λ b. b == 32) (codes "zero ra sp gp tp t0 t1 t2 s0 s1 a0 a1 a2 a3 a4 a5 a6 a7 s2 s3 s4 s5 s6 s7 s8 s9 s10 s11 t3 t4 t5 t6")
    ++ slice_split (λ b. b == 32) (codes "x0 x1 x2 x3 x4 x5 x6 x7 x8 x9 x10 x11 x12 x13 x14 x15 x16 x17 x18 x19 x20 x21 x22 x23 x24 x25 x26 x27 x28 x29 x30 x31")

abbrev pub register_in : List ℕ → Option ℕ
register_in w = option_map (λ n. n % 32) (position_from (bytes_eq w) 0 register_names)
