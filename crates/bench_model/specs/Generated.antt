-- The image that is made from a number: a program of one to sixteen threads, each of which computes numbers of its own from a start of
-- its own and stores the last one, and the numbers of turns and the starts in its data.
-- Source: the calls of threads as docs/KERNEL.md has them; the step of a thread is the generator of G. Marsaglia, "Xorshift RNGs" (2003),
-- with the shifts 13, 17 and 5; the numbers of the image come from a linear congruential generator with the multiplier 1664525 and the increment
-- 1013904223 (Numerical Recipes).
-- Our choice: the program.
use Rattle.std.specs.Prelude.{ℕ, zero, suc, ◌+◌, ◌-◌, ◌*◌, ◌/◌, ◌%◌, ◌^◌, List, [], ◌∷◌, ◌++◌, length, map, replicate}
use Rattle.std.specs.Int.{w32, to_le_bytes}
use Rattle.std.specs.List.{flat_map, range_with_len}
use Rattle.memory_model.specs.declared.Width.TheVariants.{Four}
use Rattle.instruction_model.specs.declared.Comparison.TheVariants.{Bne, Blt}
use Rattle.instruction_model.specs.declared.LoadKind.TheVariants.{Lw}
use Rattle.instruction_model.specs.declared.Operation.TheVariants as operations
use Rattle.instruction_model.specs.declared.Instruction.{Instruction}
use Rattle.instruction_model.specs.declared.Instruction.TheVariants.{Lui, Branch, Load, Store, OperateImmediate, Operate, Ecall}
use Rattle.instruction_model.specs.Encoding.{word_of}
use Rattle.image_model.specs.Image.{Image, Segment}

-- ---- the numbers

-- the number after a number
abbrev pub next : ℕ → ℕ
next n = (1664525 * n + 1013904223) % 2 ^ 32

-- the seed is number 0, and each number is followed by the next one
unfoldable pub number : ℕ → ℕ → ℕ
number seed zero = seed
number seed (suc k) = next (number seed k)

abbrev pub threads : ℕ → ℕ
threads seed = 1 + seed % 16

-- from 1 to 4,096
abbrev pub turns_from : ℕ → ℕ
turns_from n = 1 + n / 65536 % 4096

-- the number with its lowest bit set
abbrev pub start_from : ℕ → ℕ
start_from n = 2 * (n / 2) + 1

-- how often a thread takes its step
abbrev pub turns : ℕ → ℕ → ℕ
turns seed thread = turns_from (number seed (2 * thread + 1))

-- where a thread's own numbers start
abbrev pub start : ℕ → ℕ → ℕ
start seed thread = start_from (number seed (2 * thread + 2))

-- ---- the data

-- the words, and zeros up to sixteen words
abbrev pub sixteen : List ℕ → List ℕ
sixteen words = words ++ replicate (16 - length words) 0

-- what each thread has, the first thread first
abbrev pub of_threads : ℕ → (ℕ → ℕ) → List ℕ
of_threads seed f = map f (range_with_len 0 (threads seed))

-- how many threads there are; at 64 their turns, at 128 their starts, and from 192 on room for what each stores
abbrev pub data_words : ℕ → List ℕ
data_words seed = sixteen (threads seed ∷ []) ++ (sixteen (of_threads seed (turns seed)) ++ (sixteen (of_threads seed (start seed)) ++ sixteen []))

-- ---- the code

-- registers by their names (RISC-V Assembly Programmer's Manual, "General registers")
abbrev pub x0 : ℕ
x0 = 0

abbrev pub t0 : ℕ
t0 = 5

abbrev pub t1 : ℕ
t1 = 6

abbrev pub t2 : ℕ
t2 = 7

abbrev pub t3 : ℕ
t3 = 28

abbrev pub s0 : ℕ
s0 = 8

abbrev pub s1 : ℕ
s1 = 9

abbrev pub s2 : ℕ
s2 = 18

abbrev pub a0 : ℕ
a0 = 10

abbrev pub a1 : ℕ
a1 = 11

abbrev pub a2 : ℕ
a2 = 12

abbrev pub a7 : ℕ
a7 = 17

abbrev pub addi : ℕ → ℕ → ℕ → Instruction
addi rd rs1 n = OperateImmediate operations.Add rd rs1 n

-- so many instructions further on, and back
abbrev pub ahead : ℕ → ℕ
ahead n = 4 * n

abbrev pub back : ℕ → ℕ
back n = 2 ^ 32 - 4 * n

-- the numbers of calls
abbrev pub ret : ℕ
ret = 3

abbrev pub console_out : ℕ
console_out = 4

abbrev pub tfork : ℕ
tfork = 18

abbrev pub tjoin : ℕ
tjoin = 19

-- s0: the data; s1: how many threads; s2: the next one
abbrev pub begins : List Instruction
begins = Lui s0 (4096 * 16) ∷ Load Lw s1 s0 0 ∷ addi s2 x0 0 ∷ []

-- forks a thread, which goes on with its work, and then the next one
abbrev pub forks : List Instruction
forks = addi a1 s2 0 ∷ addi a7 x0 tfork ∷ Ecall ∷ Branch Bne a0 x0 (ahead 16) ∷ addi s2 s2 1 ∷ Branch Blt s2 s1 (back 5) ∷ addi s2 x0 0 ∷ []

-- joins a thread, and then the next one
abbrev pub joins : List Instruction
joins = addi a1 s2 0 ∷ addi a7 x0 tjoin ∷ Ecall ∷ addi s2 s2 1 ∷ Branch Blt s2 s1 (back 4) ∷ []

-- writes what the threads stored to the console, and returns how many there are
abbrev pub ends : List Instruction
ends = addi a1 s0 192 ∷ addi a2 x0 64 ∷ addi a7 x0 console_out ∷ Ecall ∷ addi a0 s1 0 ∷ addi a7 x0 ret ∷ Ecall ∷ []

-- a thread begins: t0 is where its words are, from the data on; t1 its turns; t2 its number
abbrev pub reads : List Instruction
reads = OperateImmediate operations.Sll t0 s2 2 ∷ Operate operations.Add t0 t0 s0 ∷ Load Lw t1 t0 64 ∷ Load Lw t2 t0 128 ∷ []

-- a step on its number
abbrev pub xorshift : List Instruction
xorshift = OperateImmediate operations.Sll t3 t2 13 ∷ Operate operations.Xor t2 t2 t3
    ∷ OperateImmediate operations.Srl t3 t2 17 ∷ Operate operations.Xor t2 t2 t3
    ∷ OperateImmediate operations.Sll t3 t2 5 ∷ Operate operations.Xor t2 t2 t3 ∷ []

-- a step for each turn
abbrev pub turns_of_a_thread : List Instruction
turns_of_a_thread = xorshift ++ addi t1 t1 (2 ^ 32 - 1) ∷ Branch Bne t1 x0 (back 7) ∷ []

-- stores the last number, and returns it
abbrev pub stores : List Instruction
stores = Store Four t0 t2 192 ∷ addi a0 t2 0 ∷ addi a7 x0 ret ∷ Ecall ∷ []

abbrev pub code : List Instruction
code = begins ++ (forks ++ (joins ++ (ends ++ (reads ++ (turns_of_a_thread ++ stores)))))

-- ---- the image

abbrev pub words_bytes : List ℕ → List ℕ
words_bytes words = flat_map (to_le_bytes w32) words

abbrev pub code_segment : Segment
code_segment = record { address = 0x1000; permission = 5; content = words_bytes (map word_of code) }

abbrev pub data_segment : ℕ → Segment
data_segment seed = record { address = 0x10000; permission = 7; content = words_bytes (data_words seed) }

unfoldable pub generated : ℕ → Image
generated seed = record { entry = 0x1000; stack = 0; segments = code_segment ∷ data_segment seed ∷ [] }
