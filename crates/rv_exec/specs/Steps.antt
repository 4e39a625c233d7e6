-- What a step answers and changes, by an instruction's outcome.
-- Our choice: a restatement for proofs.
use Rattle.std.specs.Prelude.{◌≡◌, ℕ, Bool, true, List, Result, Ok, Err}
use Rattle.std.specs.declared.alloc.AllocError.{AllocError}
use Rattle.memory_model.specs.declared.Width.{Width}
use Rattle.instruction_model.specs.Outcome.{Registers, Outcome, goes, stores, calls, traps}
use Rattle.rv_exec.specs.declared.stepping.Stepped.{Stepped}
use Rattle.rv_exec.specs.declared.stepping.Stepped.TheVariants.{Next, Call, Trap}

-- x0 to x31, with pc there
abbrev pub registers_at : ℕ → List ℕ → Registers
registers_at pc x = record { pc = pc; x = x }

-- registers and bus before, registers and bus after; a store may want memory, where the bus takes any, and then nothing changes
abbrev pub Steps : {B : Type 0} → (B → ℕ → Width → ℕ → B) → Bool → Outcome → Result Stepped AllocError → Registers → B → Registers → B → Type 0
Steps stored takes_memory (goes t) (Ok Next) s b s' b' = (s' ≡ t) × (b' ≡ b)
Steps stored takes_memory (stores t a width v) (Ok Next) s b s' b' = (s' ≡ t) × (b' ≡ stored b a width v)
Steps stored takes_memory (stores t a width v) (Err e) s b s' b' = (takes_memory ≡ true) × (s' ≡ s) × (b' ≡ b)
Steps stored takes_memory calls (Ok Call) s b s' b' = (s' ≡ s) × (b' ≡ b)
Steps stored takes_memory (traps c v) (Ok (Trap d u)) s b s' b' = (d ≡ c) × (u ≡ v) × (s' ≡ s) × (b' ≡ b)
Steps stored takes_memory o r s b s' b' = ⊥

-- the same of what leaves the bus as it is
abbrev pub Moves : Outcome → Result Stepped AllocError → Registers → Registers → Type 0
Moves (goes t) (Ok Next) s s' = s' ≡ t
Moves (traps c v) (Ok (Trap d u)) s s' = (d ≡ c) × (u ≡ v) × (s' ≡ s)
Moves o r s s' = ⊥
