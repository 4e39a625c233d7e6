-- The state of a space, without its children (its top) and with them (OSDI 2010, "Efficient System-Enforced Deterministic
-- Parallelism": a tree of spaces, each with registers, a private memory and a snapshot; fuel and limits count events).
-- Source: OSDI 2010, "Efficient System-Enforced Deterministic Parallelism", "Spaces": registers, a private memory, a snapshot, a limit.
use Rattle.std.specs.Prelude.{ℕ, suc, List, [], ◌∷◌, Option, Bool, true, false, Some, None, cond, ◌==◌, nat_lt, max}
use Rattle.memory_model.specs.Memory.{Memory}
use Rattle.instruction_model.specs.Outcome.{Registers}
use Rattle.device_model.specs.Devices.{Devices}
use Rattle.space_model.specs.declared.Status.{Status}
use Rattle.space_model.specs.Stop.{is_stopped}

-- the bytes written to the console; without devices there are none
abbrev pub console_bytes : Option Devices → List ℕ
console_bytes None = []
console_bytes (Some d) = d.console

pub record Top : Type 0 where
  pub registers : Registers
  pub memory : Memory
  pub snapshot : Option Memory
  pub limit : Option ℕ
  pub fuel : ℕ
  pub used : ℕ
  pub status : Status
  -- what only the root has
  pub devices : Option Devices

mutual
  pub data Space : Type 0 where
    space : Top → Children → Space

  -- the children by rising number
  pub data Children : Type 0 where
    none : Children
    child : ℕ → Space → Children → Children

abbrev pub top_of : Space → Top
top_of (space t cs) = t

abbrev pub children_of : Space → Children
children_of (space t cs) = cs

abbrev pub find : ℕ → Children → Option Space
find n none = None
find n (child m s rest) = cond (n == m) (Some s) (find n rest)

abbrev pub has : ℕ → Children → Bool
has n none = false
has n (child m s rest) = cond (n == m) true (has n rest)

-- the child of that number, where it is there, becomes f of it
abbrev pub over : ℕ → (Space → Space) → Children → Children
over n f none = none
over n f (child m s rest) = cond (n == m) (child m (f s) rest) (child m s (over n f rest))

-- in the order of numbers
abbrev pub enter : ℕ → Space → Children → Children
enter n s none = child n s none
enter n s (child m c rest) = cond (nat_lt n m) (child n s (child m c rest)) (child m c (enter n s rest))

-- the child of that number becomes s
abbrev pub put_child : ℕ → Space → Children → Children
put_child n s cs = cond (has n cs) (over n (λ c. s) cs) (enter n s cs)

abbrev pub remove_child : ℕ → Children → Children
remove_child n none = none
remove_child n (child m c rest) = cond (n == m) rest (child m c (remove_child n rest))

-- the children that a map's entries are
abbrev pub children_from : List (ℕ × Space) → Children
children_from [] = none
children_from (e ∷ es) = child e.0 e.1 (children_from es)

-- how many levels of children there are below a space
abbrev mutual
  pub height : Space → ℕ
  height (space t cs) = levels_of cs

  pub levels_of : Children → ℕ
  levels_of none = 0
  levels_of (child n s rest) = max (suc (height s)) (levels_of rest)

-- no space in it runs
abbrev mutual
  pub is_settled : Space → Bool
  is_settled (space t cs) = cond (is_stopped t.status) (are_settled cs) false

  pub are_settled : Children → Bool
  are_settled none = true
  are_settled (child n s rest) = cond (is_settled s) (are_settled rest) false
