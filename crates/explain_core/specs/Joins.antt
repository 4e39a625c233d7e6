-- Which events join a child, and which child.
-- Our choice: that a join is followed into the child that it names, and a call on files is not.
use Rattle.std.specs.Prelude.{ℕ, ◌^◌, ◌==◌, ◌&&◌, ◌||◌, nat_lt, Bool, false, List, [], ◌∷◌, ◌++◌, length, Option, Some, None, slice_index, if◌then◌else◌}
use Rattle.instruction_model.specs.Outcome.{Registers}
use Rattle.call_model.specs.declared.TheConstants.{GET, TJOIN}
use Rattle.call_model.specs.Limits.{greatest_depth}
use Rattle.call_model.specs.Options.{has, merging}
use Rattle.explain_core.specs.declared.watching.Watched.{Watched}
use Rattle.explain_core.specs.declared.watching.Watched.TheVariants.{Byte, Register}
use Rattle.explain_core.specs.Instructions.{is_call}
use Rattle.explain_core.specs.Watch.{Noted}

-- a call that merges a child's memory, each byte at its own address: TJOIN, and Get with Merge
abbrev pub merges : Registers → Bool
merges r = (slice_index r.x 17 == TJOIN) || ((slice_index r.x 17 == GET) && has merging (slice_index r.x 10))

-- an event joins a child, where bytes are watched
abbrev pub is_join : Watched → Noted → Bool
is_join (Byte a) c = is_call c.instruction && merges c.registers
is_join (Register r) c = false

-- the path of a child by its number, where a space can stand there
abbrev pub child_path : List ℕ → ℕ → Option (List ℕ)
child_path p n = if nat_lt n (2 ^ 16) && nat_lt (length p) greatest_depth then Some (p ++ n ∷ []) else None

-- the path of the child that an event joins: a1 names it
abbrev pub joined_path : List ℕ → Watched → Noted → Option (List ℕ)
joined_path p w c = let r = c.registers in if is_join w c then child_path p (slice_index r.x 11) else None
