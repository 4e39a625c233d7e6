-- A direct-mapped cache of decoded instructions: what it keeps of a memory.
-- Our choice: how the code keeps decoded instructions.
use Rattle.std.specs.Prelude.{◌≡◌, ℕ, ◌+◌, ◌-◌, ◌*◌, ◌/◌, ◌%◌, ◌^◌, ◌<◌, ◌≤◌, List, length, slice_index_or}
use Rattle.instruction_model.specs.Form.{HasFields}
use Rattle.instruction_model.specs.Outcome.{View}
use Rattle.rv_exec.specs.Flat.{meaning}
use Rattle.space_step.specs.declared.decode_cache.Entry.{Entry}
use Rattle.space_step.specs.declared.decode_cache.Table.{Table}
use Rattle.space_step.specs.declared.decode_cache.TheConstants.{ENTRIES}
use Rattle.space_step.specs.Source.{IsKnown}

-- the place of the entry for the word of an address
abbrev pub place : ℕ → ℕ
place a = a / 4 % ENTRIES

-- the keys of a generation are its first one and the 2^32 - 1 behind it, one for each address; those of all entries are of this generation
-- or an older one, and an empty entry's key is of none
abbrev pub IsBounded : ℕ → List Entry → Type 0
IsBounded first es = (2 ^ 32 ≤ first) × (first ≤ 2 ^ 64 - 2 ^ 32) × (length es ≡ ENTRIES) × ((k : ℕ) (d : Entry) → k < ENTRIES → (slice_index_or es k d).key < first + 2 ^ 32)

-- an entry that has the key of an address in this generation stands at the place of the address, and its instruction is the one there
abbrev pub Holds : View → ℕ → ℕ → Entry → Type 0
Holds v first k e = (a : ℕ) → e.key ≡ first + a → (a % 4 ≡ 0) × (place a ≡ k) × HasFields (meaning e.instruction) × IsKnown v a (meaning e.instruction)

abbrev pub Agrees : View → Table → Type 0
Agrees v t = IsBounded t.first t.entries × ((k : ℕ) (d : Entry) → k < ENTRIES → Holds v t.first k (slice_index_or t.entries k d))

-- the instruction at an address is kept
abbrev pub Hits : Table → ℕ → Type 0
Hits t a = (d : Entry) → (slice_index_or t.entries (place a) d).key ≡ t.first + a

-- the word of an address is not kept
abbrev pub Lacks : Table → ℕ → Type 0
Lacks t a = (k : ℕ) (d : Entry) → k < ENTRIES → (slice_index_or t.entries k d).key ≡ t.first + 4 * (a / 4) → ⊥
