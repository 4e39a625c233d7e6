use Rattle.std.proofs.Common.{◌≡◌, ℕ, ◌/◌, ◌%◌, ◌^◌, ◌<◌, true, length}
use Rattle.space_mem.specs.Held.{KeepsMarks, Marks}
use Rattle.memory_files.specs.Slots.{IsBesideBits, OwnsSlots, has_slot}
use Rattle.memory_files.proofs.owning.own_slots.Given as goal

abbrev pub invariant-loop-slot : goal.invariant-loop-slot
invariant-loop-slot l = record {
  same : l.memory.memory ≡ l.fn.memory.memory;
  owned : OwnsSlots l.memory l.count l.slots;
  long : length l.slots ≡ 64;
  rest : l.rest ≡ l.fn.bits / 2 ^ l.slot;
  slots : (k : ℕ) → k < l.slot → l.fn.bits / 2 ^ k % 2 ≡ 1 → has_slot l.slots k ≡ true;
  beside : (page : ℕ) → IsBesideBits l.count l.fn.bits page → KeepsMarks l.fn.memory l.memory page;
  marks : Marks l.fn.memory l.memory;
}
