use Rattle.std.proofs.Common.{◌≡◌, ℕ, ◌+◌, ◌<◌, ◌≤◌, true, get_or}
use Rattle.space_mem.specs.Held.{KeepsMarks, Marks, Owns}
use Rattle.memory_files.specs.Slots.{OwnsSlot, has_slot, slot_page, slot_pages}
use Rattle.memory_files.specs.Taken.{IsBesideSlots}
use Rattle.memory_files.proofs.sharing.own_planned.Given as goal

abbrev pub invariant-loop-slot : goal.invariant-loop-slot
invariant-loop-slot l = record {
  same : l.parent.memory ≡ l.fn.parent.memory;
  headed : (k : ℕ) → k < l.slot → has_slot l.plan.marks k ≡ true → OwnsSlot l.parent 1 k;
  owned : (k : ℕ) → k < l.slot → has_slot l.plan.marks k ≡ true → (page : ℕ) → slot_page k + 1 + get_or l.plan.whole k 0 ≤ page → page < slot_page k + slot_pages → Owns l.parent page;
  kept : (page : ℕ) → IsBesideSlots l.plan.marks page → KeepsMarks l.fn.parent l.parent page;
  marks : Marks l.fn.parent l.parent;
}
