-- What becomes of one child's file, as the code tells it, and which of the child's slots have a file to reconcile.
-- Our choice: a restatement for proofs.
use Rattle.std.specs.Prelude.{◌≡◌, ℕ, ◌==◌, ◌&&◌, not, Bool, true, false, ⊤}
use Rattle.std.specs.List.{All}
use Rattle.file_model.specs.Slots.{slots_of, slot_start, is_in_use, with_slot}
use Rattle.file_model.specs.Operations.{entry_of}
use Rattle.file_model.specs.Reconcile.{Outcome, stays, writes, leaves_out, Reconciliation, is_at}
use Rattle.file_image.specs.Lookup.{file_in}

-- the slot that changes has its new file, or nothing changes; the answer is whether the file is left out
abbrev pub Happens : Outcome → Bool → (ℕ → ℕ) → (ℕ → ℕ) → Type 0
Happens stays false old new = new ≡ old
Happens stays true old new = ⊥
Happens (writes e) false old new = new ≡ with_slot old e.slot e.file
Happens (writes e) true old new = ⊥
Happens leaves_out false old new = ⊥
Happens leaves_out true old new = new ≡ old

-- the slot that changes is ready
abbrev pub IsReadyFor : (ℕ → Bool) → Outcome → Type 0
IsReadyFor ready stays = ⊤
IsReadyFor ready (writes e) = ready e.slot ≡ true
IsReadyFor ready leaves_out = ⊤

-- each slot that changes is ready
abbrev pub AreReady : (ℕ → Bool) → Reconciliation → Type 0
AreReady ready r = All (λ e. ready e.slot ≡ true) r.edits

-- whether slot k has a file that no lower slot hides
abbrev pub is_shown : (ℕ → ℕ) → ℕ → Bool
is_shown bytes k = is_in_use bytes (slot_start k) && is_at k (entry_of (slots_of bytes) (file_in bytes k).name)

-- whether slot k has one that was changed since its base, too
abbrev pub is_changed : (ℕ → ℕ) → ℕ → Bool
is_changed bytes k = is_in_use bytes (slot_start k) && (not ((file_in bytes k).version == (file_in bytes k).base) && is_at k (entry_of (slots_of bytes) (file_in bytes k).name))
