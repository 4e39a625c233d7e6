-- The lines of slots, one after the other.
use Rattle.std.proofs.Common.{◌≡◌, ℕ, suc, ◌+◌, ◌-◌, ◌<◌, ◌≤◌, List, ◌++◌, append_assoc, sym, ap, ◌∙◌, arith}
use Rattle.std.proofs.lemmas.List.{append-nil}
use Rattle.file_model.specs.Sizes.{slot_count}
use Rattle.file_model.specs.Slots.{slot_at, slots_from}
use Rattle.explain_core.specs.Contents.{files_text, slot_text}

-- one more slot
pub one_slot : (bytes : ℕ → ℕ) (text line after whole : List ℕ) (slot : ℕ) → slot < slot_count → text ++ files_text slot (slots_from bytes slot (slot_count - slot)) ≡ whole → line ≡ slot_text slot (slot_at bytes slot) → after ≡ text ++ line
    → after ++ files_text (slot + 1) (slots_from bytes (slot + 1) (slot_count - (slot + 1))) ≡ whole
unfolding slots_from
one_slot bytes text line after whole slot within so_far is grown =
    let count : slot_count - slot ≡ suc (slot_count - (slot + 1)) = omega (arith, within) in
    let rest = files_text (slot + 1) (slots_from bytes (slot + 1) (slot_count - (slot + 1))) in
    ap (λ v. v ++ rest) (grown ∙ ap (λ l. text ++ l) is) ∙ append_assoc text (slot_text slot (slot_at bytes slot)) rest
    ∙ sym (ap (λ k. text ++ files_text slot (slots_from bytes slot k)) count) ∙ so_far

-- none is left
pub all_slots : (bytes : ℕ → ℕ) (text whole : List ℕ) (slot : ℕ) → slot_count ≤ slot → text ++ files_text slot (slots_from bytes slot (slot_count - slot)) ≡ whole → text ≡ whole
unfolding slots_from
all_slots bytes text whole slot past so_far =
    let none : slot_count - slot ≡ 0 = omega (arith, past) in
    sym (append-nil text) ∙ sym (ap (λ k. text ++ files_text slot (slots_from bytes slot k)) none) ∙ so_far
