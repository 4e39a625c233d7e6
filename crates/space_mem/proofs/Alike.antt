-- Trees of pages that stand for one memory.
use Rattle.std.specs.Prelude.{◌≡◌, ℕ, ◌+◌, ◌*◌, ◌≤◌, Option, Some, None}
use Rattle.std.proofs.Common.{refl, sym, ◌∙◌, ap, arith, inl, inr}
use Rattle.std.proofs.lemmas.Bool.{cases_lt}
use Rattle.std.proofs.lemmas.List.{get_or_past}
use Rattle.memory_model.specs.Memory.{byte_at, permission_at}
use Rattle.page_store.specs.declared.PageRef.{PageRef}
use Rattle.page_store.specs.Bytes.{bytes_of}
use Rattle.page_tree.specs.Blocks.{byte_in, IsWhole}
use Rattle.page_tree.specs.Rows.{SameRow}
use Rattle.page_tree.specs.declared.tree_ref.TreeRef.{TreeRef}
use Rattle.page_tree.specs.TreeRefs.{root_page, root_row, AreWholeRoot}
use Rattle.space_mem.specs.Tables.{memory_of}
use Rattle.space_mem.proofs.Tables.{memory_same, byte_at-page, permission_at-of}
use Rattle.space_mem.proofs.Updates.{root_whole}

-- pages that are alike make one memory
pub same_trees : (t s : TreeRef) → SameRow 1048576 (root_row t) (root_row s) → memory_of t ≡ memory_of s
same_trees t s same = sym (memory_same t s same.permission same.byte)

past_end : (o : Option PageRef) (k : ℕ) → IsWhole o → 4096 ≤ k → byte_in o k ≡ 0
past_end None k whole high = refl
past_end (Some page) k whole high = get_or_past (bytes_of page) k 0 (omega (arith, whole.sized))

-- one memory has pages that are alike
pub trees_same : (t s : TreeRef) → AreWholeRoot t → AreWholeRoot s → memory_of t ≡ memory_of s → SameRow 1048576 (root_row t) (root_row s)
trees_same t s whole whole_too same = record {
  permission = λ p low. sym (permission_at-of s p low) ∙ ap (λ m. permission_at m p) (sym same) ∙ permission_at-of t p low;
  byte = λ p k low. elim (cases_lt k 4096) [
    | inl within ↦ sym (byte_at-page s p k low within) ∙ ap (λ m. byte_at m (4096 * p + k)) (sym same) ∙ byte_at-page t p k low within
    | inr past ↦ past_end (root_page s p) k (root_whole s whole_too p low) past ∙ sym (past_end (root_page t p) k (root_whole t whole p low) past)
  ];
}
