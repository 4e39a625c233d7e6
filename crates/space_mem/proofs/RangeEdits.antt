-- What a memory is after a range of its pages has changed.
use Rattle.std.specs.Prelude.{◌≡◌, ℕ, ◌-◌, ◌*◌, ◌/◌, ◌%◌, ◌<◌, ◌≤◌, ◌⊎◌, true, false, cond, None}
use Rattle.std.proofs.Common.{refl, sym, ◌∙◌, ap, arith, inl, inr}
use Rattle.std.proofs.lemmas.Bool.{cases_lt}
use Rattle.memory_model.specs.Sparse.{Sparse, value_at}
use Rattle.memory_model.specs.Memory.{Memory, byte_at, with_permissions}
use Rattle.memory_model.specs.Ranges.{with_zeros, with_row}
use Rattle.memory_model.proofs.Rows.{value_at-row_key, value_at-row_before, value_at-row_after}
use Rattle.memory_model.proofs.Runs.{byte_at-with_permissions, permission_at-with_permissions, permission_at-with_permissions_out}
use Rattle.page_marks.specs.declared.marks.PageMarks.{PageMarks}
use Rattle.page_marks.specs.Marks.{SameMarks, SetsMarks, mark_of}
use Rattle.page_tree.specs.declared.tree_ref.TreeRef.{TreeRef}
use Rattle.page_tree.specs.Blocks.{byte_in, within}
use Rattle.page_tree.specs.Rows.{IsPermittedRow, IsClearedRow}
use Rattle.page_tree.specs.TreeRefs.{root_row, root_permission, root_page}
use Rattle.space_mem.specs.declared.table.PageTable.{PageTable}
use Rattle.space_mem.specs.Held.{Marks}
use Rattle.space_mem.specs.Tables.{memory_of, held_of}
use Rattle.space_mem.proofs.Tables.{memory_is, byte_at-of, byte_at-high, byte_at-page, permission_at-of, permission_at-high, marked_at}
use Rattle.space_mem.proofs.Updates.{in_range, before_range, after_range}

-- a page of a range, or one beside it
pub cases_within : (from to p : ℕ) → ((from ≤ p) × ((p < to) × (within from to p ≡ true))) ⊎ (((p < from) ⊎ (to ≤ p)) × (within from to p ≡ false))
cases_within from to p = elim (cases_lt p from) [
  | inl before ↦ inr (inl before, before_range from to p before)
  | inr low ↦ elim (cases_lt p to) [
    | inl high ↦ inl (low, (high, in_range from to p low high))
    | inr after ↦ inr (inr after, after_range from to p after)
  ]
]

pub permitted_memory : (t s : TreeRef) (first end right : ℕ) → first ≤ end → end ≤ 1048576 → IsPermittedRow 1048576 first end right (root_row t) (root_row s) → memory_of s ≡ with_permissions (memory_of t) first (end - first) right
permitted_memory t s first end right rise within_all permitted =
    let m : Memory = with_permissions (memory_of t) first (end - first) right in
    memory_is s m
    (λ a below. byte_at-with_permissions (memory_of t) first (end - first) right a ∙ byte_at-of t a below ∙ sym (ap (λ o. byte_in o (a % 4096)) (permitted.page (a / 4096) (omega arith))))
    (λ a high. byte_at-with_permissions (memory_of t) first (end - first) right a ∙ byte_at-high t a high)
    (λ p below. elim (cases_within first end p) [
      | inl here ↦ permission_at-with_permissions (memory_of t) first (end - first) right p here.0 (omega (arith, here.1.0)) ∙ sym (permitted.permission p below ∙ ap (λ b. cond b right (root_permission t p)) here.1.1)
      | inr out ↦ permission_at-with_permissions_out (memory_of t) first (end - first) right p (λ le. omega (arith, out.0)) ∙ permission_at-of t p below ∙ sym (permitted.permission p below ∙ ap (λ b. cond b right (root_permission t p)) out.1)
    ])
    (λ p high. permission_at-with_permissions_out (memory_of t) first (end - first) right p (λ le. omega arith) ∙ permission_at-high t p high)

pub cleared_memory : (t s : TreeRef) (first end : ℕ) → first ≤ end → end ≤ 1048576 → IsClearedRow 1048576 first end (root_row t) (root_row s) → memory_of s ≡ with_zeros (memory_of t) first (end - first)
cleared_memory t s first end rise within_all cleared =
    let m : Memory = with_zeros (memory_of t) first (end - first) in
    memory_is s m
    (λ a below. elim (cases_within first end (a / 4096)) [
      | inl here ↦ value_at-row_key (memory_of t).bytes (4096 * first) (λ _. 0) (4096 * (end - first)) a (omega (arith, here.0)) (omega (arith, here.1.0)) ∙ sym (ap (λ o. byte_in o (a % 4096)) (cleared.page (a / 4096) (omega arith) ∙ ap (λ b. cond b None (root_page t (a / 4096))) here.1.1))
      | inr out ↦ outside a out.0 ∙ byte_at-of t a below ∙ sym (ap (λ o. byte_in o (a % 4096)) (cleared.page (a / 4096) (omega arith) ∙ ap (λ b. cond b None (root_page t (a / 4096))) out.1))
    ])
    (λ a high. value_at-row_after (memory_of t).bytes (4096 * first) (λ _. 0) (4096 * (end - first)) a (omega arith) ∙ byte_at-high t a high)
    (λ p below. permission_at-of t p below ∙ sym (cleared.permission p below))
    (λ p high. permission_at-high t p high)
  where
    outside : (a : ℕ) → (a / 4096 < first) ⊎ (end ≤ a / 4096) → value_at (with_row (memory_of t).bytes (4096 * first) (λ _. 0) (4096 * (end - first))) a ≡ byte_at (memory_of t) a
    outside a (inl before) = value_at-row_before (memory_of t).bytes (4096 * first) (λ _. 0) (4096 * (end - first)) a (omega arith)
    outside a (inr after) = value_at-row_after (memory_of t).bytes (4096 * first) (λ _. 0) (4096 * (end - first)) a (omega arith)

-- a range is marked, and the bytes of pages beside it have not changed
pub marks_range : (t s : PageTable) (d : PageMarks) (first end : ℕ) → SetsMarks first end 1 d s.dirty → SameMarks t.dirty d
    → ((p k : ℕ) → p < 1048576 → ((p < first) ⊎ (end ≤ p)) → byte_in (root_page s.pages p) k ≡ byte_in (root_page t.pages p) k) → Marks (held_of t) (held_of s)
marks_range t s d first end sets before byte p below clean = elim (cases_within first end p) [
  | inl here ↦
      let one : mark_of s.dirty p ≡ 1 = sets p below ∙ ap (λ b. cond b 1 (mark_of d p)) here.1.1 in
      absurd (omega (arith, one, clean, marked_at s.dirty p below))
  | inr out ↦ (
    marked_at t.dirty p below ∙ sym (before p below) ∙ sym (sets p below ∙ ap (λ b. cond b 1 (mark_of d p)) out.1) ∙ sym (marked_at s.dirty p below) ∙ clean,
    λ k low. byte_at-page s.pages p k below low ∙ byte p k below out.0 ∙ sym (byte_at-page t.pages p k below low),
  )
]

-- a range of no pages
pub no_zeros : (t : TreeRef) (first end : ℕ) → first ≡ end → memory_of t ≡ with_zeros (memory_of t) first (end - first)
no_zeros t first end none =
    let m : Memory = with_zeros (memory_of t) first (end - first) in
    memory_is t m
    (λ a below. value_at-row_none (memory_of t).bytes (4096 * first) (4096 * (end - first)) a (omega arith) ∙ byte_at-of t a below)
    (λ a high. value_at-row_none (memory_of t).bytes (4096 * first) (4096 * (end - first)) a (omega arith) ∙ byte_at-high t a high)
    (permission_at-of t) (permission_at-high t)
  where
    value_at-row_none : (s : Sparse) (key n a : ℕ) → n ≡ 0 → value_at (with_row s key (λ _. 0) n) a ≡ value_at s a
    value_at-row_none s key n a none = elim (cases_lt a key) [
      | inl before ↦ value_at-row_before s key (λ _. 0) n a before
      | inr after ↦ value_at-row_after s key (λ _. 0) n a (omega arith)
    ]

-- permissions of no pages
pub no_permissions : (m : Memory) (first n right : ℕ) → n ≡ 0 → with_permissions m first n right ≡ m
no_permissions m first n right none = rw none refl
