-- Pages of a source that stand in the place of others.
use Rattle.std.specs.Prelude.{◌≡◌, ℕ, ◌+◌, ◌-◌, ◌*◌, ◌/◌, ◌%◌, ◌<◌, ◌≤◌, ◌⊎◌, ◌==◌, Bool, true, false, cond, not, nat_lt, ◌&&◌, Result, Ok, Err, OnErr}
use Rattle.std.proofs.Common.{refl, sym, ◌∙◌, ap, arith, inl, inr, eq-eqb}
use Rattle.std.proofs.lemmas.Bool.{cases_lt}
use Rattle.std.proofs.lemmas.Bool.Decides.{nat_tests}
use Rattle.memory_model.specs.Sparse.{value_at}
use Rattle.memory_model.specs.Memory.{byte_at, permission_at}
use Rattle.memory_model.specs.Ranges.{with_copies, with_row}
use Rattle.memory_model.proofs.Rows.{value_at-row_key, value_at-row_before, value_at-row_after}
use Rattle.page_marks.specs.declared.marks.PageMarks.{PageMarks}
use Rattle.page_marks.specs.Marks.{AreBare, SameMarks, SetsMarks, mark_of}
use Rattle.page_tree.specs.declared.tree_ref.TreeRef.{TreeRef}
use Rattle.page_tree.specs.declared.block_ref.BlockRef.{BlockRef}
use Rattle.page_tree.specs.declared.branch_ref.BranchRef.{BranchRef}
use Rattle.page_tree.specs.Blocks.{byte_in, within}
use Rattle.page_tree.specs.BlockRefs.{ref_permission, ref_page}
use Rattle.page_tree.specs.BranchRefs.{limb_permission, limb_page}
use Rattle.page_tree.specs.Blockwise.{IsBlockOf, IsBlockPutRow}
use Rattle.page_tree.specs.Branchwise.{IsBranchOf, IsBranchPutRow}
use Rattle.page_tree.specs.Rows.{SameRow, SameOwners, IsTakenRow}
use Rattle.page_tree.specs.TreeRefs.{root_permission, root_page, root_own, root_row, AreWholeRoot, SameRoot}
use Rattle.space_mem.specs.declared.table.PageTable.{PageTable}
use Rattle.space_mem.specs.Held.{IsOutside, KeepsMarksOutside, Marks}
use Rattle.space_mem.specs.Moves.{HasMoved}
use Rattle.space_mem.specs.Tables.{IsTable, held_of, memory_of}
use Rattle.space_mem.proofs.Tables.{byte_at-of, byte_at-high, byte_at-page, permission_at-of, permission_at-high, memory_is, memory_same, owned_same, marked_at, marked_same, same_held}
use Rattle.space_mem.proofs.Kept.{table_keeps}

pub at_error : {T E : Type 0} (r : Result T E) (P : Type 0) → P → OnErr r P
at_error (Ok v) P p = tt
at_error (Err e) P p = p

side : (first end p : ℕ) → ((first ≤ p) × (p < end)) ⊎ IsOutside first end p
side first end p = elim (cases_lt p first) [
  | inl before ↦ inr (inl before)
  | inr from ↦ elim (cases_lt p end) [
    | inl to ↦ inl (from, to)
    | inr after ↦ inr (inr after)
  ]
]

in_range : (first end p : ℕ) → first ≤ p → p < end → within first end p ≡ true
in_range first end p low high =
    let a : nat_lt p first ≡ false = grind (arith, nat_tests) in
    let b : nat_lt p end ≡ true = grind (arith, nat_tests) in
    rw (a, b) refl

and_false : (t : Bool) → (t && false) ≡ false
and_false true = refl
and_false false = refl

out_of_range : (first end p : ℕ) → IsOutside first end p → within first end p ≡ false
out_of_range first end p out = elim out [
  | inl before ↦ (let e : nat_lt p first ≡ true = grind (arith, nat_tests) in rw e refl)
  | inr after ↦ (let e : nat_lt p end ≡ false = grind (arith, nat_tests) in rw e (and_false (not (nat_lt p first))))
]

other_page : (first p : ℕ) → IsOutside first (first + 1) p → (p == first) ≡ false
other_page first p out = elim out [
  | inl before ↦ grind (arith, nat_tests)
  | inr after ↦ grind (arith, nat_tests)
]

-- the pages of a range are a source's; the others are as they were
pub record IsCopied (from first end : ℕ) (source t s : TreeRef) : Type 0 where
  pub permission : (p : ℕ) → first ≤ p → p < end → root_permission s p ≡ root_permission source (from + (p - first))
  pub byte : (p j : ℕ) → first ≤ p → p < end → byte_in (root_page s p) j ≡ byte_in (root_page source (from + (p - first))) j
  pub other_permission : (p : ℕ) → p < 1048576 → IsOutside first end p → root_permission s p ≡ root_permission t p
  pub other_byte : (p j : ℕ) → p < 1048576 → IsOutside first end p → byte_in (root_page s p) j ≡ byte_in (root_page t p) j
  pub own : (p : ℕ) → p < 1048576 → IsOutside first end p → root_own s p ≡ root_own t p

-- the pages of a range are marked; the others are as they were
pub record IsMarked (first end : ℕ) (t s : PageMarks) : Type 0 where
  pub here : (p : ℕ) → first ≤ p → p < end → mark_of s p ≡ 1
  pub other : (p : ℕ) → p < 1048576 → IsOutside first end p → mark_of s p ≡ mark_of t p

nowhere : (p : ℕ) → p < 1048576 → IsOutside 0 1048576 p → ⊥
nowhere p below out = elim out [
  | inl before ↦ omega arith
  | inr after ↦ omega arith
]

pub copied_all : (source t s : TreeRef) → SameRoot source s → IsCopied 0 0 1048576 source t s
copied_all source t s same = record {
  permission = λ p low high. same.permission p high ∙ ap (root_permission source) {x = p} {y = 0 + (p - 0)} (omega arith);
  byte = λ p j low high. same.byte p j high ∙ ap (λ q. byte_in (root_page source q) j) {x = p} {y = 0 + (p - 0)} (omega arith);
  other_permission = λ p below out. absurd (nowhere p below out);
  other_byte = λ p j below out. absurd (nowhere p below out);
  own = λ p below out. absurd (nowhere p below out);
}

pub marked_all : (t s : PageMarks) → ((p : ℕ) → mark_of s p ≡ 1) → IsMarked 0 1048576 t s
marked_all t s all = record { here = λ p low high. all p; other = λ p below out. absurd (nowhere p below out) }

pub copied_part : (from first end : ℕ) (source made ready t u s : TreeRef) → end ≤ 1048576 → HasMoved (root_row source) from first (end - first) (root_row made) → SameRow 1048576 (root_row made) (root_row ready) → SameRow 1048576 (root_row t) (root_row u) → SameOwners 1048576 (root_row t) (root_row u)
    → IsTakenRow 1048576 first end (root_row u) (root_row ready) (root_row s) → IsCopied from first end source t s
copied_part from first end source made ready t u s le moved prepared same owners taken = record {
  permission = λ p low high.
      let e : first + (p - first) ≡ p = omega arith in
      taken.permission p (omega arith) ∙ ap (λ b. cond b (root_permission ready p) (root_permission u p)) (in_range first end p low high)
      ∙ prepared.permission p (omega arith) ∙ ap (root_permission made) (sym e) ∙ moved.permission (p - first) (omega arith);
  byte = λ p j low high.
      let e : first + (p - first) ≡ p = omega arith in
      ap (λ o. byte_in o j) (taken.page p (omega arith) ∙ ap (λ b. cond b (root_page ready p) (root_page u p)) (in_range first end p low high))
      ∙ prepared.byte p j (omega arith) ∙ ap (λ q. byte_in (root_page made q) j) (sym e) ∙ moved.byte (p - first) j (omega arith);
  other_permission = λ p below out. taken.permission p below ∙ ap (λ b. cond b (root_permission ready p) (root_permission u p)) (out_of_range first end p out) ∙ same.permission p below;
  other_byte = λ p j below out. ap (λ o. byte_in o j) (taken.page p below ∙ ap (λ b. cond b (root_page ready p) (root_page u p)) (out_of_range first end p out)) ∙ same.byte p j below;
  own = λ p below out. taken.own p below ∙ ap (λ b. cond b (root_own ready p) (root_own u p)) (out_of_range first end p out) ∙ owners p below;
}

pub copied_page : (from first : ℕ) (source t s : TreeRef) → first < 1048576
    → ((p : ℕ) → p < 1048576 → root_permission s p ≡ cond (within first (first + 1) p) (root_permission source from) (root_permission t p))
    → ((p k : ℕ) → p < 1048576 → byte_in (root_page s p) k ≡ cond (p == first) (byte_in (root_page source from) k) (byte_in (root_page t p) k))
    → ((p : ℕ) → p < 1048576 → IsOutside first (first + 1) p → root_own s p ≡ root_own t p) → IsCopied from first (first + 1) source t s
copied_page from first source t s within_all permission byte own = record {
  permission = λ p low high.
      permission p (omega arith) ∙ ap (λ b. cond b (root_permission source from) (root_permission t p)) (in_range first (first + 1) p low high)
      ∙ ap (root_permission source) {x = from} {y = from + (p - first)} (omega (arith, low, high));
  byte = λ p j low high.
      byte p j (omega arith) ∙ ap (λ b. cond b (byte_in (root_page source from) j) (byte_in (root_page t p) j)) (eq-eqb p first (omega (arith, low, high)))
      ∙ ap (λ q. byte_in (root_page source q) j) {x = from} {y = from + (p - first)} (omega (arith, low, high));
  other_permission = λ p below out. permission p below ∙ ap (λ b. cond b (root_permission source from) (root_permission t p)) (out_of_range first (first + 1) p out);
  other_byte = λ p j below out. byte p j below ∙ ap (λ b. cond b (byte_in (root_page source from) j) (byte_in (root_page t p) j)) (other_page first p out);
  own = own;
}

pub marked_part : (first end : ℕ) (t u s : PageMarks) → end ≤ 1048576 → SameMarks t u → SetsMarks first end 1 u s → IsMarked first end t s
marked_part first end t u s le same sets = record {
  here = λ p low high. sets p (omega arith) ∙ ap (λ b. cond b 1 (mark_of u p)) (in_range first end p low high);
  other = λ p below out. sets p below ∙ ap (λ b. cond b 1 (mark_of u p)) (out_of_range first end p out) ∙ same p below;
}

-- what a table with such pages keeps
pub copied_table : (from first end : ℕ) (source t s : PageTable) → end ≤ 1048576 → from + (end - first) ≤ 1048576 → IsTable source → IsTable t → IsCopied from first end source.pages t.pages s.pages → IsMarked first end t.dirty s.dirty → AreWholeRoot s.pages → AreBare s.dirty → IsTable s
copied_table from first end source t s le reach origin table copied marked whole bare = record {
  whole = whole;
  permission = λ p below. elim (side first end p) [
    | inl at ↦ (let bound = origin.permission (from + (p - first)) (omega (arith, at.0, at.1)) in let e = copied.permission p at.0 at.1 in omega (arith, bound, e))
    | inr out ↦ (let bound = table.permission p below in let e = copied.other_permission p below out in omega (arith, bound, e))
  ];
  marked = λ p below own. elim (side first end p) [
    | inl at ↦ marked.here p at.0 at.1
    | inr out ↦ marked.other p below out ∙ table.marked p below (sym (copied.own p below out) ∙ own)
  ];
  bare = bare;
}

pub copied_memory : (from first end : ℕ) (source t s : TreeRef) → first ≤ end → end ≤ 1048576 → from + (end - first) ≤ 1048576 → IsCopied from first end source t s → memory_of s ≡ with_copies (memory_of t) (memory_of source) from first (end - first)
copied_memory from first end source t s rise le reach copied =
    memory_is s (with_copies (memory_of t) (memory_of source) from first (end - first))
    (λ a below. elim (side first end (a / 4096)) [
      | inl at ↦ byte_inside a at.0 at.1
      | inr out ↦ byte_beside a below out
    ])
    (λ a high. value_at-row_after (memory_of t).bytes (4096 * first) byte_row (4096 * count) a (omega arith) ∙ byte_at-high t a high)
    (λ p below. elim (side first end p) [
      | inl at ↦ permission_inside p at.0 at.1
      | inr out ↦ permission_beside p below out
    ])
    (λ p high. value_at-row_after (memory_of t).permissions first permission_row count p (omega arith) ∙ permission_at-high t p high)
  where
    count : ℕ
    count = end - first

    byte_row : ℕ → ℕ
    byte_row k = byte_at (memory_of source) (4096 * from + k)

    permission_row : ℕ → ℕ
    permission_row k = permission_at (memory_of source) (from + k)

    byte_inside : (a : ℕ) → first ≤ a / 4096 → a / 4096 < end → byte_at (with_copies (memory_of t) (memory_of source) from first (end - first)) a ≡ byte_in (root_page s (a / 4096)) (a % 4096)
    byte_inside a low high =
        let k : ℕ = a / 4096 - first in
        let e : 4096 * from + (a - 4096 * first) ≡ 4096 * (from + k) + a % 4096 = omega arith in
        value_at-row_key (memory_of t).bytes (4096 * first) byte_row (4096 * count) a (omega arith) (omega arith)
        ∙ ap (byte_at (memory_of source)) e ∙ byte_at-page source (from + k) (a % 4096) (omega arith) (omega arith)
        ∙ sym (copied.byte (a / 4096) (a % 4096) low high)

    byte_beside : (a : ℕ) → a < 4294967296 → IsOutside first end (a / 4096) → byte_at (with_copies (memory_of t) (memory_of source) from first (end - first)) a ≡ byte_in (root_page s (a / 4096)) (a % 4096)
    byte_beside a below out =
        let same = byte_at-of t a below ∙ sym (copied.other_byte (a / 4096) (a % 4096) (omega arith) out) in
        elim out [
          | inl before ↦ value_at-row_before (memory_of t).bytes (4096 * first) byte_row (4096 * count) a (omega arith) ∙ same
          | inr after ↦ value_at-row_after (memory_of t).bytes (4096 * first) byte_row (4096 * count) a (omega arith) ∙ same
        ]

    permission_inside : (p : ℕ) → first ≤ p → p < end → permission_at (with_copies (memory_of t) (memory_of source) from first (end - first)) p ≡ root_permission s p
    permission_inside p low high =
        value_at-row_key (memory_of t).permissions first permission_row count p low (omega arith) ∙ permission_at-of source (from + (p - first)) (omega arith) ∙ sym (copied.permission p low high)

    permission_beside : (p : ℕ) → p < 1048576 → IsOutside first end p → permission_at (with_copies (memory_of t) (memory_of source) from first (end - first)) p ≡ root_permission s p
    permission_beside p below out =
        let same = permission_at-of t p below ∙ sym (copied.other_permission p below out) in
        elim out [
          | inl before ↦ value_at-row_before (memory_of t).permissions first permission_row count p (omega arith) ∙ same
          | inr after ↦ value_at-row_after (memory_of t).permissions first permission_row count p (omega arith) ∙ same
        ]

pub copied_outside : (from first end : ℕ) (source : TreeRef) (t s : PageTable) → IsCopied from first end source t.pages s.pages → IsMarked first end t.dirty s.dirty → KeepsMarksOutside first end (held_of t) (held_of s)
copied_outside from first end source t s copied marked = table_keeps t s first end copied.own marked.other

pub copied_marks : (from first end : ℕ) (source : TreeRef) (t s : PageTable) → IsCopied from first end source t.pages s.pages → IsMarked first end t.dirty s.dirty → Marks (held_of t) (held_of s)
copied_marks from first end source t s copied marked p below clean =
    let zero = sym (marked_at s.dirty p below) ∙ clean in
    elim (side first end p) [
      | inl at ↦ (let one = marked.here p at.0 at.1 in absurd (omega (arith, zero, one)))
      | inr out ↦ (
        marked_at t.dirty p below ∙ sym (marked.other p below out) ∙ zero,
        λ k less. byte_at-page s.pages p k below less ∙ copied.other_byte p k below out ∙ sym (byte_at-page t.pages p k below less),
      )
    ]

-- a table whose trees were made ready is as it was
pub same_row : (t : TreeRef) → SameRow 1048576 (root_row t) (root_row t)
same_row t = record { permission = λ p below. refl; byte = λ p k below. refl }

pub prepared_held : (t s : PageTable) → SameRow 1048576 (root_row t.pages) (root_row s.pages) → SameOwners 1048576 (root_row t.pages) (root_row s.pages) → SameMarks t.dirty s.dirty → held_of s ≡ held_of t
prepared_held t s same owners dirty = same_held (held_of s) (held_of t) (memory_same t.pages s.pages same.permission same.byte) (owned_same t.pages s.pages owners) (marked_same t.dirty s.dirty dirty)

pub same_marks : (t s : PageTable) → held_of s ≡ held_of t → Marks (held_of t) (held_of s)
same_marks t s e p below clean = (ap (λ h. value_at h.dirty p) (sym e) ∙ clean, λ k less. ap (λ h. byte_at h.memory (4096 * p + k)) e)

-- no page is copied
pub copied_none : (t source : TreeRef) (from first end : ℕ) → first ≡ end → memory_of t ≡ with_copies (memory_of t) (memory_of source) from first (end - first)
unfolding with_row
copied_none t source from first end e =
    let none : 0 ≡ end - first = omega arith in
    ap (with_copies (memory_of t) (memory_of source) from first) none

-- a block is kept that is like a source's
pub block_permission : (source ready new : TreeRef) (at to : ℕ) (block : BlockRef) → at % 64 ≡ 0 → to % 64 ≡ 0 → to + 64 ≤ 1048576 → IsBlockOf (root_row source) (at / 64) block → IsBlockPutRow 1048576 (to / 64) block (root_row ready) (root_row new)
    → (j : ℕ) → j < 64 → root_permission new (to + j) ≡ root_permission source (at + j)
block_permission source ready new at to block from first within one put j below =
    let q : ℕ = (to + j) % 64 in
    let here : (to + j) / 64 ≡ to / 64 = omega arith in
    let same : q ≡ j = omega arith in
    let there : 64 * (at / 64) + j ≡ at + j = omega arith in
    put.permission (to + j) (omega arith) ∙ ap (λ b. cond b (ref_permission block q) (root_permission ready (to + j))) (eq-eqb ((to + j) / 64) (to / 64) here)
    ∙ ap (ref_permission block) same ∙ one.permission j below ∙ ap (root_permission source) there

pub block_bytes : (source ready new : TreeRef) (at to : ℕ) (block : BlockRef) → at % 64 ≡ 0 → to % 64 ≡ 0 → to + 64 ≤ 1048576 → IsBlockOf (root_row source) (at / 64) block → IsBlockPutRow 1048576 (to / 64) block (root_row ready) (root_row new)
    → (j k : ℕ) → j < 64 → byte_in (root_page new (to + j)) k ≡ byte_in (root_page source (at + j)) k
block_bytes source ready new at to block from first within one put j k below =
    let q : ℕ = (to + j) % 64 in
    let here : (to + j) / 64 ≡ to / 64 = omega arith in
    let same : q ≡ j = omega arith in
    let there : 64 * (at / 64) + j ≡ at + j = omega arith in
    ap (λ o. byte_in o k) (put.page (to + j) (omega arith) ∙ ap (λ b. cond b (ref_page block q) (root_page ready (to + j))) (eq-eqb ((to + j) / 64) (to / 64) here))
    ∙ ap (λ n. byte_in (ref_page block n) k) same ∙ one.byte j k below ∙ ap (λ n. byte_in (root_page source n) k) there

-- a branch is kept that is like a source's
pub branch_permission : (source ready new : TreeRef) (at to : ℕ) (branch : BranchRef) → at % 8192 ≡ 0 → to % 8192 ≡ 0 → to + 8192 ≤ 1048576 → IsBranchOf (root_row source) (at / 8192) branch → IsBranchPutRow (to / 8192) branch (root_row ready) (root_row new)
    → (j : ℕ) → j < 8192 → root_permission new (to + j) ≡ root_permission source (at + j)
branch_permission source ready new at to branch from first within one put j below =
    let q : ℕ = (to + j) % 8192 in
    let here : (to + j) / 8192 ≡ to / 8192 = omega arith in
    let same : q ≡ j = omega arith in
    let there : 8192 * (at / 8192) + j ≡ at + j = omega arith in
    put.permission (to + j) (omega arith) ∙ ap (λ b. cond b (limb_permission branch q) (root_permission ready (to + j))) (eq-eqb ((to + j) / 8192) (to / 8192) here)
    ∙ ap (limb_permission branch) same ∙ one.permission j below ∙ ap (root_permission source) there

pub branch_bytes : (source ready new : TreeRef) (at to : ℕ) (branch : BranchRef) → at % 8192 ≡ 0 → to % 8192 ≡ 0 → to + 8192 ≤ 1048576 → IsBranchOf (root_row source) (at / 8192) branch → IsBranchPutRow (to / 8192) branch (root_row ready) (root_row new)
    → (j k : ℕ) → j < 8192 → byte_in (root_page new (to + j)) k ≡ byte_in (root_page source (at + j)) k
branch_bytes source ready new at to branch from first within one put j k below =
    let q : ℕ = (to + j) % 8192 in
    let here : (to + j) / 8192 ≡ to / 8192 = omega arith in
    let same : q ≡ j = omega arith in
    let there : 8192 * (at / 8192) + j ≡ at + j = omega arith in
    ap (λ o. byte_in o k) (put.page (to + j) (omega arith) ∙ ap (λ b. cond b (limb_page branch q) (root_page ready (to + j))) (eq-eqb ((to + j) / 8192) (to / 8192) here))
    ∙ ap (λ n. byte_in (limb_page branch n) k) same ∙ one.byte j k below ∙ ap (λ n. byte_in (root_page source n) k) there

-- and stands behind the pages that were moved before
pub moved_part : (source made new : TreeRef) (n at to from first before : ℕ) → to + n ≤ 1048576
    → ((j : ℕ) → j < n → root_permission new (to + j) ≡ root_permission source (at + j))
    → ((j k : ℕ) → j < n → byte_in (root_page new (to + j)) k ≡ byte_in (root_page source (at + j)) k)
    → ((p : ℕ) → p < 1048576 → IsOutside to (to + n) p → root_permission new p ≡ root_permission made p)
    → ((p k : ℕ) → p < 1048576 → IsOutside to (to + n) p → byte_in (root_page new p) k ≡ byte_in (root_page made p) k)
    → at ≡ from + before → to ≡ first + before → HasMoved (root_row source) from first before (root_row made) → HasMoved (root_row source) from first (before + n) (root_row new)
moved_part source made new n at to from first before within here bytes beside rest at_is to_is moved = record {
  permission = λ k below. elim (cases_lt k before) [
    | inl early ↦ beside (first + k) (omega arith) (inl (omega arith)) ∙ moved.permission k early
    | inr late ↦
        let e : first + k ≡ to + (k - before) = omega arith in
        let f : at + (k - before) ≡ from + k = omega arith in
        ap (root_permission new) e ∙ here (k - before) (omega arith) ∙ ap (root_permission source) f
  ];
  byte = λ k j below. elim (cases_lt k before) [
    | inl early ↦ rest (first + k) j (omega arith) (inl (omega arith)) ∙ moved.byte k j early
    | inr late ↦
        let e : first + k ≡ to + (k - before) = omega arith in
        let f : at + (k - before) ≡ from + k = omega arith in
        ap (λ n. byte_in (root_page new n) j) e ∙ bytes (k - before) j (omega arith) ∙ ap (λ n. byte_in (root_page source n) j) f
  ];
  rest = λ p j low below. rest p j below (inr (omega arith)) ∙ moved.rest p j (omega arith) below;
}

-- all pages of a source, made ready to be changed
pub ready_all : (source made ready : TreeRef) → SameRoot source made → SameRow 1048576 (root_row made) (root_row ready) → SameRoot source ready
ready_all source made ready same prepared = record {
  permission = λ p below. prepared.permission p below ∙ same.permission p below;
  byte = λ p k below. prepared.byte p k below ∙ same.byte p k below;
}
