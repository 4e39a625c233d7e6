-- What a page table stands for after its trees have changed.
use Rattle.std.specs.Prelude.{◌≡◌, ℕ, ◌+◌, ◌/◌, ◌%◌, ◌<◌, ◌≤◌, ◌⊎◌, ◌&&◌, not, nat_lt, Bool, true, false, cond, Option, Some, None, OnErr}
use Rattle.std.proofs.Common.{Result, Ok, Err, refl, sym, ◌∙◌, ap, arith, inl, inr}
use Rattle.std.proofs.lemmas.Bool.{cases_eq, cases_lt, false≢true}
use Rattle.std.proofs.lemmas.Bool.Decides.{nat_tests}
use Rattle.std.proofs.lemmas.List.{get_or_past}
use Rattle.memory_model.specs.Sparse.{Sparse, no_values, put, value_at, value_at-no_values, same_sparse}
use Rattle.memory_model.specs.Memory.{no_memory}
use Rattle.memory_model.specs.Ranges.{IsBounded, IsPageOf, IsNextPage, NoneUsed}
use Rattle.memory_model.proofs.Rows.{value_at-put_same, value_at-put_other}
use Rattle.page_store.specs.declared.PageRef.{PageRef}
use Rattle.page_store.specs.Bytes.{bytes_of}
use Rattle.page_marks.specs.declared.marks.PageMarks.{PageMarks}
use Rattle.page_marks.specs.Marks.{SameMarks, SetsMarks, mark_of}
use Rattle.page_tree.specs.declared.block_ref.BlockRef.{BlockRef}
use Rattle.page_tree.specs.declared.branch_ref.BranchRef.{BranchRef}
use Rattle.page_tree.specs.declared.tree_ref.TreeRef.{TreeRef}
use Rattle.page_tree.specs.declared.block_ref.BlockRef as block_ref
use Rattle.page_tree.specs.declared.branch_ref.BranchRef as branch_ref
use Rattle.page_tree.specs.declared.tree_ref.TreeRef as tree_ref
use Rattle.page_tree.specs.Blocks.{byte_in, is_own_in, IsWhole, within}
use Rattle.page_tree.specs.BlockRefs.{ref_own, ref_page, IsOwnBlock}
use Rattle.page_tree.specs.Branches.{block_at}
use Rattle.page_tree.specs.BranchRefs.{limb_own, limb_page, AreWholeLimb}
use Rattle.page_tree.specs.Trees.{branch_at}
use Rattle.page_tree.specs.TreeRefs.{root_row, root_page, root_own, AreWholeRoot, IsOwnedRoot, SameRoot}
use Rattle.page_tree.specs.Rows.{SameRow, SameOwners, IsBlankPage}
use Rattle.page_tree.specs.Replaceable.{ReplaceableLimb, ReplaceableRoot}
use Rattle.space_mem.specs.declared.table.PageTable.{PageTable}
use Rattle.space_mem.specs.Held.{Held, Owns, owning, nothing_held, all_pages}
use Rattle.space_mem.specs.Tables.{memory_of, owned_of, marked_of, IsTable}
use Rattle.space_mem.proofs.Tables.{memory_is, memory_same, same_rows, row_is, owned_at, owned_high, owned_none, marked_at, byte_at-of, byte_at-high, permission_at-of, permission_at-high, small_byte, byte_at-page, marked_high, whole_bytes}

pub at_error : {T E : Type 0} (r : Result T E) (P : Type 0) → P → OnErr r P
at_error (Ok x) P p = tt
at_error (Err e) P p = p

-- ranges
pub in_range : (from to p : ℕ) → from ≤ p → p < to → within from to p ≡ true
in_range from to p low high =
    let a : nat_lt p from ≡ false = grind (arith, nat_tests) in
    let b : nat_lt p to ≡ true = grind (arith, nat_tests) in
    cc

and_false : (t : Bool) → (t && false) ≡ false
and_false true = refl
and_false false = refl

pub before_range : (from to p : ℕ) → p < from → within from to p ≡ false
before_range from to p h = let e : nat_lt p from ≡ true = grind (arith, nat_tests) in rw e refl

pub after_range : (from to p : ℕ) → to ≤ p → within from to p ≡ false
after_range from to p h = let e : nat_lt p to ≡ false = grind (arith, nat_tests) in rw e (and_false (not (nat_lt p from)))

pub out_of_range : (from to p : ℕ) → (p < from) ⊎ (to ≤ p) → within from to p ≡ false
out_of_range from to p (inl before) = before_range from to p before
out_of_range from to p (inr after) = after_range from to p after

-- each page that is kept has the bytes of a page
limb_whole : (r : BranchRef) → AreWholeLimb r → (p : ℕ) → p < 8192 → IsWhole (limb_page r p)
limb_whole (branch_ref.TheVariants.Uniform q) whole p below = tt
limb_whole (branch_ref.TheVariants.Shared b) whole p below = whole (p / 64) (omega arith) (p % 64) (omega arith)
limb_whole (branch_ref.TheVariants.Own b) whole p below = whole (p / 64) (omega arith) (p % 64) (omega arith)

pub root_whole : (t : TreeRef) → AreWholeRoot t → (p : ℕ) → p < 1048576 → IsWhole (root_page t p)
root_whole (tree_ref.TheVariants.Uniform q) whole p below = tt
root_whole (tree_ref.TheVariants.Shared b) whole p below = limb_whole _ (whole (p / 8192) (omega arith)) (p % 8192) (omega arith)
root_whole (tree_ref.TheVariants.Own b) whole p below = limb_whole _ (whole (p / 8192) (omega arith)) (p % 8192) (omega arith)

-- an owned page is kept as an own one
block_kept : (r : BlockRef) (p : ℕ) → ref_own r p ≡ true → is_own_in (ref_page r p) ≡ true
block_kept (block_ref.TheVariants.Uniform q) p own = absurd (false≢true own)
block_kept (block_ref.TheVariants.Bare b) p own = absurd (false≢true own)
block_kept (block_ref.TheVariants.Shared b) p own = absurd (false≢true own)
block_kept (block_ref.TheVariants.Own b) p own = own

limb_kept : (r : BranchRef) (p : ℕ) → limb_own r p ≡ true → is_own_in (limb_page r p) ≡ true
limb_kept (branch_ref.TheVariants.Uniform q) p own = absurd (false≢true own)
limb_kept (branch_ref.TheVariants.Shared b) p own = absurd (false≢true own)
limb_kept (branch_ref.TheVariants.Own b) p own = block_kept _ (p % 64) own

pub own_kept : (t : TreeRef) (p : ℕ) → root_own t p ≡ true → is_own_in (root_page t p) ≡ true
own_kept (tree_ref.TheVariants.Uniform q) p own = absurd (false≢true own)
own_kept (tree_ref.TheVariants.Shared b) p own = absurd (false≢true own)
own_kept (tree_ref.TheVariants.Own b) p own = limb_kept _ (p % 8192) own

-- and can be exchanged for another with no memory
block_own : (r : BlockRef) (p : ℕ) → ref_own r p ≡ true → IsOwnBlock r
block_own (block_ref.TheVariants.Uniform q) p own = absurd (false≢true own)
block_own (block_ref.TheVariants.Bare b) p own = absurd (false≢true own)
block_own (block_ref.TheVariants.Shared b) p own = absurd (false≢true own)
block_own (block_ref.TheVariants.Own b) p own = refl

limb_replaceable : (r : BranchRef) (p : ℕ) → limb_own r p ≡ true → ReplaceableLimb p r
limb_replaceable (branch_ref.TheVariants.Uniform q) p own = absurd (false≢true own)
limb_replaceable (branch_ref.TheVariants.Shared b) p own = absurd (false≢true own)
limb_replaceable (branch_ref.TheVariants.Own b) p own = block_own (block_at b.value (p / 64)) (p % 64) own

pub own_replaceable : (t : TreeRef) (p : ℕ) → root_own t p ≡ true → ReplaceableRoot p t
own_replaceable (tree_ref.TheVariants.Uniform q) p own = absurd (false≢true own)
own_replaceable (tree_ref.TheVariants.Shared b) p own = absurd (false≢true own)
own_replaceable (tree_ref.TheVariants.Own b) p own = limb_replaceable (branch_at b.value (p / 8192)) (p % 8192) own

-- the bounds of a memory
pub bounded : (t : PageTable) → IsTable t → IsBounded (memory_of t.pages)
bounded t table = record {
  byte = λ a. elim (cases_lt a 4294967296) [
    | inl below ↦ omega (arith, byte_at-of t.pages a below, small_byte _ (a % 4096) (root_whole t.pages table.whole (a / 4096) (omega arith)))
    | inr high ↦ omega (arith, byte_at-high t.pages a high)
  ];
  permission = λ p. elim (cases_lt p 1048576) [
    | inl below ↦ omega (arith, permission_at-of t.pages p below, table.permission p below)
    | inr high ↦ omega (arith, permission_at-high t.pages p high)
  ];
  addresses = λ a high. byte_at-high t.pages a high;
  pages = λ p high. permission_at-high t.pages p high;
}

-- trees of one permission
pub memory_of-none : memory_of (tree_ref.TheVariants.Uniform 0) ≡ no_memory
memory_of-none = memory_is (tree_ref.TheVariants.Uniform 0) no_memory (λ a below. value_at-no_values a) (λ a high. value_at-no_values a) (λ p below. value_at-no_values p) (λ p high. value_at-no_values p)

pub marked_of-none : (m : PageMarks) → ((p : ℕ) → p < 1048576 → mark_of m p ≡ 0) → marked_of m ≡ no_values
marked_of-none m none = row_is (mark_of m) 1048576 no_values (λ k below. value_at-no_values k ∙ sym (none k below)) (λ k high. value_at-no_values k)

-- the same in memory, owners and marks
pub row_memory : (t s : TreeRef) → SameRow 1048576 (root_row t) (root_row s) → memory_of s ≡ memory_of t
row_memory t s same = memory_same t s same.permission same.byte

pub root_memory : (t s : TreeRef) → SameRoot t s → memory_of s ≡ memory_of t
root_memory t s same = memory_same t s same.permission same.byte

pub marked_row : (d e : PageMarks) → SameMarks d e → marked_of e ≡ marked_of d
marked_row d e same = same_rows (mark_of e) (mark_of d) 1048576 same

pub owned_row : (t s : TreeRef) → SameOwners 1048576 (root_row t) (root_row s) → owned_of s ≡ owned_of t
owned_row t s same = same_rows (λ q. cond (root_own s q) 1 0) (λ q. cond (root_own t q) 1 0) 1048576 (λ k below. ap (λ b. cond b 1 0) (same k below))

-- a set with one member more
pub put_again : (s : Sparse) (k v : ℕ) → value_at s k ≡ v → put s k v ≡ s
put_again s k v was = same_sparse (put s k v) s (λ q. elim (cases_eq q k) [
  | inl same ↦ ap (value_at (put s k v)) same ∙ value_at-put_same s k v ∙ sym (ap (value_at s) same ∙ was)
  | inr other ↦ value_at-put_other s k v q other
])

pub marked_as : (d e : PageMarks) (page mark : ℕ) → page < 1048576 → SetsMarks page (page + 1) mark d e → marked_of e ≡ put (marked_of d) page mark
marked_as d e page mark below sets = row_is (mark_of e) 1048576 (put (marked_of d) page mark)
    (λ k low. elim (cases_eq k page) [
      | inl same ↦
          let here : mark_of e k ≡ mark = sets k low ∙ ap (λ b. cond b mark (mark_of d k)) (in_range page (page + 1) k (omega arith) (omega arith)) in
          ap (value_at (put (marked_of d) page mark)) same ∙ value_at-put_same (marked_of d) page mark ∙ sym here
      | inr other ↦
          let out : within page (page + 1) k ≡ false = elim (cases_lt k page) [ inl before ↦ before_range page (page + 1) k before | inr from ↦ after_range page (page + 1) k (omega arith) ] in
          value_at-put_other (marked_of d) page mark k other ∙ marked_at d k low ∙ sym (sets k low ∙ ap (λ b. cond b mark (mark_of d k)) out)
    ])
    (λ k high. value_at-put_other (marked_of d) page mark k (λ same. omega arith) ∙ marked_high d k high)

pub marked_one : (d e : PageMarks) (page : ℕ) → page < 1048576 → SetsMarks page (page + 1) 1 d e → marked_of e ≡ put (marked_of d) page 1
marked_one d e page below sets = marked_as d e page 1 below sets

pub owned_one : (t s : TreeRef) (page : ℕ) → page < 1048576 → IsOwnedRoot page t s → owned_of s ≡ put (owned_of t) page 1
owned_one t s page below owned = row_is (λ q. cond (root_own s q) 1 0) 1048576 (put (owned_of t) page 1)
    (λ k low. elim (cases_eq k page) [
      | inl same ↦
          let here : root_own s k ≡ true = ap (root_own s) same ∙ owned.here in
          ap (value_at (put (owned_of t) page 1)) same ∙ value_at-put_same (owned_of t) page 1 ∙ sym (ap (λ b. cond b 1 0) here)
      | inr other ↦ value_at-put_other (owned_of t) page 1 k other ∙ owned_at t k low ∙ sym (ap (λ b. cond b 1 0) (owned.other k low other))
    ])
    (λ k high. value_at-put_other (owned_of t) page 1 k (λ same. omega arith) ∙ owned_high t k high)

-- every table's marks and owners, in words of its trees
pub marks_owned : (t s : TreeRef) (d : PageMarks) (page : ℕ) → page < 1048576 → IsOwnedRoot page t s → mark_of d page ≡ 1 → ((p : ℕ) → p < 1048576 → root_own t p ≡ true → mark_of d p ≡ 1) → (p : ℕ) → p < 1048576 → root_own s p ≡ true → mark_of d p ≡ 1
marks_owned t s d page below owned here marked p low own = elim (cases_eq p page) [
  | inl same ↦ ap (mark_of d) same ∙ here
  | inr other ↦ marked p low (sym (owned.other p low other) ∙ own)
]

-- an empty table
pub held_of-new : (m : PageMarks) → ((p : ℕ) → p < 1048576 → mark_of m p ≡ 0) → ◌≡◌ {A = Held} (record { memory = memory_of (tree_ref.TheVariants.Uniform 0); owned = owned_of (tree_ref.TheVariants.Uniform 0); dirty = marked_of m }) nothing_held
held_of-new m none =
    let owned = owned_none (tree_ref.TheVariants.Uniform 0) (λ p below. refl) in
    let dirty = marked_of-none m none in
    λ i. record { memory = memory_of-none i; owned = owned i; dirty = dirty i }

-- the bytes of a page that is kept
pub page_of : (t : PageTable) (n : ℕ) (page : PageRef) → IsTable t → n < 1048576 → root_page t.pages n ≡ Some page → IsPageOf (memory_of t.pages) n (bytes_of page)
page_of t n page table below is = record {
  sized = (whole_bytes (root_page t.pages n) page (root_whole t.pages table.whole n below) is).sized;
  byte = λ k low. byte_at-page t.pages n k below low ∙ ap (λ o. byte_in o k) is;
}

-- a byte past a page's end
past_end : (o : Option PageRef) (k : ℕ) → IsWhole o → 4096 ≤ k → byte_in o k ≡ 0
past_end None k whole high = refl
past_end (Some page) k whole high = get_or_past (bytes_of page) k 0 (omega (arith, whole.sized))

-- the least page that is used
pub none_used : (t : PageTable) (n end : ℕ) → end ≤ 1048576 → ((q : ℕ) → n ≤ q → q < end → IsBlankPage (root_row t.pages) q) → NoneUsed (memory_of t.pages) n end
none_used t n end within blank q low high =
    (permission_at-of t.pages q (omega arith) ∙ (blank q low high).0, λ k below. byte_at-page t.pages q k (omega arith) below ∙ (blank q low high).1 k)

pub next_page_is : (t : PageTable) (n page : ℕ) → IsTable t → n ≤ page → page < 1048576 → (IsBlankPage (root_row t.pages) page → ⊥) → ((q : ℕ) → n ≤ q → q < page → IsBlankPage (root_row t.pages) q) → IsNextPage (memory_of t.pages) n page
next_page_is t n page table low high used least = record {
  from = low;
  below = high;
  used = λ blank. used (
    sym (permission_at-of t.pages page high) ∙ blank.0,
    λ k. elim (cases_lt k 4096) [
      | inl below ↦ sym (byte_at-page t.pages page k high below) ∙ blank.1 k below
      | inr past ↦ past_end (root_page t.pages page) k (root_whole t.pages table.whole page high) past
    ],
  );
  least = none_used t n page (omega arith) least;
}

pub marked_all : (m : PageMarks) → ((p : ℕ) → mark_of m p ≡ 1) → marked_of m ≡ all_pages
marked_all m all = same_rows (mark_of m) (λ _. 1) 1048576 (λ p below. all p)

-- one page is owned too
pub owns_too : (h g : Held) (page q : ℕ) → g ≡ owning h page h.memory → (q ≡ page) ⊎ Owns h q → Owns g q
owns_too h g page q is (inl same) = ap (λ x. value_at x.owned q) is ∙ ap (value_at (put h.owned page 1)) same ∙ value_at-put_same h.owned page 1
owns_too h g page q is (inr was) = elim (cases_eq q page) [
  | inl same ↦ ap (λ x. value_at x.owned q) is ∙ ap (value_at (put h.owned page 1)) same ∙ value_at-put_same h.owned page 1
  | inr other ↦ ap (λ x. value_at x.owned q) is ∙ value_at-put_other h.owned page 1 q other ∙ was
]
