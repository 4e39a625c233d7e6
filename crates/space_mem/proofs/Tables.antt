-- What stands in the memory of a page table.
use Rattle.std.specs.Prelude.{◌≡◌, ℕ, ◌+◌, ◌-◌, ◌*◌, ◌/◌, ◌%◌, ◌<◌, ◌≤◌, ◌==◌, Bool, true, false, cond, slice_index, Option, Some, None, if◌then◌else◌}
use Rattle.std.proofs.Common.{refl, sym, ◌∙◌, ap, arith, inl, inr, subst}
use Rattle.std.proofs.lemmas.Bool.{cases_lt}
use Rattle.memory_model.specs.declared.Width.{Width}
use Rattle.memory_model.specs.declared.Width.TheVariants.{One, Two, Four}
use Rattle.memory_model.specs.Sparse.{Sparse, no_values, value_at, value_at-no_values, same_sparse}
use Rattle.memory_model.specs.Memory.{Memory, byte_at, permission_at, width_bytes, number_from, may_read, may_write, may_fetch}
use Rattle.memory_model.specs.Ranges.{with_row}
use Rattle.memory_model.proofs.Rows.{value_at-row_key, value_at-row_after}
use Rattle.page_store.specs.declared.PageRef.{PageRef}
use Rattle.page_store.specs.Bytes.{bytes_of, IsPage}
use Rattle.page_marks.specs.declared.marks.PageMarks.{PageMarks}
use Rattle.page_marks.specs.Marks.{mark_of}
use Rattle.page_tree.specs.Blocks.{byte_in, bytes_in, IsWhole}
use Rattle.page_tree.specs.declared.tree_ref.TreeRef.{TreeRef}
use Rattle.page_tree.specs.TreeRefs.{root_permission, root_page, root_own}
use Rattle.space_mem.specs.declared.table.PageTable.{PageTable}
use Rattle.space_mem.specs.Held.{Held, Owns}
use Rattle.space_mem.specs.Tables.{memory_of, owned_of, marked_of, held_of}

pub row_at : (value : ℕ → ℕ) (n k : ℕ) → k < n → value_at (with_row no_values 0 value n) k ≡ value k
row_at value n k below = value_at-row_key no_values 0 value n k (omega arith) (omega arith) ∙ ap value {x = k - 0} {y = k} (omega arith)

pub row_high : (value : ℕ → ℕ) (n k : ℕ) → n ≤ k → value_at (with_row no_values 0 value n) k ≡ 0
row_high value n k high = value_at-row_after no_values 0 value n k (omega arith) ∙ value_at-no_values k

-- a set or a map is this row where its values are
pub row_is : (value : ℕ → ℕ) (n : ℕ) (s : Sparse) → ((k : ℕ) → k < n → value_at s k ≡ value k) → ((k : ℕ) → n ≤ k → value_at s k ≡ 0) → with_row no_values 0 value n ≡ s
row_is value n s below high = same_sparse (with_row no_values 0 value n) s (λ k. elim (cases_lt k n) [
  | inl to ↦ row_at value n k to ∙ sym (below k to)
  | inr from ↦ row_high value n k from ∙ sym (high k from)
])

pub same_rows : (f g : ℕ → ℕ) (n : ℕ) → ((k : ℕ) → k < n → f k ≡ g k) → with_row no_values 0 f n ≡ with_row no_values 0 g n
same_rows f g n same = row_is f n (with_row no_values 0 g n) (λ k below. row_at g n k below ∙ sym (same k below)) (row_high g n)

-- bytes and permissions
pub byte_at-of : (t : TreeRef) (a : ℕ) → a < 4294967296 → byte_at (memory_of t) a ≡ byte_in (root_page t (a / 4096)) (a % 4096)
byte_at-of t a below = row_at (λ q. byte_in (root_page t (q / 4096)) (q % 4096)) 4294967296 a below

pub byte_at-high : (t : TreeRef) (a : ℕ) → 4294967296 ≤ a → byte_at (memory_of t) a ≡ 0
byte_at-high t a high = row_high (λ q. byte_in (root_page t (q / 4096)) (q % 4096)) 4294967296 a high

pub byte_at-page : (t : TreeRef) (page k : ℕ) → page < 1048576 → k < 4096 → byte_at (memory_of t) (4096 * page + k) ≡ byte_in (root_page t page) k
byte_at-page t page k within below =
    let p : (4096 * page + k) / 4096 ≡ page = omega arith in
    let q : (4096 * page + k) % 4096 ≡ k = omega arith in
    byte_at-of t (4096 * page + k) (omega arith) ∙ ap (λ n. byte_in (root_page t n) ((4096 * page + k) % 4096)) p ∙ ap (byte_in (root_page t page)) q

pub permission_at-of : (t : TreeRef) (p : ℕ) → p < 1048576 → permission_at (memory_of t) p ≡ root_permission t p
permission_at-of t p below = row_at (root_permission t) 1048576 p below

pub permission_at-high : (t : TreeRef) (p : ℕ) → 1048576 ≤ p → permission_at (memory_of t) p ≡ 0
permission_at-high t p high = row_high (root_permission t) 1048576 p high

-- a memory with the bytes and permissions of a tree is its
pub memory_is : (t : TreeRef) (m : Memory) → ((a : ℕ) → a < 4294967296 → byte_at m a ≡ byte_in (root_page t (a / 4096)) (a % 4096)) → ((a : ℕ) → 4294967296 ≤ a → byte_at m a ≡ 0)
    → ((p : ℕ) → p < 1048576 → permission_at m p ≡ root_permission t p) → ((p : ℕ) → 1048576 ≤ p → permission_at m p ≡ 0) → memory_of t ≡ m
memory_is t m bytes high permissions past =
    let b : (memory_of t).bytes ≡ m.bytes = row_is (λ q. byte_in (root_page t (q / 4096)) (q % 4096)) 4294967296 m.bytes bytes high in
    let p : (memory_of t).permissions ≡ m.permissions = row_is (root_permission t) 1048576 m.permissions permissions past in
    λ i. record { bytes = b i; permissions = p i }

pub memory_same : (t s : TreeRef) → ((p : ℕ) → p < 1048576 → root_permission s p ≡ root_permission t p) → ((p k : ℕ) → p < 1048576 → byte_in (root_page s p) k ≡ byte_in (root_page t p) k) → memory_of s ≡ memory_of t
memory_same t s permission byte = memory_is s (memory_of t)
    (λ a below. byte_at-of t a below ∙ sym (byte (a / 4096) (a % 4096) (omega arith))) (byte_at-high t)
    (λ p below. permission_at-of t p below ∙ sym (permission p below)) (permission_at-high t)

-- owned and dirty pages
pub owned_at : (t : TreeRef) (p : ℕ) → p < 1048576 → value_at (owned_of t) p ≡ cond (root_own t p) 1 0
owned_at t p below = row_at (λ q. cond (root_own t q) 1 0) 1048576 p below

pub owned_high : (t : TreeRef) (p : ℕ) → 1048576 ≤ p → value_at (owned_of t) p ≡ 0
owned_high t p high = row_high (λ q. cond (root_own t q) 1 0) 1048576 p high

some_bit : (b : Bool) → ◌≡◌ {A = ℕ} (cond b 1 0) 1 → b ≡ true
some_bit true e = refl
some_bit false e = absurd (omega arith)

no_bit : (b : Bool) → ◌≡◌ {A = ℕ} (cond b 1 0) 0 → b ≡ false
no_bit true e = absurd (omega arith)
no_bit false e = refl

pub owns_own : (t : PageTable) (p : ℕ) → p < 1048576 → Owns (held_of t) p → root_own t.pages p ≡ true
owns_own t p below owns = some_bit (root_own t.pages p) (sym (owned_at t.pages p below) ∙ owns)

pub own_owns : (t : PageTable) (p : ℕ) → p < 1048576 → root_own t.pages p ≡ true → Owns (held_of t) p
own_owns t p below own = owned_at t.pages p below ∙ ap (λ b. cond b 1 0) own

pub none_owned : (t : PageTable) → (held_of t).owned ≡ no_values → (p : ℕ) → p < 1048576 → root_own t.pages p ≡ false
none_owned t none p below = no_bit (root_own t.pages p) (sym (owned_at t.pages p below) ∙ ap (λ s. value_at s p) none ∙ value_at-no_values p)

pub owned_none : (t : TreeRef) → ((p : ℕ) → p < 1048576 → root_own t p ≡ false) → owned_of t ≡ no_values
owned_none t none = row_is (λ q. cond (root_own t q) 1 0) 1048576 no_values (λ k below. value_at-no_values k ∙ sym (ap (λ b. cond b 1 0) (none k below))) (λ k high. value_at-no_values k)

pub owned_same : (t s : TreeRef) → ((p : ℕ) → p < 1048576 → root_own s p ≡ root_own t p) → owned_of s ≡ owned_of t
owned_same t s same = same_rows (λ q. cond (root_own s q) 1 0) (λ q. cond (root_own t q) 1 0) 1048576 (λ k below. ap (λ b. cond b 1 0) (same k below))

pub marked_same : (t s : PageMarks) → ((p : ℕ) → p < 1048576 → mark_of s p ≡ mark_of t p) → marked_of s ≡ marked_of t
marked_same t s same = same_rows (mark_of s) (mark_of t) 1048576 same

pub marked_high : (t : PageMarks) (p : ℕ) → 1048576 ≤ p → value_at (marked_of t) p ≡ 0
marked_high t p high = row_high (mark_of t) 1048576 p high

pub marked_at : (t : PageMarks) (p : ℕ) → p < 1048576 → value_at (marked_of t) p ≡ mark_of t p
marked_at t p below = row_at (mark_of t) 1048576 p below

-- equal in memory, in what is owned and in what is dirty
pub same_held : (g h : Held) → g.memory ≡ h.memory → g.owned ≡ h.owned → g.dirty ≡ h.dirty → g ≡ h
same_held g h memory owned dirty = λ i. record { memory = memory i; owned = owned i; dirty = dirty i }

-- a number is read where it stands in its page
pub number_at : (byte : ℕ → ℕ) (inner : ℕ → ℕ) (page a k : ℕ) (width : Width) → ((j : ℕ) → j < 4096 → byte (4096 * page + j) ≡ inner j) → a ≡ 4096 * page + k → k < 4096 → k % width_bytes width ≡ 0 → number_from byte width a ≡ number_from inner width k
number_at byte inner page a k width here at below aligned = go width aligned
  where
    one : (n : ℕ) → k + n < 4096 → byte (a + n) ≡ inner (k + n)
    one n less = ap byte {x = a + n} {y = 4096 * page + (k + n)} (omega arith) ∙ here (k + n) less

    least : byte a ≡ inner k
    least = ap byte at ∙ here k below

    go : (w : Width) → k % width_bytes w ≡ 0 → number_from byte w a ≡ number_from inner w k
    go One even = least
    go Two even = let b = one 1 (omega arith) in omega (arith, least)
    go Four even = let b1 = one 1 (omega arith) in let b2 = one 2 (omega arith) in let b3 = one 3 (omega arith) in omega (arith, least)

pub aligned_in : (a : ℕ) (w : Width) → a % width_bytes w ≡ 0 → a % 4096 % width_bytes w ≡ 0
aligned_in a One e = omega arith
aligned_in a Two e = omega arith
aligned_in a Four e = omega arith

pub number-memory_of : (t : TreeRef) (a : ℕ) (width : Width) → a < 4294967296 → a % width_bytes width ≡ 0 → number_from (byte_at (memory_of t)) width a ≡ number_from (byte_in (root_page t (a / 4096))) width (a % 4096)
number-memory_of t a width below aligned =
    number_at (byte_at (memory_of t)) (byte_in (root_page t (a / 4096))) (a / 4096) a (a % 4096) width (λ j less. byte_at-page t (a / 4096) j (omega arith) less) (omega arith) (omega arith) (aligned_in a width aligned)

pub may_read-of : (t : TreeRef) (a : ℕ) → a < 4294967296 → may_read (memory_of t) a ≡ (root_permission t (a / 4096) % 2 == 1)
may_read-of t a below = ap (λ n. n % 2 == 1) (permission_at-of t (a / 4096) (omega arith))

pub may_write-of : (t : TreeRef) (a : ℕ) → a < 4294967296 → may_write (memory_of t) a ≡ (root_permission t (a / 4096) / 2 % 2 == 1)
may_write-of t a below = ap (λ n. n / 2 % 2 == 1) (permission_at-of t (a / 4096) (omega arith))

pub may_fetch-of : (t : TreeRef) (a : ℕ) → a < 4294967296 → may_fetch (memory_of t) a ≡ (root_permission t (a / 4096) / 4 % 2 == 1)
may_fetch-of t a below = ap (λ n. n / 4 % 2 == 1) (permission_at-of t (a / 4096) (omega arith))

abbrev pub number_if : Bool → ℕ → Option ℕ
number_if b n = if b then Some n else None

pub load_of : (t : TreeRef) (a : ℕ) (width : Width) → a < 4294967296 → a % width_bytes width ≡ 0 → number_if (root_permission t (a / 4096) % 2 == 1) (number_from (byte_in (root_page t (a / 4096))) width (a % 4096)) ≡ number_if (may_read (memory_of t) a) (number_from (byte_at (memory_of t)) width a)
load_of t a width below aligned =
    sym (ap (λ b. number_if b (number_from (byte_at (memory_of t)) width a)) (may_read-of t a below) ∙ ap (number_if (root_permission t (a / 4096) % 2 == 1)) (number-memory_of t a width below aligned))

pub fetch_of : (t : TreeRef) (a : ℕ) → a < 4294967296 → a % 4 ≡ 0 → number_if (root_permission t (a / 4096) / 4 % 2 == 1) (number_from (byte_in (root_page t (a / 4096))) Four (a % 4096)) ≡ number_if (may_fetch (memory_of t) a) (number_from (byte_at (memory_of t)) Four a)
fetch_of t a below aligned =
    sym (ap (λ b. number_if b (number_from (byte_at (memory_of t)) Four a)) (may_fetch-of t a below) ∙ ap (number_if (root_permission t (a / 4096) / 4 % 2 == 1)) (number-memory_of t a Four below aligned))

-- every byte of a tree's page is the byte of its list
pub byte_in-bytes : (o : Option PageRef) (k : ℕ) → byte_in o k ≡ slice_index (bytes_in o) k
byte_in-bytes None k = refl
byte_in-bytes (Some page) k = refl

pub whole_bytes : (o : Option PageRef) (page : PageRef) → IsWhole o → o ≡ Some page → IsPage (bytes_of page)
whole_bytes None page whole is = cc
whole_bytes (Some q) page whole is = let same : q ≡ page = cc in subst (λ x. IsPage (bytes_of x)) same whole

pub small_byte : (o : Option PageRef) (k : ℕ) → IsWhole o → byte_in o k < 256
small_byte None k whole = omega arith
small_byte (Some page) k whole = whole.small k
