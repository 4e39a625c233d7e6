-- What is dirty after a change of a memory.
use Rattle.std.specs.Prelude.{◌≡◌, ℕ, ◌+◌, ◌*◌, ◌/◌, ◌%◌, ◌<◌, ◌≤◌, List, length, Option, Some, None}
use Rattle.std.proofs.Common.{refl, sym, ◌∙◌, ap, arith, inl, inr, subst}
use Rattle.std.proofs.lemmas.Bool.{cases_eq, cases_lt}
use Rattle.memory_model.specs.declared.Width.{Width}
use Rattle.memory_model.specs.declared.Width.TheVariants.{One, Two, Four}
use Rattle.memory_model.specs.Sparse.{put, value_at, no_values}
use Rattle.memory_model.specs.Memory.{Memory, byte_at, with_byte, with_bytes, with_number, with_permissions, width_bytes}
use Rattle.memory_model.specs.Ranges.{with_page}
use Rattle.memory_model.proofs.Rows.{value_at-put_same, value_at-put_other, value_at-row_key, value_at-row_before, value_at-row_after}
use Rattle.memory_model.proofs.Runs.{byte_at-with_byte_other, byte_at-with_bytes_out, byte_at-with_permissions}
use Rattle.space_mem.specs.Held.{Held, IsClean, SamePage, Marks, Covers, CoversIn, all_pages, memory_in, owning, with_stored, with_written}

pub marks_refl : (h : Held) → Marks h h
marks_refl h page below clean = (clean, λ k low. refl)

pub marks_same : (g h : Held) → h ≡ g → Marks g h
marks_same g h same = subst (Marks g) (sym same) (marks_refl g)

pub marks_then : (g h i : Held) → Marks g h → Marks h i → Marks g i
marks_then g h i first second page below clean =
    let b = second page below clean in
    let a = first page below b.0 in
    (a.0, λ k low. b.1 k low ∙ a.1 k low)

pub marks_owning : (h : Held) (page : ℕ) (m : Memory) → ((p k : ℕ) → (p ≡ page → ⊥) → k < 4096 → byte_at m (4096 * p + k) ≡ byte_at h.memory (4096 * p + k)) → Marks h (owning h page m)
marks_owning h page m same p below clean = elim (cases_eq p page) [
  | inl here ↦ absurd (omega (arith, clean, ap (value_at (put h.dirty page 1)) here, value_at-put_same h.dirty page 1))
  | inr other ↦ (sym (value_at-put_other h.dirty page 1 p other) ∙ clean, λ k low. same p k other low)
]

-- a page that is dirty is written
pub marks_page : (h : Held) (page : ℕ) (m : Memory) → value_at h.dirty page ≡ 1 → ((p k : ℕ) → (p ≡ page → ⊥) → k < 4096 → byte_at m (4096 * p + k) ≡ byte_at h.memory (4096 * p + k)) → Marks h (record h { memory = m })
marks_page h page m dirty same p below clean = elim (cases_eq p page) [
  | inl here ↦ absurd (omega (arith, clean, ap (value_at h.dirty) here, dirty))
  | inr other ↦ (clean, λ k low. same p k other low)
]

pub byte_elsewhere : (m : Memory) (a v p k : ℕ) → (p ≡ a / 4096 → ⊥) → k < 4096 → byte_at (with_byte m a v) (4096 * p + k) ≡ byte_at m (4096 * p + k)
byte_elsewhere m a v p k other low = byte_at-with_byte_other m a v (4096 * p + k) (λ e. other (omega arith))

pub number_elsewhere : (m : Memory) (a : ℕ) (w : Width) (v p k : ℕ) → a % width_bytes w ≡ 0 → (p ≡ a / 4096 → ⊥) → k < 4096 → byte_at (with_number m a w v) (4096 * p + k) ≡ byte_at m (4096 * p + k)
number_elsewhere m a One v p k aligned other low = byte_elsewhere m a (v % 256) p k other low
number_elsewhere m a Two v p k aligned other low =
    let m1 : Memory = with_byte m a (v % 256) in
    byte_elsewhere m1 (a + 1) (v / 256 % 256) p k (λ e. other (omega arith)) low ∙ byte_elsewhere m a (v % 256) p k other low
number_elsewhere m a Four v p k aligned other low =
    let m1 : Memory = with_byte m a (v % 256) in
    let m2 : Memory = with_byte m1 (a + 1) (v / 256 % 256) in
    let m3 : Memory = with_byte m2 (a + 2) (v / 65536 % 256) in
    byte_elsewhere m3 (a + 3) (v / 16777216 % 256) p k (λ e. other (omega arith)) low ∙ byte_elsewhere m2 (a + 2) (v / 65536 % 256) p k (λ e. other (omega arith)) low
    ∙ byte_elsewhere m1 (a + 1) (v / 256 % 256) p k (λ e. other (omega arith)) low ∙ byte_elsewhere m a (v % 256) p k other low

pub bytes_elsewhere : (m : Memory) (a : ℕ) (bytes : List ℕ) (p k : ℕ) → a % 4096 + length bytes ≤ 4096 → (p ≡ a / 4096 → ⊥) → k < 4096 → byte_at (with_bytes m a bytes) (4096 * p + k) ≡ byte_at m (4096 * p + k)
bytes_elsewhere m a bytes p k within other low = byte_at-with_bytes_out m a bytes (4096 * p + k) (λ le. elim (cases_lt (4096 * p + k) (a + length bytes)) [ inl inside ↦ absurd (other (omega arith)) | inr past ↦ past ])

pub page_elsewhere : (m : Memory) (page : ℕ) (bytes : List ℕ) (p k : ℕ) → (p ≡ page → ⊥) → k < 4096 → byte_at (with_page m page bytes) (4096 * p + k) ≡ byte_at m (4096 * p + k)
page_elsewhere m page bytes p k other low = elim (cases_lt p page) [
  | inl before ↦ value_at-row_before m.bytes (4096 * page) _ 4096 (4096 * p + k) (omega arith)
  | inr from ↦ value_at-row_after m.bytes (4096 * page) _ 4096 (4096 * p + k) (omega (arith, other))
]

pub marks_stored : (h : Held) (a : ℕ) (w : Width) (v : ℕ) → a % width_bytes w ≡ 0 → Marks h (with_stored h a w v)
marks_stored h a w v aligned = marks_owning h (a / 4096) (with_number h.memory a w v) (λ p k other low. number_elsewhere h.memory a w v p k aligned other low)

pub marks_written : (h : Held) (a v : ℕ) → Marks h (with_written h a v)
marks_written h a v = marks_owning h (a / 4096) (with_byte h.memory a v) (λ p k other low. byte_elsewhere h.memory a v p k other low)

pub marks_put : (h : Held) (page : ℕ) (bytes : List ℕ) → Marks h (owning h page (with_page h.memory page bytes))
marks_put h page bytes = marks_owning h page (with_page h.memory page bytes) (λ p k other low. page_elsewhere h.memory page bytes p k other low)

pub marks_owned : (h : Held) (page : ℕ) → Marks h (owning h page h.memory)
marks_owned h page = marks_owning h page h.memory (λ p k other low. refl)

pub marks_permitted : (h : Held) (first count right : ℕ) → Marks h (record h { memory = with_permissions h.memory first count right })
marks_permitted h first count right p below clean = (clean, λ k low. byte_at-with_permissions h.memory first count right (4096 * p + k))

pub marks_owns : (h g : Held) (page : ℕ) → g ≡ owning h page h.memory → Marks h g
marks_owns h g page is = subst (Marks h) (sym is) (marks_owned h page)

-- a memory and its snapshot, while the memory changes
pub covers_after : (g h : Held) (s : Memory) → Covers g s → Marks g h → Covers h s
covers_after g h s covers marks page below clean =
    let same = marks page below clean in
    λ k within. same.1 k within ∙ covers page below same.0 k within

pub covers_in_after : (g h : Held) (o : Option Held) → CoversIn g o → Marks g h → CoversIn h o
covers_in_after g h None covers marks = tt
covers_in_after g h (Some s) covers marks = covers_after g h s.memory covers marks

all_dirty : (page : ℕ) → page < 1048576 → value_at all_pages page ≡ 1
all_dirty page below = value_at-row_key no_values 0 (λ _. 1) 1048576 page (omega arith) (omega arith)

pub covers_all : (h : Held) (s : Memory) → h.dirty ≡ all_pages → Covers h s
covers_all h s all page below clean =
    let one : value_at h.dirty page ≡ 1 = ap (λ d. value_at d page) all ∙ all_dirty page below in
    absurd (omega (arith, one, clean))

pub covers_in_all : (h : Held) (o : Option Held) → h.dirty ≡ all_pages → CoversIn h o
covers_in_all h None all = tt
covers_in_all h (Some s) all = covers_all h s.memory all

-- another memory with the same bytes and the same dirty pages
pub covers_same : (g h : Held) (s : Memory) → h.memory ≡ g.memory → h.dirty ≡ g.dirty → Covers g s → Covers h s
covers_same g h s memory dirty covers page below clean =
    let before : IsClean g page = ap (λ d. value_at d page) (sym dirty) ∙ clean in
    subst (λ m. SamePage m s page) (sym memory) (covers page below before)

-- and another snapshot with the same bytes
pub covers_in_same : (g h : Held) (o p : Option Held) → h.memory ≡ g.memory → h.dirty ≡ g.dirty → memory_in p ≡ memory_in o → CoversIn g o → CoversIn h p
covers_in_same g h None None memory dirty snapshot covers = tt
covers_in_same g h (Some s) None memory dirty snapshot covers = tt
covers_in_same g h None (Some t) memory dirty snapshot covers = cc
covers_in_same g h (Some s) (Some t) memory dirty snapshot covers =
    let same : t.memory ≡ s.memory = cc in
    subst (Covers h) (sym same) (covers_same g h s.memory memory dirty covers)
