-- The pages at the start of a slot's content that a parent takes from its child, before it reconciles the rest.
-- Our choice: a restatement for proofs.
use Rattle.std.specs.Prelude.{◌≡◌, ℕ, zero, suc, ◌+◌, ◌-◌, ◌/◌, ◌%◌, ◌<◌, ◌&&◌, Bool, true, cond, List, [], ◌∷◌, ◌++◌, get_or, nat_le, nat_lt}
use Rattle.file_model.specs.Sizes.{slot_count, slot_size, content_offset}
use Rattle.file_image.specs.Spared.{content_from, spared_in}
use Rattle.space_mem.specs.declared.taking.TakenPage.{TakenPage}
use Rattle.memory_files.specs.Slots.{IsBesideSlot, has_slot, slot_page, slot_pages}

-- the page of slot k's content after so many others
abbrev pub content_page : ℕ → ℕ → ℕ
content_page k i = slot_page k + 1 + i

-- so many pages at the start of slot k's content, each with that of another slot
unfoldable pub taken_run : ℕ → ℕ → ℕ → List TakenPage
taken_run k from zero = []
taken_run k from (suc n) = taken_run k from n ++ record { page = content_page k n; from = content_page from n } ∷ []

-- those of each slot before k
unfoldable pub taken_before : List ℕ → List ℕ → ℕ → List TakenPage
taken_before whole from zero = []
taken_before whole from (suc k) = taken_before whole from k ++ taken_run k (get_or from k 0) (get_or whole k 0)

-- a page that is none of them
abbrev pub IsBesideTaken : List ℕ → ℕ → Type 0
IsBesideTaken whole page = (k i : ℕ) → k < slot_count → i < get_or whole k 0 → page ≡ content_page k i → ⊥

-- a page that is of none of these slots
abbrev pub IsBesideSlots : List Bool → ℕ → Type 0
IsBesideSlots slots page = (k : ℕ) → has_slot slots k ≡ true → IsBesideSlot slot_pages k page

-- whether an offset is of them
abbrev pub is_spared : List ℕ → ℕ → Bool
is_spared whole a = nat_le content_offset (a % slot_size) && nat_lt (a % slot_size) (content_offset + spared_in whole (a / slot_size))

-- a parent's bytes of slots with those of its child there
abbrev pub with_taken : List ℕ → List ℕ → (ℕ → ℕ) → (ℕ → ℕ) → ℕ → ℕ
with_taken whole from parent child a = cond (is_spared whole a) (content_from child from (a / slot_size) (a % slot_size - content_offset)) (parent a)
