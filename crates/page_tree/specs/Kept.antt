-- What is kept of pages in a row, and of how many anything is kept.
-- Our choice: a restatement for proofs.
use Rattle.std.specs.Prelude.{◌≡◌, ℕ, List, length, Option, None, slice_index_or}
use Rattle.std.specs.List.{sum_by}
use Rattle.page_store.specs.declared.PageRef.{PageRef}
use Rattle.page_store.specs.Kept.{kept_in}

-- what is kept of a page
abbrev pub slot_in : List (Option PageRef) → ℕ → Option PageRef
slot_in slots j = slice_index_or slots j None

-- how many pages are kept
abbrev pub count_kept : List (Option PageRef) → ℕ
count_kept slots = sum_by kept_in slots

-- 64 slots, of which so many keep a page
pub record IsCounted (count : ℕ) (slots : List (Option PageRef)) : Type 0 where
  pub sized : length slots ≡ 64
  pub counted : count ≡ count_kept slots
