-- How many slots keep a page.
use Rattle.std.specs.Prelude.{◌≡◌, ℕ, suc, ◌+◌, ◌<◌, ◌≤◌, List, [], ◌∷◌, Option, Some, None, length, slice_index_or, slice_set}
use Rattle.std.proofs.Common.{refl, ◌∙◌, ap, arith, inl, inr}
use Rattle.std.proofs.lemmas.Bool.{cases_lt}
use Rattle.std.proofs.lemmas.List.{get_or_past, get_or_default, length-set}
use Rattle.std.proofs.lemmas.List.Sums.{sum_by-cons, sum_by-set, get_or-le-sum_by}
use Rattle.page_store.specs.declared.PageRef.{PageRef}
use Rattle.page_store.specs.Kept.{kept_in}
use Rattle.page_tree.specs.Kept.{slot_in, count_kept, IsCounted}

pub kept_most : (o : Option PageRef) → kept_in o ≤ 1
kept_most None = omega arith
kept_most (Some page) = omega arith

pub count_most : (slots : List (Option PageRef)) → count_kept slots ≤ length slots
count_most [] = omega arith
count_most (x ∷ xs) = omega (arith, sum_by-cons kept_in x xs, kept_most x, count_most xs)

pub count_none : (slots : List (Option PageRef)) → ((j : ℕ) → slot_in slots j ≡ None) → count_kept slots ≡ 0
count_none [] none = refl
count_none (x ∷ xs) none = sum_by-cons kept_in x xs ∙ omega (arith, ap kept_in (none 0), count_none xs (λ j. none (suc j)))

no_kept : (o : Option PageRef) → kept_in o ≤ 0 → o ≡ None
no_kept None le = refl
no_kept (Some page) le = absurd (omega (arith, le))

pub none_kept : (slots : List (Option PageRef)) → count_kept slots ≡ 0 → (j : ℕ) → slot_in slots j ≡ None
none_kept slots empty j = elim (cases_lt j (length slots)) [
  | inl below ↦ no_kept (slot_in slots j) (omega (arith, get_or-le-sum_by kept_in slots j None below, empty))
  | inr past ↦ get_or_past slots j None past
]

pub count_set : (slots : List (Option PageRef)) (j : ℕ) (kept : Option PageRef) → j < length slots → count_kept (slice_set slots j kept) + kept_in (slot_in slots j) ≡ count_kept slots + kept_in kept
count_set slots j kept below = sum_by-set kept_in slots j kept None below

-- one slot is set
pub counted_set : (slots : List (Option PageRef)) (j : ℕ) (x : Option PageRef) (count after : ℕ) → IsCounted count slots → j < 64 → after + kept_in (slot_in slots j) ≡ count + kept_in x → IsCounted after (slice_set slots j x)
counted_set slots j x count after counted below is = record {
  sized = length-set slots j x ∙ counted.sized;
  counted = let all = count_set slots j x (omega (arith, counted.sized, below)) in omega (arith, all, counted.counted, is);
}

-- and keeps a page where it kept one
pub counted_same : (slots : List (Option PageRef)) (j : ℕ) (x : Option PageRef) (count : ℕ) → IsCounted count slots → j < 64 → kept_in x ≡ kept_in (slot_in slots j) → IsCounted count (slice_set slots j x)
counted_same slots j x count counted below same = record {
  sized = length-set slots j x ∙ counted.sized;
  counted = let all = count_set slots j x (omega (arith, counted.sized, below)) in omega (arith, all, counted.counted, same);
}

pub kept_least : (slots : List (Option PageRef)) (j count : ℕ) → IsCounted count slots → j < 64 → kept_in (slot_in slots j) ≤ count
kept_least slots j count counted below = omega (arith, counted.counted, get_or-le-sum_by kept_in slots j None (omega (arith, counted.sized, below)))

pub slot_is : (slots : List (Option PageRef)) (j count : ℕ) (d o : Option PageRef) → IsCounted count slots → j < 64 → o ≡ slice_index_or slots j d → o ≡ slot_in slots j
slot_is slots j count d o counted below is = is ∙ get_or_default slots j d None (omega (arith, counted.sized, below))
