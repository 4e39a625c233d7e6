-- Pages that a merge passes over, and those that it marks as clean.
use Rattle.std.specs.Prelude.{◌≡◌, ℕ, ◌+◌, ◌≤◌, List, [], ◌∷◌, ◌++◌, All, Contains}
use Rattle.std.proofs.Common.{sym, ◌∙◌, ap, arith, inl, inr, subst}
use Rattle.std.proofs.lemmas.Bool.{cases_eq, cases_lt}
use Rattle.std.proofs.lemmas.List.Elements.{All-contains, Contains-append_left, Contains-push}
use Rattle.memory_model.specs.Sparse.{put, value_at}
use Rattle.memory_model.specs.Memory.{Memory}
use Rattle.memory_model.specs.Ranges.{IsZeroPage}
use Rattle.memory_model.proofs.Rows.{value_at-put_same, value_at-put_other}
use Rattle.space_mem.specs.Held.{Held, AllClean, AllZero, Covers, IsClean, SamePage}
use Rattle.snapshot.specs.Pages.{AreFound, ArePassed, AreSettled}

-- a page that is as in the snapshot is clean now
pub covers_unmarked : (g h : Held) (s : Memory) (page : ℕ) → h.memory ≡ g.memory → h.dirty ≡ put g.dirty page 0 → SamePage g.memory s page → Covers g s → Covers h s
covers_unmarked g h s page memory dirty equal covers q below clean = subst (λ m. SamePage m s q) (sym memory) (elim (cases_eq q page) [
  | inl same ↦ subst (SamePage g.memory s) (sym same) equal
  | inr other ↦ covers q below (sym (value_at-put_other g.dirty page 0 q other) ∙ ap (λ d. value_at d q) (sym dirty) ∙ clean)
])

-- and so is each that was
pub clean_unmarked : (g h : Held) (page q : ℕ) → h.dirty ≡ put g.dirty page 0 → IsClean g q → IsClean h q
clean_unmarked g h page q dirty clean = ap (λ d. value_at d q) dirty ∙ elim (cases_eq q page) [
  | inl same ↦ ap (value_at (put g.dirty page 0)) same ∙ value_at-put_same g.dirty page 0
  | inr other ↦ value_at-put_other g.dirty page 0 q other ∙ clean
]

pub clean_here : (g h : Held) (page : ℕ) → h.dirty ≡ put g.dirty page 0 → IsClean h page
clean_here g h page dirty = ap (λ d. value_at d page) dirty ∙ value_at-put_same g.dirty page 0

-- pages that are passed over
pub passed_none : (h : Held) (from : ℕ) → ArePassed h from from
passed_none h from q low high = absurd (omega arith)

pub passed_clean : (h : Held) (from at end : ℕ) → ArePassed h from at → AllClean h at end → ArePassed h from end
passed_clean h from at end before clean q low high = elim (cases_lt q at) [
  | inl below ↦ before q low below
  | inr here ↦ inl (clean q here high)
]

pub passed_zero : (h : Held) (from at end : ℕ) → ArePassed h from at → AllZero h.memory at end → ArePassed h from end
passed_zero h from at end before zero q low high = elim (cases_lt q at) [
  | inl below ↦ before q low below
  | inr here ↦ inr (λ k below. zero q k here high below)
]

pub passed_less : (h : Held) (from end more : ℕ) → end ≤ more → ArePassed h from more → ArePassed h from end
passed_less h from end more le passed q low high = passed q low (omega arith)

-- pages that are found
pub found_none : (h : Held) (s : Memory) (from : ℕ) (found : List ℕ) → AreFound h s from from found
found_none h s from found q low high same = absurd (omega arith)

pub found_passed : (h : Held) (s : Memory) (first from end : ℕ) (found : List ℕ) → AreFound h s first from found → ArePassed h from end → AreFound h s first end found
found_passed h s first from end found before passed q low high same = elim (cases_lt q from) [
  | inl below ↦ before q low below same
  | inr here ↦ elim (passed q here high) [ inl clean ↦ inl clean | inr zero ↦ inr (inl zero) ]
]

pub found_differs : (h : Held) (s : Memory) (first page : ℕ) (found : List ℕ) → AreFound h s first page found → (SamePage h.memory s page → ⊥) → AreFound h s first (page + 1) found
found_differs h s first page found before differs q low high same = elim (cases_eq q page) [
  | inl here ↦ absurd (differs (subst (SamePage h.memory s) here same))
  | inr other ↦ before q low (omega (arith, other)) same
]

pub found_equal : (h : Held) (s : Memory) (first page : ℕ) (found : List ℕ) → AreFound h s first page found → AreFound h s first (page + 1) (found ++ page ∷ [])
found_equal h s first page found before q low high same = elim (cases_eq q page) [
  | inl here ↦ inr (inr (subst (Contains (found ++ page ∷ [])) (sym here) (Contains-push found page)))
  | inr other ↦ elim (before q low (omega (arith, other)) same) [
    | inl clean ↦ inl clean
    | inr rest ↦ elim rest [ inl zero ↦ inr (inl zero) | inr at ↦ inr (inr (Contains-append_left found (page ∷ []) q at)) ]
  ]
]

-- once those that were found are clean
pub settled : (g h : Held) (s : Memory) (first end : ℕ) (found : List ℕ) → AreFound g s first end found → h.memory ≡ g.memory → ((q : ℕ) → IsClean g q → IsClean h q) → All (IsClean h) found → AreSettled h s first end
settled g h s first end found are memory stays clean q low high same = elim (are q low high (subst (λ m. SamePage m s q) memory same)) [
  | inl was ↦ inl (stays q was)
  | inr rest ↦ elim rest [ inl zero ↦ inr (subst (λ m. IsZeroPage m q) (sym memory) zero) | inr at ↦ inl (All-contains (IsClean h) found q clean at) ]
]
