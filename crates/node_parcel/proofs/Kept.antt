-- What is kept of a list of resident pages, as the list grows and as pages are forgotten.
use Rattle.std.proofs.Common.{◌≡◌, ℕ, ◌+◌, ◌*◌, ◌<◌, List, [], ◌∷◌, ◌++◌, length, Option, Some, None, refl, sym, ap, ◌∙◌, arith, inl, inr}
use Rattle.std.specs.Prelude.{slice_index}
use Rattle.std.proofs.lemmas.Bool.{cases_lt}
use Rattle.std.proofs.lemmas.List.{get_or_append_left, get_or_at, length-append}
use Rattle.std.proofs.lemmas.Grind.{same_number_lists}
use Rattle.memory_model.specs.Memory.{Memory, byte_at}
use Rattle.memory_model.specs.Ranges.{with_page, IsPageOf}
use Rattle.memory_model.specs.Sizes.{page_size}
use Rattle.parcel_model.specs.Parcel.{page_in}
use Rattle.parcel_model.specs.Packing.{number_of}
use Rattle.parcel_model.specs.Residents.{AreResidents}
use Rattle.parcel_model.proofs.Packed.{found}
use Rattle.node_parcel.specs.Numbers.{HasPages}
use Rattle.node_parcel.proofs.Numbers.{absent}
use Rattle.node_parcel.proofs.AtOnce.{this_page}

-- ---- the number of a page

number_by : (known : List (List ℕ)) (bytes : List ℕ) (i : ℕ) (o : Option ℕ) → number_of known bytes ≡ o → AreResidents known → i < length known → page_in known i ≡ bytes → number_of known bytes ≡ Some i
number_by known bytes i None e h lt same = absurd (absent known bytes i e lt same)
number_by known bytes i (Some n) e h lt same =
    let f = found known n bytes e in
    elim (cases_lt i n) [
      | inl less ↦ absurd (h.distinct i n less f.0 (same ∙ sym f.1))
      | inr from ↦ elim (cases_lt n i) [
        | inl less ↦ absurd (h.distinct n i less lt (f.1 ∙ sym same))
        | inr to ↦ let is : n ≡ i = omega arith in e ∙ ap (λ (j : ℕ). Some j) is
      ]
    ]

-- a page with these bytes is the least one
pub number_is : (known : List (List ℕ)) (bytes : List ℕ) (i : ℕ) → AreResidents known → i < length known → page_in known i ≡ bytes → number_of known bytes ≡ Some i
number_is known bytes i h lt same = number_by known bytes i (number_of known bytes) refl h lt same

-- ---- the memory

-- of a list that is kept, whatever comes of pages behind it
pub still_kept : (m after : Memory) (known : List (List ℕ)) (count : ℕ) → HasPages m known → count ≡ length known
    → ((n k : ℕ) → n < count → k < page_size → byte_at after (page_size * n + k) ≡ byte_at m (page_size * n + k)) → HasPages after known
still_kept m after known count has is others n k lt within = others n k (omega arith) within ∙ has n k lt within

-- with the page behind it
pub kept_more : (m after before : Memory) (known : List (List ℕ)) (page : List ℕ) (count : ℕ) → HasPages m known → count ≡ length known
    → ((n k : ℕ) → n < count → k < page_size → byte_at after (page_size * n + k) ≡ byte_at m (page_size * n + k)) → after ≡ with_page before count page → HasPages after (known ++ page ∷ [])
kept_more m after before known page count has is others made n k lt within = elim (cases_lt n (length known)) [
  | inl inside ↦
      others n k (omega arith) within ∙ has n k inside within
      ∙ ap (λ (bytes : List ℕ). slice_index bytes k) (sym (get_or_append_left known (page ∷ []) [] n inside))
  | inr last ↦
      let here : n ≡ count = omega (arith, length-append known (page ∷ [])) in
      let place : length known ≡ n = omega (arith, length-append known (page ∷ [])) in
      ap (λ (j : ℕ). byte_at after (page_size * j + k)) here
      ∙ ap (λ (x : Memory). byte_at x (page_size * count + k)) made
      ∙ this_page before count page k within
      ∙ ap (λ (bytes : List ℕ). slice_index bytes k) (sym (get_or_at known page [] [] n place))
]

-- without the last page
pub kept_less : (m : Memory) (known : List (List ℕ)) (page : List ℕ) → HasPages m (known ++ page ∷ []) → HasPages m known
kept_less m known page has n k lt within =
    has n k (omega (arith, length-append known (page ∷ []))) within
    ∙ ap (λ (bytes : List ℕ). slice_index bytes k) (get_or_append_left known (page ∷ []) [] n lt)

pub none_kept : (m : Memory) → HasPages m []
none_kept m n k lt within = absurd (omega (arith, lt))

-- the page that was put is the page
pub page_put : (m after : Memory) (number : ℕ) (page bytes : List ℕ) → after ≡ with_page m number page → length page ≡ page_size → IsPageOf after number bytes → bytes ≡ page
page_put m after number page bytes made whole h =
    same_number_lists bytes page (h.sized ∙ sym whole)
    (λ k lt. let below : k < page_size = omega (arith, h.sized) in sym (h.byte k below) ∙ ap (λ (x : Memory). byte_at x (page_size * number + k)) made ∙ this_page m number page k below)
