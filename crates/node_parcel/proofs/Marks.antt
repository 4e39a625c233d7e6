-- Whether two memories have the same bytes in a page, told by what they keep of it.
use Rattle.std.proofs.Common.{◌≡◌, ℕ, ◌+◌, ◌<◌, ◌≤◌, Bool, List, sym, ap, subst, ◌∙◌, arith, inl, inr}
use Rattle.std.specs.Prelude.{slice_index, max, IsTrue}
use Rattle.std.proofs.lemmas.Bool.{cases_lt}
use Rattle.std.proofs.lemmas.Grind.{same_number_lists}
use Rattle.std.proofs.lemmas.List.{get_or_past}
use Rattle.memory_model.specs.Sizes.{page_size, pages}
use Rattle.memory_model.specs.Sparse.{Sparse, value_at, put, no_values, value_at-no_values}
use Rattle.memory_model.proofs.Rows.{value_at-put_same, value_at-put_other}
use Rattle.memory_model.specs.Memory.{Memory}
use Rattle.memory_model.specs.Ranges.{IsPageOf, IsZeroPage}
use Rattle.space_mem.specs.Held.{Held, IsClean, SamePage, AllZero, Covers}
use Rattle.node_parcel.specs.declared.spans.Span.{Span}
use Rattle.node_parcel.specs.OneNumber.{AreAlike, ShareNumber}

pub same_bytes : (m n : Memory) (page : ℕ) (a b : List ℕ) (r : Bool) → IsPageOf m page a → IsPageOf n page b → (IsTrue r → a ≡ b) × (a ≡ b → IsTrue r) → (IsTrue r → SamePage m n page) × (SamePage m n page → IsTrue r)
same_bytes m n page a b r ha hb h = (
  λ t k lt. ha.byte k lt ∙ ap (λ (l : List ℕ). slice_index l k) (h.0 t) ∙ sym (hb.byte k lt),
  λ same. h.1 (same_number_lists a b (ha.sized ∙ sym hb.sized) (λ k lt. let below : k < page_size = omega (arith, ha.sized) in sym (ha.byte k below) ∙ same k below ∙ hb.byte k below)),
)

-- of a page of which one keeps nothing
zeros : (m n : Memory) (page : ℕ) (a : List ℕ) → IsPageOf m page a → IsZeroPage n page → SamePage m n page → (k : ℕ) → slice_index a k ≡ 0
zeros m n page a ha hn same k = elim (cases_lt k page_size) [
  | inl lt ↦ sym (ha.byte k lt) ∙ same k lt ∙ hn k lt
  | inr le ↦ get_or_past a k 0 (omega (arith, ha.sized))
]

pub first_kept : (m n : Memory) (page : ℕ) (a : List ℕ) (r : Bool) → IsPageOf m page a → IsZeroPage n page → (IsTrue r → (k : ℕ) → slice_index a k ≡ 0) × (((k : ℕ) → slice_index a k ≡ 0) → IsTrue r) → (IsTrue r → SamePage m n page) × (SamePage m n page → IsTrue r)
first_kept m n page a r ha hn h = (λ t k lt. ha.byte k lt ∙ h.0 t k ∙ sym (hn k lt), λ same. h.1 (zeros m n page a ha hn same))

pub second_kept : (m n : Memory) (page : ℕ) (b : List ℕ) (r : Bool) → IsZeroPage m page → IsPageOf n page b → (IsTrue r → (k : ℕ) → slice_index b k ≡ 0) × (((k : ℕ) → slice_index b k ≡ 0) → IsTrue r) → (IsTrue r → SamePage m n page) × (SamePage m n page → IsTrue r)
second_kept m n page b r hm hb h = (λ t k lt. hm k lt ∙ sym (h.0 t k) ∙ sym (hb.byte k lt), λ same. h.1 (zeros n m page b hb hm (λ k lt. sym (same k lt))))

pub none_kept : (m n : Memory) (page : ℕ) → IsZeroPage m page → IsZeroPage n page → SamePage m n page
none_kept m n page hm hn k lt = hm k lt ∙ sym (hn k lt)

-- ---- marks, page after page

-- before a page exactly the pages that differ are dirty, and none from there on
pub record IsMarked (h : Held) (snapshot : Memory) (from : ℕ) : Type 0 where
  pub covers : (q : ℕ) → q < from → IsClean h q → SamePage h.memory snapshot q
  pub exact : (q : ℕ) → q < from → SamePage h.memory snapshot q → IsClean h q
  pub clean : (q : ℕ) → from ≤ q → IsClean h q

zero_same : (m n : Memory) (from end q : ℕ) → AllZero m from end → AllZero n from end → from ≤ q → q < end → SamePage m n q
zero_same m n from end q hm hn le lt k below = hm q k le lt below ∙ sym (hn q k le lt below)

pub none_marked : (h : Held) (snapshot : Memory) → h.dirty ≡ no_values → IsMarked h snapshot 0
none_marked h snapshot e = record {
  covers = λ q lt. absurd (omega (arith, lt));
  exact = λ q lt. absurd (omega (arith, lt));
  clean = λ q le. ap (λ (t : Sparse). value_at t q) e ∙ value_at-no_values q;
}

-- pages more that are the same
pub passes_same : (h : Held) (snapshot : Memory) (from page next : ℕ) → from ≤ page → page ≤ next → AllZero h.memory from page → AllZero snapshot from page → ((q : ℕ) → page ≤ q → q < next → SamePage h.memory snapshot q) → IsMarked h snapshot from → IsMarked h snapshot next
passes_same h snapshot from page next le after hm hn same marked = record {
  covers = λ q lt c. elim (cases_lt q from) [
    | inl low ↦ marked.covers q low c
    | inr high ↦ elim (cases_lt q page) [
      | inl before ↦ zero_same h.memory snapshot from page q hm hn high before
      | inr there ↦ same q there lt
    ]
  ];
  exact = λ q lt s. elim (cases_lt q from) [
    | inl low ↦ marked.exact q low s
    | inr high ↦ marked.clean q high
  ];
  clean = λ q above. marked.clean q (omega arith);
}

-- pages that have one number in both are the same
pub known_same : (m before n : Memory) (ours theirs : List Span) (page end : ℕ) → AreAlike before n ours theirs → m ≡ before → ((q : ℕ) → page ≤ q → q < end → ShareNumber ours theirs q) → (q : ℕ) → page ≤ q → q < end → SamePage m n q
known_same m before n ours theirs page end alike is one q low high = subst (λ (x : Memory). SamePage x n q) (sym is) (alike q (one q low high))

pub one_behind : (page end next : ℕ) → end ≤ page → next ≡ max end (page + 1) → page + 1 ≡ next
one_behind page end next le is = omega (arith, le, is)

-- so are they up to where they are known to be, or the one that was looked at
pub all_same : (m n : Memory) (page end next : ℕ) → ((q : ℕ) → page ≤ q → q < end → SamePage m n q) → SamePage m n page → next ≡ max end (page + 1) → (q : ℕ) → page ≤ q → q < next → SamePage m n q
all_same m n page end next known here is q low high = elim (cases_lt q end) [
  | inl before ↦ known q low before
  | inr behind ↦ let e : page ≡ q = omega (arith, is, high, behind) in subst (λ (p : ℕ). SamePage m n p) e here
]

-- one page more that differs, and is marked
pub marks_one : (h g : Held) (snapshot : Memory) (from page : ℕ) → from ≤ page → AllZero h.memory from page → AllZero snapshot from page → (SamePage h.memory snapshot page → ⊥) → g ≡ record h { dirty = put h.dirty page 1 } → IsMarked h snapshot from → IsMarked g snapshot (page + 1)
marks_one h g snapshot from page le hm hn differs e marked = subst (λ (k : Held). IsMarked k snapshot (page + 1)) (sym e) (record {
  covers = λ q lt c. elim (cases_lt q page) [
    | inl before ↦ elim (cases_lt q from) [
      | inl low ↦ marked.covers q low (sym (value_at-put_other h.dirty page 1 q (λ s. omega arith)) ∙ c)
      | inr high ↦ zero_same h.memory snapshot from page q hm hn high before
    ]
    | inr there ↦ let is : q ≡ page = omega arith in absurd (omega (arith, sym c ∙ ap (value_at (put h.dirty page 1)) is ∙ value_at-put_same h.dirty page 1))
  ];
  exact = λ q lt s. elim (cases_lt q page) [
    | inl before ↦ value_at-put_other h.dirty page 1 q (λ s. omega arith) ∙ elim (cases_lt q from) [ inl low ↦ marked.exact q low s | inr high ↦ marked.clean q high ]
    | inr there ↦ let is : q ≡ page = omega arith in absurd (differs (subst (λ (p : ℕ). SamePage h.memory snapshot p) is s))
  ];
  clean = λ q above. value_at-put_other h.dirty page 1 q (λ s. omega arith) ∙ marked.clean q (omega arith);
})

pub all_covered : (h : Held) (snapshot : Memory) (from : ℕ) → AllZero h.memory from pages → AllZero snapshot from pages → IsMarked h snapshot from → Covers h snapshot
all_covered h snapshot from hm hn marked q lt c = elim (cases_lt q from) [
  | inl low ↦ marked.covers q low c
  | inr high ↦ zero_same h.memory snapshot from pages q hm hn high lt
]

pub all_exact : (h : Held) (snapshot : Memory) (from : ℕ) → IsMarked h snapshot from → (q : ℕ) → q < pages → SamePage h.memory snapshot q → IsClean h q
all_exact h snapshot from marked q lt s = elim (cases_lt q from) [
  | inl low ↦ marked.exact q low s
  | inr high ↦ marked.clean q high
]
