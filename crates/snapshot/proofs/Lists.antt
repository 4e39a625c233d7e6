-- Pages that are the same in two memories, and lists of pages that a child changed.
use Rattle.std.specs.Prelude.{◌≡◌, ℕ, ◌+◌, ◌*◌, ◌/◌, ◌%◌, ◌<◌, ◌≤◌, ◌⊎◌, List, [], ◌∷◌, All, Contains, slice_index}
use Rattle.std.proofs.Common.{sym, ◌∙◌, ap, arith, inl, inr, subst}
use Rattle.std.proofs.lemmas.Bool.{cases_eq, cases_lt}
use Rattle.std.proofs.lemmas.List.{get_or_default, same_lists}
use Rattle.std.proofs.lemmas.List.Elements.{All-nil, All-cons, Contains-append_right, Contains-get_or}
use Rattle.memory_model.specs.Memory.{Memory, byte_at}
use Rattle.memory_model.specs.Ranges.{IsPageOf, IsZeroPage}
use Rattle.space_mem.specs.Held.{Held, AllClean, AllZero, Covers, SamePage}
use Rattle.snapshot.specs.Pages.{SameBytes}

-- pages of which neither memory has a byte other than 0
pub same_zero : (m n : Memory) (from end : ℕ) → AllZero m from end → AllZero n from end → SameBytes m n from end
same_zero m n from end p q a above below =
    let e : a ≡ 4096 * (a / 4096) + a % 4096 = omega arith in
    ap (byte_at m) e
    ∙ p (a / 4096) (a % 4096) (omega arith) (omega arith) (omega arith)
    ∙ sym (q (a / 4096) (a % 4096) (omega arith) (omega arith) (omega arith))
    ∙ ap (byte_at n) (sym e)

-- a page that has no byte other than 0, and those behind it
pub zero_more : (m : Memory) (page far end : ℕ) → IsZeroPage m page → AllZero m (page + 1) far → end ≤ far → AllZero m page end
zero_more m page far end first rest le q k from to below = elim (cases_lt page q) [
  | inl behind ↦ rest q k (omega arith) (omega arith) below
  | inr here ↦
      let same : 4096 * q + k ≡ 4096 * page + k = omega arith in
      ap (byte_at m) same ∙ first k below
]

-- pages that are not dirty
pub same_clean : (h : Held) (n : Memory) (from end : ℕ) → Covers h n → AllClean h from end → end ≤ 1048576 → SameBytes h.memory n from end
same_clean h n from end covers clean within a above below =
    let page = a / 4096 in
    let e : a ≡ 4096 * page + a % 4096 = omega arith in
    ap (byte_at h.memory) e
    ∙ covers page (omega arith) (clean page (omega arith) (omega arith)) (a % 4096) (omega arith)
    ∙ ap (byte_at n) (sym e)

-- a page of the same bytes
pub same_page : (m n : Memory) (page : ℕ) (xs ys : List ℕ) → IsPageOf m page xs → IsPageOf n page ys → xs ≡ ys → SameBytes m n page (page + 1)
same_page m n page xs ys p q same a above below =
    let k = a % 4096 in
    let e : a ≡ 4096 * page + k = omega arith in
    ap (byte_at m) e ∙ p.byte k (omega arith) ∙ ap (λ l. slice_index l k) same ∙ sym (q.byte k (omega arith)) ∙ ap (byte_at n) (sym e)

-- and pages of the same bytes are equal lists
pub equal_bytes : (m n : Memory) (page : ℕ) (xs ys : List ℕ) → IsPageOf m page xs → IsPageOf n page ys → SamePage m n page → xs ≡ ys
equal_bytes m n page xs ys p q same = same_lists xs ys (p.sized ∙ sym q.sized) (λ k d below. let low : k < 4096 = omega (arith, p.sized) in
    get_or_default xs k d 0 below ∙ sym (p.byte k low) ∙ same k low ∙ q.byte k low ∙ sym (get_or_default ys k d 0 (omega (arith, q.sized))))

pub same_join : (m n : Memory) (a b c : ℕ) → SameBytes m n a b → SameBytes m n b c → SameBytes m n a c
same_join m n a b c p q k above below = elim (cases_lt k (4096 * b)) [
  | inl before ↦ p k above before
  | inr after ↦ q k after below
]

pub same_less : (m n : Memory) (a b c : ℕ) → b ≤ c → SameBytes m n a c → SameBytes m n a b
same_less m n a b c le same k above below = same k above (omega arith)

-- a page, as one of those in a row
pub page_of_row : (m n : Memory) (page : ℕ) → SameBytes m n page (page + 1) → SamePage m n page
page_of_row m n page same k low = same (4096 * page + k) (omega arith) (omega arith)

-- a page stands in a list, or it does not
pub stands : (xs : List ℕ) (p : ℕ) → Contains xs p ⊎ All (λ x. p ≡ x → ⊥) xs
stands [] p = inr (All-nil (λ x. p ≡ x → ⊥))
stands (x ∷ xs) p = elim (cases_eq p x) [
  | inl same ↦ inl (subst (Contains (x ∷ xs)) (sym same) (Contains-get_or (x ∷ xs) 0 0 (omega arith)))
  | inr other ↦ elim (stands xs p) [
    | inl at ↦ inl (Contains-append_right (x ∷ []) xs p at)
    | inr none ↦ inr (All-cons (λ y. p ≡ y → ⊥) x xs other none)
  ]
]
