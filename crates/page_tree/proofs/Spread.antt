-- What holds of parts in a row after a loop has gone over some of them.
use Rattle.std.specs.Prelude.{◌≡◌, ℕ, ◌+◌, ◌-◌, ◌*◌, ◌/◌, ◌%◌, ◌<◌, ◌≤◌, min, cond, Option, Bool, true, false, nat_lt, nat_eq, not, ◌&&◌, List, length}
use Rattle.std.proofs.Common.{◌∙◌, ap, sym, arith, subst, inl, inr, refl, get_or, set}
use Rattle.std.proofs.lemmas.Bool.{cases_eq, cases_lt}
use Rattle.std.proofs.lemmas.List.{get_or-set_same, get_or-set_other}
use Rattle.std.proofs.lemmas.Bool.Decides.{nat_tests}
use Rattle.page_store.specs.declared.PageRef.{PageRef}
use Rattle.page_tree.specs.Blocks.{within, IsWhole}

-- a fact of each part from one to before another, before and after; the parts beside are the same
pub record IsDone {C : Type 0} (P : ℕ → C → C → Type 0) (first i : ℕ) (a b : ℕ → C) : Type 0 where
  pub done : (k : ℕ) → first ≤ k → k < i → P k (a k) (b k)
  pub below : (k : ℕ) → k < first → b k ≡ a k
  pub above : (k : ℕ) → i ≤ k → b k ≡ a k

pub done_none : {C : Type 0} (P : ℕ → C → C → Type 0) (first : ℕ) (a : ℕ → C) → IsDone P first first a a
done_none P first a = record {
  done = λ k low high. absurd (omega arith);
  below = λ k low. refl;
  above = λ k high. refl;
}

pub done_more : {C : Type 0} (P : ℕ → C → C → Type 0) (first i : ℕ) (a b c : ℕ → C) → first ≤ i → IsDone P first i a b → P i (b i) (c i) → ((k : ℕ) → (k ≡ i → ⊥) → c k ≡ b k) → IsDone P first (i + 1) a c
done_more P first i a b c rise d here others = record {
  done = λ k low high. elim (cases_eq k i) [
    | inl e ↦ subst (λ n. P n (a n) (c n)) (sym e) (subst (λ x. P i x (c i)) (d.above i (omega arith)) here)
    | inr ne ↦ subst (P k (a k)) (sym (others k ne)) (d.done k low (omega (arith, ne)))
  ];
  below = λ k low. others k (λ e. omega arith) ∙ d.below k low;
  above = λ k high. others k (λ e. omega arith) ∙ d.above k (omega arith);
}

-- what holds of each part that is done, and of each that is the same, holds of all
pub each : {C : Type 0} (P Q : ℕ → C → C → Type 0) (first i : ℕ) (a b : ℕ → C) → IsDone P first i a b → ((k : ℕ) (x y : C) → P k x y → Q k x y) → ((k : ℕ) (x : C) → Q k x x) → (k : ℕ) → Q k (a k) (b k)
each P Q first i a b d f same k = elim (cases_lt k first) [
  | inl low ↦ subst (Q k (a k)) (sym (d.below k low)) (same k (a k))
  | inr rise ↦ elim (cases_lt k i) [
    | inl high ↦ f k (a k) (b k) (d.done k rise high)
    | inr high ↦ subst (Q k (a k)) (sym (d.above k high)) (same k (a k))
  ]
]

-- what holds of the parts beside one, and of what is set there, holds of each
pub each_set : {C : Type 0} (Q : ℕ → C → Type 0) (bs : List C) (i : ℕ) (s e : C) → i < length bs → ((k : ℕ) → (k ≡ i → ⊥) → Q k (get_or bs k e)) → Q i s → (k : ℕ) → Q k (get_or (set bs i s) k e)
each_set Q bs i s e inside others here k = elim (cases_eq k i) [
  | inl one ↦ subst (λ n. Q n (get_or (set bs i s) n e)) (sym one) (subst (Q i) (sym (get_or-set_same bs i s e inside)) here)
  | inr two ↦ subst (Q k) (sym (get_or-set_other bs i k s e two)) (others k two)
]

lt_same : (a b c d : ℕ) → (a < b → c < d) → (b ≤ a → d ≤ c) → nat_lt a b ≡ nat_lt c d
lt_same a b c d f g = elim (cases_lt a b) [
  | inl low ↦ let h : c < d = f low in grind (arith, nat_tests)
  | inr high ↦ let h : d ≤ c = g high in grind (arith, nat_tests)
]

-- a page of a block lies in what a range has of the block as the page of the branch lies in the range
pub within_block : (from to p : ℕ) → within (from - 64 * (p / 64)) (min (to - 64 * (p / 64)) 64) (p % 64) ≡ within from to p
within_block from to p =
    let low : nat_lt (p % 64) (from - 64 * (p / 64)) ≡ nat_lt p from = lt_same _ _ _ _ (λ h. omega arith) (λ h. omega arith) in
    let high : nat_lt (p % 64) (min (to - 64 * (p / 64)) 64) ≡ nat_lt p to = lt_same _ _ _ _ (λ h. omega arith) (λ h. omega arith) in
    cc

-- a page of a branch lies in what a range has of the branch as the page of the tree lies in the range
pub within_branch : (from to p : ℕ) → within (from - 8192 * (p / 8192)) (min (to - 8192 * (p / 8192)) 8192) (p % 8192) ≡ within from to p
within_branch from to p =
    let low : nat_lt (p % 8192) (from - 8192 * (p / 8192)) ≡ nat_lt p from = lt_same _ _ _ _ (λ h. omega arith) (λ h. omega arith) in
    let high : nat_lt (p % 8192) (min (to - 8192 * (p / 8192)) 8192) ≡ nat_lt p to = lt_same _ _ _ _ (λ h. omega arith) (λ h. omega arith) in
    cc

and_false : (t : Bool) → (t && false) ≡ false
and_false true = refl
and_false false = refl

pub before_range : (from to p : ℕ) → p < from → within from to p ≡ false
before_range from to p h = let e : nat_lt p from ≡ true = grind (arith, nat_tests) in rw e refl

pub after_range : (from to p : ℕ) → to ≤ p → within from to p ≡ false
after_range from to p h = let e : nat_lt p to ≡ false = grind (arith, nat_tests) in rw e (and_false (not (nat_lt p from)))

-- a range of blocks is done: its pages are other ones, and those beside are the same
pub spread_blocks : {C A : Type 0} (P : ℕ → C → C → Type 0) (from to i : ℕ) (a b : ℕ → C) (get : C → ℕ → A) (x : ℕ → ℕ → A)
    → from < to → i ≡ (to - 1) / 64 + 1 → IsDone P (from / 64) i a b
    → ((k : ℕ) (r s : C) → P k r s → (j : ℕ) → j < 64 → get s j ≡ cond (within (from - 64 * k) (min (to - 64 * k) 64) j) (x k j) (get r j))
    → (p : ℕ) → get (b (p / 64)) (p % 64) ≡ cond (within from to p) (x (p / 64) (p % 64)) (get (a (p / 64)) (p % 64))
spread_blocks {C} {A} P from to i a b get x rise last d f p =
    let k : ℕ = p / 64 in let j : ℕ = p % 64 in
    let turn : (t u : Bool) → t ≡ u → cond t (x k j) (get (a k) j) ≡ cond u (x k j) (get (a k) j) = λ t u e. ap (λ v. cond v (x k j) (get (a k) j)) e in
    elim (cases_lt k (from / 64)) [
      | inl low ↦ ap (λ (c : C). get c j) (d.below k low) ∙ turn false (within from to p) (sym (before_range from to p (omega arith)))
      | inr from_low ↦ elim (cases_lt k i) [
        | inl high ↦ f k (a k) (b k) (d.done k from_low high) j (omega arith) ∙ turn _ _ (within_block from to p)
        | inr high ↦ ap (λ (c : C). get c j) (d.above k high) ∙ turn false (within from to p) (sym (after_range from to p (omega arith)))
      ]
    ]

-- a range of branches is done: its pages are other ones, and those beside are the same
pub spread_branches : {C A : Type 0} (P : ℕ → C → C → Type 0) (from to i : ℕ) (a b : ℕ → C) (get : C → ℕ → A) (x : ℕ → ℕ → A)
    → from < to → i ≡ (to - 1) / 8192 + 1 → IsDone P (from / 8192) i a b
    → ((k : ℕ) (r s : C) → P k r s → (j : ℕ) → j < 8192 → get s j ≡ cond (within (from - 8192 * k) (min (to - 8192 * k) 8192) j) (x k j) (get r j))
    → (p : ℕ) → get (b (p / 8192)) (p % 8192) ≡ cond (within from to p) (x (p / 8192) (p % 8192)) (get (a (p / 8192)) (p % 8192))
spread_branches {C} {A} P from to i a b get x rise last d f p =
    let k : ℕ = p / 8192 in let j : ℕ = p % 8192 in
    let turn : (t u : Bool) → t ≡ u → cond t (x k j) (get (a k) j) ≡ cond u (x k j) (get (a k) j) = λ t u e. ap (λ v. cond v (x k j) (get (a k) j)) e in
    elim (cases_lt k (from / 8192)) [
      | inl low ↦ ap (λ (c : C). get c j) (d.below k low) ∙ turn false (within from to p) (sym (before_range from to p (omega arith)))
      | inr from_low ↦ elim (cases_lt k i) [
        | inl high ↦ f k (a k) (b k) (d.done k from_low high) j (omega arith) ∙ turn _ _ (within_branch from to p)
        | inr high ↦ ap (λ (c : C). get c j) (d.above k high) ∙ turn false (within from to p) (sym (after_range from to p (omega arith)))
      ]
    ]

pub eq_same : (a b c d : ℕ) → (a ≡ b → c ≡ d) → (c ≡ d → a ≡ b) → nat_eq a b ≡ nat_eq c d
eq_same a b c d f g = elim (cases_eq a b) [
  | inl one ↦ let h : c ≡ d = f one in grind (arith, nat_tests)
  | inr two ↦ let h : c ≡ d → ⊥ = λ e. two (g e) in grind (arith, nat_tests)
]

pub not_eq : (a b : ℕ) → (a ≡ b → ⊥) → nat_eq a b ≡ false
not_eq a b h = grind (arith, nat_tests)

-- one page is another one, and those beside are the same
pub replace_blocks : {C A : Type 0} (at : ℕ) (a b : ℕ → C) (get : C → ℕ → A) (x : A)
    → ((k : ℕ) → (k ≡ at / 64 → ⊥) → b k ≡ a k)
    → ((j : ℕ) → j < 64 → get (b (at / 64)) j ≡ cond (nat_eq j (at % 64)) x (get (a (at / 64)) j))
    → (p : ℕ) → get (b (p / 64)) (p % 64) ≡ cond (nat_eq p at) x (get (a (p / 64)) (p % 64))
replace_blocks {C} {A} at a b get x others here p =
    let k : ℕ = p / 64 in let j : ℕ = p % 64 in
    let turn : (t u : Bool) → t ≡ u → cond t x (get (a k) j) ≡ cond u x (get (a k) j) = λ t u e. ap (λ v. cond v x (get (a k) j)) e in
    elim (cases_eq k (at / 64)) [
      | inl one ↦
          subst (λ n. get (b n) j ≡ cond (nat_eq j (at % 64)) x (get (a n) j)) (sym one) (here j (omega arith))
          ∙ turn (nat_eq j (at % 64)) (nat_eq p at) (eq_same _ _ _ _ (λ h. omega arith) (λ h. omega arith))
      | inr two ↦
          let no : nat_eq p at ≡ false = not_eq p at (λ e. two (ap (λ n. n / 64) e)) in
          ap (λ (c : C). get c j) (others k two) ∙ turn false (nat_eq p at) (sym no)
    ]

-- one page is another one, and those beside are the same
pub replace_branches : {C A : Type 0} (at : ℕ) (a b : ℕ → C) (get : C → ℕ → A) (x : A)
    → ((k : ℕ) → (k ≡ at / 8192 → ⊥) → b k ≡ a k)
    → ((j : ℕ) → j < 8192 → get (b (at / 8192)) j ≡ cond (nat_eq j (at % 8192)) x (get (a (at / 8192)) j))
    → (p : ℕ) → get (b (p / 8192)) (p % 8192) ≡ cond (nat_eq p at) x (get (a (p / 8192)) (p % 8192))
replace_branches {C} {A} at a b get x others here p =
    let k : ℕ = p / 8192 in let j : ℕ = p % 8192 in
    let turn : (t u : Bool) → t ≡ u → cond t x (get (a k) j) ≡ cond u x (get (a k) j) = λ t u e. ap (λ v. cond v x (get (a k) j)) e in
    elim (cases_eq k (at / 8192)) [
      | inl one ↦
          subst (λ n. get (b n) j ≡ cond (nat_eq j (at % 8192)) x (get (a n) j)) (sym one) (here j (omega arith))
          ∙ turn (nat_eq j (at % 8192)) (nat_eq p at) (eq_same _ _ _ _ (λ h. omega arith) (λ h. omega arith))
      | inr two ↦
          let no : nat_eq p at ≡ false = not_eq p at (λ e. two (ap (λ n. n / 8192) e)) in
          ap (λ (c : C). get c j) (others k two) ∙ turn false (nat_eq p at) (sym no)
    ]

-- of two whole pages either is whole
pub whole_either : (t : Bool) (x y : Option PageRef) → IsWhole x → IsWhole y → IsWhole (cond t x y)
whole_either true x y f g = f
whole_either false x y f g = g
