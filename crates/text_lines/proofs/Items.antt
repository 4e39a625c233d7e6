-- Where a function reads exactly what a line says, reading line by line gives exactly what all lines say, and the line that is named
-- is the first one that is refused.
use Rattle.std.proofs.Common.{◌≡◌, ℕ, suc, ◌+◌, List, [], ◌∷◌, ◌++◌, length, Result, Ok, Err, refl, sym, ap, ◌∙◌, arith}
use Rattle.std.specs.Prelude.{Option, Some, None, IsErr}
use Rattle.std.specs.List.{AllZip}
use Rattle.std.specs.Result.{result_map_both}
use Rattle.text_lines.specs.Lines.{lines_of}
use Rattle.text_lines.specs.Items.{IsTextOf, IsRefused, IsFirstRefused}
use Rattle.text_lines.specs.Reading.{with_line, items_of, value_of}

-- what is read of a line is what it says, and what it says is read
pub record Reads {A : Type 0} (says : List ℕ → A → Type 0) (item_of : List ℕ → Option A) : Type 0 where
  pub takes : (line : List ℕ) (i : A) → item_of line ≡ Some i → says line i
  pub again : (line : List ℕ) (i : A) → says line i → item_of line ≡ Some i

-- the line of this number is the first one that is refused, where the first line has that number
record Refuses {A : Type 0} (says : List ℕ → A → Type 0) (first : ℕ) (ls : List (List ℕ)) (number : ℕ) : Type 0 where
  before : List (List ℕ)
  line : List ℕ
  others : List (List ℕ)
  split : ls ≡ before ++ line ∷ others
  items : List A
  said : AllZip says before items
  refused : IsRefused says line
  place : number ≡ first + length before

module _ {A : Type 0} (says : List ℕ → A → Type 0) (item_of : List ℕ → Option A) (reads : Reads says item_of) where
  -- ---- one line

  pub one_item : (line : List ℕ) (i j : A) → says line i → says line j → i ≡ j
  one_item line i j h k = let same = sym (reads.again line i h) ∙ reads.again line j k in cc

  not_said : (line : List ℕ) → item_of line ≡ None → IsRefused says line
  not_said line e i h = let read = reads.again line i h in cc

  not_read : (line : List ℕ) → IsRefused says line → item_of line ≡ None
  not_read line h = none_from (item_of line) refl
    where
      none_from : (o : Option A) → item_of line ≡ o → o ≡ None
      none_from None e = refl
      none_from (Some i) e = absurd (h i (reads.takes line i e))

  -- ---- every line says an item

  items_again : (number : ℕ) (ls : List (List ℕ)) (is : List A) → AllZip says ls is → items_of item_of number ls ≡ Ok is
  unfolding items_of
  items_again number [] [] h = refl
  items_again number [] (i ∷ is) h = absurd h
  items_again number (l ∷ ls) [] h = absurd h
  items_again number (l ∷ ls) (i ∷ is) h = rw (reads.again l i h.0, items_again (number + 1) ls is h.1) refl

  line_takes : (number : ℕ) (l : List ℕ) (ls : List (List ℕ)) (is : List A) (o : Option A) → item_of l ≡ o → (r : Result (List A) ℕ) → with_line number o r ≡ Ok is → ((js : List A) → r ≡ Ok js → AllZip says ls js) → AllZip says (l ∷ ls) is
  line_takes number l ls is None said r e more = absurd cc
  line_takes number l ls is (Some i) said (Err n) e more = absurd cc
  line_takes number l ls [] (Some i) said (Ok js) e more = absurd cc
  line_takes number l ls (j ∷ is) (Some i) said (Ok js) e more =
      let same : i ≡ j = cc in
      let others : js ≡ is = cc in
      (reads.takes l j (said ∙ ap (λ (x : A). Some x) same), more is (ap (λ (x : List A). Ok x) others))

  items_take : (number : ℕ) (ls : List (List ℕ)) (is : List A) → items_of item_of number ls ≡ Ok is → AllZip says ls is
  unfolding items_of
  items_take number [] [] e = tt
  items_take number [] (i ∷ is) e = absurd cc
  items_take number (l ∷ ls) is e = line_takes number l ls is (item_of l) refl (items_of item_of (number + 1) ls) e (items_take (number + 1) ls)

  -- ---- some line is refused

  is_refused : (first : ℕ) (before : List (List ℕ)) (line : List ℕ) (others : List (List ℕ)) (items : List A) → AllZip says before items → IsRefused says line → items_of item_of first (before ++ line ∷ others) ≡ Err (first + length before)
  unfolding items_of
  is_refused first [] line others [] h r = rw (not_read line r) (ap (λ (n : ℕ). Err n) (omega arith))
  is_refused first [] line others (i ∷ items) h r = absurd h
  is_refused first (l ∷ before) line others [] h r = absurd h
  is_refused first (l ∷ before) line others (i ∷ items) h r =
      let place : first + 1 + length before ≡ first + suc (length before) = omega arith in
      rw (reads.again l i h.0, is_refused (first + 1) before line others items h.1 r, place) refl

  line_refused : (first : ℕ) (l : List ℕ) (ls : List (List ℕ)) (number : ℕ) (o : Option A) → item_of l ≡ o → (r : Result (List A) ℕ) → with_line first o r ≡ Err number → ((m : ℕ) → r ≡ Err m → Refuses says (first + 1) ls m)
      → Refuses says first (l ∷ ls) number
  line_refused first l ls number None said r e more =
      let same : first ≡ number = cc in
      record { before = []; line = l; others = ls; split = refl; items = []; said = tt; refused = not_said l said; place = omega (arith, same) }
  line_refused first l ls number (Some i) said (Ok is) e more = absurd cc
  line_refused first l ls number (Some i) said (Err n) e more =
      let m = more number e in
      record { before = l ∷ m.before; line = m.line; others = m.others; split = ap (λ (x : List (List ℕ)). l ∷ x) m.split; items = i ∷ m.items; said = (reads.takes l i said, m.said); refused = m.refused; place = omega (arith, m.place) }

  names_refused : (first : ℕ) (ls : List (List ℕ)) (number : ℕ) → items_of item_of first ls ≡ Err number → Refuses says first ls number
  unfolding items_of
  names_refused first [] number e = absurd cc
  names_refused first (l ∷ ls) number e = line_refused first l ls number (item_of l) refl (items_of item_of (first + 1) ls) e (names_refused (first + 1) ls)

  -- ---- texts

  pub text_again : {X E : Type 0} (make : List A → X) (refuse : ℕ → E) (bytes : List ℕ) (x : X) → IsTextOf says make bytes x → value_of item_of make refuse bytes ≡ Ok x
  text_again make refuse bytes x h = rw (items_again 1 (lines_of bytes) h.items h.said) (ap (λ y. Ok y) (sym h.made))

  pub text_takes : {X E : Type 0} (make : List A → X) (refuse : ℕ → E) (bytes : List ℕ) (x : X) → value_of item_of make refuse bytes ≡ Ok x → IsTextOf says make bytes x
  text_takes make refuse bytes x e = by_cases (items_of item_of 1 (lines_of bytes)) refl e
    where
      by_cases : (r : Result (List A) ℕ) → items_of item_of 1 (lines_of bytes) ≡ r → result_map_both make refuse r ≡ Ok x → IsTextOf says make bytes x
      by_cases (Ok is) read e = record { items = is; said = items_take 1 (lines_of bytes) is read; made = cc }
      by_cases (Err n) read e = absurd cc

  pub one_value : {X : Type 0} (make : List A → X) (bytes : List ℕ) (x y : X) → IsTextOf says make bytes x → IsTextOf says make bytes y → x ≡ y
  one_value make bytes x y h k = let same = sym (text_again make (λ n. n) bytes x h) ∙ text_again make (λ n. n) bytes y k in cc

  pub refused_again : {X E : Type 0} (make : List A → X) (refuse : ℕ → E) (bytes : List ℕ) (n : ℕ) → IsFirstRefused says bytes n → value_of item_of make refuse bytes ≡ Err (refuse n)
  refused_again make refuse bytes n h =
      let place : 1 + length h.before ≡ n = omega (arith, h.place) in
      rw (h.split, is_refused 1 h.before h.line h.others h.items h.said h.refused) (ap (λ k. Err (refuse k)) place)

  -- where refusals of different lines differ
  pub refused_takes : {X E : Type 0} (make : List A → X) (refuse : ℕ → E) (bytes : List ℕ) (n : ℕ) → ((k : ℕ) → refuse k ≡ refuse n → k ≡ n) → value_of item_of make refuse bytes ≡ Err (refuse n) → IsFirstRefused says bytes n
  refused_takes make refuse bytes n differ e = by_cases (items_of item_of 1 (lines_of bytes)) refl e
    where
      by_cases : (r : Result (List A) ℕ) → items_of item_of 1 (lines_of bytes) ≡ r → result_map_both make refuse r ≡ Err (refuse n) → IsFirstRefused says bytes n
      by_cases (Ok is) read e = absurd cc
      by_cases (Err k) read e =
          let h = names_refused 1 (lines_of bytes) n (read ∙ ap (λ (m : ℕ). Err m) (differ k cc)) in
          record { before = h.before; line = h.line; others = h.others; split = h.split; items = h.items; said = h.said; refused = h.refused; place = omega (arith, h.place) }

  is_none : {X E : Type 0} (make : List A → X) (refuse : ℕ → E) (bytes : List ℕ) → IsErr (value_of item_of make refuse bytes) → (x : X) → IsTextOf says make bytes x → ⊥
  is_none make refuse bytes h x k = let back = text_again make refuse bytes x k in absurd cc

  fails : {X E : Type 0} (make : List A → X) (refuse : ℕ → E) (bytes : List ℕ) → ((x : X) → IsTextOf says make bytes x → ⊥) → IsErr (value_of item_of make refuse bytes)
  fails {X} {E} make refuse bytes none = by_cases (value_of item_of make refuse bytes) refl
    where
      by_cases : (r : Result X E) → value_of item_of make refuse bytes ≡ r → IsErr r
      by_cases (Ok x) e = absurd (none x (text_takes make refuse bytes x e))
      by_cases (Err f) e = refl

  pub refuses_the_rest : {X E : Type 0} (make : List A → X) (refuse : ℕ → E) (bytes : List ℕ)
      → (IsErr (value_of item_of make refuse bytes) → (x : X) → IsTextOf says make bytes x → ⊥) × (((x : X) → IsTextOf says make bytes x → ⊥) → IsErr (value_of item_of make refuse bytes))
  refuses_the_rest make refuse bytes = (is_none make refuse bytes, fails make refuse bytes)
