-- Reading bytes one after the other.
use Rattle.std.proofs.Common.{◌≡◌, ℕ, suc, ◌+◌, ◌<◌, ◌≤◌, Bool, true, false, not, List, [], ◌∷◌, length, get_or, take, drop, refl, ap, sym, ◌∙◌, arith, drop-cons}
use Rattle.std.proofs.lemmas.Bool.Decides.{nat_tests}
use Rattle.std.proofs.lemmas.List.{drop_all, length-take-le}
use Rattle.std.specs.Prelude.{◌==◌, ◌&&◌, ◌||◌, nat_eq, nat_le, nat_lt, replicate}
use Rattle.std.specs.List.{list_any}
use Rattle.std.specs.Str.{bytes_eq}
use Rattle.file_model.specs.Slots.{bytes_from, name_at, number_at, name_length_offset}
use Rattle.file_model.specs.File.{is_name}
use Rattle.file_model.proofs.Bytes.{length-bytes_from}

pub name_length : (b : ℕ → ℕ) (at : ℕ) → length (name_at b at) ≡ number_at b (at + name_length_offset)
name_length b at = length-bytes_from b (at + 28) (number_at b (at + name_length_offset))

-- a name that is read into an array
pub name_read : (b : ℕ → ℕ) (at n : ℕ) (name : List ℕ) → n ≡ number_at b (at + name_length_offset) → n ≤ 32 → name ≡ bytes_from b (at + 28) (length (take n (replicate {A = ℕ} 32 0))) → name ≡ name_at b at
name_read b at n name e short is = is ∙ ap (bytes_from b (at + 28)) (length-take-le n (replicate {A = ℕ} 32 0) (omega (arith, short)) ∙ e)

too_long : (n : ℕ) → 32 < n → nat_le n 32 ≡ false
too_long n h = grind (arith, nat_tests)

is_short : (n : ℕ) → n ≤ 32 → nat_le n 32 ≡ true
is_short n h = grind (arith, nat_tests)

and_none : (t u : Bool) → (t && false && u) ≡ false
and_none true u = refl
and_none false u = refl

-- a name of more than 32 bytes is not short
pub long_test : (b : ℕ → ℕ) (at n : ℕ) (t : Bool) → n ≡ number_at b (at + name_length_offset) → 32 < n → false ≡ (nat_le (number_at b (at + name_length_offset)) 32 && t)
long_test b at n t e long = sym (ap (λ u. u && t) (too_long (number_at b (at + name_length_offset)) (omega (arith, e, long))))

-- one that is read is told by its bytes
pub short_test : (b : ℕ → ℕ) (at n : ℕ) (t : Bool) → n ≡ number_at b (at + name_length_offset) → n ≤ 32 → t ≡ (nat_le (number_at b (at + name_length_offset)) 32 && t)
short_test b at n t e short = let l : nat_le (number_at b (at + name_length_offset)) 32 ≡ true = is_short (number_at b (at + name_length_offset)) (omega (arith, e, short)) in sym (ap (λ u. u && t) l)

-- more than 32 bytes are none
pub long_name : (b : ℕ → ℕ) (at n : ℕ) → n ≡ number_at b (at + name_length_offset) → 32 < n → false ≡ is_name (name_at b at)
long_name b at n e long =
    let name = name_at b at in
    let l : nat_le (length name) 32 ≡ false = too_long (length name) (omega (arith, e, long, name_length b at)) in
    sym (ap (λ t. nat_lt 0 (length name) && t && not (list_any (λ x. x == 0) name)) l ∙ and_none (nat_lt 0 (length name)) (not (list_any (λ x. x == 0) name)))

and_false : (t : Bool) → (t && false) ≡ false
and_false true = refl
and_false false = refl

other_length : (xs ys : List ℕ) → (length xs ≡ length ys → ⊥) → bytes_eq xs ys ≡ false
other_length [] [] h = absurd (h refl)
other_length [] (y ∷ ys) h = refl
other_length (x ∷ xs) [] h = refl
other_length (x ∷ xs) (y ∷ ys) h = ap (λ t. nat_eq x y && t) (other_length xs ys (λ e. h (ap suc e))) ∙ and_false (nat_eq x y)

-- a name of another length is another
pub other_name : (b : ℕ → ℕ) (at : ℕ) (name : List ℕ) → (number_at b (at + name_length_offset) ≡ length name → ⊥) → bytes_eq (name_at b at) name ≡ false
other_name b at name h = other_length (name_at b at) name (λ e. h (sym (name_length b at) ∙ e))

pub other_test : (b : ℕ → ℕ) (at n : ℕ) (name : List ℕ) → n ≡ number_at b (at + name_length_offset) → (n ≡ length name → ⊥) → false ≡ (nat_le (number_at b (at + name_length_offset)) 32 && bytes_eq (name_at b at) name)
other_test b at n name e h =
    let s = nat_le (number_at b (at + name_length_offset)) 32 in
    sym (ap (λ t. s && t) (other_name b at name (λ l. h (e ∙ l))) ∙ and_false s)

-- whether a byte of a list is 0 from the i-th on
pub any_next : (xs : List ℕ) (i : ℕ) → i < length xs → list_any (λ x. x == 0) (drop i xs) ≡ ((get_or xs i 0 == 0) || list_any (λ x. x == 0) (drop (i + 1) xs))
any_next xs i h =
    let e : i + 1 ≡ suc i = omega arith in
    ap (list_any (λ x. x == 0)) (drop-cons xs i 0 h ∙ ap (λ k. get_or xs i 0 ∷ drop k xs) (sym e))

pub any_end : (xs : List ℕ) (i : ℕ) → length xs ≤ i → list_any (λ x. x == 0) (drop i xs) ≡ false
any_end xs i h = ap (list_any (λ x. x == 0)) (drop_all i xs h)
