-- Sorting what the code has sorts what contracts see.
use Rattle.std.proofs.Common.{◌≡◌, ℕ, ◌<◌, Bool, not, ◌&&◌, nat_eq, List, [], ◌∷◌, length, map, filter, refl, sym, ap, ◌∙◌, subst, arith, is_lt, nat_cmp}
use Rattle.std.specs.List.Sorted.{IsNonDecreasingBy, IsStableByKey}
use Rattle.std.proofs.lemmas.List.{get_or-map, length-map}
use Rattle.std.proofs.lemmas.Bool.Decides.{nat_tests}
use Rattle.symbols.specs.declared.symbol.Symbol as code
use Rattle.symbols.specs.Symbols.{symbol_of, IsArranged}
use Rattle.symbols.proofs.Lookup.{filter_symbols}

pub ascending : (xs : List code.Symbol) → IsNonDecreasingBy (λ s. s.address) xs → IsNonDecreasingBy (λ s. s.address) (map symbol_of xs)
ascending [] h i j d le lt = absurd (omega arith)
ascending (x ∷ xs) h i j d le lt =
    let below : j < length (x ∷ xs) = subst (λ n. j < n) (length-map (x ∷ xs) symbol_of) lt in
    rw (get_or-map symbol_of (x ∷ xs) i x d (omega arith), get_or-map symbol_of (x ∷ xs) j x d below) (h i j x le below)

-- neither is less than the other
tie : (m n : ℕ) → (not (is_lt (nat_cmp m n)) && not (is_lt (nat_cmp n m))) ≡ nat_eq n m
tie m n = grind (arith, nat_tests)

same_filter : {X : Type 0} (p q : X → Bool) → ((x : X) → p x ≡ q x) → (xs : List X) → filter p xs ≡ filter q xs
same_filter p q h [] = refl
same_filter p q h (x ∷ xs) = rw (h x, same_filter p q h xs) refl

-- what a stable sort leaves at each address
at_address : (xs ys : List code.Symbol) → length ys ≡ length xs → IsStableByKey (λ s. s.address) nat_cmp xs ys → (a : ℕ) → filter (λ s. nat_eq s.address a) ys ≡ filter (λ s. nat_eq s.address a) xs
at_address [] [] l stable a = refl
at_address [] (y ∷ ys) l stable a = absurd (omega arith)
at_address (x ∷ xs) ys l stable a =
    let kept = stable (record x { address = a }) in
    let as_eq = same_filter _ (λ s. nat_eq s.address a) (λ y. tie a y.address) in
    sym (as_eq ys) ∙ kept ∙ as_eq (x ∷ xs)

pub arranged : (xs ys : List code.Symbol) → length ys ≡ length xs → IsNonDecreasingBy (λ s. s.address) ys → IsStableByKey (λ s. s.address) nat_cmp xs ys → IsArranged (map symbol_of xs) (map symbol_of ys)
arranged xs ys l up stable = record {
  ascending = ascending ys up;
  same = λ a. filter_symbols (λ s. nat_eq s.address a) ys ∙ ap (map symbol_of) (at_address xs ys l stable a) ∙ sym (filter_symbols (λ s. nat_eq s.address a) xs);
}
