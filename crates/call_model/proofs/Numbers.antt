-- Kinds and numbers correspond.
use Rattle.std.proofs.Common.{◌≡◌, ℕ, ◌==◌, Bool, true, false, cond, List, [], ◌∷◌, Option, Some, refl, subst, arith}
use Rattle.std.proofs.lemmas.Bool.Decides.{nat_tests}
use Rattle.std.specs.List.{find}
use Rattle.call_model.specs.declared.Kind.{Kind}
use Rattle.call_model.specs.declared.Kind.TheVariants.{Put}
use Rattle.call_model.specs.Calls.{number_of, all_kinds, kind_of}

-- each kind is that of its number
pub kind_of-number_of : (k : Kind) → kind_of (number_of k) ≡ Some k
kind_of-number_of Put = refl
kind_of-number_of kind = refl

same_number : (n m : ℕ) → (n == m) ≡ true → m ≡ n
same_number n m e = grind (arith, nat_tests)

first : (b : Bool) (n : ℕ) (j k : Kind) (rest : Option Kind) → (n == number_of j) ≡ b → cond b (Some j) rest ≡ Some k → (rest ≡ Some k → number_of k ≡ n) → number_of k ≡ n
first true n j k rest is e later = let same : j ≡ k = cc in subst (λ i. number_of i ≡ n) same (same_number n (number_of j) is)
first false n j k rest is e later = later e

found : (ks : List Kind) (n : ℕ) (k : Kind) → find (λ j. n == number_of j) ks ≡ Some k → number_of k ≡ n
found [] n k e = cc
found (j ∷ ks) n k e = first (n == number_of j) n j k _ refl e (found ks n k)

-- each number of a call is that of its kind
pub number_of-kind_of : (n : ℕ) (k : Kind) → kind_of n ≡ Some k → number_of k ≡ n
number_of-kind_of n k e = found all_kinds n k e
