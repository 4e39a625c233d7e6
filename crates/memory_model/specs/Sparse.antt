-- A finite map from numbers to numbers above 0. A number that it lacks has 0, so two of these are equal where all values are.
-- Our choice: how a memory is kept, so that equal memories are equal values.
use Rattle.std.specs.Prelude.{◌≡◌, ℕ, Bool, true, false, cond, unwrap_or, ◌==◌, Option, Some, None}
use Rattle.std.proofs.Common.{refl, sym, ◌∙◌, ap, arith, suc, zero}
use Rattle.std.proofs.lemmas.Bool.Decides.{nat_tests}
use Rattle.std.specs.Ordering.{nat_cmp, eq_by_cmp}
use Rattle.std.specs.Cmp.{nat_cmp_total}
use Rattle.std.specs.FinMap.{FinMap, code, empty, get, insert, remove, get-empty, get-insert, get-remove, same_map, nat_cmp-IsAntisymmetric}
use Rattle.std.specs.Coded.{Coded, coded_ℕ}
use base.Stored.{coded_via}
use mathlib.Core.HLevel.{Σ_prop_path}

pub record Sparse : Type 0 where
  pub map : FinMap nat_cmp ℕ
  pub positive : (k : ℕ) → get map k ≡ Some 0 → ⊥

empty_prop : IsProp ⊥
empty_prop a b = absurd a

positive_prop : (m : FinMap nat_cmp ℕ) → IsProp ((k : ℕ) → get m k ≡ Some 0 → ⊥)
positive_prop m f g i k e = empty_prop (f k e) (g k e) i

pub same_map_field : (s t : Sparse) → s.map ≡ t.map → s ≡ t
same_map_field s t e =
    let pairs : ◌≡◌ {A = (m : FinMap nat_cmp ℕ) × ((k : ℕ) → get m k ≡ Some 0 → ⊥)} (s.map, s.positive) (t.map, t.positive) = Σ_prop_path positive_prop e in
    λ i. record { map = (pairs i).0; positive = (pairs i).1 }

abbrev pub coded_sparse : Coded Sparse
coded_sparse = coded_via (code coded_ℕ coded_ℕ) (λ t. t.map) same_map_field

-- the value at a key
unfoldable pub value_at : Sparse → ℕ → ℕ
value_at t k = unwrap_or (get t.map k) 0

pub same_key : (q k : ℕ) → eq_by_cmp nat_cmp q k ≡ (q == k)
same_key q k = grind (arith, nat_tests)

-- what a key has in the map for this value
abbrev stored : ℕ → Option ℕ
stored zero = None
stored (suc v) = Some (suc v)

put_map : FinMap nat_cmp ℕ → ℕ → ℕ → FinMap nat_cmp ℕ
put_map m k zero = remove m k
put_map m k (suc v) = insert m k (suc v)

get-put_map : (m : FinMap nat_cmp ℕ) (k v q : ℕ) → get (put_map m k v) q ≡ cond (q == k) (stored v) (get m q)
unfolding put_map
get-put_map m k zero q = get-remove nat_cmp_total m k q ∙ ap (λ c. cond c None (get m q)) (same_key q k)
get-put_map m k (suc v) q = get-insert nat_cmp_total m k (suc v) q ∙ ap (λ c. cond c (Some (suc v)) (get m q)) (same_key q k)

-- a value that is put is no 0
put_value : (b : Bool) (v : ℕ) (o : Option ℕ) → (o ≡ Some 0 → ⊥) → cond b (stored v) o ≡ Some 0 → ⊥
put_value false v o h e = h e
put_value true zero o h e = cc
put_value true (suc v) o h e = cc

put_positive : (m : FinMap nat_cmp ℕ) (k v : ℕ) → ((k : ℕ) → get m k ≡ Some 0 → ⊥) → (q : ℕ) → get (put_map m k v) q ≡ Some 0 → ⊥
put_positive m k v h q e = put_value (q == k) v (get m q) (h q) (sym (get-put_map m k v q) ∙ e)

no_value : (k : ℕ) → get (empty {K = ℕ} {X = ℕ} {R = nat_cmp}) k ≡ Some 0 → ⊥
no_value k e = let h = get-empty {X = ℕ} nat_cmp k in cc

pub no_values : Sparse
no_values = record { map = empty; positive = λ k e. no_value k e }

-- with this value at a key
pub put : Sparse → ℕ → ℕ → Sparse
put t k v = record { map = put_map t.map k v; positive = put_positive t.map k v t.positive }

or_zero : (b : Bool) (v : ℕ) (o : Option ℕ) → unwrap_or (cond b (stored v) o) 0 ≡ cond b v (unwrap_or o 0)
or_zero false v o = refl
or_zero true zero o = refl
or_zero true (suc v) o = refl

pub value_at-put : (t : Sparse) (k v q : ℕ) → value_at (put t k v) q ≡ cond (q == k) v (value_at t q)
unfolding value_at put
value_at-put t k v q = ap (λ o. unwrap_or o 0) (get-put_map t.map k v q) ∙ or_zero (q == k) v (get t.map q)

same_option : (a b : Option ℕ) → (a ≡ Some 0 → ⊥) → (b ≡ Some 0 → ⊥) → unwrap_or a 0 ≡ unwrap_or b 0 → a ≡ b
same_option None None p q e = refl
same_option None (Some y) p q e = absurd (q (ap Some (sym e)))
same_option (Some x) None p q e = absurd (p (ap Some e))
same_option (Some x) (Some y) p q e = ap Some e

pub same_sparse : (s t : Sparse) → ((k : ℕ) → value_at s k ≡ value_at t k) → s ≡ t
unfolding value_at
same_sparse s t h = same_map_field s t (same_map nat_cmp_total nat_cmp-IsAntisymmetric s.map t.map
    (λ q. same_option (get s.map q) (get t.map q) (s.positive q) (t.positive q) (h q)))

pub value_at-no_values : (k : ℕ) → value_at no_values k ≡ 0
unfolding value_at no_values
value_at-no_values k = ap (λ o. unwrap_or o 0) (get-empty {X = ℕ} nat_cmp k)
