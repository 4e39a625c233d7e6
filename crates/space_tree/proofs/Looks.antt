-- A child that has not settled is one of children that have not.
use Rattle.std.proofs.Common.{◌≡◌, ℕ, ◌==◌, Bool, true, false, cond, Some, refl, ap, ◌∙◌}
use Rattle.std.specs.Prelude.{option_map}
use Rattle.space_model.specs.Space.{Children, none, child, find, is_settled, are_settled}

either : (b : Bool) → cond b false false ≡ false
either true = refl
either false = refl

pub one_running : (n : ℕ) (cs : Children) → Some false ≡ option_map is_settled (find n cs) → are_settled cs ≡ false
one_running n none h = cc
one_running n (child m c rest) h = go (n == m) (one_running n rest) h
  where
    go : (b : Bool) → (Some false ≡ option_map is_settled (find n rest) → are_settled rest ≡ false) → Some false ≡ option_map is_settled (cond b (Some c) (find n rest)) → cond (is_settled c) (are_settled rest) false ≡ false
    go true later h = let runs : is_settled c ≡ false = cc in ap (λ r. cond r (are_settled rest) false) runs
    go false later h = ap (λ r. cond (is_settled c) r false) (later h) ∙ either (is_settled c)
