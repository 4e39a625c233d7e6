-- How large spaces in a tree are.
use Rattle.std.proofs.Common.{◌≡◌, ℕ, suc, ◌+◌, ◌≤◌, ◌==◌, Bool, true, false, cond, Some, refl, arith}
use Rattle.space_model.specs.Space.{Top, Space, space, Children, none, child, find}
use Rattle.space_model.specs.Encoding.{size_of, sizes}

pub whole_size : (t : Top) (cs : Children) → size_of (space t cs) ≡ suc (sizes cs)
unfolding size_of
whole_size t cs = refl

-- a child is no larger than all of them
pub child_size : (n : ℕ) (c : Space) (cs : Children) → Some c ≡ find n cs → size_of c ≤ sizes cs
unfolding size_of
child_size n c none is = cc
child_size n c (child m s rest) is = go (n == m) is (child_size n c rest)
  where
    go : (b : Bool) → Some c ≡ cond b (Some s) (find n rest) → (Some c ≡ find n rest → size_of c ≤ sizes rest) → size_of c ≤ size_of s + sizes rest
    go true is later = let same : c ≡ s = cc in rw same (omega arith)
    go false is later = let h = later is in omega (arith, h)
