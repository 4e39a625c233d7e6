-- What is kept of children once one is put, or goes.
use Rattle.std.proofs.Common.{◌≡◌, ℕ, suc, ◌==◌, nat_lt, Bool, true, false, cond, Some, None, refl, sym, ap, ◌∙◌, arith}
use Rattle.std.specs.Prelude.{Option, IfSome, max}
use Rattle.space_model.specs.Space.{Space, Children, none, child, find, has, over, enter, put_child, remove_child, height, levels_of}
use Rattle.space_tree.specs.Kept.{levels_at, levels_with}

-- the levels of all are those of one and those of the others
pub levels_split : (n : ℕ) (cs : Children) → levels_of cs ≡ max (levels_at n cs) (levels_of (remove_child n cs))
levels_split n none = refl
levels_split n (child m c rest) = go (n == m) (levels_split n rest)
  where
    go : (b : Bool) → levels_of rest ≡ max (levels_at n rest) (levels_of (remove_child n rest))
        → max (suc (height c)) (levels_of rest) ≡ max (levels_with (cond b (Some c) (find n rest))) (levels_of (cond b rest (child m c (remove_child n rest))))
    go true later = refl
    go false later = omega (arith, later)

levels_over : (n : ℕ) (s : Space) (cs : Children) → has n cs ≡ true → levels_of (over n (λ c. s) cs) ≡ max (suc (height s)) (levels_of (remove_child n cs))
levels_over n s none there = cc
levels_over n s (child m c rest) there = go (n == m) there (levels_over n s rest)
  where
    go : (b : Bool) → cond b true (has n rest) ≡ true → (has n rest ≡ true → levels_of (over n (λ c. s) rest) ≡ max (suc (height s)) (levels_of (remove_child n rest)))
        → levels_of (cond b (child m s rest) (child m c (over n (λ c. s) rest))) ≡ max (suc (height s)) (levels_of (cond b rest (child m c (remove_child n rest))))
    go true there later = refl
    go false there later = let h = later there in omega (arith, h)

levels_enter : (n : ℕ) (s : Space) (cs : Children) → levels_of (enter n s cs) ≡ max (suc (height s)) (levels_of cs)
levels_enter n s none = refl
levels_enter n s (child m c rest) = go (nat_lt n m) (levels_enter n s rest)
  where
    go : (b : Bool) → levels_of (enter n s rest) ≡ max (suc (height s)) (levels_of rest)
        → levels_of (cond b (child n s (child m c rest)) (child m c (enter n s rest))) ≡ max (suc (height s)) (max (suc (height c)) (levels_of rest))
    go true later = refl
    go false later = omega (arith, later)

remove_missing : (n : ℕ) (cs : Children) → has n cs ≡ false → remove_child n cs ≡ cs
remove_missing n none away = refl
remove_missing n (child m c rest) away = go (n == m) away (remove_missing n rest)
  where
    go : (b : Bool) → cond b true (has n rest) ≡ false → (has n rest ≡ false → remove_child n rest ≡ rest) → cond b rest (child m c (remove_child n rest)) ≡ child m c rest
    go true away later = cc
    go false away later = ap (child m c) (later away)

-- the levels of all once one is put
pub levels_put : (n : ℕ) (s : Space) (cs : Children) → levels_of (put_child n s cs) ≡ max (suc (height s)) (levels_of (remove_child n cs))
levels_put n s cs = go (has n cs) refl
  where
    go : (b : Bool) → has n cs ≡ b → levels_of (cond b (over n (λ c. s) cs) (enter n s cs)) ≡ max (suc (height s)) (levels_of (remove_child n cs))
    go true is = levels_over n s cs is
    go false is = levels_enter n s cs ∙ ap (λ ds. max (suc (height s)) (levels_of ds)) (sym (remove_missing n cs is))

pub levels_once_put : (o : Option ℕ) (n w : ℕ) (s : Space) (cs : Children) → suc (height s) ≡ w → IfSome o (λ k. k ≡ max w (levels_of (remove_child n cs))) → IfSome o (λ k. levels_of (put_child n s cs) ≡ k)
levels_once_put None n w s cs is told = tt
levels_once_put (Some k) n w s cs is told = levels_put n s cs ∙ ap (λ m. max m (levels_of (remove_child n cs))) is ∙ sym told

pub levels_once_removed : (o : Option ℕ) (n : ℕ) (cs : Children) → IfSome o (λ k. k ≡ max 0 (levels_of (remove_child n cs))) → IfSome o (λ k. levels_of (remove_child n cs) ≡ k)
levels_once_removed None n cs told = tt
levels_once_removed (Some k) n cs told = omega (arith, told)
