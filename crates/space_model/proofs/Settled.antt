-- Children of which none runs, nor any space below one of them.
use Rattle.std.proofs.Common.{◌≡◌, ℕ, ◌==◌, nat_lt, Bool, true, false, cond, refl}
use Rattle.space_model.specs.Space.{Space, Children, none, child, has, over, enter, put_child, remove_child, is_settled, are_settled}

-- both parts of a test
pub both : (a b : Bool) → cond a b false ≡ true → (a ≡ true) × (b ≡ true)
both true b h = (refl, h)
both false b h = cc

-- and a test of both
pub unite : (a b : Bool) → a ≡ true → b ≡ true → cond a b false ≡ true
unite true b h k = k
unite false b h k = cc

settled_over : (n : ℕ) (s : Space) (cs : Children) → are_settled cs ≡ true → is_settled s ≡ true → are_settled (over n (λ c. s) cs) ≡ true
settled_over n s none all one = refl
settled_over n s (child m c rest) all one =
    let parts = both (is_settled c) (are_settled rest) all in
    go (n == m) parts.0 parts.1 (settled_over n s rest parts.1 one)
  where
    go : (b : Bool) → is_settled c ≡ true → are_settled rest ≡ true → are_settled (over n (λ c. s) rest) ≡ true → are_settled (cond b (child m s rest) (child m c (over n (λ c. s) rest))) ≡ true
    go true first others later = unite (is_settled s) (are_settled rest) one others
    go false first others later = unite (is_settled c) (are_settled (over n (λ c. s) rest)) first later

settled_enter : (n : ℕ) (s : Space) (cs : Children) → are_settled cs ≡ true → is_settled s ≡ true → are_settled (enter n s cs) ≡ true
settled_enter n s none all one = unite (is_settled s) true one refl
settled_enter n s (child m c rest) all one =
    let parts = both (is_settled c) (are_settled rest) all in
    go (nat_lt n m) parts.0 (settled_enter n s rest parts.1 one)
  where
    go : (b : Bool) → is_settled c ≡ true → are_settled (enter n s rest) ≡ true → are_settled (cond b (child n s (child m c rest)) (child m c (enter n s rest))) ≡ true
    go true first later = unite (is_settled s) (are_settled (child m c rest)) one all
    go false first later = unite (is_settled c) (are_settled (enter n s rest)) first later

-- all have settled once one that has is put
pub settled_put : (n : ℕ) (s : Space) (cs : Children) → are_settled cs ≡ true → is_settled s ≡ true → are_settled (put_child n s cs) ≡ true
settled_put n s cs all one = go (has n cs)
  where
    go : (b : Bool) → are_settled (cond b (over n (λ c. s) cs) (enter n s cs)) ≡ true
    go true = settled_over n s cs all one
    go false = settled_enter n s cs all one

-- and once one has gone
pub settled_remove : (n : ℕ) (cs : Children) → are_settled cs ≡ true → are_settled (remove_child n cs) ≡ true
settled_remove n none all = refl
settled_remove n (child m c rest) all =
    let parts = both (is_settled c) (are_settled rest) all in
    go (n == m) parts.0 parts.1 (settled_remove n rest parts.1)
  where
    go : (b : Bool) → is_settled c ≡ true → are_settled rest ≡ true → are_settled (remove_child n rest) ≡ true → are_settled (cond b rest (child m c (remove_child n rest))) ≡ true
    go true first others later = others
    go false first others later = unite (is_settled c) (are_settled (remove_child n rest)) first later
