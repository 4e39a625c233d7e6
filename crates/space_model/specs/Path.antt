-- Spaces by their paths: the numbers of the children that lead to a space, from the root on.
-- Our choice: spaces by the numbers of children that lead to them.
use Rattle.std.specs.Prelude.{◌≡◌, ℕ, List, [], ◌∷◌, Option, Some, Bool, false, option_and_then}
use Rattle.space_model.specs.Space.{Space, space, Children, Top, children_of, find, over, put_child}

-- the space at a path, or none
abbrev pub at : List ℕ → Space → Option Space
at [] s = Some s
at (n ∷ p) s = option_and_then (at p) (find n (children_of s))

-- other children
abbrev pub under : (Children → Children) → Space → Space
under f (space t cs) = space t (f cs)

-- another top
abbrev pub replace_top : Top → Space → Space
replace_top t (space u cs) = space t cs

-- another top at a path, where a space stands there
abbrev pub with_top : List ℕ → Top → Space → Space
with_top [] t s = replace_top t s
with_top (n ∷ p) t s = under (over n (with_top p t)) s

-- a space put at a path, in the place of the one there or as a new child
abbrev pub with_space : List ℕ → Space → Space → Space
with_space [] r s = r
with_space (n ∷ []) r s = under (put_child n r) s
with_space (n ∷ m ∷ p) r s = under (over n (with_space (m ∷ p) r)) s

-- a space stands where one can be put: the parent is there
abbrev pub HasParent : List ℕ → Space → Type 0
HasParent [] s = Unit {0}
HasParent (n ∷ []) s = Unit {0}
HasParent (n ∷ m ∷ p) s = (c : Space) × (find n (children_of s) ≡ Some c) × HasParent (m ∷ p) c

-- whether a path from a space leads to the root, where the space is the root or not
abbrev pub is_root : Bool → List ℕ → Bool
is_root root [] = root
is_root root (n ∷ p) = false
