-- The children of a space as a map keeps them, each in a box; what is kept of all of them; how large they are and how they are encoded.
-- Our choice: a restatement for proofs.
use Rattle.std.specs.Prelude.{◌≡◌, ℕ, ◌+◌, ◌*◌, ◌≤◌, suc, List, [], ◌∷◌, Option, IfSome, Some, None, Bool, true, map}
use Rattle.std.proofs.Common.{arith, ap}
use Rattle.std.specs.Coded.{Coded}
use base.Stored.{coded_via}
use denote.Param.Weighed.{most}
use Rattle.std.specs.declared.boxed.Box.{Box}
use Rattle.std.specs.declared.alloc.Global.{Global}
use Rattle.space_model.specs.Space.{Top, Space, space, Children, none, child, children_of, children_from, find, height, levels_of, are_settled}
use Rattle.space_model.specs.Beginning.{fresh_top}
use Rattle.space_model.specs.Encoding.{coded_space, size_of, sizes}

-- the entries of a map, without their boxes
abbrev pub unboxed : List (ℕ × Box Space Global) → List (ℕ × Space)
unboxed [] = []
unboxed (e ∷ es) = (e.0, e.1.value) ∷ unboxed es

-- the children that the entries of a map are
abbrev pub children_in : List (ℕ × Box Space Global) → Children
children_in es = children_from (unboxed es)

-- the numbers of children
abbrev pub numbers_of : Children → List ℕ
numbers_of none = []
numbers_of (child n s rest) = n ∷ numbers_of rest

-- What is kept of children: that all have settled, where it is known that they have, and how many levels they make, where that is known.
pub record IsKept (all : Bool) (most : Option ℕ) (cs : Children) : Type 0 where
  pub settled : all ≡ true → are_settled cs ≡ true
  pub levels : IfSome most (λ n. levels_of cs ≡ n)

-- how many levels a child makes, where it is there
abbrev pub levels_with : Option Space → ℕ
levels_with None = 0
levels_with (Some s) = suc (height s)

-- how many levels the child of that number makes
abbrev pub levels_at : ℕ → Children → ℕ
levels_at n cs = levels_with (find n cs)

pub same_children : (cs ds : Children) → space (fresh_top 0) cs ≡ space (fresh_top 0) ds → cs ≡ ds
same_children cs ds e = ap children_of e

abbrev pub coded_children : Coded Children
coded_children = coded_via coded_space (space (fresh_top 0)) same_children

-- how large a space is, so that its children are smaller, and each of them smaller still
abbrev pub space_size : Space → ℕ
space_size s = 2 * size_of s

abbrev pub children_size : Children → ℕ
children_size cs = 2 * sizes cs + 1

pub children_smaller : (t : Top) (cs : Children) → children_size cs + 1 ≤ space_size (space t cs)
unfolding size_of
children_smaller t cs = omega arith

pub each_smaller : (es : List (ℕ × Box Space Global)) → most (λ b. space_size b.value + 1) (map (λ e. e.1) es) ≤ children_size (children_in es)
unfolding size_of
each_smaller [] = omega arith
each_smaller (e ∷ es) = omega (arith, each_smaller es)
