-- A path and the children of a space.
use Rattle.std.proofs.Common.{◌≡◌, ℕ, ◌-◌, ◌≤◌, List, [], ◌∷◌, length, get_or, drop, take, Some, None, refl, sym, ap, ◌∙◌, subst, arith}
use Rattle.std.specs.Prelude.{Option, IfSome, option_and_then}
use Rattle.std.proofs.lemmas.List.{take_all}
use Rattle.space_model.specs.Space.{Space, space, Children, Top, top_of, children_of, find, over}
use Rattle.space_model.specs.Path.{at, under, with_top, with_space, HasParent}
use Rattle.space_model.proofs.Children.{over-at, over_missing, over_itself}

-- a path that is not empty
pub path_is : (p : List ℕ) → 1 ≤ length p → p ≡ get_or p 0 0 ∷ take (length p - 1) (drop 1 p)
path_is [] h = absurd (omega arith)
path_is (n ∷ p) h = ap (λ q. n ∷ q) (sym (take_all _ p (omega arith)))

-- the rest of a path
abbrev pub onward : List ℕ → List ℕ
onward p = take (length p - 1) (drop 1 p)

-- the space at a path stands at the rest of the path in the child
pub at_child : (p : List ℕ) (u : Top) (s c : Space) (cs : Children) → 1 ≤ length p → space u cs ≡ s → Some c ≡ find (get_or p 0 0) cs → at (onward p) c ≡ at p s
at_child p u s c cs h is found =
    let n = get_or p 0 0 in
    let here : find n cs ≡ Some c = sym found in
    ap (option_and_then (at (onward p))) (sym here) ∙ ap (λ x. at x (space u cs)) (sym (path_is p h)) ∙ ap (at p) is

-- no space stands at a path whose first child is not there
pub at_none : (p : List ℕ) (u : Top) (s : Space) (cs : Children) → 1 ≤ length p → space u cs ≡ s → None ≡ find (get_or p 0 0) cs → at p s ≡ None
at_none p u s cs h is found =
    let n = get_or p 0 0 in
    let here : find n cs ≡ None = sym found in
    sym (ap (at p) is) ∙ ap (λ x. at x (space u cs)) (path_is p h) ∙ ap (option_and_then (at (onward p))) here

-- a child with another top at the rest of a path
pub topped_child : (p : List ℕ) (t u : Top) (s c w : Space) (cs ds : Children) → 1 ≤ length p → space u cs ≡ s → Some c ≡ find (get_or p 0 0) cs
    → w ≡ with_top (onward p) t c → ds ≡ over (get_or p 0 0) (λ _. w) cs → space u ds ≡ with_top p t s
topped_child p t u s c w cs ds h is found we fe =
    let n = get_or p 0 0 in
    let here : find n cs ≡ Some c = sym found in
    ap (space u) fe ∙ ap (space u) (over-at n (λ _. w) (with_top (onward p) t) c cs here we)
    ∙ ap (λ x. with_top x t (space u cs)) (sym (path_is p h)) ∙ ap (with_top p t) is

-- no child, no other top
pub topped_none : (p : List ℕ) (t u : Top) (s : Space) (cs ds : Children) → 1 ≤ length p → space u cs ≡ s → None ≡ find (get_or p 0 0) cs → ds ≡ cs → space u ds ≡ with_top p t s
topped_none p t u s cs ds h is found fe =
    let n = get_or p 0 0 in
    let here : find n cs ≡ None = sym found in
    ap (space u) fe ∙ ap (space u) (sym (over_missing n (with_top (onward p) t) cs here)) ∙ ap (λ x. with_top x t (space u cs)) (sym (path_is p h)) ∙ ap (with_top p t) is

-- the former top of a space at the rest of a path is that of the space at the path
pub former_child : (p : List ℕ) (u t r : Top) (s c : Space) (cs : Children) → 1 ≤ length p → space u cs ≡ s → Some c ≡ find (get_or p 0 0) cs
    → t ≡ r → IfSome (at (onward p) c) (λ x. r ≡ top_of x) → IfSome (at p s) (λ x. t ≡ top_of x)
former_child p u t r s c cs h is found e former =
    subst (λ (o : Option Space). IfSome o (λ x. t ≡ top_of x)) (at_child p u s c cs h is found) (subst (λ (y : Top). IfSome (at (onward p) c) (λ x. y ≡ top_of x)) (sym e) former)

pub former_none : (p : List ℕ) (u t : Top) (s : Space) (cs : Children) → 1 ≤ length p → space u cs ≡ s → None ≡ find (get_or p 0 0) cs → IfSome (at p s) (λ x. t ≡ top_of x)
former_none p u t s cs h is found = subst (λ (o : Option Space). IfSome o (λ x. t ≡ top_of x)) (sym (at_none p u s cs h is found)) tt

further : (n : ℕ) (q : List ℕ) (r s : Space) → 1 ≤ length q → with_space (n ∷ q) r s ≡ under (over n (with_space q r)) s
further n [] r s h = absurd (omega arith)
further n (m ∷ q) r s h = refl

onward_long : (p : List ℕ) → 2 ≤ length p → 1 ≤ length (onward p)
onward_long [] h = absurd (omega arith)
onward_long (n ∷ []) h = absurd (omega arith)
onward_long (n ∷ m ∷ q) h = let e : onward (n ∷ m ∷ q) ≡ m ∷ q = take_all _ (m ∷ q) (omega arith) in rw e (omega arith)

-- a child with a space put at the rest of a path
pub placed_child : (p : List ℕ) (r : Space) (u : Top) (s c w : Space) (cs ds : Children) → 2 ≤ length p → space u cs ≡ s → Some c ≡ find (get_or p 0 0) cs
    → w ≡ with_space (onward p) r c → ds ≡ over (get_or p 0 0) (λ _. w) cs → space u ds ≡ with_space p r s
placed_child p r u s c w cs ds h is found we fe =
    let n = get_or p 0 0 in
    let here : find n cs ≡ Some c = sym found in
    ap (space u) fe ∙ ap (space u) (over-at n (λ _. w) (with_space (onward p) r) c cs here we)
    ∙ sym (further n (onward p) r (space u cs) (onward_long p h)) ∙ ap (λ x. with_space x r (space u cs)) (sym (path_is p (omega arith))) ∙ ap (with_space p r) is

-- a child that has not changed
pub same_child : (n : ℕ) (u : Top) (s c w : Space) (cs ds : Children) → space u cs ≡ s → Some c ≡ find n cs → w ≡ c → ds ≡ over n (λ _. w) cs → space u ds ≡ s
same_child n u s c w cs ds is found we fe =
    let here : find n cs ≡ Some c = sym found in
    ap (space u) fe ∙ ap (λ x. space u (over n (λ _. x) cs)) we ∙ ap (space u) (over_itself n c cs here) ∙ is

-- the child of a parent that is there
parent_of : (n : ℕ) (q : List ℕ) (s c : Space) → 1 ≤ length q → HasParent (n ∷ q) s → find n (children_of s) ≡ Some c → HasParent q c
parent_of n [] s c h k e = absurd (omega arith)
parent_of n (m ∷ q) s c h k e = let same : k.0 ≡ c = cc in subst (HasParent (m ∷ q)) same k.2

parent_found : (n : ℕ) (q : List ℕ) (s : Space) → 1 ≤ length q → HasParent (n ∷ q) s → find n (children_of s) ≡ None → ⊥
parent_found n [] s h k e = absurd (omega arith)
parent_found n (m ∷ q) s h k e = let x : find n (children_of s) ≡ Some k.0 = k.1 in cc

pub parent_child : (p : List ℕ) (u : Top) (s c : Space) (cs : Children) → 2 ≤ length p → space u cs ≡ s → Some c ≡ find (get_or p 0 0) cs → HasParent p s → HasParent (onward p) c
parent_child p u s c cs h is found k =
    let n = get_or p 0 0 in
    let here : find n (children_of s) ≡ Some c = ap (λ x. find n (children_of x)) (sym is) ∙ sym found in
    parent_of n (onward p) s c (onward_long p h) (subst (λ (x : List ℕ). HasParent x s) (path_is p (omega arith)) k) here

pub no_parent : (p : List ℕ) (u : Top) (s : Space) (cs : Children) → 2 ≤ length p → space u cs ≡ s → None ≡ find (get_or p 0 0) cs → HasParent p s → ⊥
no_parent p u s cs h is found k =
    let n = get_or p 0 0 in
    let here : find n (children_of s) ≡ None = ap (λ x. find n (children_of x)) (sym is) ∙ sym found in
    parent_found n (onward p) s (onward_long p h) (subst (λ (x : List ℕ). HasParent x s) (path_is p (omega arith)) k) here
