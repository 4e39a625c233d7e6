-- The paths of a tree, one after the other.
use Rattle.std.proofs.Common.{◌≡◌, ◌<◌, ◌-◌, ℕ, zero, suc, false, List, [], ◌∷◌, ◌++◌, length, length-append, map, refl, sym, ap, ap₂, ◌∙◌, subst, arith, append_assoc}
use Rattle.std.proofs.lemmas.List.{append-nil, map-append}
use Rattle.arrayvec.specs.ArrayVec.{ArrayVec}
use Rattle.std.specs.declared.boxed.Box.{Box}
use Rattle.std.specs.declared.alloc.Global.{Global}
use Rattle.space_model.specs.Space.{Space, space, Top}
use Rattle.space_model.specs.Sound.{IsSoundAt, AreSound}
use Rattle.space_model.specs.Encoding.{size_of, sizes}
use Rattle.space_tree.specs.Kept.{children_in}
use Rattle.demand_eval.specs.Turns.{IsSoundBelow}
use Rattle.explain_why.specs.Parts.{paths_from, paths_below}

-- what stands behind `old` are the paths of s and of all below it but these children
pub record IsLeft (p : List ℕ) (old : List (List ℕ)) (s : Space) (found : List (List ℕ)) (es : List (ℕ × Box Space Global)) : Type 0 where
  pub below : sizes (children_in es) < size_of s
  pub fuel : ℕ
  pub least : ℕ
  pub sound : AreSound (8 - length p) fuel least (children_in es)
  pub rest : found ++ paths_below p (children_in es) ≡ old ++ paths_from p s

own_first : (p : List ℕ) (t : Top) (es : List (ℕ × Box Space Global)) (old : List (List ℕ)) → (old ++ p ∷ []) ++ paths_below p (children_in es) ≡ old ++ paths_from p (space t (children_in es))
unfolding paths_from
own_first p t es old = append_assoc old (p ∷ []) (paths_below p (children_in es))

pub left_first : (p : List ℕ) (t : Top) (s : Space) (es : List (ℕ × Box Space Global)) (old found : List (List ℕ)) → space t (children_in es) ≡ s → IsSoundBelow (8 - length p) s → found ≡ old ++ p ∷ [] → IsLeft p old s found es
unfolding size_of
left_first p t s es old found e ok is = subst (λ r. IsLeft p old r found es) e record {
  below = omega arith;
  fuel = ok.fuel;
  least = 0;
  sound = (subst (IsSoundAt (8 - length p) ok.root ok.fuel) (sym e) ok.sound).1;
  rest = ap (λ v. v ++ paths_below p (children_in es)) is ∙ own_first p t es old;
}

pub record IsNextChild (p : List ℕ) (s : Space) (n : ℕ) (c : Space) : Type 0 where
  pub size : size_of c < size_of s
  pub room : length p < 8
  pub sound : IsSoundBelow (8 - length (p ++ n ∷ [])) c

pub left_child : (p : List ℕ) (e : ℕ × Box Space Global) (es : List (ℕ × Box Space Global)) (old found : List (List ℕ)) (s : Space) → IsLeft p old s found (e ∷ es) → IsNextChild p s e.0 e.1.value
unfolding size_of
left_child p e es old found s h = go (8 - length p) refl h.sound
  where
    go : (levels : ℕ) → 8 - length p ≡ levels → AreSound levels h.fuel h.least (children_in (e ∷ es)) → IsNextChild p s e.0 e.1.value
    go zero is ok = absurd ok
    go (suc levels) is ok =
        let below = h.below in
        let long = length-append p (e.0 ∷ []) in
        let here : levels ≡ 8 - length (p ++ e.0 ∷ []) = omega (arith, is, long) in
        record { size = omega (arith, below); room = omega (arith, is); sound = record { root = false; fuel = h.fuel; sound = subst (λ k. IsSoundAt k false h.fuel e.1.value) here ok.2 } }

child_first : (p : List ℕ) (e : ℕ × Box Space Global) (es : List (ℕ × Box Space Global)) (found : List (List ℕ)) → found ++ paths_below p (children_in (e ∷ es)) ≡ (found ++ paths_from (p ++ e.0 ∷ []) e.1.value) ++ paths_below p (children_in es)
unfolding paths_from
child_first p e es found = sym (append_assoc found (paths_from (p ++ e.0 ∷ []) e.1.value) (paths_below p (children_in es)))

pub left_next : (p : List ℕ) (e : ℕ × Box Space Global) (es : List (ℕ × Box Space Global)) (old found after : List (List ℕ)) (s : Space) → IsLeft p old s found (e ∷ es)
    → after ≡ found ++ paths_from (p ++ e.0 ∷ []) e.1.value → IsLeft p old s after es
unfolding size_of
left_next p e es old found after s h is = go (8 - length p) refl h.sound
  where
    go : (levels : ℕ) → 8 - length p ≡ levels → AreSound levels h.fuel h.least (children_in (e ∷ es)) → IsLeft p old s after es
    go zero same ok = absurd ok
    go (suc levels) same ok = let below = h.below in record {
      below = omega (arith, below);
      fuel = h.fuel;
      least = suc e.0;
      sound = subst (λ k. AreSound k h.fuel (suc e.0) (children_in es)) (sym same) ok.3;
      rest = ap (λ v. v ++ paths_below p (children_in es)) is ∙ sym (child_first p e es found) ∙ h.rest;
    }

pub left_none : (p : List ℕ) (old found : List (List ℕ)) (s : Space) → IsLeft p old s found [] → found ≡ old ++ paths_from p s
unfolding paths_from
left_none p old found s h = sym (append-nil found) ∙ h.rest

-- a path behind others
pub pushed : (old new : List (ArrayVec ℕ)) (x : ArrayVec ℕ) (p : List ℕ) → new ≡ old ++ x ∷ [] → x.items ≡ p → map (λ q. q.items) new ≡ map (λ q. q.items) old ++ p ∷ []
pushed old new x p grown is =
    ap (map (λ (q : ArrayVec ℕ). q.items)) grown ∙ map-append (λ (q : ArrayVec ℕ). q.items) old (x ∷ []) ∙ ap (λ q. map (λ (r : ArrayVec ℕ). r.items) old ++ q ∷ []) is

-- in the words of the path that the child has
pub child_sound : (p below : List ℕ) (n : ℕ) (s c d : Space) → IsNextChild p s n c → below ≡ p ++ n ∷ [] → d ≡ c → IsSoundBelow (8 - length below) d
child_sound p below n s c d next is same = subst (λ q. IsSoundBelow (8 - length q) d) (sym is) (subst (IsSoundBelow (8 - length (p ++ n ∷ []))) (sym same) next.sound)

pub child_paths : (p below : List ℕ) (n : ℕ) (c d : Space) (found after : List (List ℕ)) → below ≡ p ++ n ∷ [] → d ≡ c → after ≡ found ++ paths_from below d → after ≡ found ++ paths_from (p ++ n ∷ []) c
child_paths p below n c d found after is same grown = grown ∙ ap₂ (λ q r. found ++ paths_from q r) is same
