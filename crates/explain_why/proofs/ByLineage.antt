-- Who left a value, by a lineage.
use Rattle.std.proofs.Common.{◌≡◌, ◌<◌, ◌≤◌, ◌-◌, ℕ, suc, List, [], ◌∷◌, ◌++◌, length, map, take, drop, get_or, Option, Some, None, Bool, true, false, ◌==◌, if◌then◌else◌, refl, sym, ap, ap₂, ◌∙◌, subst, arith, codes, inl}
use Rattle.std.proofs.lemmas.List.{append-nil, take_all}
use Rattle.space_model.specs.Space.{Space}
use Rattle.explain_core.specs.declared.lineages.LineageLink.{LineageLink}
use Rattle.explain_core.specs.declared.watching.Watched.{Watched}
use Rattle.explain_core.specs.Joins.{joined_path}
use Rattle.explain_core.specs.Lineage.{NotedLink, TellsLineage, child_joined, events_told, noted_link, number_told}
use Rattle.explain_core.specs.Reached.{HasBefore}
use Rattle.explain_core.specs.Watch.{Noted}
use Rattle.explain_why.specs.Origin.{IsLeft, TellsOrigin, by_join, by_none, by_own, where_left}
use Rattle.explain_why.proofs.Origins.{left}

-- an event that left a value is the one that is told of
the_one : (value : ℕ) (o : Option Noted) (c : Noted) → where_left value o ≡ Some c → o ≡ Some c
the_one value None c is = cc
the_one value (Some d) c is = by_test (d.value == value) is
  where
    by_test : (b : Bool) → (if b then Some d else None) ≡ Some c → Some d ≡ Some c
    by_test true is = is
    by_test false is = cc

-- links, of which the first is known
none_linked : (ls : List LineageLink) → length ls < 1 → map noted_link ls ≡ []
none_linked [] few = refl
none_linked (l ∷ ls) few = absurd (omega (arith, few))

pub first_link : (ls : List LineageLink) (l : LineageLink) → l ≡ get_or ls 0 l → 1 ≤ length ls → ls ≡ l ∷ take (length ls - 1) (drop 1 ls)
first_link [] l is some = absurd (omega (arith, some))
first_link (x ∷ ls) l is some = let fits : length ls ≤ suc (length ls) - 1 = omega arith in ap₂ (λ y ys. y ∷ ys) (sym is) (sym (take_all (suc (length ls) - 1) ls fits))

-- of a path without own events
pub no_link : (root : Space) (w : Watched) (p : List ℕ) (to value : ℕ) (word text : List ℕ) (ls : List LineageLink) → length ls < 1 → TellsLineage root w p to (map noted_link ls) → text ≡ word ++ codes " no own event\n" → TellsOrigin root w p to value word text
no_link root w p to value word text ls none tells is = subst (TellsOrigin root w p to value word) (sym is) (by_none p to value word (inl (subst (TellsLineage root w p to) (none_linked ls none) tells)))

module _ (root : Space) (w : Watched) (p : List ℕ) (to value : ℕ) (word : List ℕ) (l : NotedLink) (ls : List NotedLink) (tells : TellsLineage root w p to (l ∷ ls)) where
  its_left : (o : Option Noted) → o ≡ where_left value l.change → IsLeft root p to w value o
  its_left o is = subst (IsLeft root p to w value) (sym is) (left root p to w value l.change tells.0)

  -- no own event left it
  pub none_left : (text : List ℕ) → None ≡ where_left value l.change → text ≡ word ++ codes " no own event\n" → TellsOrigin root w p to value word text
  none_left text none is = subst (TellsOrigin root w p to value word) (sym is) (by_none p to value word (its_left None none))

  -- one that joined no child
  pub left_alone : (c : Noted) (text : List ℕ) → Some c ≡ where_left value l.change → joined_path p w c ≡ None → text ≡ word ++ 32 ∷ (c.line ++ []) → TellsOrigin root w p to value word text
  left_alone c text by alone is = subst (TellsOrigin root w p to value word) (sym (is ∙ ap (λ x. word ++ 32 ∷ x) (append-nil c.line))) (by_own p to value word c (its_left (Some c) by) alone)

  -- one that joined a child, whose lineage the next links are
  joined_child : (c : Noted) (q : List ℕ) → Some c ≡ where_left value l.change → joined_path p w c ≡ Some q → child_joined p w l.change ≡ Some q
  joined_child c q by joins = ap (child_joined p w) (the_one value l.change c (sym by)) ∙ joins

  pub childs : (c : Noted) (q : List ℕ) → Some c ≡ where_left value l.change → joined_path p w c ≡ Some q → TellsLineage root w q (events_told ls) ls
  childs c q by joins = (tells.1 q (joined_child c q by joins)).1

  pub left_by_join : (c : Noted) (q : List ℕ) (rest text : List ℕ) → Some c ≡ where_left value l.change → joined_path p w c ≡ Some q → TellsOrigin root w q (events_told ls) value (codes "through") rest → text ≡ word ++ 32 ∷ (c.line ++ rest)
      → TellsOrigin root w p to value word text
  left_by_join c q rest text by joins through is =
      let number = ap number_told (the_one value l.change c (sym by)) in
      let before = (tells.1 q (joined_child c q by joins)).0 in
      subst (TellsOrigin root w p to value word) (sym is)
      (by_join p to value word c q (events_told ls) rest (its_left (Some c) by) joins (inl (subst (λ n. HasBefore root p n q (events_told ls)) number before)) through)
