-- A child and the space above it go on together: what that says of the own events of both.
use Rattle.std.proofs.Common.{◌≡◌, ℕ, ◌+◌, ◌-◌, ◌≤◌, ◌<◌, Bool, List, [], ◌∷◌, ◌++◌, length, min, Some, None, false, true, refl, sym, ◌∙◌, subst, arith, inl, inr, ◌⊎◌}
use Rattle.std.proofs.lemmas.Bool.Decides.{nat_tests}
use Rattle.std.specs.Prelude.{nat_le}
use Rattle.event_laws.specs.OwnEvents.{own_events}
use Rattle.space_model.specs.Space.{Space, space, Top, Children, find, over}
use Rattle.space_model.specs.Sound.{IsSound}
use Rattle.explain_core.specs.declared.beside.BothAsked.{BothAsked}
use Rattle.explain_core.specs.declared.beside.Side.{Side}
use Rattle.explain_core.specs.declared.beside.Sides.{Sides}
use Rattle.explain_core.specs.declared.going.Turn.{Turn}
use Rattle.explain_core.specs.declared.watching.Asked.{Asked}
use Rattle.explain_core.specs.declared.watching.Watched.{Watched}
use Rattle.explain_core.specs.Beside.{AreAtFirst, ComeBoth, ComeBothBelow, ComesSo, ComesSoBelow, IsAll, IsAskedFor, IsAtFirst, IsLeft, OneEnds, all, child_of}
use Rattle.explain_core.specs.Going.{HasCome, SoFar, TakesTurn, TellsTurn}
use Rattle.explain_core.specs.Reached.{HasAtLeast, HasFewerThan, HasSoMany, TellsMoment}
use Rattle.explain_core.specs.Watch.{Kept, kept_of, nothing_kept}
use Rattle.explain_core.proofs.Coming.{at_first, come_at_end, come_child, come_itself, come_on, come_stopped, far_child, more, none_child, one_turn, so_many, turn_above}
use Rattle.explain_core.proofs.LastChange.{moment_kept}

-- so many own events of both so far, and what is kept of them, and some of both are left
pub record BothSoFar (levels : ℕ) (p : List ℕ) (number : ℕ) (a : BothAsked) (old mid : Sides) (s now : Space) : Type 0 where
  pub below : SoFar levels (child_of p number) a.below old.below.left mid.below.left (kept_of old.below.kept) (kept_of mid.below.kept) s now
  pub above : SoFar levels p a.above old.above.left mid.above.left (kept_of old.above.kept) (kept_of mid.above.kept) s now
  pub left : IsAskedFor a mid

pub both_at_first : (levels : ℕ) (p : List ℕ) (number : ℕ) (a : BothAsked) (old : Sides) (s : Space) → IsAskedFor a old → BothSoFar levels p number a old old s s
both_at_first levels p number a old s asked = record {
  below = at_first levels (child_of p number) a.below old.below.left (kept_of old.below.kept) s;
  above = at_first levels p a.above old.above.left (kept_of old.above.kept) s;
  left = asked;
}

-- ---- a space and its child

-- some of the child's are left
left_below : (levels : ℕ) (p : List ℕ) (a : Asked) (old new : Side) (s now : Space) → IsLeft a old → ComesSoBelow levels p a old new s now → 1 ≤ new.left → IsLeft a new
left_below levels p a old new s now asked come some = let count = come.count in let within = asked.within in record { some = some; within = omega (arith, count, within) }

-- and of the space's own
left_above : (a : Asked) (old new : Side) (events : ℕ) → IsLeft a old → new.left + events ≡ old.left → 1 ≤ new.left → IsLeft a new
left_above a old new events asked rest some = let within = asked.within in record { some = some; within = omega (arith, rest, within) }

-- the child goes on, of whose events the space has none
above_waits : (levels n : ℕ) (a : BothAsked) (old mid : Sides) (new : Side) (s t u : Space) → IsAskedFor a old → BothSoFar levels [] n a old mid s t → ComesSoBelow levels (n ∷ []) a.below mid.below new t u
    → SoFar levels [] a.above old.above.left mid.above.left (kept_of old.above.kept) (kept_of mid.above.kept) s u
above_waits levels n a old mid new s t u asked far come =
    more levels [] a.above old.above.left mid.above.left mid.above.left (kept_of old.above.kept) (kept_of mid.above.kept) (kept_of mid.above.kept) s t u [] asked.above.within far.above come.itself (omega arith) refl

pub beside_more : (levels n : ℕ) (a : BothAsked) (old mid new : Sides) (turn : Turn) (s t u v : Space) → IsAskedFor a old → BothSoFar levels [] n a old mid s t → ComesSoBelow levels (n ∷ []) a.below mid.below new.below t u → 1 ≤ new.below.left
    → TellsTurn levels mid.above.left a.above turn (kept_of mid.above.kept) (kept_of new.above.kept) u v → new.above.left + turn.events ≡ mid.above.left → 1 ≤ new.above.left → BothSoFar levels [] n a old new s v
beside_more levels n a old mid new turn s t u v asked far come some tells rest more_above = record {
  below = turn_above levels mid.above.left n a.below old.below.left mid.below.left new.below.left [] (kept_of old.below.kept) (kept_of mid.below.kept) (kept_of new.below.kept) turn s t u v asked.below.within far.below come some tells.takes;
  above = one_turn levels a.above old.above.left mid.above.left new.above.left turn (kept_of old.above.kept) (kept_of mid.above.kept) (kept_of new.above.kept) s u v asked.above.within (above_waits levels n a old mid new.below s t u asked far come) tells rest;
  left = record { below = left_below levels (n ∷ []) a.below mid.below new.below t u far.left.below come some; above = left_above a.above mid.above new.above turn.events far.left.above rest more_above };
}

pub beside_stopped : (levels n : ℕ) (a : BothAsked) (old mid new : Sides) (turn : Turn) (s t u v : Space) → IsAskedFor a old → BothSoFar levels [] n a old mid s t → ComesSoBelow levels (n ∷ []) a.below mid.below new.below t u → 1 ≤ new.below.left
    → TellsTurn levels mid.above.left a.above turn (kept_of mid.above.kept) (kept_of new.above.kept) u v → new.above.left + turn.events ≡ mid.above.left → 1 ≤ new.above.left → turn.stopped ≡ true → ComeBoth levels [] n a old new s v
beside_stopped levels n a old mid new turn s t u v asked far come some tells rest more_above stops = record {
  below = come_stopped levels mid.above.left n a.below old.below.left mid.below.left new.below.left [] (kept_of old.below.kept) (kept_of mid.below.kept) (kept_of new.below.kept) turn s t u v asked.below.within far.below come some tells.takes stops;
  above = come_itself levels a.above old.above.left mid.above.left new.above.left turn (kept_of old.above.kept) (kept_of mid.above.kept) (kept_of new.above.kept) s u v asked.above.within (above_waits levels n a old mid new.below s t u asked far come) tells rest
      far.left.above.some (λ e. stops);
  left = record { below = left_below levels (n ∷ []) a.below mid.below new.below t u far.left.below come some; above = left_above a.above mid.above new.above turn.events far.left.above rest more_above };
}

-- none of the child's are left
pub child_ends : (levels n : ℕ) (a : BothAsked) (old mid new : Sides) (s t u : Space) → IsAskedFor a old → BothSoFar levels [] n a old mid s t → ComesSoBelow levels (n ∷ []) a.below mid.below new.below t u → new.below.left ≡ 0 → OneEnds levels [] n a old new s u
child_ends levels n a old mid new s t u asked far come none = inl (
    record {
      below = come_on levels a.below old.below.left mid.below.left new.below.left (n ∷ []) (kept_of old.below.kept) (kept_of mid.below.kept) (kept_of new.below.kept) s t u asked.below.within far.below far.left.below.some
          (come_at_end levels a.below mid.below.left new.below.left (n ∷ []) (kept_of mid.below.kept) (kept_of new.below.kept) t u none come);
      none = none;
    })

-- none of the space's own
pub itself_ends : (levels n : ℕ) (a : BothAsked) (old mid new : Sides) (turn : Turn) (s t u v : Space) → IsAskedFor a old → BothSoFar levels [] n a old mid s t → ComesSoBelow levels (n ∷ []) a.below mid.below new.below t u → 1 ≤ new.below.left
    → TellsTurn levels mid.above.left a.above turn (kept_of mid.above.kept) (kept_of new.above.kept) u v → new.above.left + turn.events ≡ mid.above.left → new.above.left ≡ 0 → OneEnds levels [] n a old new s v
itself_ends levels n a old mid new turn s t u v asked far come some tells rest none = inr (
    record {
      above = come_itself levels a.above old.above.left mid.above.left new.above.left turn (kept_of old.above.kept) (kept_of mid.above.kept) (kept_of new.above.kept) s u v asked.above.within (above_waits levels n a old mid new.below s t u asked far come) tells rest
          far.left.above.some (λ more. absurd (omega (arith, more, none)));
      none = none;
      below = turn_above levels mid.above.left n a.below old.below.left mid.below.left new.below.left [] (kept_of old.below.kept) (kept_of mid.below.kept) (kept_of new.below.kept) turn s t u v asked.below.within far.below come some tells.takes;
      left = left_below levels (n ∷ []) a.below mid.below new.below t u far.left.below come some;
    })

-- ---- further down

pub through_ends : (levels number : ℕ) (p : List ℕ) (a : BothAsked) (old mid new : Sides) (s t u : Space) → IsAskedFor a old → BothSoFar levels p number a old mid s t → OneEnds levels p number a mid new t u → OneEnds levels p number a old new s u
through_ends levels number p a old mid new s t u asked far (inl ends) = inl (
    record {
      below = come_on levels a.below old.below.left mid.below.left new.below.left (child_of p number) (kept_of old.below.kept) (kept_of mid.below.kept) (kept_of new.below.kept) s t u asked.below.within far.below far.left.below.some ends.below;
      none = ends.none;
    })
through_ends levels number p a old mid new s t u asked far (inr ends) =
    let later = ends.below in inr (
    record {
      above = come_on levels a.above old.above.left mid.above.left new.above.left p (kept_of old.above.kept) (kept_of mid.above.kept) (kept_of new.above.kept) s t u asked.above.within far.above far.left.above.some ends.above;
      none = ends.none;
      below = more levels (child_of p number) a.below old.below.left mid.below.left new.below.left (kept_of old.below.kept) (kept_of mid.below.kept) (kept_of new.below.kept) s t u later.own asked.below.within far.below later.goes later.count later.kept;
      left = ends.left;
    })

pub child_below_ends : (depth first number : ℕ) (rest : List ℕ) (a : BothAsked) (old new : Sides) (t : Top) (s c d : Space) (cs : Children) → space t cs ≡ s → Some c ≡ find first cs → OneEnds (8 - (depth + 1)) rest number a old new c d
    → OneEnds (8 - depth) (first ∷ rest) number a old new s (space t (over first (λ x. d) cs))
child_below_ends depth first number rest a old new t s c d cs is found (inl ends) = inl (
    record {
      below = come_at_end (8 - depth) a.below old.below.left new.below.left (first ∷ (rest ++ number ∷ [])) (kept_of old.below.kept) (kept_of new.below.kept) s (space t (over first (λ x. d) cs)) ends.none
          (come_child depth first a.below old.below.left new.below.left (rest ++ number ∷ []) (kept_of old.below.kept) (kept_of new.below.kept) t s c d cs is found ends.below);
      none = ends.none;
    })
child_below_ends depth first number rest a old new t s c d cs is found (inr ends) = inr (
    record {
      above = come_at_end (8 - depth) a.above old.above.left new.above.left (first ∷ rest) (kept_of old.above.kept) (kept_of new.above.kept) s (space t (over first (λ x. d) cs)) ends.none
          (come_child depth first a.above old.above.left new.above.left rest (kept_of old.above.kept) (kept_of new.above.kept) t s c d cs is found ends.above);
      none = ends.none;
      below = far_child depth first a.below old.below.left new.below.left (rest ++ number ∷ []) (kept_of old.below.kept) (kept_of new.below.kept) t s c d cs is found ends.below;
      left = ends.left;
    })

pub through_more : (levels most first number : ℕ) (rest : List ℕ) (a : BothAsked) (old mid new : Sides) (turn : Turn) (s t u v : Space) → IsAskedFor a old → BothSoFar levels (first ∷ rest) number a old mid s t
    → ComeBothBelow levels (first ∷ rest) number a mid new t u → TakesTurn levels most turn u v → BothSoFar levels (first ∷ rest) number a old new s v
through_more levels most first number rest a old mid new turn s t u v asked far come takes = record {
  below = turn_above levels most first a.below old.below.left mid.below.left new.below.left (rest ++ number ∷ []) (kept_of old.below.kept) (kept_of mid.below.kept) (kept_of new.below.kept) turn s t u v asked.below.within far.below come.below come.left.below.some takes;
  above = turn_above levels most first a.above old.above.left mid.above.left new.above.left rest (kept_of old.above.kept) (kept_of mid.above.kept) (kept_of new.above.kept) turn s t u v asked.above.within far.above come.above come.left.above.some takes;
  left = come.left;
}

pub through_stopped : (levels most first number : ℕ) (rest : List ℕ) (a : BothAsked) (old mid new : Sides) (turn : Turn) (s t u v : Space) → IsAskedFor a old → BothSoFar levels (first ∷ rest) number a old mid s t
    → ComeBothBelow levels (first ∷ rest) number a mid new t u → TakesTurn levels most turn u v → turn.stopped ≡ true → ComeBoth levels (first ∷ rest) number a old new s v
through_stopped levels most first number rest a old mid new turn s t u v asked far come takes stops = record {
  below = come_stopped levels most first a.below old.below.left mid.below.left new.below.left (rest ++ number ∷ []) (kept_of old.below.kept) (kept_of mid.below.kept) (kept_of new.below.kept) turn s t u v asked.below.within far.below come.below come.left.below.some takes stops;
  above = come_stopped levels most first a.above old.above.left mid.above.left new.above.left rest (kept_of old.above.kept) (kept_of mid.above.kept) (kept_of new.above.kept) turn s t u v asked.above.within far.above come.above come.left.above.some takes stops;
  left = come.left;
}

pub child_both : (depth first number : ℕ) (rest : List ℕ) (a : BothAsked) (old new : Sides) (t : Top) (s c d : Space) (cs : Children) → space t cs ≡ s → Some c ≡ find first cs → ComeBoth (8 - (depth + 1)) rest number a old new c d
    → ComeBothBelow (8 - depth) (first ∷ rest) number a old new s (space t (over first (λ x. d) cs))
child_both depth first number rest a old new t s c d cs is found come = record {
  below = come_child depth first a.below old.below.left new.below.left (rest ++ number ∷ []) (kept_of old.below.kept) (kept_of new.below.kept) t s c d cs is found come.below;
  above = come_child depth first a.above old.above.left new.above.left rest (kept_of old.above.kept) (kept_of new.above.kept) t s c d cs is found come.above;
  left = come.left;
}

pub no_child : (depth first number : ℕ) (rest : List ℕ) (a : BothAsked) (old : Sides) (t : Top) (s : Space) (cs : Children) → IsAskedFor a old → space t cs ≡ s → None ≡ find first cs
    → ComeBothBelow (8 - depth) (first ∷ rest) number a old old s (space t cs)
no_child depth first number rest a old t s cs asked is found = record {
  below = none_child depth first a.below old.below.left (rest ++ number ∷ []) (kept_of old.below.kept) t s cs is found;
  above = none_child depth first a.above old.above.left rest (kept_of old.above.kept) t s cs is found;
  left = asked;
}

-- ---- all of a tree

pub all_left : (a : Asked) (p : List ℕ) (w : Watched) (s : Side) → IsAll p w a → IsAtFirst s → IsLeft a s
all_left a p w s is first = let to = is.to in let left = first.left in record { some = omega (arith, left); within = omega (arith, left, to) }

pub both_left : (a : BothAsked) (p q : List ℕ) (w : Watched) (s : Sides) → IsAll p w a.below × IsAll q w a.above → AreAtFirst s → IsAskedFor a s
both_left a p q w s is first = record { below = all_left a.below p w s.below is.0 first.0; above = all_left a.above q w s.above is.1 first.1 }

side_told : (start now : Space) (p q : List ℕ) (a : Asked) (w : Watched) (old new : Side) → IsAll q w a → IsSound start → IsAtFirst old → ComesSo 8 p a old new start now → TellsMoment start p all w new.kept.last
side_told start now p q a w old new is sound first come =
    let from = is.from in
    let whole : HasCome 8 p a a.to new.left nothing_kept (kept_of new.kept) start now =
    subst (λ n. HasCome 8 p a n new.left nothing_kept (kept_of new.kept) start now) (first.left ∙ sym is.to) (subst (λ k. HasCome 8 p a old.left new.left k (kept_of new.kept) start now) first.kept come) in
    subst (λ n. TellsMoment start p n w new.kept.last) is.to (moment_kept start now p a w new.left new.kept is.noticing (omega (arith, from)) sound whole)

fewer_of : (left n : ℕ) → 1 ≤ left → left ≤ all → all - left ≡ min all n → n < all
fewer_of left n some within is = by_order (nat_le all n) refl
  where
    by_order : (b : Bool) → nat_le all n ≡ b → n < all
    by_order true e = let capped : min all n ≡ all = grind (arith, nat_tests, e) in absurd (omega (arith, some, within, is, capped))
    by_order false e = grind (arith, nat_tests, e)

-- what is counted of a side
side_counted : (start now : Space) (p q : List ℕ) (a : Asked) (w : Watched) (old : Side) (kept : Kept) (left : ℕ) → IsAll q w a → IsSound start → IsAtFirst old → HasCome 8 p a old.left left (kept_of old.kept) kept start now → HasSoMany start p (all - left)
side_counted start now p q a w old kept left is sound first come =
    so_many start now p a left kept is.to sound (subst (λ n. HasCome 8 p a n left nothing_kept kept start now) (first.left ∙ sym is.to) (subst (λ k. HasCome 8 p a old.left left k kept start now) first.kept come))

side_fewer : (start now : Space) (p q : List ℕ) (a : Asked) (w : Watched) (old new : Side) → IsAll q w a → IsSound start → IsAtFirst old → IsLeft a new → ComesSo 8 p a old new start now → HasFewerThan start p all
side_fewer start now p q a w old new is sound first left come ps ended =
    let to = is.to in
    let within = left.within in fewer_of new.left (length (own_events p ps start)) left.some (omega (arith, within, to)) (side_counted start now p q a w old (kept_of new.kept) new.left is sound first come ps ended)

-- none are left
pub side_out : (start now : Space) (p q : List ℕ) (a : Asked) (w : Watched) (old new : Side) → IsAll q w a → IsSound start → IsAtFirst old → new.left ≡ 0 → ComesSo 8 p a old new start now → HasAtLeast start p all
side_out start now p q a w old new is sound first none come ps ended =
    let whole : HasCome 8 p a old.left 0 (kept_of old.kept) (kept_of new.kept) start now = subst (λ n. HasCome 8 p a old.left n (kept_of old.kept) (kept_of new.kept) start now) none come in
    let counted = side_counted start now p q a w old (kept_of new.kept) 0 is sound first whole ps ended in
    grind (arith, counted)

pub both_fewer : (start now : Space) (p q : List ℕ) (number : ℕ) (a : BothAsked) (w : Watched) (old new : Sides) → q ≡ child_of p number → IsAll q w a.below × IsAll p w a.above → IsSound start → AreAtFirst old
    → ComeBoth 8 p number a old new start now → HasFewerThan start q all × HasFewerThan start p all
both_fewer start now p q number a w old new child is sound first come = (
  subst (λ r. HasFewerThan start r all) (sym child) (side_fewer start now (child_of p number) q a.below w old.below new.below is.0 sound first.0 come.left.below come.below),
  side_fewer start now p p a.above w old.above new.above is.1 sound first.1 come.left.above come.above,
)

pub one_out : (start now : Space) (p q : List ℕ) (number : ℕ) (a : BothAsked) (w : Watched) (old new : Sides) → q ≡ child_of p number → IsAll q w a.below × IsAll p w a.above → IsSound start → AreAtFirst old
    → OneEnds 8 p number a old new start now → HasAtLeast start q all ⊎ HasAtLeast start p all
one_out start now p q number a w old new child is sound first (inl ends) = inl (subst (λ r. HasAtLeast start r all) (sym child) (side_out start now (child_of p number) q a.below w old.below new.below is.0 sound first.0 ends.none ends.below))
one_out start now p q number a w old new child is sound first (inr ends) = inr (side_out start now p p a.above w old.above new.above is.1 sound first.1 ends.none ends.above)

pub both_told : (start now : Space) (p q : List ℕ) (number : ℕ) (a : BothAsked) (w : Watched) (old new : Sides) → q ≡ child_of p number → IsAll q w a.below × IsAll p w a.above → IsSound start → AreAtFirst old
    → ComeBoth 8 p number a old new start now → TellsMoment start q all w new.below.kept.last × TellsMoment start p all w new.above.kept.last
both_told start now p q number a w old new child is sound first come = (
  subst (λ r. TellsMoment start r all w new.below.kept.last) (sym child) (side_told start now (child_of p number) q a.below w old.below new.below is.0 sound first.0 come.below),
  side_told start now p p a.above w old.above new.above is.1 sound first.1 come.above,
)
