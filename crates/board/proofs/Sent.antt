-- Awaited children that stand elsewhere, as they are sent home one by one.
use Rattle.std.proofs.Common.{◌≡◌, ◌≢◌, ℕ, zero, suc, ◌+◌, ◌≤◌, ◌==◌, ◌||◌, Bool, true, false, List, [], ◌∷◌, ◌++◌, length, take, Some, ◌⊎◌, inl, inr, refl, sym, ap, subst, arith}
use Rattle.std.specs.Prelude.{slice_get}
use Rattle.std.specs.List.{All}
use Rattle.std.proofs.lemmas.Bool.Decides.{nat_tests}
use Rattle.std.proofs.lemmas.List.{take_all}
use Rattle.std.proofs.lemmas.List.Elements.{All-nil, All-cons, All-append, All-weaker}
use Rattle.space_model.specs.declared.Await.{Await}
use Rattle.det_laws.specs.Near.{is_awaited}
use Rattle.node_places.specs.Places.{Places, place_of, home}
use Rattle.path_set.specs.Paths.{Paths, Has}
use Rattle.det_core.specs.Legal.{IsAtHome}
use Rattle.board.specs.Gathering.{AreAway, IsHomeOrAway}
use Rattle.board.specs.Listed.{HasAll}
use Rattle.board.specs.Steps.{IsAwayChild}
use Rattle.board.proofs.Ways.{next_awaited}

or_right : (b x : Bool) → x ≡ true → (b || x) ≡ true
or_right true x h = refl
or_right false x h = h

-- one of a list is awaited
pub named_one : (all : List Await) (i : ℕ) (a : Await) → slice_get all i ≡ Some a → is_awaited a.number all ≡ true
named_one [] i a is = cc
named_one (b ∷ all) zero a is = let same : b ≡ a = cc in here a.number b.number (is_awaited a.number all) (ap (λ (x : Await). x.number) (sym same))
  where
    here : (n m : ℕ) (x : Bool) → n ≡ m → ((n == m) || x) ≡ true
    here n m x e = grind (arith, nat_tests)
named_one (b ∷ all) (suc i) a is = or_right (a.number == b.number) (is_awaited a.number all) (named_one all i a is)

-- what is told of the first so many of them
pub record AreAwaySoFar (ps : Places) (p : List ℕ) (all : List Await) (i : ℕ) (away : Paths) : Type 0 where
  pub only : (q : List ℕ) → Has away q → IsAwayChild ps p all q
  pub each : All (IsHomeOrAway ps p away) (take i all)

pub none_away : (ps : Places) (p : List ℕ) (all : List Await) (away : Paths) → away ≡ [] → AreAwaySoFar ps p all 0 away
none_away ps p all away none = record { only = λ q has. absurd (subst (λ xs. Has xs q) none has); each = All-nil (IsHomeOrAway ps p away) }

pub one_more_away : (ps : Places) (p : List ℕ) (all : List Await) (i : ℕ) (a : Await) (away away' : Paths) → slice_get all i ≡ Some a → AreAwaySoFar ps p all i away → HasAll (Has away') (Has away)
    → ((q : List ℕ) → Has away' q → Has away q ⊎ ((q ≡ p ++ a.number ∷ []) × (place_of ps q ≢ home ps.nodes q)))
    → (IsAtHome ps p a ⊎ Has away' (p ++ a.number ∷ [])) → AreAwaySoFar ps p all (i + 1) away'
one_more_away ps p all i a away away' is so_far more only there = record {
  only = λ q has. by q (only q has);
  each = subst (All (IsHomeOrAway ps p away')) (sym (next_awaited all i a is)) (All-append (IsHomeOrAway ps p away') (take i all) (a ∷ [])
      (All-weaker (IsHomeOrAway ps p away) (IsHomeOrAway ps p away') (λ b h. still b h) (take i all) so_far.each)
      (All-cons (IsHomeOrAway ps p away') a [] there (All-nil (IsHomeOrAway ps p away'))));
}
  where
    by : (q : List ℕ) → Has away q ⊎ ((q ≡ p ++ a.number ∷ []) × (place_of ps q ≢ home ps.nodes q)) → IsAwayChild ps p all q
    by q (inl had) = so_far.only q had
    by q (inr new) = record { number = a.number; is = new.0; awaited = named_one all i a is; away = new.1 }

    still : (b : Await) → IsHomeOrAway ps p away b → IsHomeOrAway ps p away' b
    still b (inl at_home) = inl at_home
    still b (inr has) = inr (more (p ++ b.number ∷ []) has)

pub all_away : (ps : Places) (p : List ℕ) (all : List Await) (i : ℕ) (away : Paths) → length all ≤ i → AreAwaySoFar ps p all i away → AreAway ps p all away
all_away ps p all i away past so_far = record { only = so_far.only; each = subst (All (IsHomeOrAway ps p away)) (take_all i all past) so_far.each }
