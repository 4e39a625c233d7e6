-- Who left a value: the constructors in the words of the code.
use Rattle.std.proofs.Common.{◌≡◌, ◌≤◌, ◌-◌, ◌^◌, ◌⊎◌, ℕ, zero, suc, take, List, [], ◌∷◌, ◌++◌, Option, Some, None, Bool, true, false, ◌==◌, if◌then◌else◌, refl, sym, ap, ◌∙◌, subst, arith, codes, inl, inr}
use Rattle.std.proofs.lemmas.Bool.Decides.{nat_tests}
use Rattle.std.specs.List.{slice_get}
use Rattle.std.proofs.lemmas.List.{append-nil}
use Rattle.space_model.specs.Space.{Space}
use Rattle.space_model.specs.Sound.{IsSound}
use Rattle.event_laws.specs.OwnEvents.{IsOwnEvent, OwnEvent, own_events}
use Rattle.explain_core.specs.declared.watching.Watched.{Watched}
use Rattle.explain_core.specs.Beside.{all}
use Rattle.explain_core.specs.Reached.{HasAtLeast, HasSoMany, NeverHappens, TellsLast}
use Rattle.explain_core.specs.Watch.{Noted}
use Rattle.explain_core.proofs.EventsBefore.{ended}
use Rattle.explain_why.specs.declared.origin.Sought.{Sought}
use Rattle.explain_core.specs.Joins.{joined_path}
use Rattle.explain_why.specs.Origin.{IsLeft, IsLeftBy, IsLeftByNone, TellsOrigin, by_join, by_none, by_own, where_left}
use Rattle.explain_why.specs.Sought.{IsSoughtBelow}
use Rattle.explain_why.specs.Why.{all_events}

not_same : (x y : ℕ) → (x == y) ≡ false → x ≡ y → ⊥
not_same x y other e = grind (arith, nat_tests)

-- the last event that changed what is watched tells who left the value, or that none did
pub left : (root : Space) (p : List ℕ) (to : ℕ) (w : Watched) (value : ℕ) (o : Option Noted) → TellsLast root p to w o → IsLeft root p to w value (where_left value o)
left root p to w value None never = inl never
left root p to w value (Some c) told = by_test (c.value == value) refl
  where
    by_test : (b : Bool) → (c.value == value) ≡ b → IsLeft root p to w value (if c.value == value then Some c else None)
    by_test true same = rw same (record { last = told; same = grind (arith, nat_tests) })
    by_test false other = rw other (inr (c, told, λ e. not_same (c.value) value other e))

-- in the words of a copy of the tree
pub left_in_copy : (root tree : Space) (p : List ℕ) (to : ℕ) (w : Watched) (value : ℕ) (o found : Option Noted) → tree ≡ root → TellsLast tree p to w o → found ≡ where_left value o → IsLeft root p to w value found
left_in_copy root tree p to w value o found is told kept = subst (IsLeft root p to w value) (sym kept) (left root p to w value o (subst (λ t. TellsLast t p to w o) is told))

in_front : (xs : List OwnEvent) (n k : ℕ) (e : OwnEvent) → slice_get (take n xs) k ≡ Some e → slice_get xs k ≡ Some e
in_front xs zero k e is = cc
in_front [] (suc n) k e is = cc
in_front (x ∷ xs) (suc n) zero e is = is
in_front (x ∷ xs) (suc n) (suc k) e is = in_front xs n k e is

-- a schedule has the own event behind so many others at a path
abbrev Happens : Space → List ℕ → ℕ → Type 0
Happens root p k = (ps : List (List ℕ)) × (e : OwnEvent) × IsOwnEvent ps root p k e

-- an event that is told of happens
pub happens : (root : Space) (p : List ℕ) (to : ℕ) (w : Watched) (value : ℕ) (c : Noted) → IsSound root → IsLeftBy root p to w value c → Happens root p (c.number - 1) × (1 ≤ c.number)
happens root p to w value c sound is =
    let full = ended root sound in
    let told = is.last full.0 full.1 in
    let number : c.number ≡ suc told.0 = ap (λ (n : Noted). n.number) told.3 in
    let here : c.number - 1 ≡ told.0 = omega (arith, number) in
    ((full.0, told.1, ap (slice_get (own_events p full.0 root)) here ∙ in_front (own_events p full.0 root) to told.0 told.1 told.2.event), omega (arith, number))

-- ---- the child that it joined

-- as many own events of a path as a number of 64 bits can count
counted : (root : Space) (q : List ℕ) → HasAtLeast root q all → HasSoMany root q (2 ^ 64 - 1)
counted root q most ps none = let long = most ps none in omega (arith, long)

-- there are as many as can be counted
pub sought_of_all : (root tree : Space) (s below : Sought) (c : Noted) → tree ≡ root → IsSound root → IsLeftBy root s.path.items s.to s.watched s.value c → joined_path s.path.items s.watched c ≡ Some below.path.items
    → NeverHappens tree s.path.items (c.number - 1) ⊎ HasAtLeast tree below.path.items all → below.watched ≡ s.watched → below.value ≡ s.value → IsSoughtBelow root s c below
sought_of_all root tree s below c is sound by path (inl never) watched value =
    let there = happens root s.path.items s.to s.watched s.value c sound by in absurd (subst (λ t. NeverHappens t s.path.items (c.number - 1)) is never there.0.0 there.0.1 there.0.2)
sought_of_all root tree s below c is sound by path (inr most) watched value = record {
  path = path;
  before = inr (counted root below.path.items (subst (λ t. HasAtLeast t below.path.items all) is most));
  watched = watched;
  value = value;
}

-- ---- what is told

pub told_none : (root : Space) (s : Sought) (word text : List ℕ) → IsLeftByNone root s.path.items s.to s.watched s.value → text ≡ word ++ codes " no own event\n" → TellsOrigin root s.watched s.path.items s.to s.value word text
told_none root s word text none is = subst (TellsOrigin root s.watched s.path.items s.to s.value word) (sym is) (by_none s.path.items s.to s.value word none)

pub told_own : (root : Space) (s : Sought) (word text : List ℕ) (c : Noted) → IsLeftBy root s.path.items s.to s.watched s.value c → joined_path s.path.items s.watched c ≡ None → text ≡ word ++ 32 ∷ (c.line ++ []) → TellsOrigin root s.watched s.path.items s.to s.value word text
told_own root s word text c by alone is = subst (TellsOrigin root s.watched s.path.items s.to s.value word) (sym (is ∙ ap (λ l. word ++ 32 ∷ l) (append-nil c.line))) (by_own s.path.items s.to s.value word c by alone)

pub told_join : (root : Space) (s below : Sought) (word text rest : List ℕ) (c : Noted) → IsLeftBy root s.path.items s.to s.watched s.value c → IsSoughtBelow root s c below
    → TellsOrigin root below.watched below.path.items below.to below.value (codes "through") rest → text ≡ word ++ 32 ∷ (c.line ++ rest) → TellsOrigin root s.watched s.path.items s.to s.value word text
told_join root s below word text rest c by is through lines =
    let same = subst (λ v. TellsOrigin root s.watched below.path.items below.to v (codes "through") rest) is.value (subst (λ w. TellsOrigin root w below.path.items below.to below.value (codes "through") rest) is.watched through) in
    subst (TellsOrigin root s.watched s.path.items s.to s.value word) (sym lines) (by_join s.path.items s.to s.value word c below.path.items below.to rest by is.path is.before same)

-- ---- the byte at an address, of all own events

-- in the words of what is sought
pub sought_left : (root : Space) (p : List ℕ) (w : Watched) (s : Sought) (o found : Option Noted) → s.path.items ≡ p → s.to ≡ all_events → s.watched ≡ w → TellsLast root p all_events w o → found ≡ where_left s.value o → IsLeft root s.path.items s.to s.watched s.value found
sought_left root p w s o found path to watched tells is =
    subst (λ q. IsLeft root q s.to s.watched s.value found) (sym path)
    (subst (λ n. IsLeft root p n s.watched s.value found) (sym to) (subst (λ v. IsLeft root p all_events v s.value found) (sym watched) (subst (IsLeft root p all_events w s.value) (sym is) (left root p all_events w s.value o tells))))

pub sought_told : (root : Space) (p : List ℕ) (w : Watched) (value : ℕ) (word text : List ℕ) (s : Sought) → s.path.items ≡ p → (s.to ≡ all_events) × (s.watched ≡ w) × (s.value ≡ value) → TellsOrigin root s.watched s.path.items s.to s.value word text
    → TellsOrigin root w p all_events value word text
sought_told root p w value word text s path rest tells =
    subst (λ q. TellsOrigin root w q all_events value word text) path
    (subst (λ n. TellsOrigin root w s.path.items n value word text) rest.0 (subst (λ v. TellsOrigin root v s.path.items s.to value word text) rest.1 (subst (λ v. TellsOrigin root s.watched s.path.items s.to v word text) rest.2 tells)))
