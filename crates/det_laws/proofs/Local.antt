-- Local events of the space at a path: they are steps of a schedule, and change the top at that path alone.
use Rattle.std.proofs.Common.{◌≡◌, ℕ, zero, suc, pred, ◌-◌, true, List, [], ◌∷◌, length, Option, Some, None, refl, sym, ◌∙◌, ap, arith, subst}
use Rattle.std.specs.Prelude.{option_and_then}
use Rattle.space_model.specs.Space.{Top, Space, space, top_of, find}
use Rattle.space_model.specs.Path.{at, replace_top, with_top}
use Rattle.space_model.specs.Event.{next, moves, Follows}
use Rattle.space_model.proofs.Children.{over-at}
use Rattle.run_model.specs.Schedule.{on_child, is_enabled, step}
use Rattle.det_laws.specs.Leads.{Leads, Reaches, in_a_row}
use Rattle.det_laws.specs.Tree.{MayAllHappen, after_all}
use Rattle.det_laws.proofs.Tops.{stands_there, last_stays, puts_itself}

-- what is next of the space at a path
abbrev GoesOnTo : ℕ → List ℕ → Space → Top → Type 0
GoesOnTo levels p c v = next (levels - length p) (top_of c) ≡ moves v

pub one_level : (levels n : ℕ) → pred levels - n ≡ levels - suc n
one_level levels n = omega arith

-- a local event may happen, and puts another top at its path
local_event : (p : List ℕ) (levels : ℕ) (s c : Space) (v : Top) → at p s ≡ Some c → GoesOnTo levels p c v
    → (is_enabled p levels s ≡ true) × (step p levels s ≡ with_top p v s)
local_event [] levels (space t cs) c v is goes =
    let here : top_of c ≡ t = cc in
    let all : levels - 0 ≡ levels = omega arith in
    let goes' : next levels t ≡ moves v = ap (λ k. next k t) (sym all) ∙ ap (next (levels - 0)) (sym here) ∙ goes in
    (rw goes' refl, rw goes' refl)
local_event (n ∷ p) levels (space t cs) c v is goes =
    go (λ b h. local_event p (pred levels) b c v h (ap (λ k. next k (top_of c)) (one_level levels (length p)) ∙ goes)) (find n cs) refl is
  where
    go : ((b : Space) → at p b ≡ Some c → (is_enabled p (pred levels) b ≡ true) × (step p (pred levels) b ≡ with_top p v b)) → (o : Option Space) → find n cs ≡ o → option_and_then (at p) o ≡ Some c
        → (is_enabled (n ∷ p) levels (space t cs) ≡ true) × (step (n ∷ p) levels (space t cs) ≡ with_top (n ∷ p) v (space t cs))
    go below None found is = cc
    go below (Some b) found is =
        let inner = below b is in (
          ap (on_child (is_enabled p (pred levels))) found ∙ inner.0,
          ap (space t) (over-at n (step p (pred levels)) (with_top p v) b cs found inner.1),
        )

-- so many of them in a row
pub local_events : (n : ℕ) (p : List ℕ) (levels : ℕ) (s c : Space) (t : Top) → at p s ≡ Some c → Follows (levels - length p) n (top_of c) t
    → Leads levels (in_a_row n p) s (with_top p t s)
local_events zero p levels s c t is same = sym (puts_itself p t s (rw is (ap Some (sym same))))
local_events (suc n) p levels s c t is goes =
    let v = goes.0 in
    let first = local_event p levels s c v is goes.1 in
    let there : at p (with_top p v s) ≡ Some (replace_top v c) = stands_there p v s c is in
    let rest = local_events n p levels (with_top p v s) (replace_top v c) t there (new_top v c goes.2) in
    (first.0, subst (λ x. Leads levels (in_a_row n p) x (with_top p t s)) (sym first.1) (subst (λ x. Leads levels (in_a_row n p) (with_top p v s) x) (last_stays p t v s) rest))
  where
    new_top : (v : Top) (c : Space) → Follows (levels - length p) n v t → Follows (levels - length p) n (top_of (replace_top v c)) t
    new_top v (space u cs) h = h

length_in_a_row : (n : ℕ) (p : List ℕ) → length (in_a_row n p) ≡ n
length_in_a_row zero p = refl
length_in_a_row (suc n) p = ap suc (length_in_a_row n p)

pub local_reaches : (n : ℕ) (p : List ℕ) (levels : ℕ) (s c : Space) (t : Top) → at p s ≡ Some c → Follows (levels - length p) n (top_of c) t
    → Reaches levels s n (with_top p t s)
local_reaches n p levels s c t is goes = (in_a_row n p, length_in_a_row n p, local_events n p levels s c t is goes)

-- a whole tree's schedule in the words of its laws
pub leads_may : (ps : List (List ℕ)) (s t : Space) → Leads 8 ps s t → MayAllHappen ps s × (after_all ps s ≡ t)
leads_may [] s t is = (tt, is)
leads_may (p ∷ ps) s t leads =
    let rest = leads_may ps (step p 8 s) t leads.1 in
    let may = leads.0 in
    ((may, rest.0), rw may rest.1)

pub may_leads : (ps : List (List ℕ)) (s : Space) → MayAllHappen ps s → Leads 8 ps s (after_all ps s)
may_leads [] s all = refl
may_leads (p ∷ ps) s all =
    let may : is_enabled p 8 s ≡ true = all.0 in
    let rest = may_leads ps (step p 8 s) all.1 in
    (may, rw may rest)
