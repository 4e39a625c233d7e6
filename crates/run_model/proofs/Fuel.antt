-- Each local event takes a unit of fuel, or is a stop after which nothing follows.
use Rattle.std.proofs.Common.{◌≡◌, ℕ, zero, suc, ◌⊎◌, inl, inr, Bool, true, false, cond, Option, Some, None, refl, sym, ap, ◌∙◌, subst, arith, ◌<◌}
use Rattle.space_model.specs.declared.Status.{Status}
use Rattle.space_model.specs.declared.Status.TheVariants.{Running, Stopped}
use Rattle.space_model.specs.Stop.{is_stopped}
use Rattle.space_model.specs.Space.{Top, Space, space, Children, top_of}
use Rattle.space_model.specs.Event.{NextEvent, rests, moves, meets, next, Effect, becomes, asks, by_status, by_fuel_left, by_limit_left, instruction, charge}
use Rattle.run_model.specs.Demand.{Meaning, run_for, left_of}

-- what follows an event: less fuel, or a stop
abbrev pub CostsOrEnds : ℕ → Top → NextEvent → Type 0
CostsOrEnds levels t rests = Unit {0}
CostsOrEnds levels t (moves u) = (suc u.fuel ≡ t.fuel) ⊎ (next levels u ≡ rests)
CostsOrEnds levels t (meets k u) = suc u.fuel ≡ t.fuel

charged_costs : (levels : ℕ) (t : Top) (n : ℕ) (m : Effect) → t.fuel ≡ suc n → CostsOrEnds levels t (charge t m)
charged_costs levels t n (becomes u) e = inl (omega (arith, e))
charged_costs levels t n (asks k) e = omega (arith, e)

limited_costs : (levels : ℕ) (t : Top) (n : ℕ) (o : Option ℕ) → t.fuel ≡ suc n → CostsOrEnds levels t (by_limit_left levels t o)
unfolding next
limited_costs levels t n (Some zero) e = inr refl
limited_costs levels t n (Some (suc k)) e = charged_costs levels t n (instruction levels t) e
limited_costs levels t n None e = charged_costs levels t n (instruction levels t) e

fuelled_costs : (levels : ℕ) (t : Top) (n : ℕ) → t.fuel ≡ n → CostsOrEnds levels t (by_fuel_left levels t n)
unfolding next
fuelled_costs levels t zero e = inr refl
fuelled_costs levels t (suc n) e = limited_costs levels t n t.limit e

by_status_costs : (levels : ℕ) (t : Top) (s : Status) → CostsOrEnds levels t (by_status levels t s)
by_status_costs levels t Running = fuelled_costs levels t t.fuel refl
by_status_costs levels t (Stopped cause value) = tt

pub next_costs : (levels : ℕ) (t : Top) → CostsOrEnds levels t (next levels t)
unfolding next
next_costs levels t = by_status_costs levels t t.status

pub move_costs : (levels : ℕ) (t u : Top) → next levels t ≡ moves u → (suc u.fuel ≡ t.fuel) ⊎ (next levels u ≡ rests)
move_costs levels t u e = subst (CostsOrEnds levels t) e (next_costs levels t)

-- a space that rests stays as it is, whatever is left
pub run_for-rests : (f : Meaning) (levels n : ℕ) (s : Space) → next levels (top_of s) ≡ rests → (run_for f levels n s).space ≡ s
unfolding run_for
run_for-rests f levels zero s e = refl
run_for-rests f levels (suc n) s e = rw e refl

-- a local event is one turn of the run
pub run_for-moves : (f : Meaning) (levels : ℕ) (t u : Top) (cs : Children) → next levels t ≡ moves u
    → (run_for f levels (suc t.fuel) (space t cs)).space ≡ (run_for f levels (suc u.fuel) (space u cs)).space
unfolding run_for
run_for-moves f levels t u cs e =
    let first : (run_for f levels (suc t.fuel) (space t cs)).space ≡ (run_for f levels t.fuel (space u cs)).space = rw e refl in
    first ∙ elim (move_costs levels t u e) [
      | inl costs ↦ ap (λ n. (run_for f levels n (space u cs)).space) (sym costs)
      | inr ends ↦ run_for-rests f levels t.fuel (space u cs) ends ∙ sym (run_for-rests f levels (suc u.fuel) (space u cs) ends)
    ]

-- only a space that has stopped has no next event
charged_goes_on : (t : Top) (m : Effect) → charge t m ≡ rests → ⊥
charged_goes_on t (becomes u) e = cc
charged_goes_on t (asks k) e = cc

limited_goes_on : (levels : ℕ) (t : Top) (o : Option ℕ) → by_limit_left levels t o ≡ rests → ⊥
limited_goes_on levels t (Some zero) e = cc
limited_goes_on levels t (Some (suc n)) e = charged_goes_on t (instruction levels t) e
limited_goes_on levels t None e = charged_goes_on t (instruction levels t) e

fuelled_goes_on : (levels : ℕ) (t : Top) (n : ℕ) → by_fuel_left levels t n ≡ rests → ⊥
fuelled_goes_on levels t zero e = cc
fuelled_goes_on levels t (suc n) e = limited_goes_on levels t t.limit e

by_status_rests : (levels : ℕ) (t : Top) (s : Status) → by_status levels t s ≡ rests → is_stopped s ≡ true
by_status_rests levels t Running e = absurd (fuelled_goes_on levels t t.fuel e)
by_status_rests levels t (Stopped cause value) e = refl

pub rests_stopped : (levels : ℕ) (t : Top) → next levels t ≡ rests → is_stopped t.status ≡ true
unfolding next
rests_stopped levels t e = by_status_rests levels t t.status e

by_status_stopped : (levels : ℕ) (t : Top) (s : Status) → is_stopped s ≡ true → by_status levels t s ≡ rests
by_status_stopped levels t Running e = cc
by_status_stopped levels t (Stopped cause value) e = refl

pub stopped_rests : (levels : ℕ) (t : Top) → is_stopped t.status ≡ true → next levels t ≡ rests
unfolding next
stopped_rests levels t e = by_status_stopped levels t t.status e

left_cases : (b c : Bool) (m n : ℕ) → (suc n ≡ m) ⊎ (c ≡ true) → b ≡ false → cond c 0 (suc n) < cond b 0 (suc m)
left_cases b c m n (inl e) h = elim c as (λ c. cond c 0 (suc n) < cond b 0 (suc m)) [ true ↦ rw h (omega arith) | false ↦ rw h (omega (arith, e)) ]
left_cases b c m n (inr e) h = rw (e, h) (omega arith)

pub left_falls : (levels : ℕ) (t u : Top) → next levels t ≡ moves u → left_of u < left_of t
left_falls levels t u e =
    left_cases (is_stopped t.status) (is_stopped u.status) t.fuel u.fuel
    (elim (move_costs levels t u e) [ inl costs ↦ inl costs | inr ends ↦ inr (rests_stopped levels u ends) ])
    (elim (is_stopped t.status) as (λ b. is_stopped t.status ≡ b → b ≡ false) [ true ↦ λ h. let none = stopped_rests levels t h in cc | false ↦ λ h. refl ] refl)
