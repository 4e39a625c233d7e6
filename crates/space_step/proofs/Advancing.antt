-- Local events some at a time.
use Rattle.std.proofs.Common.{◌≡◌, ℕ, zero, suc, false, ◌+◌, ◌-◌, ◌≤◌, ◌<◌, Option, Some, None, refl, sym, subst, arith}
use Rattle.std.specs.Option.{ok_or}
use Rattle.std.specs.Prelude.{is_some}
use Rattle.std.specs.declared.alloc.AllocError.{AllocError}
use Rattle.space_model.specs.Space.{Top}
use Rattle.space_model.specs.Change.{after_payment}
use Rattle.space_model.specs.Event.{rests, moves, meets, next, Follows, IsNotLocal}
use Rattle.space_step.specs.declared.event.Next.{Next}
use Rattle.space_step.specs.declared.event.Next.TheVariants.{Local, Meet, Stopped}
use Rattle.space_step.specs.declared.event.Advance.{Advance}
use Rattle.space_step.specs.declared.running.Progress.TheVariants.{Went, Blocked}
use Rattle.space_step.specs.Steps.{IsNextLocal, Steps}
use Rattle.space_step.specs.Running.{IsBlocked, Ended, Advances, Goes}
use Rattle.space_step.proofs.Following.{follows_more, follows_one}

pub resting_is_blocked : (levels quantum : ℕ) (t : Top) → 1 ≤ quantum → next levels t ≡ rests → Goes levels quantum (Blocked 0 (Some Stopped)) t t
resting_is_blocked levels quantum t h e = (refl, omega arith, e)

pub one_goes : (levels quantum : ℕ) (t u : Top) → 1 ≤ quantum → next levels t ≡ moves u → Goes levels quantum (Went 1) t u
one_goes levels quantum t u h e = (follows_one levels t u e, h, omega arith)

pub one_more_goes : (levels n quantum : ℕ) (t u v : Top) → Follows levels n t u → n < quantum → next levels u ≡ moves v → Goes levels quantum (Went (n + 1)) t v
one_more_goes levels n quantum t u v f h e = (follows_more levels n t u v f e, omega arith, omega arith)

-- there was no memory for the event that is next
pub wanting_is_blocked : (levels n quantum : ℕ) (t u v : Top) → Follows levels n t u → n < quantum → IsNextLocal levels u → v ≡ u → Goes levels quantum (Blocked n None) t v
wanting_is_blocked levels n quantum t u v f h local same = (subst (Follows levels n t) (sym same) f, h, subst (IsNextLocal levels) (sym same) local)

-- what blocks a space in the rest of a quantum blocks it in the whole
pub blocked_ends : (levels quantum ran n : ℕ) (o : Option Next) (t : Top) → n < quantum - ran → IsBlocked levels o t → Ended levels quantum (ran + n) o t
blocked_ends levels quantum ran n None t h b = (omega arith, b)
blocked_ends levels quantum ran n (Some Local) t h b = absurd b
blocked_ends levels quantum ran n (Some (Meet k)) t h b = (omega arith, b)
blocked_ends levels quantum ran n (Some Stopped) t h b = (omega arith, b)

pub ended_within : (levels quantum ran : ℕ) (o : Option Next) (t : Top) → Ended levels quantum ran o t → ran ≤ quantum
ended_within levels quantum ran None t h = omega (arith, h.0)
ended_within levels quantum ran (Some Local) t h = omega (arith, h)
ended_within levels quantum ran (Some (Meet k)) t h = omega (arith, h.0)
ended_within levels quantum ran (Some Stopped) t h = omega (arith, h.0)

-- fewer events than there might have been, though there was memory
pub ended_early : (levels quantum ran : ℕ) (n : Next) (t : Top) → Ended levels quantum ran (Some n) t → ran < quantum → IsNotLocal (next levels t)
ended_early levels quantum ran Local t h few = absurd (omega (arith, h, few))
ended_early levels quantum ran (Meet k) t h few = subst IsNotLocal (sym h.1) tt
ended_early levels quantum ran Stopped t h few = subst IsNotLocal (sym h.1) tt

none_followed : (levels n : ℕ) (t u : Top) → n < 1 → Follows levels n t u → u ≡ t
none_followed levels zero t u h f = f
none_followed levels (suc n) t u h f = absurd (omega arith)

one_followed : (levels n : ℕ) (t u : Top) → n ≡ 1 → Follows levels n t u → next levels t ≡ moves u
one_followed levels zero t u h f = absurd (omega arith)
one_followed levels (suc zero) t u h f = rw f.2 f.1
one_followed levels (suc (suc n)) t u h f = absurd (omega arith)

one_event : (levels n : ℕ) (o : Option Next) (e : AllocError) (t u : Top) → Follows levels n t u → Ended levels 1 n o u → Steps levels (ok_or o e) t u
one_event levels n None e t u f h = let same : u ≡ t = none_followed levels n t u h.0 f in (subst (IsNextLocal levels) same h.1, same)
one_event levels n (Some Local) e t u f h = one_followed levels n t u h f
one_event levels n (Some (Meet k)) e t u f h = let same : u ≡ t = none_followed levels n t u h.0 f in (subst (λ (v : Top). next levels v ≡ meets k (after_payment v v)) same h.1, same)
one_event levels n (Some Stopped) e t u f h = let same : u ≡ t = none_followed levels n t u h.0 f in (subst (λ (v : Top). next levels v ≡ rests) same h.1, same)

first_wanted : (levels quantum n : ℕ) (o : Option Next) (t u : Top) → Follows levels n t u → Ended levels quantum n o u → n ≡ 0 → is_some o ≡ false → IsNextLocal levels t
first_wanted levels quantum n None t u f h first none = subst (IsNextLocal levels) (none_followed levels n t u (omega arith) f) h.1
first_wanted levels quantum n (Some a) t u f h first none = cc

-- where there was no memory for the first event, it is a local one
pub first_is_local : (levels quantum : ℕ) (a : Advance) (t u : Top) → Advances levels quantum a t u → a.ran ≡ 0 → is_some a.next ≡ false → IsNextLocal levels t
first_is_local levels quantum a t u h first none = first_wanted levels quantum a.ran a.next t u h.follows h.ended first none

-- a quantum of one event
pub one_event_steps : (levels : ℕ) (a : Advance) (e : AllocError) (t u : Top) → Advances levels 1 a t u → Steps levels (ok_or a.next e) t u
one_event_steps levels a e t u h = one_event levels a.ran a.next e t u h.follows h.ended
