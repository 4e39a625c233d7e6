-- Quanta of a space one after the other.
use Rattle.std.proofs.Common.{◌≡◌, ℕ, ◌≤◌, ◌<◌, Option, Some, None, ap, ◌∙◌, subst, arith}
use Rattle.space_model.specs.Space.{Top}
use Rattle.space_step.specs.declared.event.Next.{Next}
use Rattle.space_step.specs.declared.event.Next.TheVariants.{Local, Meet, Stopped}
use Rattle.space_step.specs.Running.{Ended}

-- there are no more events than there might have been
pub no_more : (levels quantum n : ℕ) (o : Option Next) (t : Top) → Ended levels quantum n o t → n ≤ quantum
no_more levels quantum n None t h = omega (arith, h.0)
no_more levels quantum n (Some Local) t h = omega (arith, h)
no_more levels quantum n (Some (Meet k)) t h = omega (arith, h.0)
no_more levels quantum n (Some Stopped) t h = omega (arith, h.0)

-- and as many, where what is next is a local event
pub as_many : (levels quantum n : ℕ) (o : Option Next) (next : Next) (t : Top) → o ≡ Some next → next ≡ Local → Ended levels quantum n o t → n ≡ quantum
as_many levels quantum n o next t is local h = subst (λ x. Ended levels quantum n x t) (is ∙ ap Some local) h
