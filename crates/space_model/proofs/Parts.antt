-- What calls that meet children, and their parts, leave as it is: fuel, use and devices. A new part owes one line here.
use Rattle.std.proofs.Common.{◌≡◌, ℕ, Bool, true, false, List, [], ◌∷◌, Option, Some, None, refl, ◌∙◌}
use Rattle.call_model.specs.declared.Transfer.{Transfer}
use Rattle.call_model.specs.declared.Call.{Call}
use Rattle.call_model.specs.declared.Call.TheVariants.{Get, Wait, Tjoin}
use Rattle.call_model.specs.Options.{has}
use Rattle.space_model.specs.declared.Refusal.{Refusal}
use Rattle.space_model.specs.Space.{Top}
use Rattle.space_model.specs.Change.{after_success}
use Rattle.space_model.specs.Call.{Meeting, Seen, first_top}
use Rattle.space_model.specs.Refusals.{first_refusal}
use Rattle.space_model.specs.Meeting.{or_fresh, refusals, action, unless_refused, meeting}
use Rattle.space_model.specs.Runtime.{after_fork, after_thread_fork, after_join, after_wait}
use Rattle.space_model.specs.Part.{Part, part_if, with_parts, put_parts, get_parts, child_after, caller_after}

-- a top with the fuel, the use and the devices of another
pub record IsAlike (t u : Top) : Type 0 where
  pub fuel : u.fuel ≡ t.fuel
  pub used : u.used ≡ t.used
  pub devices : u.devices ≡ t.devices

alike_itself : (t : Top) → IsAlike t t
alike_itself t = record { fuel = refl; used = refl; devices = refl }

alike_then : (t u v : Top) → IsAlike t u → IsAlike u v → IsAlike t v
alike_then t u v a b = record { fuel = b.fuel ∙ a.fuel; used = b.used ∙ a.used; devices = b.devices ∙ a.devices }

-- a part leaves them
abbrev Keeps : Part → Type 0
Keeps p = (t : Top) → IsAlike t (p t)

-- each of these parts leaves them
abbrev AllKeep : List (ℕ × Part) → Type 0
AllKeep [] = Unit {0}
AllKeep (p ∷ ps) = Keeps p.1 × AllKeep ps

optional_keeps : (asked : Bool) (p : Part) → ((t : Top) → IsAlike t (p t)) → (t : Top) → IsAlike t (part_if asked p t)
optional_keeps true p h t = h t
optional_keeps false p h t = alike_itself t

all_keep : (options : ℕ) (ps : List (ℕ × Part)) → AllKeep ps → (t : Top) → IsAlike t (with_parts options ps t)
all_keep options [] h t = alike_itself t
all_keep options (p ∷ ps) h t =
    let u = part_if (has p.0 options) p.1 t in
    alike_then t u (with_parts options ps u) (optional_keeps (has p.0 options) p.1 h.0 t) (all_keep options ps h.1 u)

pub child_alike : (x : Transfer) (t c : Top) → IsAlike c (child_after x t c)
unfolding child_after
child_alike x t c =
    all_keep x.options (put_parts x t) (
      λ u. record { fuel = refl; used = refl; devices = refl },
      (
        λ u. record { fuel = refl; used = refl; devices = refl },
        (
          λ u. record { fuel = refl; used = refl; devices = refl },
          (
            λ u. record { fuel = refl; used = refl; devices = refl },
            (λ u. record { fuel = refl; used = refl; devices = refl }, (λ u. record { fuel = refl; used = refl; devices = refl }, tt)),
          ),
        ),
      ),
    )
    c

pub caller_alike : (x : Transfer) (c t : Top) → IsAlike t (caller_after x c t)
unfolding caller_after
caller_alike x c t =
    all_keep x.options (get_parts x c) (
      λ u. record { fuel = refl; used = refl; devices = refl },
      (
        λ u. record { fuel = refl; used = refl; devices = refl },
        (
          λ u. record { fuel = refl; used = refl; devices = refl },
          (λ u. record { fuel = refl; used = refl; devices = refl }, (λ u. record { fuel = refl; used = refl; devices = refl }, tt)),
        ),
      ),
    )
    t

pub fork_alike : (t c : Top) → IsAlike c (after_fork t c)
unfolding after_fork
fork_alike t c = record { fuel = refl; used = refl; devices = refl }

pub thread_fork_alike : (t c : Top) → IsAlike c (after_thread_fork t c)
unfolding after_thread_fork
thread_fork_alike t c = record { fuel = refl; used = refl; devices = refl }

pub join_alike : (c t : Top) → IsAlike t (after_join c t)
unfolding after_join
join_alike c t = record { fuel = refl; used = refl; devices = refl }

pub wait_alike : (c t : Top) → IsAlike t (after_wait c t)
unfolding after_wait
wait_alike c t = record { fuel = refl; used = refl; devices = refl }

success_alike : (t u : Top) → IsAlike t u → IsAlike t (after_success u)
success_alike t u a = record { fuel = a.fuel; used = a.used; devices = a.devices }

-- a call that no test stops leaves its caller's
action_alike : (k : Call) (t : Top) (seen : List Seen) → IsAlike t (action k t seen).caller
action_alike (Get x) t seen = success_alike t _ (caller_alike x (or_fresh t (first_top seen)) t)
action_alike (Wait child) t seen = success_alike t _ (wait_alike (or_fresh t (first_top seen)) t)
action_alike (Tjoin child) t seen = success_alike t _ (join_alike (or_fresh t (first_top seen)) t)
action_alike k t seen = record { fuel = refl; used = refl; devices = refl }

unless_alike : (o : Option Refusal) (t : Top) (m : Meeting) → IsAlike t m.caller → IsAlike t (unless_refused o t m).caller
unless_alike None t m acts = acts
unless_alike (Some r) t m acts = record { fuel = refl; used = refl; devices = refl }

-- so does any call
pub meeting_alike : (levels : ℕ) (k : Call) (t : Top) (seen : List Seen) → IsAlike t (meeting levels k t seen).caller
meeting_alike levels k t seen = unless_alike (first_refusal (refusals levels k t seen)) t (action k t seen) (action_alike k t seen)
