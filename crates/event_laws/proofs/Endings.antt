-- A sound tree comes to its end by a schedule.
use Rattle.std.proofs.Common.{◌≡◌, ℕ, true, List, [], ◌∷◌, ◌∙◌, ap}
use Rattle.space_model.specs.Space.{Space, is_settled}
use Rattle.space_model.specs.Sound.{IsSound}
use Rattle.space_model.specs.declared.Reach.TheVariants.{Whole}
use Rattle.run_model.specs.Demand.{settle}
use Rattle.run_model.proofs.Settled.{settle-settled}
use Rattle.det_laws.specs.Leads.{Leads}
use Rattle.det_laws.specs.Tree.{MayAllHappen, NoneMayHappen, after, after_all}
use Rattle.det_laws.proofs.Commutes.{settled_rests}
use Rattle.det_laws.proofs.Reaching.{meaning_reached}

-- events that lead to a tree all happen, and it is the tree after them
leads_there : (ps : List (List ℕ)) (s t : Space) → Leads 8 ps s t → MayAllHappen ps s × (after_all ps s ≡ t)
leads_there [] s t leads = (tt, leads)
leads_there (p ∷ ps) s t leads =
    let rest = leads_there ps (after p s) t leads.1 in
    ((leads.0, rest.0), rw leads.0 rest.1)

pub some_ends : (s : Space) → IsSound s → (ps : List (List ℕ)) × MayAllHappen ps s × NoneMayHappen (after_all ps s)
some_ends s sound =
    let reached = meaning_reached 8 Whole true sound.0 s sound.1.2 in
    let there = leads_there reached.0 s (settle 8 s) reached.2 in
    let still : is_settled (after_all reached.0 s) ≡ true = ap is_settled there.1 ∙ settle-settled 8 true sound.0 s sound.1.2 in
    (reached.0, there.0, λ p may. settled_rests p 8 (after_all reached.0 s) still may)
