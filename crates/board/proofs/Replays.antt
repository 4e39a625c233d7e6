-- A history is a schedule that leads to its tree: moves change nothing of it.
use Rattle.std.proofs.Common.{◌≡◌, ℕ, List, [], ◌∷◌, ◌++◌, refl, sym, ap, subst}
use Rattle.call_model.specs.Limits.{greatest_depth}
use Rattle.space_model.specs.Space.{Space}
use Rattle.run_model.specs.Schedule.{step}
use Rattle.run_model.specs.Replay.{replay}
use Rattle.run_model.proofs.Calls.{call_enabled}
use Rattle.det_laws.specs.Leads.{Leads as LeadsBy}
use Rattle.det_laws.proofs.Local.{local_events, leads_may}
use Rattle.det_core.specs.declared.entry.Entry.{Entry}
use Rattle.det_core.specs.declared.entry.Entry.TheVariants.{Ran, Moved, Met}
use Rattle.det_core.specs.Legal.{Happens, Leads, Legal}
use Rattle.node_places.specs.Places.{Places, all_home}
use Rattle.board.specs.Events.{events_of, schedule_of, without_moves}

-- one schedule behind another
both : (ps qs : List (List ℕ)) (s t u : Space) → LeadsBy 8 ps s t → LeadsBy 8 qs t u → LeadsBy 8 (ps ++ qs) s u
both [] qs s t u a b = subst (λ x. LeadsBy 8 qs x u) (sym a) b
both (p ∷ ps) qs s t u a b = (a.0, both ps qs (step p 8 s) t u a.1 b)

happens_leads : (e : Entry) (s t : Space) (ps qs : Places) → Happens e s ps t qs → LeadsBy 8 (events_of e) s t
happens_leads (Ran path events) s t ps qs happens =
    let runs = happens.0 in
    subst (LeadsBy 8 (events_of (Ran path events)) s) (sym runs.now) (local_events events path.items 8 s runs.here runs.top runs.stood runs.follows)
happens_leads (Moved path node) s t ps qs moved = sym moved.now
happens_leads (Met path) s t ps qs met = (call_enabled path.items 8 s met.call met.may, sym met.now)

-- each event of a history may happen in its turn, and together they lead to its tree
pub history_leads : (es : List Entry) (s t : Space) (ps qs : Places) → Leads s ps es t qs → LeadsBy 8 (schedule_of es) s t
history_leads [] s t ps qs same = same.0
history_leads (e ∷ es) s t ps qs led = both (events_of e) (schedule_of es) s led.0 t (happens_leads e s led.0 ps led.1 led.2) (history_leads es led.0 t led.1 qs led.3)

-- so a tree with a legal history is what the history replays to, on however many nodes it came to be
pub replays_to_its_tree : (nodes : ℕ) (boot tree : Space) (es : List Entry) → Legal nodes boot es tree → replay (schedule_of es) greatest_depth boot ≡ tree
replays_to_its_tree nodes boot tree es legal = (leads_may (schedule_of es) boot tree (history_leads es boot tree (all_home nodes) legal.0 legal.1)).1

-- and the replay is the same without the moves
pub moves_have_no_events : (es : List Entry) → schedule_of (without_moves es) ≡ schedule_of es
moves_have_no_events [] = refl
moves_have_no_events (Ran path events ∷ es) = ap (λ xs. events_of (Ran path events) ++ xs) (moves_have_no_events es)
moves_have_no_events (Moved path node ∷ es) = moves_have_no_events es
moves_have_no_events (Met path ∷ es) = ap (λ xs. path.items ∷ xs) (moves_have_no_events es)
