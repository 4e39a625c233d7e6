-- The root's console only grows: no event takes back what was written (`Console` of run_model).
use Rattle.std.proofs.Common.{◌≡◌, ℕ, Bool, List, [], ◌∷◌, ◌++◌, append_assoc, refl, sym, ◌∙◌, ap, subst}
use Rattle.std.proofs.lemmas.List.{append-nil}
use Rattle.space_model.specs.Space.{Space, space, Top, Children, top_of, console_bytes}
use Rattle.space_model.specs.Event.{NextEvent, rests, moves, meets, next}
use Rattle.space_model.specs.declared.Reach.TheVariants.{Whole}
use Rattle.space_model.specs.Sound.{IsSoundAt}
use Rattle.run_model.specs.Schedule.{event, step}
use Rattle.run_model.specs.Replay.{replay}
use Rattle.run_model.specs.Demand.{settle}
use Rattle.run_model.proofs.Console.{event_grows, call_devices}
use Rattle.report_model.specs.Report.{console_of}
use Rattle.run_model.proofs.Sound.{replay_sound}
use Rattle.det_laws.specs.Tree.{IsPrefix}
use Rattle.det_laws.specs.Leads.{Leads}
use Rattle.det_laws.proofs.Reaching.{meaning_reached, replay_settles}

-- what one top has written begins with what another has
abbrev pub HasWritten : Top → Top → Type 0
HasWritten t u = IsPrefix (console_bytes t.devices) (console_bytes u.devices)

prefix_then : (xs ys zs : List ℕ) → IsPrefix xs ys → IsPrefix ys zs → IsPrefix xs zs
prefix_then xs ys zs a b = (a.0 ++ b.0, b.1 ∙ ap (λ l. l ++ b.0) a.1 ∙ append_assoc xs a.0 b.0)

-- the same devices
same_devices : (t u : Top) → u.devices ≡ t.devices → HasWritten t u
same_devices t u e = ([], ap console_bytes e ∙ sym (append-nil (console_bytes t.devices)))

event_writes : (levels : ℕ) (x : NextEvent) (t : Top) (cs : Children) → next levels t ≡ x → HasWritten t (top_of (event levels x (space t cs)))
event_writes levels rests t cs is = same_devices t t refl
event_writes levels (moves u) t cs is = let more = event_grows levels t u is in (more.0, more.1.1)
event_writes levels (meets k u) t cs is = same_devices t (top_of (event levels (meets k u) (space t cs))) (call_devices levels t u k cs is)

step_writes : (p : List ℕ) (levels : ℕ) (s : Space) → HasWritten (top_of s) (top_of (step p levels s))
step_writes [] levels (space t cs) = event_writes levels (next levels t) t cs refl
step_writes (n ∷ p) levels (space t cs) = same_devices t t refl

-- so do many events
pub leads_writes : (levels : ℕ) (ps : List (List ℕ)) (s t : Space) → Leads levels ps s t → HasWritten (top_of s) (top_of t)
leads_writes levels [] s t a = same_devices (top_of s) (top_of t) (ap (λ x. (top_of x).devices) (sym a))
leads_writes levels (p ∷ ps) s t a =
    prefix_then (console_bytes (top_of s).devices) (console_bytes (top_of (step p levels s)).devices) (console_bytes (top_of t).devices)
    (step_writes p levels s) (leads_writes levels ps (step p levels s) t a.1)

-- and so does all that is still to come after a schedule
pub replay_writes : (ps : List (List ℕ)) (levels : ℕ) (root : Bool) (fuel : ℕ) (s : Space) → IsSoundAt levels root fuel s
    → IsPrefix (console_of (replay ps levels s)) (console_of (settle levels s))
replay_writes ps levels root fuel s ok =
    let r = replay ps levels s in
    let a = meaning_reached levels Whole root fuel r (replay_sound ps levels root fuel s ok) in
    subst (λ x. IsPrefix (console_of r) (console_of x)) (replay_settles ps levels root fuel s ok) (leads_writes levels a.0 r (settle levels r) a.2)
