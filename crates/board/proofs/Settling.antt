-- What the tree of a legal history settles to, and when a board's tree is settled.
use Rattle.std.proofs.Common.{◌≡◌, ℕ, pred, Bool, true, false, cond, List, [], ◌∷◌, Option, Some, None, ◌⊎◌, inl, inr, refl, sym, ap, ◌∙◌, true≢false}
use Rattle.std.specs.Prelude.{option_and_then}
use Rattle.call_model.specs.declared.Call.{Call}
use Rattle.space_model.specs.Space.{Space, Children, top_of, children_of, find, is_settled}
use Rattle.space_model.specs.Path.{with_top}
use Rattle.space_model.specs.Sound.{IsSound}
use Rattle.space_model.specs.Event.{NextEvent, rests, moves, meets, next}
use Rattle.space_model.specs.declared.Reach.TheVariants.{Whole}
use Rattle.run_model.specs.Schedule.{may_happen, is_local, ready_call, on_child, is_enabled, is_local_at, call_at, step}
use Rattle.run_model.specs.Replay.{replay}
use Rattle.run_model.specs.Demand.{settle, settle_tree}
use Rattle.run_model.proofs.Calls.{call_enabled}
use Rattle.det_laws.proofs.Commutes.{settled_rests}
use Rattle.det_laws.proofs.Leading.{settled_stays}
use Rattle.det_laws.proofs.Local.{local_reaches, leads_may}
use Rattle.det_laws.proofs.Near.{local_enabled}
use Rattle.det_laws.proofs.Reaching.{meaning_reached, never_stuck, replay_settles}
use Rattle.det_core.specs.declared.entry.Entry.{Entry}
use Rattle.det_core.specs.declared.entry.Entry.TheVariants.{Ran, Moved, Met}
use Rattle.det_core.specs.Legal.{Happens, Leads}
use Rattle.node_places.specs.Places.{Places}
use Rattle.board.specs.Jobs.{Slots, out_at, IsOut, IsNoneOut, MayBeTaken}
use Rattle.board.proofs.Histories.{happens_sound, legal_sound}

-- an entry of a history changes nothing of what the tree settles to
happens_settles : (e : Entry) (s t : Space) (ps qs : Places) → Happens e s ps t qs → IsSound s → settle 8 t ≡ settle 8 s
happens_settles (Ran path events) s t ps qs happens sound =
    let runs = happens.0 in
    let reached = local_reaches events path.items 8 s runs.here runs.top runs.stood runs.follows in
    let led = leads_may reached.0 s (with_top path.items runs.top s) reached.2 in
    ap (settle 8) (runs.now ∙ sym led.1) ∙ replay_settles reached.0 8 true sound.0 s sound.1.2
happens_settles (Moved path node) s t ps qs moved sound = ap (settle 8) moved.now
happens_settles (Met path) s t ps qs met sound =
    let may = call_enabled path.items 8 s met.call met.may in
    let one : step path.items 8 s ≡ replay (path.items ∷ []) 8 s = sym (ap (λ b. cond b (step path.items 8 s) s) may) in
    ap (settle 8) (met.now ∙ one) ∙ replay_settles (path.items ∷ []) 8 true sound.0 s sound.1.2

legal_settles : (es : List Entry) (boot tree : Space) (ps qs : Places) → Leads boot ps es tree qs → IsSound boot → settle 8 tree ≡ settle 8 boot
legal_settles [] boot tree ps qs same sound = ap (settle 8) (sym same.0)
legal_settles (e ∷ es) boot tree ps qs legal sound =
    legal_settles es legal.0 tree legal.1 qs legal.3 (happens_sound e boot legal.0 ps legal.1 legal.2 sound) ∙ happens_settles e boot legal.0 ps legal.1 legal.2 sound

-- a settled tree settles to itself
settled_itself : (s : Space) → IsSound s → is_settled s ≡ true → settle 8 s ≡ s
settled_itself s sound still =
    let a = meaning_reached 8 Whole true sound.0 s sound.1.2 in
    sym (settled_stays 8 a.0 s (settle 8 s) still a.2)

-- where the tree of a legal history is settled, it is what the first one settles to
pub settled_end : (boot tree : Space) (ps qs : Places) (es : List Entry) → IsSound boot → Leads boot ps es tree qs → is_settled tree ≡ true → tree ≡ settle_tree boot
settled_end boot tree ps qs es sound legal still = sym (settled_itself tree (legal_sound es boot tree ps qs legal sound) still) ∙ legal_settles es boot tree ps qs legal sound

-- an event that may happen is a local one or a call
ready_cases : (e : NextEvent) (cs : Children) → may_happen e cs ≡ true → (is_local e ≡ true) ⊎ ((k : Call) × (ready_call e cs ≡ Some k))
ready_cases rests cs may = absurd (true≢false (sym may))
ready_cases (moves t) cs may = inl refl
ready_cases (meets k t) cs may = inr (k, ap (λ b. cond b (Some k) None) may)

enabled_cases : (p : List ℕ) (levels : ℕ) (s : Space) → is_enabled p levels s ≡ true → (is_local_at p levels s ≡ true) ⊎ ((k : Call) × (call_at p levels s ≡ Some k))
enabled_cases [] levels s may = ready_cases (next levels (top_of s)) (children_of s) may
enabled_cases (n ∷ p) levels s may = go (find n (children_of s)) may (λ c h. enabled_cases p (pred levels) c h)
  where
    go : (o : Option Space) → on_child (is_enabled p (pred levels)) o ≡ true
        → ((c : Space) → is_enabled p (pred levels) c ≡ true → (is_local_at p (pred levels) c ≡ true) ⊎ ((k : Call) × (call_at p (pred levels) c ≡ Some k)))
        → (on_child (is_local_at p (pred levels)) o ≡ true) ⊎ ((k : Call) × (option_and_then (call_at p (pred levels)) o ≡ Some k))
    go None may rec = absurd (true≢false (sym may))
    go (Some c) may rec = rec c may

none_is_out : (out : Slots) (p : List ℕ) → IsNoneOut out → IsOut out p → ⊥
none_is_out out p none is_out =
    let away : out_at out is_out.0 ≡ None = none is_out.0 in
    let here : out_at out is_out.0 ≡ Some is_out.1.0 = is_out.1.1 in
    cc

-- where no job is out, no call may meet its children and no space may be taken, the tree is settled
pub idle_settled : (tree : Space) (out : Slots) → IsSound tree → IsNoneOut out → ((p : List ℕ) → call_at p 8 tree ≡ None) → ((p : List ℕ) → MayBeTaken tree out p → ⊥) → is_settled tree ≡ true
idle_settled tree out sound none quiet still = go (is_settled tree) refl
  where
    by : (p : List ℕ) → (is_local_at p 8 tree ≡ true) ⊎ ((k : Call) × (call_at p 8 tree ≡ Some k)) → ⊥
    by p (inl goes) = still p (record { goes = goes; inside = none_is_out out p none })
    by p (inr met) = let away : call_at p 8 tree ≡ None = quiet p in let here : call_at p 8 tree ≡ Some met.0 = met.1 in cc

    go : (b : Bool) → is_settled tree ≡ b → is_settled tree ≡ true
    go true is = is
    go false is =
        let more = never_stuck 8 true sound.0 tree sound.1.2 (λ s. true≢false (sym s ∙ is)) in
        absurd (by more.0 (enabled_cases more.0 8 tree more.1))

-- and where it is settled, no call may meet its children, and no space may be taken
pub settled_meets_none : (tree : Space) (p : List ℕ) (k : Call) → is_settled tree ≡ true → call_at p 8 tree ≡ Some k → ⊥
settled_meets_none tree p k still may = settled_rests p 8 tree still (call_enabled p 8 tree k may)

pub settled_takes_none : (tree : Space) (out : Slots) (p : List ℕ) → is_settled tree ≡ true → MayBeTaken tree out p → ⊥
settled_takes_none tree out p still may = settled_rests p 8 tree still (local_enabled p 8 tree may.goes)
