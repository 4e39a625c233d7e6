-- What the history of a board says of its tree, and what may be put into it.
use Rattle.std.proofs.Common.{◌≡◌, ℕ, zero, suc, pred, ◌-◌, ◌≤◌, ◌<◌, ◌^◌, Bool, true, false, List, [], ◌∷◌, ◌++◌, length, Option, Some, None, refl, sym, ap, ◌∙◌, subst, arith, true≢false}
use Rattle.std.specs.Prelude.{option_and_then, option_map}
use Rattle.space_model.specs.Space.{Space, space, Top, top_of, find}
use Rattle.space_model.specs.Path.{at, with_top, is_root}
use Rattle.space_model.specs.Sound.{IsSound, IsSoundAt, IsSoundTop}
use Rattle.space_model.specs.Event.{NextEvent, rests, moves, meets, next, Follows, IsNotLocal}
use Rattle.space_model.proofs.Sound.{found_sound}
use Rattle.arrayvec.specs.ArrayVec.{ArrayVec}
use Rattle.call_model.specs.declared.Call.{Call}
use Rattle.run_model.specs.Schedule.{is_local, is_local_at, call_at, step, where_some, try_meet}
use Rattle.det_core.proofs.Legal.{legal-append}
use Rattle.run_model.proofs.Sound.{step_sound, replay_whole}
use Rattle.det_core.specs.declared.entry.Entry.{Entry}
use Rattle.det_core.specs.declared.entry.Entry.TheVariants.{Ran, Moved, Met}
use Rattle.det_core.specs.Legal.{RunsAt, Happens, Leads}
use Rattle.node_places.specs.Places.{Places}
use Rattle.det_laws.specs.Tops.{top_at}
use Rattle.det_laws.proofs.Local.{local_reaches, leads_may}
use Rattle.det_laws.proofs.Moved.{top_space}
use Rattle.space_step.specs.Run.{Run, IsRun}
use Rattle.board.specs.Sound.{IsSoundAlone}
use Rattle.board.specs.Jobs.{Slots}
use Rattle.board.specs.Value.{Shown}
use Rattle.board.proofs.Kept.{local_found, local_missing}

pub happens_sound : (e : Entry) (s t : Space) (ps qs : Places) → Happens e s ps t qs → IsSound s → IsSound t
happens_sound (Ran path events) s t ps qs happens sound =
    let runs = happens.0 in
    let reached = local_reaches events path.items 8 s runs.here runs.top runs.stood runs.follows in
    let led = leads_may reached.0 s (with_top path.items runs.top s) reached.2 in
    subst IsSound (led.1 ∙ sym runs.now) (replay_whole reached.0 s sound)
happens_sound (Moved path node) s t ps qs moved sound = subst IsSound (sym moved.now) sound
happens_sound (Met path) s t ps qs met sound = subst IsSound (sym met.now) (sound.0, (sound.1.0, sound.1.1, step_sound path.items 8 true sound.0 s sound.1.2))

-- the tree of a legal history is sound
pub legal_sound : (es : List Entry) (boot tree : Space) (ps qs : Places) → Leads boot ps es tree qs → IsSound boot → IsSound tree
legal_sound [] boot tree ps qs same sound = subst IsSound same.0 sound
legal_sound (e ∷ es) boot tree ps qs legal sound = legal_sound es legal.0 tree legal.1 qs legal.3 (happens_sound e boot legal.0 ps legal.1 legal.2 sound)

below_root : (p : List ℕ) → is_root false p ≡ false
below_root [] = refl
below_root (n ∷ p) = refl

-- what stands at a path of a sound tree
at_sound : (p : List ℕ) (levels : ℕ) (root : Bool) (fuel : ℕ) (s c : Space) → IsSoundAt levels root fuel s → at p s ≡ Some c → IsSoundTop fuel (is_root root p) (top_of c)
at_sound [] levels root fuel (space t cs) c sound is = let same : t ≡ top_of c = cc in subst (IsSoundTop fuel root) same sound.0
at_sound (n ∷ p) levels root fuel (space t cs) c sound is = go (find n cs) refl is (λ d below at_d. at_sound p (pred levels) false fuel d c below at_d)
  where
    go : (o : Option Space) → find n cs ≡ o → option_and_then (at p) o ≡ Some c → ((d : Space) → IsSoundAt (pred levels) false fuel d → at p d ≡ Some c → IsSoundTop fuel (is_root false p) (top_of c)) → IsSoundTop fuel false (top_of c)
    go None found is rec = cc
    go (Some d) found is rec = subst (λ b. IsSoundTop fuel b (top_of c)) (below_root p) (rec d (found_sound levels fuel n cs sound.1 d found) is)

pub alone_sound : (p : List ℕ) (s : Space) (t : Top) → IsSound s → top_at p s ≡ Some t → IsSoundAlone p t
alone_sound p s t sound stood =
    let c = top_space p s t stood in
    let here : IsSoundTop sound.0 (is_root true p) t = subst (IsSoundTop sound.0 (is_root true p)) c.2 (at_sound p 8 true sound.0 s c.0 sound.1.2 c.1) in
    let sum = here.sum in
    let some = sound.1.0 in
    (omega (arith, sum, some), subst (λ n. n < 2 ^ 32) (sym sum) sound.1.1, here.devices)

not_none : (e : NextEvent) → is_local e ≡ true → IsNotLocal e → ⊥
not_none rests goes other = true≢false (sym goes)
not_none (moves t) goes other = other
not_none (meets k t) goes other = true≢false (sym goes)

-- the events of a run are in the history what they were for its space
pub run_happens : (p : List ℕ) (tree : Space) (run : Run) → IsRun run → run.depth ≡ length p → top_at p tree ≡ Some run.start → is_local_at p 8 tree ≡ true → RunsAt p run.ran tree (with_top p run.top tree)
run_happens p tree run is deep stood goes =
    let c = top_space p tree run.start stood in
    let goes_here : is_local (next (8 - length p) (top_of c.0)) ≡ true = sym (local_found p tree c.0 c.1) ∙ goes in
    record {
      some = some_of run.ran refl (subst (λ t. is_local (next (8 - length p) t) ≡ true) c.2 goes_here);
      here = c.0;
      stood = c.1;
      top = run.top;
      follows = subst (λ t. Follows (8 - length p) run.ran t run.top) (sym c.2) (subst (λ d. Follows (8 - d) run.ran run.start run.top) deep is.follows);
      now = refl;
    }
  where
    some_of : (n : ℕ) → run.ran ≡ n → is_local (next (8 - length p) run.start) ≡ true → 1 ≤ n
    some_of zero e goes = absurd (not_none (next (8 - length p) run.start) goes (subst (λ d. IsNotLocal (next (8 - d) run.start)) deep (is.none e)))
    some_of (suc n) e goes = omega arith

-- a call that has met its children
pub met_now : (tree later : Space) (path : ArrayVec ℕ) (k : Call) → call_at path.items 8 tree ≡ Some k → later ≡ try_meet path.items 8 tree → later ≡ step path.items 8 tree
met_now tree later path k may met = met ∙ ap (λ o. where_some o (step path.items 8 tree) tree) may

-- what contracts see of a board's fields
abbrev pub shown_of : Space → Space → Places → List Entry → Slots → ℕ → ℕ → ℕ → Shown
shown_of boot tree places es out ticket taken owed = record { boot = boot; tree = tree; places = places; history = es; out = out; next_ticket = ticket; taken = taken; owed = owed }

-- a space stands where a top is, and where a local event is next
pub top_stands : (p : List ℕ) (tree : Space) (t : Top) → top_at p tree ≡ Some t → (c : Space) × (at p tree ≡ Some c)
top_stands p tree t stood = let c = top_space p tree t stood in (c.0, c.1)

pub goes_stands : (p : List ℕ) (tree : Space) (o : Option Top) → is_local_at p 8 tree ≡ true → o ≡ option_map top_of (at p tree) → o ≡ None → ⊥
goes_stands p tree o goes told none = go (at p tree) refl
  where
    go : (r : Option Space) → at p tree ≡ r → ⊥
    go None is = true≢false (sym goes ∙ local_missing p tree is)
    go (Some c) is = let there : option_map top_of (at p tree) ≡ Some (top_of c) = ap (option_map top_of) is in cc

-- a result that is taken is one more entry, and no space has gone elsewhere
pub ran_legal : (boot tree later : Space) (home ps : Places) (es fs : List Entry) (path : ArrayVec ℕ) (run : Run) (top : Top) (events : ℕ) → Leads boot home es tree ps → IsRun run → run.depth ≡ length path.items
    → top_at path.items tree ≡ Some run.start → is_local_at path.items 8 tree ≡ true → top ≡ run.top → events ≡ run.ran → later ≡ with_top path.items top tree → fs ≡ es ++ Ran path events ∷ [] → Leads boot home fs later ps
ran_legal boot tree later home ps es fs path run top events legal is deep stood goes last many now items =
    let happens = run_happens path.items tree run is deep stood goes in
    let one : Leads boot home (es ++ Ran path run.ran ∷ []) (with_top path.items run.top tree) ps = legal-append es (Ran path run.ran) boot tree (with_top path.items run.top tree) home ps ps legal (happens, refl) in
    let same : with_top path.items run.top tree ≡ later = ap (λ t. with_top path.items t tree) (sym last) ∙ sym now in
    let entry : es ++ Ran path run.ran ∷ [] ≡ fs = ap (λ n. es ++ Ran path n ∷ []) (sym many) ∙ sym items in
    subst (λ xs. Leads boot home xs later ps) entry (subst (λ t. Leads boot home (es ++ Ran path run.ran ∷ []) t ps) same one)
