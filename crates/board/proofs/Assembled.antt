-- A call has met its children, which were brought together for it: what is listed since, and what the history says.
use Rattle.std.proofs.Common.{◌≡◌, ◌≢◌, ℕ, true, List, [], ◌∷◌, ◌++◌, Some, ◌⊎◌, inl, inr, sym, ap, ◌∙◌, subst}
use Rattle.arrayvec.specs.ArrayVec.{ArrayVec}
use Rattle.call_model.specs.declared.Call.{Call}
use Rattle.space_model.specs.Space.{Space}
use Rattle.space_model.specs.Sound.{IsSoundAt}
use Rattle.space_model.specs.Meeting.{awaits}
use Rattle.space_model.specs.declared.Await.{Await}
use Rattle.run_model.specs.Schedule.{call_at, is_local_at, step}
use Rattle.det_laws.specs.Near.{IsAwaitedBelow}
use Rattle.node_places.specs.Places.{Places, place_of}
use Rattle.path_set.specs.Paths.{Paths, Has}
use Rattle.det_core.specs.declared.entry.Entry.{Entry}
use Rattle.det_core.specs.declared.entry.Entry.TheVariants.{Met}
use Rattle.det_core.specs.Legal.{IsHistory, Leads}
use Rattle.det_core.proofs.Legal.{leads-append}
use Rattle.board.specs.Gathering.{HasMetBy}
use Rattle.board.specs.Jobs.{Slots}
use Rattle.board.specs.Listed.{HasAll, HasAwaited, HasWay, IsListed}
use Rattle.board.specs.Runs.{HasAllLists, HasAtHome, HasRun, Runs, list_on}
use Rattle.board.specs.Steps.{HasMet}
use Rattle.board.proofs.Histories.{shown_of}
use Rattle.board.proofs.ByNode.{still_run}
use Rattle.board.proofs.Kept.{met_listed, more_listed, path_cases}
use Rattle.board.proofs.Meetings.{goes_beside, way_beside, way_not_below}

-- the lists that a call needs before it meets its children on a node: what was listed, its caller there, the way to it, and its awaited children at their homes
abbrev pub IsGatheredIn : Runs → Runs → Paths → List Await → List ℕ → ℕ → Type 0
IsGatheredIn run mid calls all q node = (mid.places ≡ run.places) × HasAllLists mid run × Has (list_on mid node) q × (HasWay (HasRun mid) q × HasWay (Has calls) q) × (HasAwaited (HasAtHome mid) all q × HasAwaited (Has calls) all q)

pub together_listed : (tree t : Space) (fuel : ℕ) (run mid : Runs) (qs : Places) (calls calls' news : Paths) (out : Slots) (path : ArrayVec ℕ) (k : Call) (node : ℕ) (es fs : List Entry)
    → IsSoundAt 8 true fuel tree → IsListed tree run calls news out → call_at path.items 8 tree ≡ Some k → HasAll (Has calls') (Has calls) → IsGatheredIn run mid calls' (awaits k) path.items node
    → HasMetBy path k node tree mid.places es t qs fs → IsListed t (record { places = qs; lists = mid.lists }) calls' news out
together_listed tree t fuel run mid qs calls calls' news out path k node es fs sound listed may all_calls gathered met =
    subst (λ s. IsListed s after calls' news out) (sym met.now)
    (met_listed tree fuel run after calls' news out q k sound (more_listed tree run calls run calls' news out listed (λ p has. has) all_calls) may way_run way.1 awaited_run awaited.1 stays)
  where
    same : mid.places ≡ run.places
    same = gathered.0

    all_run : HasAllLists mid run
    all_run = gathered.1

    here : Has (list_on mid node) path.items
    here = gathered.2

    way : HasWay (HasRun mid) path.items × HasWay (Has calls') path.items
    way = gathered.3

    awaited : HasAwaited (HasAtHome mid) (awaits k) path.items × HasAwaited (Has calls') (awaits k) path.items
    awaited = gathered.4

    q : List ℕ
    q = path.items

    after : Runs
    after = record { places = qs; lists = mid.lists }

    way_run : HasWay (HasRun after) q
    way_run p on = go (path_cases p q)
      where
        go : (p ≡ q) ⊎ (p ≡ q → ⊥) → HasRun after p
        go (inl e) = subst (HasRun after) (sym e) (subst (λ n. Has (list_on mid n) q) (sym met.caller) here)
        go (inr ne) = subst (λ n. Has (list_on mid n) p) (sym (met.others p ne (way_not_below (awaits k) p q on) (way_beside p q k on))) (way.0 p on)

    awaited_run : HasAwaited (HasRun after) (awaits k) q
    awaited_run p short below = subst (λ n. Has (list_on mid n) p) (sym (met.children p short below)) (awaited.0 p short below)

    stays : (p : List ℕ) → is_local_at p 8 tree ≡ true → p ≢ q → (IsAwaitedBelow (awaits k) p q → ⊥) → HasRun run p → HasRun after p
    stays p goes ne beside has =
        let there : place_of qs p ≡ place_of run.places p = met.others p ne beside (goes_beside q p tree k may goes) ∙ ap (λ ps. place_of ps p) same in
        subst (λ n. Has (list_on mid n) p) (sym there) (all_run (place_of run.places p) p has)

-- the history leads to what the call has made
pub together_legal : (boot tree t : Space) (start ps qs : Places) (es fs : List Entry) (path : ArrayVec ℕ) (k : Call) (node : ℕ) → Leads boot start es tree ps → HasMetBy path k node tree ps es t qs fs → Leads boot start fs t qs
together_legal boot tree t start ps qs es fs path k node legal met = subst (λ xs. Leads boot start xs t qs) (sym met.items) (leads-append es (met.moves ++ Met path ∷ []) boot tree t start ps qs legal met.led)

-- and that is what contracts say of a meeting
pub together_shown : (boot tree t : Space) (ps qs : Places) (es fs : List Entry) (out : Slots) (ticket taken owed : ℕ) (path : ArrayVec ℕ) (k : Call) (node : ℕ) → call_at path.items 8 tree ≡ Some k → HasMetBy path k node tree ps es t qs fs
    → HasMet (shown_of boot tree ps es out ticket taken owed) path (shown_of boot t qs fs out ticket taken owed)
together_shown boot tree t ps qs es fs out ticket taken owed path k node may met = record {
  call = k;
  may = may;
  moves = met.moves;
  are = met.are;
  led = met.led;
  others = ap (λ s. shown_of boot s qs fs out ticket taken owed) met.now ∙ ap (λ xs. shown_of boot (step path.items 8 tree) qs xs out ticket taken owed) met.items;
}

-- a space that has gone nowhere yet: what is listed has more, and nothing else has changed
pub gathered_listed : (tree tree' : Space) (run mid : Runs) (calls calls' news news' : Paths) (out : Slots) → IsListed tree run calls news out → tree' ≡ tree → mid.places ≡ run.places → HasAllLists mid run → HasAll (Has calls') (Has calls) → news' ≡ news
    → IsListed tree' mid calls' news' out
gathered_listed tree tree' run mid calls calls' news news' out listed still same all_run all_calls same_news =
    subst (λ s. IsListed s mid calls' news' out) (sym still) (subst (λ ns. IsListed tree mid calls' ns out) (sym same_news) (more_listed tree run calls mid calls' news out listed (still_run run mid same all_run) all_calls))

pub gathered_legal : (boot tree tree' : Space) (ps qs : Places) (es fs : List Entry) → IsHistory ps.nodes boot es tree ps → tree' ≡ tree → qs ≡ ps → fs ≡ es → IsHistory qs.nodes boot fs tree' qs
gathered_legal boot tree tree' ps qs es fs legal still same items =
    subst (λ rs. IsHistory (let places = rs in places.nodes) boot fs tree' rs) (sym same) (subst (λ s. IsHistory ps.nodes boot fs s ps) (sym still) (subst (λ xs. IsHistory ps.nodes boot xs tree ps) (sym items) legal))

-- a meeting that began with equal trees, places and histories
pub met_from : (path : ArrayVec ℕ) (k : Call) (node : ℕ) (tree tree' t : Space) (ps ps' qs : Places) (es es' fs : List Entry) → tree' ≡ tree → ps' ≡ ps → es' ≡ es → HasMetBy path k node tree' ps' es' t qs fs → HasMetBy path k node tree ps es t qs fs
met_from path k node tree tree' t ps ps' qs es es' fs still same items met =
    subst (λ s. HasMetBy path k node s ps es t qs fs) still (subst (λ x. HasMetBy path k node tree' x es t qs fs) same (subst (λ x. HasMetBy path k node tree' ps' x t qs fs) items met))
