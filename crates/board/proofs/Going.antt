-- A space that goes on where it stands, within a turn.
use Rattle.std.proofs.Common.{◌≡◌, ℕ, zero, suc, ◌-◌, ◌≤◌, true, List, [], ◌∷◌, ◌++◌, length, Option, Some, None, refl, sym, ap, ◌∙◌, subst, arith, true≢false}
use Rattle.std.specs.Prelude.{Result, Ok, Err, IfOk, get_or, ◌<◌}
use Rattle.space_model.specs.Space.{Space, space, Children, Top, top_of, find, over}
use Rattle.space_model.specs.Path.{at, with_top, replace_top}
use Rattle.space_tree.proofs.Paths.{onward, at_child, topped_child}
use Rattle.space_model.specs.Event.{rests, next, Follows}
use Rattle.run_model.specs.Schedule.{is_local, is_local_at}
use Rattle.arrayvec.specs.ArrayVec.{ArrayVec}
use Rattle.det_core.specs.declared.entry.Entry.{Entry}
use Rattle.det_core.specs.declared.entry.Entry.TheVariants.{Ran}
use Rattle.det_core.specs.Legal.{RunsAt, Leads}
use Rattle.det_core.proofs.Legal.{legal-append}
use Rattle.node_places.specs.Places.{Places}
use Rattle.space_step.specs.declared.event.Next.{Next}
use Rattle.space_step.specs.declared.event.Next.TheVariants.{Local, Meet, Stopped}
use Rattle.space_step.specs.declared.event.Advance.{Advance}
use Rattle.space_step.specs.Running.{Advances, Ended}
use Rattle.board.specs.GoingOn.{GoesBelow, HasGoneOn}
use Rattle.board.specs.Jobs.{Slots, MayBeTaken}
use Rattle.board.specs.Runs.{Runs}
use Rattle.board.specs.Listed.{IsListed}
use Rattle.board.specs.Value.{Shown}
use Rattle.path_set.specs.Paths.{Paths, paths_in}
use Rattle.board.proofs.Histories.{shown_of}
use Rattle.board.proofs.Ways.{paths-append}
use Rattle.board.proofs.Kept.{local_found, local_missing, gone_on_listed}

-- at most a quantum
pub ended_within : (levels quantum ran : ℕ) (o : Option Next) (t : Top) → Ended levels quantum ran o t → ran ≤ quantum
ended_within levels quantum ran None t is = let less = is.0 in omega (arith, less)
ended_within levels quantum ran (Some Local) t is = omega (arith, is)
ended_within levels quantum ran (Some (Meet k)) t is = let less = is.0 in omega (arith, less)
ended_within levels quantum ran (Some Stopped) t is = let less = is.0 in omega (arith, less)

-- and one at least, where a local event is next
some_ended : (levels quantum ran : ℕ) (o : Option Next) (t u : Top) → 1 ≤ quantum → is_local (next levels t) ≡ true → Follows levels ran t u → Ended levels quantum ran o u → (o ≡ None → 1 ≤ ran) → 1 ≤ ran
some_ended levels quantum (suc n) o t u h goes led is none = omega arith
some_ended levels quantum zero None t u h goes led is none = none refl
some_ended levels quantum zero (Some Local) t u h goes led is none = omega (arith, h, is)
some_ended levels quantum zero (Some (Meet k)) t u h goes led is none =
    let here : next levels t ≡ _ = ap (next levels) (sym led) ∙ is.1 in
    absurd (true≢false (sym goes ∙ ap is_local here))
some_ended levels quantum zero (Some Stopped) t u h goes led is none =
    let here : next levels t ≡ rests = ap (next levels) (sym led) ∙ is.1 in
    absurd (true≢false (sym goes ∙ ap is_local here))

-- where local events are next at a path, a space stands there
pub goes_at : (p : List ℕ) (tree : Space) → is_local_at p 8 tree ≡ true → (c : Space) × (at p tree ≡ Some c) × (is_local (next (8 - length p) (top_of c)) ≡ true)
goes_at p tree goes = go (at p tree) refl
  where
    go : (o : Option Space) → at p tree ≡ o → (c : Space) × (at p tree ≡ Some c) × (is_local (next (8 - length p) (top_of c)) ≡ true)
    go None is = absurd (true≢false (sym goes ∙ local_missing p tree is))
    go (Some c) is = (c, is, sym (local_found p tree c is) ∙ goes)

-- what happened below is an entry of a history
pub runs_at : (p q : List ℕ) (depth : ℕ) (tree later : Space) (a : Advance) → q ≡ p → depth ≡ length p → is_local_at p 8 tree ≡ true → ((here : Space) → at q tree ≡ Some here → GoesBelow (8 - depth) q a here tree later) → RunsAt p a.ran tree later × (a.ran ≤ 128)
runs_at p q depth tree later a same deep goes went =
    let there = goes_at p tree goes in
    let here = there.0 in
    let stood : at q tree ≡ Some here = ap (λ r. at r tree) same ∙ there.1 in
    let below = went here stood in
    let levels : 8 - depth ≡ 8 - length p = ap (λ d. 8 - d) deep in
    let local : is_local (next (8 - depth) (top_of here)) ≡ true = ap (λ n. is_local (next n (top_of here))) levels ∙ there.2 in
    let is = below.advances in
    let some : 1 ≤ a.ran = some_ended (8 - depth) 128 a.ran a.next (top_of here) below.top (omega arith) local is.follows is.ended below.some in (
      record {
        some = some;
        here = here;
        stood = there.1;
        top = below.top;
        follows = subst (λ n. Follows n a.ran (top_of here) below.top) levels is.follows;
        now = below.now ∙ ap (λ r. with_top r below.top tree) same;
      },
      ended_within (8 - depth) 128 a.ran a.next below.top is.ended,
    )

-- at the end of a path
pub goes_empty : {E : Type 0} (p : List ℕ) (levels : ℕ) (r : Result Advance E) (s : Space) (u v : Top) (cs : Children) → length p < 1 → space u cs ≡ s → IfOk r (λ a. Advances levels 128 a u v) → IfOk r (λ a. a.next ≡ None → 1 ≤ a.ran)
    → IfOk r (λ a. (here : Space) → at p s ≡ Some here → GoesBelow levels p a here s (space v cs))
goes_empty p levels (Err e) s u v cs short is led some = tt
goes_empty (n ∷ p) levels (Ok a) s u v cs short is led some = absurd (omega (arith, short))
goes_empty [] levels (Ok a) s u v cs short is led some = λ here stood.
    let same : here ≡ space u cs = cc in
    record {
      top = v;
      advances = subst (λ c. Advances levels 128 a (top_of c) v) (sym same) led;
      some = some;
      now = ap (replace_top v) is;
    }

-- and behind its first number
pub goes_child : {E : Type 0} (p : List ℕ) (levels : ℕ) (r : Result Advance E) (u : Top) (s c w : Space) (cs : Children) → 1 ≤ length p → space u cs ≡ s → Some c ≡ find (get_or p 0 0) cs
    → IfOk r (λ a. (here : Space) → at (onward p) c ≡ Some here → GoesBelow levels (onward p) a here c w) → IfOk r (λ a. (here : Space) → at p s ≡ Some here → GoesBelow levels p a here s (space u (over (get_or p 0 0) (λ _. w) cs)))
goes_child p levels (Err e) u s c w cs long is found went = tt
goes_child p levels (Ok a) u s c w cs long is found went = λ here stood.
    let below = went here (at_child p u s c cs long is found ∙ stood) in
    record {
      top = below.top;
      advances = below.advances;
      some = below.some;
      now = topped_child p below.top u s c w cs (over (get_or p 0 0) (λ _. w) cs) long is found below.now refl;
    }

-- what contracts see of a space that has gone on
pub gone_shown : (boot tree t : Space) (ps : Places) (es fs : List Entry) (out : Slots) (ticket taken owed : ℕ) (path : ArrayVec ℕ) (events : ℕ) → MayBeTaken tree out path.items → events ≤ 128 → RunsAt path.items events tree t → fs ≡ es ++ Ran path events ∷ []
    → HasGoneOn (shown_of boot tree ps es out ticket taken owed) path events (shown_of boot t ps fs out ticket taken owed)
gone_shown boot tree t ps es fs out ticket taken owed path events may within runs items = record {
  may = may;
  within = within;
  runs = runs;
  others = ap (λ xs. shown_of boot t ps xs out ticket taken owed) items;
}

pub gone_legal : (boot tree later : Space) (home ps : Places) (es fs : List Entry) (path : ArrayVec ℕ) (events : ℕ) → Leads boot home es tree ps → RunsAt path.items events tree later → fs ≡ es ++ Ran path events ∷ [] → Leads boot home fs later ps
gone_legal boot tree later home ps es fs path events legal runs items =
    subst (λ xs. Leads boot home xs later ps) (sym items) (legal-append es (Ran path events) boot tree later home ps ps legal (runs, refl))

-- the history behind an entry, whose path and what stood before it are equal
pub noted : (es es' fs : List Entry) (entry path : ArrayVec ℕ) (events : ℕ) → es' ≡ es → entry ≡ path → fs ≡ es' ++ Ran entry events ∷ [] → fs ≡ es ++ Ran path events ∷ []
noted es es' fs entry path events same its is = is ∙ (ap (λ xs. xs ++ Ran entry events ∷ []) same ∙ ap (λ p. es ++ Ran p events ∷ []) its)

-- what is listed once a space has gone on, whose path is the last of the news
pub gone_on_listed_at : (tree later : Space) (run : Runs) (calls : Paths) (news news' after : List (ArrayVec ℕ)) (out : Slots) (last path : ArrayVec ℕ) (events : ℕ) → IsListed tree run calls (paths_in news) out → MayBeTaken tree out path.items → RunsAt path.items events tree later
    → news' ≡ news → last ≡ path → after ≡ news' ++ last ∷ [] → IsListed later run calls (paths_in after) out
gone_on_listed_at tree later run calls news news' after out last path events listed may runs same its is =
    let all : after ≡ news ++ path ∷ [] = is ∙ (ap (λ xs. xs ++ last ∷ []) same ∙ ap (λ p. news ++ p ∷ []) its) in
    let paths : paths_in after ≡ paths_in news ++ path.items ∷ [] = ap paths_in all ∙ paths-append news path in
    subst (λ ns. IsListed later run calls ns out) (sym paths)
    (subst (λ s. IsListed s run calls (paths_in news ++ path.items ∷ []) out) (sym runs.now) (gone_on_listed tree run calls (paths_in news) out path.items runs.top listed may.inside))

-- what contracts see of it, from what they saw before
pub gone_shown_from : (boot tree t : Space) (ps : Places) (es fs : List Entry) (out : Slots) (ticket taken owed : ℕ) (path : ArrayVec ℕ) (events : ℕ) (old : Shown) → shown_of boot tree ps es out ticket taken owed ≡ old → MayBeTaken old.tree old.out path.items → events ≤ 128
    → RunsAt path.items events tree t → fs ≡ es ++ Ran path events ∷ [] → HasGoneOn old path events (shown_of boot t ps fs out ticket taken owed)
gone_shown_from boot tree t ps es fs out ticket taken owed path events old is may within runs items =
    subst (λ s. HasGoneOn s path events (shown_of boot t ps fs out ticket taken owed)) is
    (gone_shown boot tree t ps es fs out ticket taken owed path events (subst (λ (s : Shown). MayBeTaken s.tree s.out path.items) (sym is) may) within runs items)
