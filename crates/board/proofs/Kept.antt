-- The lists of a board are kept by each of its steps.
use Rattle.std.proofs.Common.{◌≡◌, ◌≢◌, ℕ, zero, suc, pred, ◌-◌, ◌≤◌, length, arith, Bool, true, false, List, [], ◌∷◌, ◌++◌, Option, Some, None, ◌⊎◌, inl, inr, refl, sym, ap, ap₂, ◌∙◌, subst, true≢false}
use Rattle.std.proofs.lemmas.Bool.{cases_eq}
use Rattle.std.specs.Prelude.{option_map, option_and_then, slice_index_or, slice_set}
use Rattle.call_model.specs.declared.Call.{Call}
use Rattle.space_model.specs.Space.{Space, space, Top, top_of, children_of, find}
use Rattle.space_model.specs.Path.{at, with_top}
use Rattle.space_model.specs.Sound.{IsSoundAt}
use Rattle.space_model.proofs.Sound.{no_child, find_sound}
use Rattle.space_model.specs.Event.{NextEvent, rests, moves, meets, next}
use Rattle.space_model.specs.Meeting.{awaits}
use Rattle.space_model.specs.PathOrder.{IsBefore}
use Rattle.run_model.specs.Schedule.{is_local, is_local_at, ready_call, call_at, on_child, is_enabled, step}
use Rattle.run_model.proofs.Calls.{call_enabled}
use Rattle.run_model.proofs.Sound.{step_sound}
use Rattle.det_laws.proofs.Commutes.{child_there}
use Rattle.det_laws.specs.Tops.{top_at}
use Rattle.det_laws.specs.Near.{is_awaited, IsOnWay, IsAwaitedChild, IsAwaitedBelow, IsNear}
use Rattle.space_model.specs.declared.Await.{Await}
use Rattle.node_places.specs.Places.{place_of}
use Rattle.det_laws.proofs.Tops.{top_other}
use Rattle.det_laws.proofs.Near.{others_stay, local_there, same_local, same_call, local_enabled, enabled_near, going_on_stays}
use Rattle.path_set.specs.Paths.{Paths, Has, rest_of, IsFirst}
use Rattle.board.specs.declared.job.Out.{Out}
use Rattle.board.proofs.ByNode.{set_there}
use Rattle.board.specs.Jobs.{Slots, out_at, IsOut, Sets, MayBeTaken, MayBeTakenOn}
use Rattle.board.specs.Runs.{Runs, HasRun, list_on}
use Rattle.board.specs.Listed.{IsOnNews, ListsRunning, ListsCalls, OutsApart, IsListed, HasAll, HasWay, HasAwaited}

-- whether local events are next at a path is told by the space there
pub local_found : (p : List ℕ) (s r : Space) → at p s ≡ Some r → is_local_at p 8 s ≡ is_local (next (8 - length p) (top_of r))
local_found p s r is = local_there p 8 s ∙ ap (on_child (λ c. is_local (next (8 - length p) (top_of c)))) is

pub local_missing : (p : List ℕ) (s : Space) → at p s ≡ None → is_local_at p 8 s ≡ false
local_missing p s is = local_there p 8 s ∙ ap (on_child (λ c. is_local (next (8 - length p) (top_of c)))) is

-- two paths are one, or not
pub path_cases : (p q : List ℕ) → (p ≡ q) ⊎ (p ≡ q → ⊥)
path_cases [] [] = inl refl
path_cases [] (m ∷ q) = inr (λ e. cc)
path_cases (n ∷ p) [] = inr (λ e. cc)
path_cases (n ∷ p) (m ∷ q) = go (cases_eq n m) (path_cases p q)
  where
    go : (n ≡ m) ⊎ (n ≡ m → ⊥) → (p ≡ q) ⊎ (p ≡ q → ⊥) → (n ∷ p ≡ m ∷ q) ⊎ (n ∷ p ≡ m ∷ q → ⊥)
    go (inl e) (inl f) = inl (ap₂ (λ i is. i ∷ is) e f)
    go (inl e) (inr f) = inr (λ g. f cc)
    go (inr e) f = inr (λ g. e cc)

-- where a call is next at a path, no local event is
pub not_both : (q : List ℕ) (levels : ℕ) (s : Space) (k : Call) → is_local_at q levels s ≡ true → call_at q levels s ≡ Some k → ⊥
not_both [] levels s k goes may = go (next levels (top_of s)) goes may
  where
    go : (e : NextEvent) → is_local e ≡ true → ready_call e (children_of s) ≡ Some k → ⊥
    go rests goes may = true≢false (sym goes)
    go (moves t) goes may = cc
    go (meets j t) goes may = true≢false (sym goes)
not_both (n ∷ q) levels s k goes may = go (find n (children_of s)) goes may (λ c g m. not_both q (pred levels) c k g m)
  where
    go : (o : Option Space) → on_child (is_local_at q (pred levels)) o ≡ true → option_and_then (call_at q (pred levels)) o ≡ Some k
        → ((c : Space) → is_local_at q (pred levels) c ≡ true → call_at q (pred levels) c ≡ Some k → ⊥) → ⊥
    go None goes may rec = true≢false (sym goes)
    go (Some c) goes may rec = rec c goes may

-- where an event may happen in a sound tree, the path is no longer than there are levels
enabled_short : (p : List ℕ) (levels : ℕ) (root : Bool) (fuel : ℕ) (s : Space) → IsSoundAt levels root fuel s → is_enabled p levels s ≡ true → length p ≤ levels
enabled_short [] levels root fuel s sound may = omega arith
enabled_short (n ∷ p) zero root fuel (space t cs) sound may =
    let c = child_there (is_enabled p zero) (find n cs) may in
    let away = no_child fuel 0 n cs sound.1 in
    cc
enabled_short (n ∷ p) (suc levels) root fuel (space t cs) sound may =
    let c = child_there (is_enabled p levels) (find n cs) may in
    let below = enabled_short p levels false fuel c.0 (find_sound levels fuel 0 n cs c.0 sound.1 c.1).1 c.2 in
    omega (arith, below)

-- a path stands on the way to another, or not
pub way_cases : (p q : List ℕ) → IsOnWay p q ⊎ (IsOnWay p q → ⊥)
way_cases [] q = inl tt
way_cases (n ∷ p) [] = inr (λ w. w)
way_cases (n ∷ p) (m ∷ q) = go (cases_eq n m) (way_cases p q)
  where
    go : (n ≡ m) ⊎ (n ≡ m → ⊥) → IsOnWay p q ⊎ (IsOnWay p q → ⊥) → IsOnWay (n ∷ p) (m ∷ q) ⊎ (IsOnWay (n ∷ p) (m ∷ q) → ⊥)
    go (inl e) (inl w) = inl (e, w)
    go (inl e) (inr f) = inr (λ w. f w.1)
    go (inr f) c = inr (λ w. f w.0)

pub way_itself : (p : List ℕ) → IsOnWay p p
way_itself [] = tt
way_itself (n ∷ p) = (refl, way_itself p)

-- whether local events are next at a path is told by the top there
local_by_top : (p : List ℕ) (levels : ℕ) (s t : Space) → top_at p t ≡ top_at p s → is_local_at p levels t ≡ is_local_at p levels s
local_by_top p levels s t same = local_there p levels t ∙ by_top _ (at p t) ∙ ap (of_top _) same ∙ sym (by_top _ (at p s)) ∙ sym (local_there p levels s)
  where
    of_top : ℕ → Option Top → Bool
    of_top k None = false
    of_top k (Some u) = is_local (next k u)

    by_top : (k : ℕ) (o : Option Space) → on_child (λ c. is_local (next k (top_of c))) o ≡ of_top k (option_map top_of o)
    by_top k None = refl
    by_top k (Some c) = refl

more_news : (news : Paths) (q p : List ℕ) → Has news p → Has (news ++ q ∷ []) p
more_news [] q p has = absurd has
more_news (r ∷ news) q p (inl e) = inl e
more_news (r ∷ news) q p (inr later) = inr (more_news news q p later)

last_news : (news : Paths) (q : List ℕ) → Has (news ++ q ∷ []) q
last_news [] q = inl refl
last_news (r ∷ news) q = inr (last_news news q)

split_news : (news : Paths) (q p : List ℕ) → Has (news ++ q ∷ []) p → (p ≡ q) ⊎ Has news p
split_news [] q p (inl e) = inl e
split_news [] q p (inr has) = absurd has
split_news (r ∷ news) q p (inl e) = inr (inl e)
split_news (r ∷ news) q p (inr later) = go (split_news news q p later)
  where
    go : (p ≡ q) ⊎ Has news p → (p ≡ q) ⊎ Has (r ∷ news) p
    go (inl e) = inl e
    go (inr has) = inr (inr has)

still_news : (news : Paths) (q p : List ℕ) → IsOnNews news p → IsOnNews (news ++ q ∷ []) p
still_news news q p on = (on.0, more_news news q on.0 on.1, on.2)

-- a slot that is emptied: what was out elsewhere is out still
pub still_out : (slot : ℕ) (o : Out) (old new : Slots) (p : List ℕ) → out_at old slot ≡ Some o → Sets slot None old new → (p ≢ o.path.items) → IsOut old p → IsOut new p
still_out slot o old new p was sets other out = go (cases_eq out.0 slot)
  where
    go : (out.0 ≡ slot) ⊎ (out.0 ≡ slot → ⊥) → IsOut new p
    go (inl e) =
        let here : out_at old slot ≡ Some out.1.0 = ap (out_at old) (sym e) ∙ out.1.1 in
        let same : out.1.0 ≡ o = cc in
        absurd (other (sym (sym (ap (λ (x : Out). x.path.items) same) ∙ out.1.2)))
    go (inr ne) = (out.0, (out.1.0, sets.others out.0 ne ∙ out.1.1, out.1.2))

-- and what is out now was out before, and is another space
pub was_out : (slot : ℕ) (o : Out) (old new : Slots) (p : List ℕ) → OutsApart old → out_at old slot ≡ Some o → Sets slot None old new → IsOut new p → IsOut old p × (p ≢ o.path.items)
was_out slot o old new p apart was sets out = go (cases_eq out.0 slot)
  where
    go : (out.0 ≡ slot) ⊎ (out.0 ≡ slot → ⊥) → IsOut old p × (p ≢ o.path.items)
    go (inl e) =
        let here : out_at new slot ≡ Some out.1.0 = ap (out_at new) (sym e) ∙ out.1.1 in
        let gone = sets.here in
        cc
    go (inr ne) =
        let before : out_at old out.0 ≡ Some out.1.0 = sym (sets.others out.0 ne) ∙ out.1.1 in
        ((out.0, (out.1.0, before, out.1.2)), λ e. ne (apart out.0 slot out.1.0 o before was (out.1.2 ∙ e)))

still_apart : (slot : ℕ) (old new : Slots) → OutsApart old → Sets slot None old new → OutsApart new
still_apart slot old new apart sets i j o r at_i at_j same = go (cases_eq i slot) (cases_eq j slot)
  where
    go : (i ≡ slot) ⊎ (i ≡ slot → ⊥) → (j ≡ slot) ⊎ (j ≡ slot → ⊥) → i ≡ j
    go (inl e) c = let here : out_at new slot ≡ Some o = ap (out_at new) (sym e) ∙ at_i in let gone = sets.here in cc
    go (inr ne) (inl e) = let here : out_at new slot ≡ Some r = ap (out_at new) (sym e) ∙ at_j in let gone = sets.here in cc
    go (inr ne) (inr nf) = apart i j o r (sym (sets.others i ne) ∙ at_i) (sym (sets.others j nf) ∙ at_j) same

-- a result is taken: another top stands at its path, and its job is out no longer
pub taken_listed : (tree : Space) (run : Runs) (calls news : Paths) (old new : Slots) (slot : ℕ) (o : Out) (t : Top) → IsListed tree run calls news old → out_at old slot ≡ Some o → Sets slot None old new
    → IsListed (with_top o.path.items t tree) run calls (news ++ o.path.items ∷ []) new
taken_listed tree run calls news old new slot o t listed was sets = record {
  running = runs;
  meeting = meets;
  goes = λ p out.
      let before = was_out slot o old new p listed.apart was sets out in
      local_by_top p 8 tree after (top_other p q t tree before.1) ∙ listed.goes p before.0;
  apart = still_apart slot old new listed.apart sets;
}
  where
    q : List ℕ
    q = o.path.items

    after : Space
    after = with_top q t tree

    listed_still : (p : List ℕ) → p ≢ q → HasRun run p ⊎ (Has news p ⊎ IsOut old p) → HasRun run p ⊎ (Has (news ++ q ∷ []) p ⊎ IsOut new p)
    listed_still p other (inl has) = inl has
    listed_still p other (inr (inl has)) = inr (inl (more_news news q p has))
    listed_still p other (inr (inr out)) = inr (inr (still_out slot o old new p was sets other out))

    runs : ListsRunning after run (news ++ q ∷ []) new
    runs p goes = go (path_cases p q)
      where
        go : (p ≡ q) ⊎ (p ≡ q → ⊥) → HasRun run p ⊎ (Has (news ++ q ∷ []) p ⊎ IsOut new p)
        go (inl e) = inr (inl (subst (Has (news ++ q ∷ [])) (sym e) (last_news news q)))
        go (inr other) = listed_still p other (listed.running p (sym (local_by_top p 8 tree after (top_other p q t tree other)) ∙ goes))

    calls_still : (p : List ℕ) → Has calls p ⊎ IsOnNews news p → Has calls p ⊎ IsOnNews (news ++ q ∷ []) p
    calls_still p (inl has) = inl has
    calls_still p (inr on) = inr (still_news news q p on)

    meets : ListsCalls after calls (news ++ q ∷ [])
    meets p k may = go (way_cases p q)
      where
        go : IsOnWay p q ⊎ (IsOnWay p q → ⊥) → Has calls p ⊎ IsOnNews (news ++ q ∷ []) p
        go (inl way) = inr (q, last_news news q, way)
        go (inr away) = calls_still p (listed.meeting p k (sym (same_call p 8 tree after (others_stay p q t tree away)) ∙ may))

-- a space that is not out has gone on where it stands: another top stands at its path
pub gone_on_listed : (tree : Space) (run : Runs) (calls news : Paths) (out : Slots) (q : List ℕ) (t : Top) → IsListed tree run calls news out → (IsOut out q → ⊥) → IsListed (with_top q t tree) run calls (news ++ q ∷ []) out
gone_on_listed tree run calls news out q t listed inside = record {
  running = λ p goes. runs p goes (path_cases p q);
  meeting = λ p k may. meets p k may (way_cases p q);
  goes = λ p is. local_by_top p 8 tree after (top_other p q t tree (λ e. inside (subst (IsOut out) e is))) ∙ listed.goes p is;
  apart = listed.apart;
}
  where
    after : Space
    after = with_top q t tree

    more : (p : List ℕ) → HasRun run p ⊎ (Has news p ⊎ IsOut out p) → HasRun run p ⊎ (Has (news ++ q ∷ []) p ⊎ IsOut out p)
    more p (inl has) = inl has
    more p (inr (inl has)) = inr (inl (more_news news q p has))
    more p (inr (inr is)) = inr (inr is)

    runs : (p : List ℕ) → is_local_at p 8 after ≡ true → (p ≡ q) ⊎ (p ≡ q → ⊥) → HasRun run p ⊎ (Has (news ++ q ∷ []) p ⊎ IsOut out p)
    runs p goes (inl e) = inr (inl (subst (Has (news ++ q ∷ [])) (sym e) (last_news news q)))
    runs p goes (inr other) = more p (listed.running p (sym (local_by_top p 8 tree after (top_other p q t tree other)) ∙ goes))

    calls_still : (p : List ℕ) → Has calls p ⊎ IsOnNews news p → Has calls p ⊎ IsOnNews (news ++ q ∷ []) p
    calls_still p (inl has) = inl has
    calls_still p (inr on) = inr (still_news news q p on)

    meets : (p : List ℕ) (k : Call) → call_at p 8 after ≡ Some k → IsOnWay p q ⊎ (IsOnWay p q → ⊥) → Has calls p ⊎ IsOnNews (news ++ q ∷ []) p
    meets p k may (inl way) = inr (q, last_news news q, way)
    meets p k may (inr away) = calls_still p (listed.meeting p k (sym (same_call p 8 tree after (others_stay p q t tree away)) ∙ may))

-- a result is not taken, and its job is out no longer
pub stale_listed : (tree : Space) (run : Runs) (calls news : Paths) (old new : Slots) (slot : ℕ) (o : Out) → IsListed tree run calls news old → out_at old slot ≡ Some o → Sets slot None old new
    → IsListed tree run calls (news ++ o.path.items ∷ []) new
stale_listed tree run calls news old new slot o listed was sets = record {
  running = λ p goes. runs p (path_cases p q) (listed.running p goes);
  meeting = λ p k may. calls_still p (listed.meeting p k may);
  goes = λ p out. listed.goes p (was_out slot o old new p listed.apart was sets out).0;
  apart = still_apart slot old new listed.apart sets;
}
  where
    q : List ℕ
    q = o.path.items

    runs : (p : List ℕ) → (p ≡ q) ⊎ (p ≡ q → ⊥) → HasRun run p ⊎ (Has news p ⊎ IsOut old p) → HasRun run p ⊎ (Has (news ++ q ∷ []) p ⊎ IsOut new p)
    runs p c (inl has) = inl has
    runs p c (inr (inl has)) = inr (inl (more_news news q p has))
    runs p (inl e) (inr (inr out)) = inr (inl (subst (Has (news ++ q ∷ [])) (sym e) (last_news news q)))
    runs p (inr other) (inr (inr out)) = inr (inr (still_out slot o old new p was sets other out))

    calls_still : (p : List ℕ) → Has calls p ⊎ IsOnNews news p → Has calls p ⊎ IsOnNews (news ++ q ∷ []) p
    calls_still p (inl has) = inl has
    calls_still p (inr on) = inr (still_news news q p on)

-- the last of the news is listed
pub news_listed : (tree : Space) (run : Runs) (calls : Paths) (run' : Runs) (calls' news : Paths) (q : List ℕ) (out : Slots) → IsListed tree run calls (news ++ q ∷ []) out
    → HasAll (HasRun run') (HasRun run) → HasAll (Has calls') (Has calls) → HasRun run' q → HasWay (Has calls') q → IsListed tree run' calls' news out
news_listed tree run calls run' calls' news q out listed all_run all_calls there way_calls = record {
  running = λ p goes. runs p (listed.running p goes);
  meeting = λ p k may. meets p (listed.meeting p k may);
  goes = listed.goes;
  apart = listed.apart;
}
  where
    by_run : (p : List ℕ) → (p ≡ q) ⊎ Has news p → HasRun run' p ⊎ (Has news p ⊎ IsOut out p)
    by_run p (inl e) = inl (subst (HasRun run') (sym e) there)
    by_run p (inr has) = inr (inl has)

    runs : (p : List ℕ) → HasRun run p ⊎ (Has (news ++ q ∷ []) p ⊎ IsOut out p) → HasRun run' p ⊎ (Has news p ⊎ IsOut out p)
    runs p (inl has) = inl (all_run p has)
    runs p (inr (inl has)) = by_run p (split_news news q p has)
    runs p (inr (inr o)) = inr (inr o)

    by_call : (p r : List ℕ) → (r ≡ q) ⊎ Has news r → IsOnWay p r → Has calls' p ⊎ IsOnNews news p
    by_call p r (inl e) way = inl (way_calls p (subst (IsOnWay p) e way))
    by_call p r (inr has) way = inr (r, has, way)

    meets : (p : List ℕ) → Has calls p ⊎ IsOnNews (news ++ q ∷ []) p → Has calls' p ⊎ IsOnNews news p
    meets p (inl has) = inl (all_calls p has)
    meets p (inr on) = by_call p on.0 (split_news news q on.0 on.1) on.2

-- sets that have more list what they listed
pub more_listed : (tree : Space) (run : Runs) (calls : Paths) (run' : Runs) (calls' news : Paths) (out : Slots) → IsListed tree run calls news out → HasAll (HasRun run') (HasRun run) → HasAll (Has calls') (Has calls) → IsListed tree run' calls' news out
more_listed tree run calls run' calls' news out listed all_run all_calls = record {
  running = λ p goes. runs p (listed.running p goes);
  meeting = λ p k may. meets p (listed.meeting p k may);
  goes = listed.goes;
  apart = listed.apart;
}
  where
    runs : (p : List ℕ) → HasRun run p ⊎ (Has news p ⊎ IsOut out p) → HasRun run' p ⊎ (Has news p ⊎ IsOut out p)
    runs p (inl has) = inl (all_run p has)
    runs p (inr other) = inr other

    meets : (p : List ℕ) → Has calls p ⊎ IsOnNews news p → Has calls' p ⊎ IsOnNews news p
    meets p (inl has) = inl (all_calls p has)
    meets p (inr on) = inr on

-- a path is that of an awaited child, or not
child_cases : (all : List Await) (p : List ℕ) → IsAwaitedChild all p ⊎ (IsAwaitedChild all p → ⊥)
child_cases all [] = inr (λ x. x)
child_cases all (n ∷ []) = go (is_awaited n all) refl
  where
    go : (b : Bool) → is_awaited n all ≡ b → (is_awaited n all ≡ true) ⊎ (is_awaited n all ≡ true → ⊥)
    go true is = inl is
    go false is = inr (λ e. true≢false (sym e ∙ is))
child_cases all (n ∷ m ∷ p) = inr (λ x. x)

pub awaited_cases : (all : List Await) (p q : List ℕ) → IsAwaitedBelow all p q ⊎ (IsAwaitedBelow all p q → ⊥)
awaited_cases all p [] = child_cases all p
awaited_cases all [] (m ∷ q) = inr (λ x. x)
awaited_cases all (n ∷ p) (m ∷ q) = go (cases_eq n m) (awaited_cases all p q)
  where
    go : (n ≡ m) ⊎ (n ≡ m → ⊥) → IsAwaitedBelow all p q ⊎ (IsAwaitedBelow all p q → ⊥) → IsAwaitedBelow all (n ∷ p) (m ∷ q) ⊎ (IsAwaitedBelow all (n ∷ p) (m ∷ q) → ⊥)
    go (inl e) (inl b) = inl (e, b)
    go (inl e) (inr f) = inr (λ b. f b.1)
    go (inr f) c = inr (λ b. f b.0)

-- a call has met its children, and some spaces stand elsewhere since: those of the caller and of its awaited children are listed where they stand, and each other that goes on stands where it did
pub met_listed : (tree : Space) (fuel : ℕ) (run run' : Runs) (calls news : Paths) (out : Slots) (q : List ℕ) (k : Call) → IsSoundAt 8 true fuel tree → IsListed tree run calls news out → call_at q 8 tree ≡ Some k
    → HasWay (HasRun run') q → HasWay (Has calls) q → HasAwaited (HasRun run') (awaits k) q → HasAwaited (Has calls) (awaits k) q
    → ((p : List ℕ) → is_local_at p 8 tree ≡ true → p ≢ q → (IsAwaitedBelow (awaits k) p q → ⊥) → HasRun run p → HasRun run' p) → IsListed (step q 8 tree) run' calls news out
met_listed tree fuel run run' calls news out q k sound listed may way_run way_calls awaited_run awaited_calls stays = record {
  running = λ p goes. runs p (enabled_near p q 8 true fuel tree k sound may (local_enabled p 8 after goes)) goes;
  meeting = λ p j now. meets p j (enabled_near p q 8 true fuel tree k sound may (call_enabled p 8 after j now)) now;
  goes = λ p o.
      let before = listed.goes p o in
      local_by_top p 8 tree after (going_on_stays p q 8 true fuel tree k sound (apart_from p before) (local_enabled p 8 tree before) may) ∙ before;
  apart = listed.apart;
}
  where
    after : Space
    after = step q 8 tree

    short : (p : List ℕ) → is_enabled p 8 after ≡ true → length p ≤ 8
    short p may = enabled_short p 8 true fuel after (step_sound q 8 true fuel tree sound) may

    apart_from : (p : List ℕ) → is_local_at p 8 tree ≡ true → p ≢ q
    apart_from p goes e = not_both q 8 tree k (ap (λ r. is_local_at r 8 tree) (sym e) ∙ goes) may

    was_listed : (p : List ℕ) → is_local_at p 8 tree ≡ true → is_local_at p 8 after ≡ true → IsAwaitedBelow (awaits k) p q ⊎ (IsAwaitedBelow (awaits k) p q → ⊥)
        → HasRun run p ⊎ (Has news p ⊎ IsOut out p) → HasRun run' p ⊎ (Has news p ⊎ IsOut out p)
    was_listed p before goes (inl below) was = inl (awaited_run p (short p (local_enabled p 8 after goes)) below)
    was_listed p before goes (inr beside) (inl has) = inl (stays p before (apart_from p before) beside has)
    was_listed p before goes (inr beside) (inr other) = inr other

    runs : (p : List ℕ) → (at p after ≡ at p tree) ⊎ IsNear (awaits k) p q → is_local_at p 8 after ≡ true → HasRun run' p ⊎ (Has news p ⊎ IsOut out p)
    runs p (inl same) goes = let before = sym (same_local p 8 tree after same) ∙ goes in was_listed p before goes (awaited_cases (awaits k) p q) (listed.running p before)
    runs p (inr (inl way)) goes = inl (way_run p way)
    runs p (inr (inr below)) goes = inl (awaited_run p (short p (local_enabled p 8 after goes)) below)

    meets : (p : List ℕ) (j : Call) → (at p after ≡ at p tree) ⊎ IsNear (awaits k) p q → call_at p 8 after ≡ Some j → Has calls p ⊎ IsOnNews news p
    meets p j (inl same) now = listed.meeting p j (sym (same_call p 8 tree after same) ∙ now)
    meets p j (inr (inl way)) now = inl (way_calls p way)
    meets p j (inr (inr below)) now = inl (awaited_calls p (short p (call_enabled p 8 after j now)) below)

-- the list of one node, once its first is out of it
dropped_here : (lists : List Paths) (node : ℕ) (ps : Paths) (p q : List ℕ) → IsFirst p (slice_index_or lists node []) → Has (slice_index_or lists node []) q → (q ≡ p) ⊎ Has (slice_index_or (slice_set lists node (rest_of (slice_index_or lists node []))) node []) q
dropped_here [] node ps p q first has = absurd has
dropped_here (l ∷ lists) zero ps p q first has = subst (λ xs. Has xs q) first.first has
dropped_here (l ∷ lists) (suc node) ps p q first has = dropped_here lists node ps p q first has

-- without the first that is listed for a node
abbrev pub without_first : Runs → ℕ → Runs
without_first run node = record run { lists = slice_set run.lists node (rest_of (list_on run node)) }

-- the first of those listed for a node stands elsewhere, has no local event, or is out: it goes
pub run_dropped : (tree : Space) (run : Runs) (calls : Paths) (out : Slots) (node : ℕ) (p : List ℕ) → IsListed tree run calls [] out → IsFirst p (list_on run node)
    → (place_of run.places p ≡ node → is_local_at p 8 tree ≡ true → IsOut out p) → IsListed tree (without_first run node) calls [] out
run_dropped tree run calls out node p listed first away = record {
  running = λ q goes. runs q goes (listed.running q goes);
  meeting = listed.meeting;
  goes = listed.goes;
  apart = listed.apart;
}
  where
    after : Runs
    after = without_first run node

    one_of : (q : List ℕ) → is_local_at q 8 tree ≡ true → place_of run.places q ≡ node → (q ≡ p) ⊎ Has (list_on after node) q → HasRun after q ⊎ (Has [] q ⊎ IsOut out q)
    one_of q goes there (inr later) = inl (subst (λ n. Has (list_on after n) q) (sym there) later)
    one_of q goes there (inl e) = inr (inr (subst (IsOut out) (sym e) (away (subst (λ r. place_of run.places r ≡ node) e there) (subst (λ r. is_local_at r 8 tree ≡ true) e goes))))

    on_node : (q : List ℕ) → is_local_at q 8 tree ≡ true → HasRun run q → (place_of run.places q ≡ node) ⊎ (place_of run.places q ≡ node → ⊥) → HasRun after q ⊎ (Has [] q ⊎ IsOut out q)
    on_node q goes has (inl there) = one_of q goes there (dropped_here run.lists node [] p q first (subst (λ n. Has (list_on run n) q) there has))
    on_node q goes has (inr other) = inl (subst (λ xs. Has xs q) (sym (set_there run.lists node (place_of run.places q) (rest_of (list_on run node)) other)) has)

    runs : (q : List ℕ) → is_local_at q 8 tree ≡ true → HasRun run q ⊎ (Has [] q ⊎ IsOut out q) → HasRun after q ⊎ (Has [] q ⊎ IsOut out q)
    runs q goes (inl has) = on_node q goes has (cases_eq (place_of run.places q) node)
    runs q goes (inr other) = inr other

-- the first of the calls listed may not meet its children: it goes
pub call_dropped : (tree : Space) (run : Runs) (calls : Paths) (out : Slots) (p : List ℕ) → IsListed tree run calls [] out → IsFirst p calls → call_at p 8 tree ≡ None → IsListed tree run (rest_of calls) [] out
call_dropped tree run calls out p listed first none = record {
  running = listed.running;
  meeting = λ q k may. meets q k may (listed.meeting q k may);
  goes = listed.goes;
  apart = listed.apart;
}
  where
    one_of : (q : List ℕ) (k : Call) → call_at q 8 tree ≡ Some k → (q ≡ p) ⊎ Has (rest_of calls) q → Has (rest_of calls) q ⊎ IsOnNews [] q
    one_of q k may (inr later) = inl later
    one_of q k may (inl e) = let lost : call_at q 8 tree ≡ None = ap (λ r. call_at r 8 tree) e ∙ none in cc

    meets : (q : List ℕ) (k : Call) → call_at q 8 tree ≡ Some k → Has calls q ⊎ IsOnNews [] q → Has (rest_of calls) q ⊎ IsOnNews [] q
    meets q k may (inl has) = one_of q k may (subst (λ ps. Has ps q) first.first has)
    meets q k may (inr on) = inr on

-- the first of those listed for a node may be taken: no other there comes before it
pub run_least : (tree : Space) (run : Runs) (calls : Paths) (out : Slots) (node : ℕ) (p q : List ℕ) → IsListed tree run calls [] out → IsFirst p (list_on run node) → MayBeTakenOn run.places node tree out q → (q ≡ p) ⊎ IsBefore p q
run_least tree run calls out node p q listed first on = go (listed.running q (let may = on.may in may.goes))
  where
    go : HasRun run q ⊎ (Has [] q ⊎ IsOut out q) → (q ≡ p) ⊎ IsBefore p q
    go (inl has) = first.least q (subst (λ n. Has (list_on run n) q) on.there has)
    go (inr (inl has)) = absurd has
    go (inr (inr out)) = absurd (let may = on.may in may.inside out)

-- and where none is listed for a node none may be taken there
pub none_to_take : (tree : Space) (run : Runs) (calls : Paths) (out : Slots) (node : ℕ) (q : List ℕ) → IsListed tree run calls [] out → list_on run node ≡ [] → MayBeTakenOn run.places node tree out q → ⊥
none_to_take tree run calls out node q listed none on = go (listed.running q (let may = on.may in may.goes))
  where
    go : HasRun run q ⊎ (Has [] q ⊎ IsOut out q) → ⊥
    go (inl has) = subst (λ xs. Has xs q) none (subst (λ n. Has (list_on run n) q) on.there has)
    go (inr (inl has)) = has
    go (inr (inr out)) = let may = on.may in may.inside out

pub call_least : (tree : Space) (run : Runs) (calls : Paths) (out : Slots) (p q : List ℕ) (k : Call) → IsListed tree run calls [] out → IsFirst p calls → call_at q 8 tree ≡ Some k → (q ≡ p) ⊎ IsBefore p q
call_least tree run calls out p q k listed first may = go (listed.meeting q k may)
  where
    go : Has calls q ⊎ IsOnNews [] q → (q ≡ p) ⊎ IsBefore p q
    go (inl has) = first.least q has
    go (inr on) = absurd on.1

pub none_to_meet : (tree : Space) (run : Runs) (out : Slots) (q : List ℕ) → IsListed tree run [] [] out → call_at q 8 tree ≡ None
none_to_meet tree run out q listed = go (call_at q 8 tree) refl
  where
    listed_none : (k : Call) → Has [] q ⊎ IsOnNews [] q → ⊥
    listed_none k (inl has) = has
    listed_none k (inr on) = on.1

    go : (o : Option Call) → call_at q 8 tree ≡ o → call_at q 8 tree ≡ None
    go None is = is
    go (Some k) is = absurd (listed_none k (listed.meeting q k is))

-- what was out is out still, where a slot in which nothing was has a job now
pub out_still : (old new : Slots) (slot : ℕ) (o : Option Out) (q : List ℕ) → out_at old slot ≡ None → Sets slot o old new → IsOut old q → IsOut new q
out_still old new slot o q vacant sets out = go (cases_eq out.0 slot)
  where
    go : (out.0 ≡ slot) ⊎ (out.0 ≡ slot → ⊥) → IsOut new q
    go (inl e) = let here : out_at old slot ≡ Some out.1.0 = ap (out_at old) (sym e) ∙ out.1.1 in cc
    go (inr ne) = (out.0, (out.1.0, sets.others out.0 ne ∙ out.1.1, out.1.2))

-- and what is out now was out, or is the job there
pub out_before : (old new : Slots) (slot : ℕ) (o : Out) (q : List ℕ) → Sets slot (Some o) old new → IsOut new q → IsOut old q ⊎ (q ≡ o.path.items)
out_before old new slot o q sets out = go (cases_eq out.0 slot)
  where
    go : (out.0 ≡ slot) ⊎ (out.0 ≡ slot → ⊥) → IsOut old q ⊎ (q ≡ o.path.items)
    go (inl e) =
        let here : out_at new slot ≡ Some out.1.0 = ap (out_at new) (sym e) ∙ out.1.1 in
        let told = sets.here in
        let same : out.1.0 ≡ o = cc in
        inr (sym out.1.2 ∙ ap (λ (x : Out). x.path.items) same)
    go (inr ne) = inl (out.0, (out.1.0, sym (sets.others out.0 ne) ∙ out.1.1, out.1.2))

-- a space that may be taken is put out, in a slot in which nothing was, and need be listed no more
pub put_out_listed : (tree : Space) (run run' : Runs) (calls news : Paths) (old new : Slots) (slot : ℕ) (o : Out) → IsListed tree run calls news old → MayBeTaken tree old o.path.items
    → out_at old slot ≡ None → Sets slot (Some o) old new → ((q : List ℕ) → q ≢ o.path.items → HasRun run q → HasRun run' q) → IsListed tree run' calls news new
put_out_listed tree run run' calls news old new slot o listed may vacant sets fewer = record {
  running = λ q goes. runs q (path_cases q o.path.items) (listed.running q goes);
  meeting = listed.meeting;
  goes = λ q out. goes_on q out (cases_eq out.0 slot);
  apart = apart;
}
  where
    runs : (q : List ℕ) → (q ≡ o.path.items) ⊎ (q ≡ o.path.items → ⊥) → HasRun run q ⊎ (Has news q ⊎ IsOut old q) → HasRun run' q ⊎ (Has news q ⊎ IsOut new q)
    runs q (inl e) was = inr (inr (slot, (o, sets.here, sym e)))
    runs q (inr other) (inl has) = inl (fewer q other has)
    runs q (inr other) (inr (inl on)) = inr (inl on)
    runs q (inr other) (inr (inr out)) = inr (inr (out_still old new slot (Some o) q vacant sets out))

    goes_on : (q : List ℕ) (out : IsOut new q) → (out.0 ≡ slot) ⊎ (out.0 ≡ slot → ⊥) → is_local_at q 8 tree ≡ true
    goes_on q out (inl e) =
        let here : out_at new slot ≡ Some out.1.0 = ap (out_at new) (sym e) ∙ out.1.1 in
        let told = sets.here in
        let same : o ≡ out.1.0 = cc in
        ap (λ r. is_local_at r 8 tree) (sym out.1.2 ∙ ap (λ (x : Out). x.path.items) (sym same)) ∙ may.goes
    goes_on q out (inr ne) = listed.goes q (out.0, (out.1.0, sym (sets.others out.0 ne) ∙ out.1.1, out.1.2))

    apart : OutsApart new
    apart i j r s at_i at_j same = go (cases_eq i slot) (cases_eq j slot)
      where
        its : (n : ℕ) (x : Out) → n ≡ slot → out_at new n ≡ Some x → x ≡ o
        its n x e there = let here : out_at new slot ≡ Some x = ap (out_at new) (sym e) ∙ there in let told = sets.here in cc

        go : (i ≡ slot) ⊎ (i ≡ slot → ⊥) → (j ≡ slot) ⊎ (j ≡ slot → ⊥) → i ≡ j
        go (inl e) (inl f) = e ∙ sym f
        go (inl e) (inr nf) = absurd (may.inside (j, (s, sym (sets.others j nf) ∙ at_j, sym same ∙ ap (λ (x : Out). x.path.items) (its i r e at_i))))
        go (inr ne) (inl f) = absurd (may.inside (i, (r, sym (sets.others i ne) ∙ at_i, same ∙ ap (λ (x : Out). x.path.items) (its j s f at_j))))
        go (inr ne) (inr nf) = listed.apart i j r s (sym (sets.others i ne) ∙ at_i) (sym (sets.others j nf) ∙ at_j) same
