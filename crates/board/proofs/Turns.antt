-- What turns and results do to what a shop counts, and to the one job that is out.
use Rattle.std.proofs.Common.{◌≡◌, ℕ, ◌+◌, ◌%◌, Bool, true, cond, true≢false, List, Option, Some, None, ◌⊎◌, inl, inr, refl, sym, ap, ◌∙◌, subst}
use Rattle.std.proofs.lemmas.Bool.{cases_eq}
use Rattle.std.specs.Prelude.{Result, Ok, Err, IfOk, OnErr}
use Rattle.std.specs.declared.alloc.AllocError.{AllocError}
use Rattle.arrayvec.specs.ArrayVec.{ArrayVec}
use Rattle.call_model.specs.declared.Call.{Call}
use Rattle.run_model.specs.Schedule.{call_at}
use Rattle.worker_pool.specs.Turns.{is_idle}
use Rattle.worker_pool.specs.declared.shop.Turn.{Turn}
use Rattle.worker_pool.specs.declared.shop.Turn.TheVariants.{Job as Hands, Met, Rest, Over}
use Rattle.board.specs.declared.job.Out.{Out}
use Rattle.board.specs.declared.job.Job.{Job}
use Rattle.board.specs.declared.done.Done.{Done}
use Rattle.board.specs.declared.result.Commit.{Commit}
use Rattle.board.specs.declared.result.Commit.TheVariants.{Taken, Stale}
use Rattle.board.specs.Jobs.{Slots, out_at, IsNoneOut, MayBeTaken, MayBeTakenOn, Sets}
use Rattle.board.specs.Value.{Shown}
use Rattle.board.specs.Steps.{IsLeast, Meets, IsTaken, IsStale, IsDropped, Commits}
use Rattle.board.specs.GoingOn.{HasGoneOn}
use Rattle.board.specs.Turns.{accepted, is_taken, IsFinished, IsIdle, NoneMayMeet, IsTurn, IsOnlyOut, HandsOn, LeastGoesOn, GoesOnNode, GoesOnFrom, handed_in, HandsIn, bare}
use Rattle.board.proofs.Settling.{settled_meets_none, settled_takes_none}

-- a space that goes on where it stands leaves what is out as it was
pub gone_leaves : (old new : Shown) (path : ArrayVec ℕ) (events : ℕ) → HasGoneOn old path events new → (new.out ≡ old.out) × (new.boot ≡ old.boot)
gone_leaves old new path events gone = (ap (λ (b : Shown). b.out) gone.others, ap (λ (b : Shown). b.boot) gone.others)

-- so does a turn that met
pub met_leaves : (worker : ℕ) (old new : Shown) → IsTurn worker old Met new → (new.out ≡ old.out) × (new.boot ≡ old.boot)
met_leaves worker old new (inl met) = let is = met.1.is in (ap (λ (b : Shown). b.out) is.others, ap (λ (b : Shown). b.boot) is.others)
met_leaves worker old new (inr goes) = let went = goes.1.goes in gone_leaves old new went.0 went.1.events went.1.gone

-- a job that is handed out where none was out is the only one
pub only_out : (node : ℕ) (old new : Shown) (job : Job) → IsNoneOut old.out → GoesOnNode node old (Hands job) new → IsOnlyOut new.out job × (new.boot ≡ old.boot)
only_out node old new job none went =
    let gone = went.0 in
    let hands = went.2 in
    let put = hands.put in
    let left = gone_leaves old gone job.path went.1.events went.1.gone in
    let sets = hands.is.out in
    let same : put.out ≡ new.out = sym (ap (λ (b : Shown). b.out) hands.owed) in
    let none_there : IsNoneOut gone.out = subst IsNoneOut (sym left.0) none in
    let boot : new.boot ≡ old.boot = ap (λ (b : Shown). b.boot) hands.owed ∙ (ap (λ (b : Shown). b.boot) hands.is.others ∙ left.1) in (
      subst (λ out. IsOnlyOut out job) same (record { there = (record { ticket = job.ticket; path = job.path }, sets.here, refl); others = λ slot other. sets.others slot other ∙ none_there slot }),
      boot,
    )

-- and once its result was handed in, none is out
none_left : (out out' : Slots) (job : Job) (slot : ℕ) → slot ≡ job.slot → IsOnlyOut out job → Sets slot None out out' → IsNoneOut out'
none_left out out' job slot same only sets k = go (cases_eq k slot)
  where
    go : (k ≡ slot) ⊎ (k ≡ slot → ⊥) → out_at out' k ≡ None
    go (inl e) = ap (out_at out') e ∙ sets.here
    go (inr ne) = sets.others k ne ∙ only.others k (λ e. ne (e ∙ sym same))

dropped_none : (o : Option Out) (d : Done) (old new : Shown) (job : Job) → d.slot ≡ job.slot → d.ticket ≡ job.ticket → o ≡ out_at old.out d.slot → IsOnlyOut old.out job
    → IsDropped o d old new → IsNoneOut new.out × (new.boot ≡ old.boot)
dropped_none None d old new job slot ticket is only dropped =
    let here : out_at old.out job.slot ≡ Some only.there.0 = only.there.1 in
    let gone : None ≡ out_at old.out job.slot = is ∙ ap (out_at old.out) slot in
    cc
dropped_none (Some o) d old new job slot ticket is only dropped =
    let here : out_at old.out job.slot ≡ Some only.there.0 = only.there.1 in
    let there : Some o ≡ out_at old.out job.slot = is ∙ ap (out_at old.out) slot in
    let its : o ≡ only.there.0 = cc in
    let same : o.ticket ≡ d.ticket = ap (λ (x : Out). x.ticket) its ∙ only.there.2 ∙ sym ticket in
    let freed = dropped.0 same in
    (none_left old.out new.out job d.slot slot only freed.0, ap (λ (b : Shown). b.boot) freed.1)

pub none_out_again : (old new : Shown) (job : Job) (d : Done) (c : Commit) → d.slot ≡ job.slot → d.ticket ≡ job.ticket → IsOnlyOut old.out job → Commits old d c new → IsNoneOut new.out × (new.boot ≡ old.boot)
none_out_again old new job d Taken slot ticket only is = (none_left old.out new.out job d.slot slot only is.out, ap (λ (b : Shown). b.boot) is.others)
none_out_again old new job d (Stale kept) slot ticket only is = dropped_none (out_at old.out d.slot) d old new job slot ticket refl only is.dropped

-- a result that is taken is one more that was accepted, and another is none
dropped_accepts : (o : Option Out) (d : Done) (old new : Shown) → ((x : Out) → (x.ticket ≡ d.ticket) ⊎ (x.ticket ≡ d.ticket → ⊥)) → IsDropped o d old new → (accepted new ≡ accepted old) × (new.owed ≡ old.owed)
dropped_accepts None d old new cases is = (ap accepted is, ap (λ (b : Shown). b.owed) is)
dropped_accepts (Some o) d old new cases is = go (cases o)
  where
    go : (o.ticket ≡ d.ticket) ⊎ (o.ticket ≡ d.ticket → ⊥) → (accepted new ≡ accepted old) × (new.owed ≡ old.owed)
    go (inl e) = (ap accepted (is.0 e).1, ap (λ (b : Shown). b.owed) (is.0 e).1)
    go (inr ne) = (ap accepted (is.1 ne), ap (λ (b : Shown). b.owed) (is.1 ne))

pub taken_accepts : (old new : Shown) (d : Done) → IsTaken old d new → (accepted new ≡ accepted old + 1) × (new.owed ≡ old.owed)
taken_accepts old new d is = (ap accepted is.others, ap (λ (b : Shown). b.owed) is.others)

pub stale_accepts : (old new : Shown) (d : Done) (kept : Option ℕ) → IsStale old d kept new → (accepted new ≡ accepted old) × (new.owed ≡ old.owed)
stale_accepts old new d kept is = dropped_accepts (out_at old.out d.slot) d old new (λ x. cases_eq x.ticket d.ticket) is.dropped

-- where a board is finished, no call may meet its children, and no job may be handed out
pub finished_meets_none : (old new : Shown) (path : ArrayVec ℕ) → IsFinished old → Meets old path new → ⊥
finished_meets_none old new path finished meets = settled_meets_none old.tree path.items meets.least.one.0 finished.1 meets.least.one.1

pub finished_goes_none : (node : ℕ) (old new : Shown) (t : Turn Job) → IsFinished old → GoesOnNode node old t new → ⊥
finished_goes_none node old new Met finished went = settled_takes_none old.tree old.out went.0.items finished.1 (let one = went.1.least.one in one.may)
finished_goes_none node old new (Hands job) finished went = settled_takes_none old.tree old.out job.path.items finished.1 (let one = went.1.least.one in one.may)
finished_goes_none node old new Rest finished went = went
finished_goes_none node old new Over finished went = went

-- nor where it is idle
pub idle_meets_none : (old new : Shown) (path : ArrayVec ℕ) → IsIdle old → Meets old path new → ⊥
idle_meets_none old new path idle meets =
    let away : call_at path.items 8 old.tree ≡ None = idle.0 path.items in
    let here : call_at path.items 8 old.tree ≡ Some meets.least.one.0 = meets.least.one.1 in
    cc

pub idle_goes_none : (node : ℕ) (old new : Shown) (t : Turn Job) → IsIdle old → GoesOnNode node old t new → ⊥
idle_goes_none node old new Met idle went = idle.1 went.0.items (let one = went.1.least.one in one.may)
idle_goes_none node old new (Hands job) idle went = idle.1 job.path.items (let one = went.1.least.one in one.may)
idle_goes_none node old new Rest idle went = went
idle_goes_none node old new Over idle went = went

-- a space that is the least has gone on, and is handed out, or not
pub least_goes : (node : ℕ) (old before new : Shown) (path : ArrayVec ℕ) (events : ℕ) → before ≡ old → IsLeast (MayBeTakenOn old.places node old.tree old.out) path.items → HasGoneOn before path events new → LeastGoesOn node old path new
least_goes node old before new path events same least gone = record { least = least; events = events; gone = subst (λ s. HasGoneOn s path events new) same gone }

pub goes_on_node : (node : ℕ) (old gone new : Shown) (path : ArrayVec ℕ) (t : Turn Job) → LeastGoesOn node old path gone → HandsOn gone path t new → GoesOnNode node old t new
goes_on_node node old gone new path Met went hands = (path, subst (LeastGoesOn node old path) (sym hands) went)
goes_on_node node old gone new path (Hands job) went hands = (gone, subst (λ p. LeastGoesOn node old p gone) (sym hands.0) went, hands.1)
goes_on_node node old gone new path Rest went hands = absurd hands
goes_on_node node old gone new path Over went hands = absurd hands

-- and what goes on is a turn
pub goes_turn : (worker : ℕ) (old new : Shown) (t : Turn Job) → NoneMayMeet old → GoesOnFrom (worker % old.places.nodes) old t new → IsTurn worker old t new
goes_turn worker old new Met none went = inr (none, went)
goes_turn worker old new (Hands job) none went = (none, went)
goes_turn worker old new Rest none went = absurd went.goes
goes_turn worker old new Over none went = absurd went.goes

-- a turn leaves the results as they were
pub turn_accepts : (worker : ℕ) (old new : Shown) (t : Turn Job) → IsTurn worker old t new → accepted new ≡ accepted old
turn_accepts worker old new Met (inl met) = let is = met.1.is in ap accepted is.others
turn_accepts worker old new Met (inr goes) = let went = goes.1.goes in ap accepted (let gone = went.1.gone in gone.others)
turn_accepts worker old new (Hands job) is =
    let went = is.1.goes in
    let hands = went.2 in
    ap accepted hands.owed ∙ (ap accepted hands.is.others ∙ ap accepted (let gone = went.1.gone in gone.others))
turn_accepts worker old new Rest is = ap accepted is.2
turn_accepts worker old new Over is = ap accepted is.1

pub result_accepts : (worker : ℕ) (old new : Shown) (r : Result (Turn Job) AllocError) → IfOk r (λ t. IsTurn worker old t new) → OnErr r (new ≡ old) → accepted new ≡ accepted old
result_accepts worker old new (Ok t) is err = turn_accepts worker old new t is
result_accepts worker old new (Err e) is err = ap accepted err

-- and has nothing to do only where the board is idle
pub turn_idles : (worker : ℕ) (old new : Shown) (t : Turn Job) → IsTurn worker old t new → is_idle t ≡ true → IsIdle old
turn_idles worker old new Met is h = absurd (true≢false (sym h))
turn_idles worker old new (Hands job) is h = absurd (true≢false (sym h))
turn_idles worker old new Rest is h = is.0
turn_idles worker old new Over is h = (finished_quiet old is.0, λ p may. settled_takes_none old.tree old.out p is.0.1 may)
  where
    finished_quiet : (old : Shown) → IsFinished old → (p : List ℕ) → call_at p 8 old.tree ≡ None
    finished_quiet old finished p = go (call_at p 8 old.tree) refl
      where
        go : (o : Option Call) → call_at p 8 old.tree ≡ o → call_at p 8 old.tree ≡ None
        go None is = is
        go (Some k) is = absurd (settled_meets_none old.tree p k finished.1 is)

-- where nothing has changed, no space may be taken that could not before
pub none_taken_before : (old new : Shown) → new ≡ old → ((p : List ℕ) → MayBeTaken new.tree new.out p → ⊥) → (p : List ℕ) → MayBeTaken old.tree old.out p → ⊥
none_taken_before old new same none = subst (λ (s : Shown). (p : List ℕ) → MayBeTaken s.tree s.out p → ⊥) same none

-- a result that is handed in is counted exactly where it is taken
-- the same of a turn whose job has more than a job: a name
pub named_accepts : {A : Type 0} (job_of : A → Job) (worker : ℕ) (old new : Shown) (r : Result (Turn A) AllocError) → IfOk r (λ t. IsTurn worker old (bare job_of t) new) → OnErr r (new ≡ old) → accepted new ≡ accepted old
named_accepts job_of worker old new (Ok t) is err = turn_accepts worker old new (bare job_of t) is
named_accepts job_of worker old new (Err e) is err = ap accepted err

pub named_idles : {A : Type 0} (job_of : A → Job) (worker : ℕ) (old new : Shown) (t : Turn A) → IsTurn worker old (bare job_of t) new → is_idle t ≡ true → IsIdle old
named_idles job_of worker old new Met is h = absurd (true≢false (sym h))
named_idles job_of worker old new (Hands named) is h = absurd (true≢false (sym h))
named_idles job_of worker old new Rest is h = turn_idles worker old new Rest is refl
named_idles job_of worker old new Over is h = turn_idles worker old new Over is refl

pub hands_in_accepts : (old new : Shown) (d : Done) (b : Bool) → HandsIn old d b new → accepted new ≡ cond b (accepted old + 1) (accepted old)
hands_in_accepts old new d b hands = go hands.0 hands.1 hands.2
  where
    go : (c : Commit) → b ≡ is_taken c → Commits (handed_in old) d c new → accepted new ≡ cond b (accepted old + 1) (accepted old)
    go Taken told is = (taken_accepts (handed_in old) new d is).0 ∙ sym (ap (λ x. cond x (accepted old + 1) (accepted old)) told)
    go (Stale kept) told is = (stale_accepts (handed_in old) new d kept is).0 ∙ sym (ap (λ x. cond x (accepted old + 1) (accepted old)) told)
