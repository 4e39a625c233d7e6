-- What a name stands for is in the tree for as long as its job is out.
use Rattle.std.proofs.Common.{◌≡◌, ◌≢◌, ℕ, true, Option, Some, None, ◌⊎◌, inl, inr, refl, sym, ap, ◌∙◌, subst}
use Rattle.std.proofs.lemmas.Bool.{cases_eq}
use Rattle.arrayvec.specs.ArrayVec.{ArrayVec}
use Rattle.space_model.specs.Space.{Top}
use Rattle.space_model.specs.Sound.{IsSound}
use Rattle.run_model.specs.Schedule.{is_local_at}
use Rattle.det_laws.specs.Tops.{top_at}
use Rattle.det_laws.proofs.Tops.{top_other}
use Rattle.det_laws.proofs.Near.{local_enabled, going_on_stays}
use Rattle.board.specs.declared.job.Out.{Out}
use Rattle.board.specs.declared.job.Job.{Job}
use Rattle.board.specs.declared.done.Done.{Done}
use Rattle.board.specs.declared.result.Commit.{Commit}
use Rattle.board.specs.declared.result.Commit.TheVariants.{Taken, Stale}
use Rattle.board.specs.Jobs.{out_at, Sets}
use Rattle.board.specs.Listed.{OutsRun, OutsApart}
use Rattle.board.specs.Names.{Starts, named_at, StartsStand, IsKeptAt}
use Rattle.board.specs.Steps.{IsPutOut, HasMet, IsTaken, IsDropped, Commits, its_top}
use Rattle.board.specs.GoingOn.{HasGoneOn}
use Rattle.worker_pool.specs.declared.shop.Turn.TheVariants.{Job as Hands, Met}
use Rattle.board.specs.Turns.{handed_in, HandsIn, GoesOnNode, IsTurn}
use Rattle.board.specs.Value.{Shown}
use Rattle.board.proofs.Kept.{not_both}

pub same_stands : (starts : Starts) (old new : Shown) → new ≡ old → StartsStand starts old → StartsStand starts new
same_stands starts old new same stands = subst (StartsStand starts) (sym same) stands

-- a call meets its children: each space that is out goes on as it was
pub met_stands : (starts : Starts) (old new : Shown) (path : ArrayVec ℕ) → IsSound old.tree → OutsRun old.tree old.out → HasMet old path new → StartsStand starts old → StartsStand starts new
met_stands starts old new path sound runs met stands slot v o named is =
    let before : out_at old.out slot ≡ Some o = ap (λ (b : Shown). out_at b.out slot) (sym met.others) ∙ is in
    let goes : is_local_at o.path.items 8 old.tree ≡ true = runs o.path.items (slot, (o, before, refl)) in
    let k = met.call in
    let apart : o.path.items ≢ path.items = λ e. not_both path.items 8 old.tree k (ap (λ p. is_local_at p 8 old.tree) (sym e) ∙ goes) met.may in
    let stays = going_on_stays o.path.items path.items 8 true sound.0 old.tree k sound.1.2 apart (local_enabled o.path.items 8 old.tree goes) met.may in
    ap (λ (b : Shown). top_at o.path.items b.tree) met.others ∙ (stays ∙ stands slot v o named before)

-- a space that is not out goes on where it stands: each that is out goes on as it was
pub gone_stands : (starts : Starts) (old new : Shown) (path : ArrayVec ℕ) (events : ℕ) → HasGoneOn old path events new → StartsStand starts old → StartsStand starts new
gone_stands starts old new path events gone stands slot v o named is =
    let before : out_at old.out slot ≡ Some o = ap (λ (b : Shown). out_at b.out slot) (sym gone.others) ∙ is in
    let away : o.path.items ≢ path.items = λ e. (let may = gone.may in may.inside) (slot, (o, before, e)) in
    let runs = gone.runs in
    ap (top_at o.path.items) runs.now ∙ (top_other o.path.items path.items runs.top old.tree away ∙ stands slot v o named before)

-- what stood after a turn that met stands still
pub met_turn_stands : (worker : ℕ) (starts : Starts) (old new : Shown) → IsSound old.tree → OutsRun old.tree old.out → IsTurn worker old Met new → StartsStand starts old → StartsStand starts new
met_turn_stands worker starts old new sound runs (inl met) = met_stands starts old new met.0 sound runs (let is = met.1.is in is)
met_turn_stands worker starts old new sound runs (inr goes) = let went = goes.1.goes in gone_stands starts old new went.0 went.1.events went.1.gone

-- a job is put out: its name stands for its state
pub put_stands : (starts starts' : Starts) (old new : Shown) (job : Job) (name : Option (Option Top)) → ((v : Option Top) → name ≡ Some v → v ≡ Some job.top.value) → IsKeptAt job.slot name starts starts' → IsPutOut old job new
    → StartsStand starts old → StartsStand starts' new
put_stands starts starts' old new job name is_top kept put stands slot v o named is = go (cases_eq slot job.slot)
  where
    tree : top_at o.path.items new.tree ≡ top_at o.path.items old.tree
    tree = ap (λ (b : Shown). top_at o.path.items b.tree) put.others

    go : (slot ≡ job.slot) ⊎ (slot ≡ job.slot → ⊥) → top_at o.path.items new.tree ≡ v
    go (inl e) =
        let its : name ≡ Some v = kept.here v (ap (named_at starts') (sym e) ∙ named) in
        let here : out_at new.out job.slot ≡ Some o = ap (out_at new.out) (sym e) ∙ is in
        let made = put.out.here in
        let one : record { ticket = job.ticket; path = job.path } ≡ o = cc in
        tree ∙ (ap (λ (x : Out). top_at x.path.items old.tree) (sym one) ∙ (put.top ∙ sym (is_top v its)))
    go (inr ne) = tree ∙ stands slot v o (sym (kept.others slot ne) ∙ named) (sym (put.out.others slot ne) ∙ is)

pub handed_out_stands : (node : ℕ) (starts starts' : Starts) (old new : Shown) (job : Job) (name : Option (Option Top)) → ((v : Option Top) → name ≡ Some v → v ≡ Some job.top.value) → IsKeptAt job.slot name starts starts'
    → GoesOnNode node old (Hands job) new → StartsStand starts old → StartsStand starts' new
handed_out_stands node starts starts' old new job name is_top kept went stands =
    let gone = went.0 in
    let hands = went.2 in
    let first = gone_stands starts old gone job.path went.1.events went.1.gone stands in
    let there = put_stands starts starts' gone hands.put job name is_top kept hands.is first in
    subst (StartsStand starts') (sym hands.owed) there

-- a slot is emptied, and nothing stands elsewhere
freed_stands : (starts : Starts) (old new : Shown) (slot : ℕ) → Sets slot None old.out new.out → ((other : ℕ) (o : Out) → (other ≡ slot → ⊥) → out_at old.out other ≡ Some o → top_at o.path.items new.tree ≡ top_at o.path.items old.tree)
    → StartsStand starts old → StartsStand starts new
freed_stands starts old new slot sets same stands other v o named is = go (cases_eq other slot)
  where
    go : (other ≡ slot) ⊎ (other ≡ slot → ⊥) → top_at o.path.items new.tree ≡ v
    go (inl e) =
        let here : out_at new.out slot ≡ Some o = ap (out_at new.out) (sym e) ∙ is in
        let gone : out_at new.out slot ≡ None = sets.here in
        cc
    go (inr ne) =
        let before : out_at old.out other ≡ Some o = sym (sets.others other ne) ∙ is in
        same other o ne before ∙ stands other v o named before

-- a result is taken: another top stands at its path, and at no path of another job
pub taken_stands : (starts : Starts) (old new : Shown) (d : Done) → OutsApart old.out → IsTaken old d new → StartsStand starts old → StartsStand starts new
taken_stands starts old new d apart taken = freed_stands starts old new d.slot taken.out
    (λ other o ne is.
    let away : o.path.items ≢ d.path.items = λ e. ne (apart other d.slot o taken.job is taken.is.out (e ∙ sym taken.is.start.path)) in
    ap (λ (b : Shown). top_at o.path.items b.tree) taken.others ∙ top_other o.path.items d.path.items (its_top d) old.tree away)

dropped_stands : (starts : Starts) (x : Option Out) (old new : Shown) (d : Done) → ((k : ℕ) (n : ℕ) → (k ≡ n) ⊎ (k ≡ n → ⊥)) → IsDropped x d old new → StartsStand starts old → StartsStand starts new
dropped_stands starts None old new d decide dropped stands = same_stands starts old new dropped stands
dropped_stands starts (Some o) old new d decide dropped stands = go (decide o.ticket d.ticket)
  where
    go : (o.ticket ≡ d.ticket) ⊎ (o.ticket ≡ d.ticket → ⊥) → StartsStand starts new
    go (inl e) =
        let freed = dropped.0 e in
        freed_stands starts old new d.slot freed.0 (λ other r ne is. ap (λ (b : Shown). top_at r.path.items b.tree) freed.1) stands
    go (inr ne) = same_stands starts old new (dropped.1 ne) stands

pub committed_stands : (starts : Starts) (old new : Shown) (d : Done) (c : Commit) → OutsApart old.out → Commits old d c new → StartsStand starts old → StartsStand starts new
committed_stands starts old new d Taken apart commits stands = taken_stands starts old new d apart commits stands
committed_stands starts old new d (Stale kept) apart commits stands = dropped_stands starts (out_at old.out d.slot) old new d cases_eq commits.dropped stands

pub handed_in_stands : (starts : Starts) (old new : Shown) (d : Done) (taken : _) → OutsApart old.out → HandsIn old d taken new → StartsStand starts old → StartsStand starts new
handed_in_stands starts old new d taken apart hands stands = committed_stands starts (handed_in old) new d hands.0 apart hands.2 stands
