-- The paths of the jobs that are out, as a job is put out or comes back.
use Rattle.std.proofs.Common.{◌≡◌, ◌≢◌, ℕ, true, List, [], Some, None, ◌⊎◌, inl, inr, sym, ap, ◌∙◌, subst}
use Rattle.space_model.specs.Space.{Space}
use Rattle.run_model.specs.Schedule.{is_local_at}
use Rattle.path_set.specs.Paths.{Paths, Has}
use Rattle.board.specs.declared.job.Out.{Out}
use Rattle.board.specs.Jobs.{Slots, out_at, IsOut, MayBeTaken, Sets}
use Rattle.board.specs.Listed.{AreOut, OutsApart}
use Rattle.board.proofs.Kept.{still_out, was_out, out_still, out_before}

-- a job is put into a slot in which nothing was
pub put_at_work : (old new : Slots) (work work' : Paths) (slot : ℕ) (o : Out) → AreOut work old → out_at old slot ≡ None → Sets slot (Some o) old new → Has work' o.path.items
    → ((p : List ℕ) → Has work p → Has work' p) → ((p : List ℕ) → Has work' p → Has work p ⊎ (p ≡ o.path.items)) → AreOut work' new
put_at_work old new work work' slot o works vacant sets there more only = (λ p has. comes p (only p has), λ p out. goes p (out_before old new slot o p sets out))
  where
    comes : (p : List ℕ) → Has work p ⊎ (p ≡ o.path.items) → IsOut new p
    comes p (inl has) = out_still old new slot (Some o) p vacant sets (works.0 p has)
    comes p (inr e) = (slot, (o, sets.here, sym e))

    goes : (p : List ℕ) → IsOut old p ⊎ (p ≡ o.path.items) → Has work' p
    goes p (inl out) = more p (works.1 p out)
    goes p (inr e) = subst (Has work') (sym e) there

-- the job of a slot is taken out
pub took_from_work : (old new : Slots) (work work' : Paths) (slot : ℕ) (o : Out) → AreOut work old → OutsApart old → out_at old slot ≡ Some o → Sets slot None old new → (Has work' o.path.items → ⊥)
    → ((p : List ℕ) → p ≢ o.path.items → Has work p → Has work' p) → ((p : List ℕ) → Has work' p → Has work p) → AreOut work' new
took_from_work old new work work' slot o works apart was sets gone others less = (
  λ p has. still_out slot o old new p was sets (λ e. gone (subst (Has work') e has)) (works.0 p (less p has)),
  λ p out. let before = was_out slot o old new p apart was sets out in others p before.1 (works.1 p before.0),
)

-- a space that may go on and is not at work may be taken
pub may_be_taken : (tree : Space) (work : Paths) (p : List ℕ) → is_local_at p 8 tree ≡ true → (Has work p → ⊥) → (out : Slots) → AreOut work out → MayBeTaken tree out p
may_be_taken tree work p goes idle out works = record { goes = goes; inside = λ o. idle (works.1 p o) }

-- where no job is out, nothing is at work
pub none_at_work : (work : Paths) (out : Slots) → work ≡ [] → out ≡ [] → AreOut work out
none_at_work work out no_work no_jobs = (λ p has. absurd (subst (λ ps. Has ps p) no_work has), λ p o. absurd (nothing o.0 o.1.0 (ap (λ xs. out_at xs o.0) (sym no_jobs) ∙ o.1.1)))
  where
    nothing : (slot : ℕ) (o : Out) → out_at [] slot ≡ Some o → ⊥
    nothing slot o is = cc
