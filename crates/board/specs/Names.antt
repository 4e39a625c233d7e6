-- Names of starts: by its name alone a result is known to begin with what stands in the tree.
-- Our choice: a name stands for the state with which a job was put out, and is kept by the job's slot.
use Rattle.std.specs.Prelude.{◌≡◌, ℕ, List, Option, Some, None, slice_index_or}
use Rattle.space_model.specs.Space.{Top}
use Rattle.det_laws.specs.Tops.{top_at}
use Rattle.board.specs.declared.job.Out.{Out}
use Rattle.board.specs.declared.done.Done.{Done}
use Rattle.board.specs.Jobs.{out_at}
use Rattle.board.specs.Value.{Shown}

-- by slot, what the name that is kept there stands for, where there is one
abbrev pub Starts : Type 0
Starts = List (Option (Option Top))

abbrev pub named_at : Starts → ℕ → Option (Option Top)
named_at starts slot = slice_index_or starts slot None

-- the name that is kept for a job that is out stands for what stands in the tree at the job's path
abbrev pub StartsStand : Starts → Shown → Type 0
StartsStand starts b = (slot : ℕ) (v : Option Top) (o : Out) → named_at starts slot ≡ Some v → out_at b.out slot ≡ Some o → top_at o.path.items b.tree ≡ v

-- a name is kept in a slot, or none is, and the others are as they were
pub record IsKeptAt (slot : ℕ) (name : Option (Option Top)) (old new : Starts) : Type 0 where
  pub here : (v : Option Top) → named_at new slot ≡ Some v → name ≡ Some v
  pub others : (other : ℕ) → (other ≡ slot → ⊥) → named_at new other ≡ named_at old other

-- what came of a job began with what stands in the tree at the path of the job that is out in its slot
abbrev pub IsKnown : Shown → Done → Type 0
IsKnown b d = (o : Out) → out_at b.out d.slot ≡ Some o → top_at o.path.items b.tree ≡ Some (let run = d.run in run.start)
