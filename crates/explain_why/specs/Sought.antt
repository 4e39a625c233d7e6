-- What is sought of a child that was joined.
-- Our choice: a restatement for proofs.
use Rattle.std.specs.Prelude.{◌≡◌, Some}
use Rattle.space_model.specs.Space.{Space}
use Rattle.explain_core.specs.Joins.{joined_path}
use Rattle.explain_core.specs.Watch.{Noted}
use Rattle.explain_why.specs.declared.origin.Sought.{Sought}
use Rattle.explain_why.specs.Origin.{IsBefore}

-- who of the child's own events before the event that joined it left the same value
pub record IsSoughtBelow (root : Space) (s : Sought) (c : Noted) (below : Sought) : Type 0 where
  pub path : joined_path s.path.items s.watched c ≡ Some below.path.items
  pub before : IsBefore root s.path.items c.number below.path.items below.to
  pub watched : below.watched ≡ s.watched
  pub value : below.value ≡ s.value
