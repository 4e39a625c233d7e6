use Rattle.explain_core.specs.Notes.{GoesOnTelling}
use Rattle.explain_core.proofs.walking.turns_at.Given as goal

abbrev pub invariant-turns : goal.invariant-turns
invariant-turns l = GoesOnTelling l.path.items l.watched l.fn.notes.entries l.notes.entries l.fn.tree l.tree
