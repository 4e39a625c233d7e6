use Rattle.std.proofs.Common.{subst, sym, refl}
use Rattle.space_mem.specs.Held.{Marks}
use Rattle.space_mem.specs.Tables.{held_of}
use Rattle.space_mem.proofs.Dirty.{marks_stored}
use Rattle.space_mem.proofs.table.PageTable.try_store.Goals as goal

pub returns-then-write_at_once-clause-marks : goal.returns-then-write_at_once-clause-marks
returns-then-write_at_once-clause-marks c = subst (Marks (held_of c.args.self.now)) (sym (c.if-write_at_once.ensures.done refl)) (marks_stored (held_of c.args.self.now) c.args.at c.args.width c.args.value c.requires.aligned)
