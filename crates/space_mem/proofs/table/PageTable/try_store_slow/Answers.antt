use Rattle.space_mem.specs.Tables.{held_of}
use Rattle.space_mem.proofs.Dirty.{marks_refl}
use Rattle.space_mem.proofs.table.PageTable.try_store_slow.Goals as goal

pub returns-then-not-may_write-clause-marks : goal.returns-then-not-may_write-clause-marks
returns-then-not-may_write-clause-marks c = marks_refl (held_of c.args.self.now)
