use Rattle.std.proofs.Common.{◌∙◌, ◌/◌, ap}
use Rattle.memory_model.proofs.Rows.{value_at-put_same}
use Rattle.memory_model.specs.Sparse.{value_at}
use Rattle.space_mem.specs.Tables.{held_of}
use Rattle.space_mem.proofs.Dirty.{marks_then}
use Rattle.space_mem.proofs.table.PageTable.store.Goals as goal

pub write_number-requires-clause-owned : goal.write_number-requires-clause-owned
write_number-requires-clause-owned c = ap (λ h. value_at h.owned (c.args.at / 4096)) c.in_ok-own_page.ensures.ok ∙ value_at-put_same (held_of c.args.self.now).owned (c.args.at / 4096) 1

pub returns-clause-marks : goal.returns-clause-marks
returns-clause-marks c = marks_then (held_of c.args.self.now) (held_of c.own_page.new.self) (held_of c.write_number.new.self) c.in_ok-own_page.ensures.marks c.write_number.ensures.marks
