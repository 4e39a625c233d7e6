use Rattle.std.proofs.Common.{◌-◌, ◌∙◌, sym, ap, arith, refl}
use Rattle.memory_model.specs.Memory.{with_permissions}
use Rattle.memory_model.specs.Ranges.{with_zeros}
use Rattle.space_mem.specs.Tables.{held_of, memory_of}
use Rattle.space_mem.proofs.Dirty.{marks_then}
use Rattle.space_mem.proofs.Kept.{keeps_memory, keeps_then, table_kept}
use Rattle.space_mem.proofs.RangeEdits.{no_permissions, no_zeros}
use Rattle.space_mem.proofs.table.PageTable.zero_and_permit.Goals as goal

pub returns-then-first-end-clause-ok : goal.returns-then-first-end-clause-ok
returns-then-first-end-clause-ok c =
    no_zeros c.args.self.now.pages c.args.first c.args.end (omega arith)
    ∙ sym (no_permissions (with_zeros (memory_of c.args.self.now.pages) c.args.first (c.args.end - c.args.first)) c.args.first (c.args.end - c.args.first) c.args.permission (omega arith))

pub returns-then-first-end-clause-outside : goal.returns-then-first-end-clause-outside
returns-then-first-end-clause-outside c = table_kept c.args.self.now c.args.self.now c.args.first c.args.end refl

pub returns-clause-ok : goal.returns-clause-ok
returns-clause-ok c =
    ap (λ h. h.memory) c.permit_ready.ensures.held
    ∙ ap (λ m. with_permissions m c.args.first (c.args.end - c.args.first) c.args.permission) c.in_ok-zero_some.ensures.ok

pub returns-clause-outside : goal.returns-clause-outside
returns-clause-outside c = λ page out. keeps_then (held_of c.args.self.now) (held_of c.zero_some.new.self) (held_of c.permit_ready.new.self) page (c.in_ok-zero_some.ensures.outside page out) (keeps_memory (held_of c.zero_some.new.self) (held_of c.permit_ready.new.self) (with_permissions (memory_of c.zero_some.new.self.pages) c.args.first (c.args.end - c.args.first) c.args.permission) page c.permit_ready.ensures.held)

pub returns-clause-marks : goal.returns-clause-marks
returns-clause-marks c = marks_then (held_of c.args.self.now) (held_of c.zero_some.new.self) (held_of c.permit_ready.new.self) c.in_ok-zero_some.ensures.marks c.permit_ready.ensures.marks
