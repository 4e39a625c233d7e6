use Rattle.std.proofs.Common.{◌-◌, ap}
use Rattle.space_mem.specs.Tables.{memory_of}
use Rattle.space_mem.proofs.Taken.{taken_permitted}
use Rattle.space_mem.proofs.table.PageTable.take_over_and_permit.Goals as goal

pub returns-clause-ok : goal.returns-clause-ok
returns-clause-ok c =
    taken_permitted (memory_of c.args.self.now.pages) (memory_of c.args.source.now.pages) (memory_of c.take_ready.new.self.pages) (memory_of c.permit_ready.new.self.pages) c.args.each.now c.args.first (c.args.end - c.args.first) c.args.permission c.in_ok-take_ready.ensures.ok (ap (λ h. h.memory) c.permit_ready.ensures.held)
