use Rattle.std.proofs.Common.{◌∷◌, []}
use Rattle.space_mem.specs.declared.table.PageTable.{PageTable}
use Rattle.space_mem.proofs.Taken.{at_success, marked_now, prepared_again, prepared_part, prepared_mark, prepared_same}
use Rattle.space_mem.proofs.table.PageTable.prepare_page.Goals as goal

pub returns-in_err-mark-clause-prepared : goal.returns-in_err-mark-clause-prepared
returns-in_err-mark-clause-prepared c = prepared_same (c.args.page ∷ []) c.args.self.now c.mark.new.self c.mark.ensures.table c.mark.ensures.pages c.in_err-mark.ensures.err

pub returns-clause-prepared : goal.returns-clause-prepared
returns-clause-prepared c =
    let t : PageTable = c.args.self.now in
    let s : PageTable = c.mark.new.self in
    let own = c.own_block.ensures in
    prepared_again c.args.page t s (record s { pages = c.own_block.new.self }) (prepared_mark t s c.args.page c.requires.page c.mark.ensures.table c.mark.ensures.pages c.in_ok-mark.ensures.ok)
    (prepared_part (c.args.page ∷ []) s c.own_block.new.self c.mark.ensures.table (record { permission = own.same.permission; byte = own.same.byte }) own.own own.stays own.whole)

pub returns-clause-marked : goal.returns-clause-marked
returns-clause-marked c = at_success c.own_block.result _ (marked_now c.args.self.now c.mark.new.self c.args.page c.requires.page c.in_ok-mark.ensures.ok)
