use Rattle.std.proofs.Common.{◌+◌, ◌-◌, ◌*◌, ◌++◌, ap, ◌∙◌, arith}
use Rattle.explain_core.specs.Bytes.{row_behind, row_text, rows, rows_text}
use Rattle.explain_core.proofs.Ranges.{one_number}
use Rattle.explain_core.proofs.bytes.push_rows.Goals as goal

pub loop-row-preserved : goal.loop-row-preserved
loop-row-preserved c =
    let m = c.args.memory.now.memory in
    let within = c.loop-row-test.true in
    one_number (row_behind m c.args.first c.args.count) c.loop-row.text.items c.push_row.new.text.items (c.args.text.now.items ++ rows_text m c.args.first c.args.count)
    c.loop-row.row (c.loop-row.row + 1) (rows c.args.count - c.loop-row.row) (rows c.args.count - (c.loop-row.row + 1)) c.loop-row.invariant (omega (arith, within, c.div_ceil-row-end.ensures)) (omega arith)
    (c.in_ok-push_row.ensures ∙ ap (λ n. c.loop-row.text.items ++ row_text m (c.args.first + 16 * c.loop-row.row) n) c.min-more.ensures)
