use Rattle.std.proofs.Common.{◌+◌, ◌-◌, ◌++◌, arith}
use Rattle.explain_core.specs.Bytes.{byte_text, row_bytes}
use Rattle.explain_core.proofs.Ranges.{one_number}
use Rattle.explain_core.proofs.bytes.push_row_bytes.Goals as goal

pub loop-index-preserved : goal.loop-index-preserved
loop-index-preserved c =
    let m = c.args.memory.now.memory in
    let within = c.loop-index-test.true in
    one_number (byte_text m) c.loop-index.text.items c.push_byte.new.text.items (c.args.text.now.items ++ row_bytes m c.args.first c.args.count)
    (c.args.first + c.loop-index.index) (c.args.first + (c.loop-index.index + 1)) (c.args.count - c.loop-index.index) (c.args.count - (c.loop-index.index + 1)) c.loop-index.invariant (omega (arith, within)) (omega arith) c.in_ok-push_byte.ensures
