use Rattle.std.proofs.Common.{rules}
use Rattle.explain_core.proofs.Lines.{all_registers, one_register}
use Rattle.explain_core.proofs.showing.push_registers.Goals as goal

pub loop-number-preserved : goal.loop-number-preserved
loop-number-preserved c =
    one_register c.args.text.now.items c.loop-number.text.items _ c.extend_from_slice.new.self.items c.loop-number.number c.args.x.now (search rules) c.loop-number.invariant (search rules) c.in_ok-extend_from_slice.ensures.items

pub returns : goal.returns
returns c = let past = c.loop-number-test.false in all_registers c.args.text.now.items c.loop-number.text.items c.loop-number.number c.args.x.now (search rules) c.loop-number.invariant
