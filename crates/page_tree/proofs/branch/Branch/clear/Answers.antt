use Rattle.std.proofs.Common.{arith, sym, subst, ◌/◌, ◌-◌, ◌*◌, min}
use Rattle.page_tree.specs.Branches.{block_at}
use Rattle.page_tree.specs.Ready.{ReadyBlock}
use Rattle.page_tree.proofs.Spread.{done_none, done_more}
use Rattle.page_tree.proofs.BlockRanges.{IsClearedPart, cleared_row, cleared_whole, cleared_ready}
use Rattle.page_tree.proofs.branch.Branch.clear.Goals as goal

pub loop-i-init : goal.loop-i-init
loop-i-init c = record {
  done = done_none (IsClearedPart c.args.from c.args.to) (c.args.from / 64) (block_at c.args.self.now);
}

pub clear_block-requires-clause-ready : goal.clear_block-requires-clause-ready
clear_block-requires-clause-ready c =
    let i = c.loop-i.i in
    subst (ReadyBlock (c.args.from - 64 * i) (min (c.args.to - 64 * i) 64)) (sym (c.loop-i.invariant.done.above i (omega arith))) (c.requires.ready i (omega arith) (omega arith) (omega arith))

pub loop-i-preserved : goal.loop-i-preserved
loop-i-preserved c =
    let made = c.clear_block.ensures in
    record {
      done = done_more (IsClearedPart c.args.from c.args.to) (c.args.from / 64) c.loop-i.i (block_at c.args.self.now) (block_at c.loop-i.self) (block_at c.clear_block.new.self) c.loop-i.auto.i c.loop-i.invariant.done (record { cleared = made.cleared; whole = made.whole; ready = made.ready }) made.others;
    }

pub returns-clause-cleared : goal.returns-clause-cleared
returns-clause-cleared c = cleared_row c.args.from c.args.to c.loop-i.i c.args.self.now c.loop-i.self c.requires.rise (omega arith) c.loop-i.invariant.done

pub returns-clause-whole : goal.returns-clause-whole
returns-clause-whole c = cleared_whole c.args.from c.args.to c.loop-i.i c.args.self.now c.loop-i.self c.loop-i.invariant.done

pub returns-clause-ready : goal.returns-clause-ready
returns-clause-ready c = cleared_ready c.args.from c.args.to c.loop-i.i c.args.self.now c.loop-i.self (omega arith) c.loop-i.invariant.done
