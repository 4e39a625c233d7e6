use Rattle.std.proofs.Common.{arith, ◌/◌, ◌+◌}
use Rattle.page_tree.specs.declared.branch.Branch.{Branch}
use Rattle.page_tree.specs.Branches.{block_at}
use Rattle.page_tree.proofs.Spread.{done_none, done_more}
use Rattle.page_tree.proofs.BlockRanges.{IsKept, IsCut, kept_row, kept_owners, kept_whole, cut_row}
use Rattle.page_tree.proofs.branch.Branch.cut.Goals as goal

pub loop-i-init : goal.loop-i-init
loop-i-init c = record {
  kept = done_none IsKept (c.args.from / 64) (block_at c.args.self.now);
  cut = done_none (IsCut c.args.from c.args.to) (c.args.from / 64) (block_at c.args.self.now);
}

pub loop-i-preserved : goal.loop-i-preserved
loop-i-preserved c =
    let a : Branch = c.args.self.now in
    let inv = c.loop-i.invariant in
    let made = c.in_ok-cut_block.ensures in
    record {
      kept = done_more IsKept (c.args.from / 64) c.loop-i.i (block_at a) (block_at c.loop-i.self) (block_at c.cut_block.new.self) c.loop-i.auto.i inv.kept (record { same = made.same; own = made.own; whole = made.whole }) made.others;
      cut = done_more (IsCut c.args.from c.args.to) (c.args.from / 64) c.loop-i.i (block_at a) (block_at c.loop-i.self) (block_at c.cut_block.new.self) c.loop-i.auto.i inv.cut made.cut made.others;
    }

pub returns-in_err-cut_block-clause-same : goal.returns-in_err-cut_block-clause-same
returns-in_err-cut_block-clause-same c =
    let made = c.in_err-cut_block.ensures in
    kept_row (c.args.from / 64) (c.loop-i.i + 1) c.args.self.now c.cut_block.new.self (done_more IsKept (c.args.from / 64) c.loop-i.i (block_at c.args.self.now) (block_at c.loop-i.self) (block_at c.cut_block.new.self) c.loop-i.auto.i c.loop-i.invariant.kept (record { same = made.same; own = made.own; whole = made.whole }) made.others)

pub returns-in_err-cut_block-clause-own : goal.returns-in_err-cut_block-clause-own
returns-in_err-cut_block-clause-own c =
    let made = c.in_err-cut_block.ensures in
    kept_owners (c.args.from / 64) (c.loop-i.i + 1) c.args.self.now c.cut_block.new.self (done_more IsKept (c.args.from / 64) c.loop-i.i (block_at c.args.self.now) (block_at c.loop-i.self) (block_at c.cut_block.new.self) c.loop-i.auto.i c.loop-i.invariant.kept (record { same = made.same; own = made.own; whole = made.whole }) made.others)

pub returns-in_err-cut_block-clause-whole : goal.returns-in_err-cut_block-clause-whole
returns-in_err-cut_block-clause-whole c =
    let made = c.in_err-cut_block.ensures in
    kept_whole (c.args.from / 64) (c.loop-i.i + 1) c.args.self.now c.cut_block.new.self (done_more IsKept (c.args.from / 64) c.loop-i.i (block_at c.args.self.now) (block_at c.loop-i.self) (block_at c.cut_block.new.self) c.loop-i.auto.i c.loop-i.invariant.kept (record { same = made.same; own = made.own; whole = made.whole }) made.others)

pub returns-clause-same : goal.returns-clause-same
returns-clause-same c = kept_row (c.args.from / 64) c.loop-i.i c.args.self.now c.loop-i.self c.loop-i.invariant.kept

pub returns-clause-own : goal.returns-clause-own
returns-clause-own c = kept_owners (c.args.from / 64) c.loop-i.i c.args.self.now c.loop-i.self c.loop-i.invariant.kept

pub returns-clause-whole : goal.returns-clause-whole
returns-clause-whole c = kept_whole (c.args.from / 64) c.loop-i.i c.args.self.now c.loop-i.self c.loop-i.invariant.kept

pub returns-clause-cut : goal.returns-clause-cut
returns-clause-cut c = cut_row c.args.from c.args.to c.loop-i.i c.args.self.now c.loop-i.self (omega arith) c.loop-i.invariant.cut
