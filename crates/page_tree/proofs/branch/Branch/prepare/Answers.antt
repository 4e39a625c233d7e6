use Rattle.std.proofs.Common.{arith, ◌/◌, ◌+◌}
use Rattle.page_tree.specs.declared.branch.Branch.{Branch}
use Rattle.page_tree.specs.Branches.{block_at}
use Rattle.page_tree.proofs.Spread.{done_none, done_more}
use Rattle.page_tree.proofs.BlockRanges.{IsKept, IsReady, kept_row, kept_owners, kept_whole, ready_row}
use Rattle.page_tree.proofs.Replaced.{IsOwnStill, below_prepared}
use Rattle.page_tree.proofs.branch.Branch.prepare.Goals as goal

pub loop-i-init : goal.loop-i-init
loop-i-init c = record {
  kept = done_none IsKept (c.args.from / 64) (block_at c.args.self.now);
  stays = done_none IsOwnStill (c.args.from / 64) (block_at c.args.self.now);
  ready = done_none (IsReady c.args.from c.args.to) (c.args.from / 64) (block_at c.args.self.now);
}

pub loop-i-preserved : goal.loop-i-preserved
loop-i-preserved c =
    let a : Branch = c.args.self.now in
    let inv = c.loop-i.invariant in
    let made = c.in_ok-prepare_block.ensures in
    record {
      kept = done_more IsKept (c.args.from / 64) c.loop-i.i (block_at a) (block_at c.loop-i.self) (block_at c.prepare_block.new.self) c.loop-i.auto.i inv.kept (record { same = made.same; own = made.own; whole = made.whole }) made.others;
      stays = done_more IsOwnStill (c.args.from / 64) c.loop-i.i (block_at a) (block_at c.loop-i.self) (block_at c.prepare_block.new.self) c.loop-i.auto.i inv.stays made.stays made.others;
      ready = done_more (IsReady c.args.from c.args.to) (c.args.from / 64) c.loop-i.i (block_at a) (block_at c.loop-i.self) (block_at c.prepare_block.new.self) c.loop-i.auto.i inv.ready made.ready made.others;
    }

pub returns-in_err-prepare_block-clause-same : goal.returns-in_err-prepare_block-clause-same
returns-in_err-prepare_block-clause-same c =
    let made = c.in_err-prepare_block.ensures in
    kept_row (c.args.from / 64) (c.loop-i.i + 1) c.args.self.now c.prepare_block.new.self (done_more IsKept (c.args.from / 64) c.loop-i.i (block_at c.args.self.now) (block_at c.loop-i.self) (block_at c.prepare_block.new.self) c.loop-i.auto.i c.loop-i.invariant.kept (record { same = made.same; own = made.own; whole = made.whole }) made.others)

pub returns-in_err-prepare_block-clause-own : goal.returns-in_err-prepare_block-clause-own
returns-in_err-prepare_block-clause-own c =
    let made = c.in_err-prepare_block.ensures in
    kept_owners (c.args.from / 64) (c.loop-i.i + 1) c.args.self.now c.prepare_block.new.self (done_more IsKept (c.args.from / 64) c.loop-i.i (block_at c.args.self.now) (block_at c.loop-i.self) (block_at c.prepare_block.new.self) c.loop-i.auto.i c.loop-i.invariant.kept (record { same = made.same; own = made.own; whole = made.whole }) made.others)

pub returns-in_err-prepare_block-clause-whole : goal.returns-in_err-prepare_block-clause-whole
returns-in_err-prepare_block-clause-whole c =
    let made = c.in_err-prepare_block.ensures in
    kept_whole (c.args.from / 64) (c.loop-i.i + 1) c.args.self.now c.prepare_block.new.self (done_more IsKept (c.args.from / 64) c.loop-i.i (block_at c.args.self.now) (block_at c.loop-i.self) (block_at c.prepare_block.new.self) c.loop-i.auto.i c.loop-i.invariant.kept (record { same = made.same; own = made.own; whole = made.whole }) made.others)

pub returns-clause-same : goal.returns-clause-same
returns-clause-same c = kept_row (c.args.from / 64) c.loop-i.i c.args.self.now c.loop-i.self c.loop-i.invariant.kept

pub returns-clause-own : goal.returns-clause-own
returns-clause-own c = kept_owners (c.args.from / 64) c.loop-i.i c.args.self.now c.loop-i.self c.loop-i.invariant.kept

pub returns-clause-whole : goal.returns-clause-whole
returns-clause-whole c = kept_whole (c.args.from / 64) c.loop-i.i c.args.self.now c.loop-i.self c.loop-i.invariant.kept

pub returns-clause-ready : goal.returns-clause-ready
returns-clause-ready c = ready_row c.args.from c.args.to c.loop-i.i c.args.self.now c.loop-i.self (omega arith) c.loop-i.invariant.ready

pub returns-in_err-prepare_block-clause-stays : goal.returns-in_err-prepare_block-clause-stays
returns-in_err-prepare_block-clause-stays c =
    let made = c.in_err-prepare_block.ensures in
    below_prepared (c.args.from / 64) (c.loop-i.i + 1) c.args.self.now c.prepare_block.new.self (done_more IsOwnStill (c.args.from / 64) c.loop-i.i (block_at c.args.self.now) (block_at c.loop-i.self) (block_at c.prepare_block.new.self) c.loop-i.auto.i c.loop-i.invariant.stays made.stays made.others)

pub returns-clause-stays : goal.returns-clause-stays
returns-clause-stays c = below_prepared (c.args.from / 64) c.loop-i.i c.args.self.now c.loop-i.self c.loop-i.invariant.stays
