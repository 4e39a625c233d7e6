use Rattle.std.proofs.Common.{arith, ◌/◌, ◌+◌}
use Rattle.page_tree.specs.declared.tree.Tree.{Tree}
use Rattle.page_tree.specs.Trees.{branch_at}
use Rattle.page_tree.proofs.Spread.{done_none, done_more}
use Rattle.page_tree.proofs.BranchRanges.{IsFrozen, IsShared, frozen_row, frozen_less, frozen_whole, shared_row}
use Rattle.page_tree.proofs.tree.Tree.freeze_range.Goals as goal

pub loop-i-init : goal.loop-i-init
loop-i-init c = record {
  kept = done_none IsFrozen (c.args.from / 8192) (branch_at c.args.self.now);
  shared = done_none (IsShared c.args.from c.args.to) (c.args.from / 8192) (branch_at c.args.self.now);
}

pub loop-i-preserved : goal.loop-i-preserved
loop-i-preserved c =
    let a : Tree = c.args.self.now in
    let inv = c.loop-i.invariant in
    let made = c.in_ok-freeze_branch.ensures in
    record {
      kept = done_more IsFrozen (c.args.from / 8192) c.loop-i.i (branch_at c.args.self.now) (branch_at c.loop-i.self) (branch_at c.freeze_branch.new.self) c.loop-i.auto.i c.loop-i.invariant.kept (record { same = made.same; less = made.less; whole = made.whole }) made.others;
      shared = done_more (IsShared c.args.from c.args.to) (c.args.from / 8192) c.loop-i.i (branch_at a) (branch_at c.loop-i.self) (branch_at c.freeze_branch.new.self) c.loop-i.auto.i inv.shared made.none made.others;
    }

pub returns-in_err-freeze_branch-clause-same : goal.returns-in_err-freeze_branch-clause-same
returns-in_err-freeze_branch-clause-same c =
    let made = c.in_err-freeze_branch.ensures in
    frozen_row (c.args.from / 8192) (c.loop-i.i + 1) c.args.self.now c.freeze_branch.new.self (done_more IsFrozen (c.args.from / 8192) c.loop-i.i (branch_at c.args.self.now) (branch_at c.loop-i.self) (branch_at c.freeze_branch.new.self) c.loop-i.auto.i c.loop-i.invariant.kept (record { same = made.same; less = made.less; whole = made.whole }) made.others)

pub returns-in_err-freeze_branch-clause-less : goal.returns-in_err-freeze_branch-clause-less
returns-in_err-freeze_branch-clause-less c =
    let made = c.in_err-freeze_branch.ensures in
    frozen_less (c.args.from / 8192) (c.loop-i.i + 1) c.args.self.now c.freeze_branch.new.self (done_more IsFrozen (c.args.from / 8192) c.loop-i.i (branch_at c.args.self.now) (branch_at c.loop-i.self) (branch_at c.freeze_branch.new.self) c.loop-i.auto.i c.loop-i.invariant.kept (record { same = made.same; less = made.less; whole = made.whole }) made.others)

pub returns-in_err-freeze_branch-clause-whole : goal.returns-in_err-freeze_branch-clause-whole
returns-in_err-freeze_branch-clause-whole c =
    let made = c.in_err-freeze_branch.ensures in
    frozen_whole (c.args.from / 8192) (c.loop-i.i + 1) c.args.self.now c.freeze_branch.new.self (done_more IsFrozen (c.args.from / 8192) c.loop-i.i (branch_at c.args.self.now) (branch_at c.loop-i.self) (branch_at c.freeze_branch.new.self) c.loop-i.auto.i c.loop-i.invariant.kept (record { same = made.same; less = made.less; whole = made.whole }) made.others)

pub returns-clause-same : goal.returns-clause-same
returns-clause-same c = frozen_row (c.args.from / 8192) c.loop-i.i c.args.self.now c.loop-i.self c.loop-i.invariant.kept

pub returns-clause-less : goal.returns-clause-less
returns-clause-less c = frozen_less (c.args.from / 8192) c.loop-i.i c.args.self.now c.loop-i.self c.loop-i.invariant.kept

pub returns-clause-whole : goal.returns-clause-whole
returns-clause-whole c = frozen_whole (c.args.from / 8192) c.loop-i.i c.args.self.now c.loop-i.self c.loop-i.invariant.kept

pub returns-clause-none : goal.returns-clause-none
returns-clause-none c = shared_row c.args.from c.args.to c.loop-i.i c.args.self.now c.loop-i.self (omega arith) c.loop-i.invariant.shared
