use Rattle.std.proofs.Common.{arith, ◌/◌, ◌+◌}
use Rattle.page_tree.specs.declared.tree.Tree.{Tree}
use Rattle.page_tree.specs.Trees.{branch_at}
use Rattle.page_tree.proofs.Spread.{done_none, done_more}
use Rattle.page_tree.proofs.BranchRanges.{IsKept, IsReady, kept_row, kept_owners, kept_whole, ready_row}
use Rattle.page_tree.proofs.Replaced.{CanStill, tree_prepared}
use Rattle.page_tree.proofs.tree.Tree.prepare.Goals as goal

pub loop-i-init : goal.loop-i-init
loop-i-init c = record {
  kept = done_none IsKept (c.args.from / 8192) (branch_at c.args.self.now);
  stays = done_none CanStill (c.args.from / 8192) (branch_at c.args.self.now);
  ready = done_none (IsReady c.args.from c.args.to) (c.args.from / 8192) (branch_at c.args.self.now);
}

pub loop-i-preserved : goal.loop-i-preserved
loop-i-preserved c =
    let a : Tree = c.args.self.now in
    let inv = c.loop-i.invariant in
    let made = c.in_ok-prepare_branch.ensures in
    record {
      kept = done_more IsKept (c.args.from / 8192) c.loop-i.i (branch_at a) (branch_at c.loop-i.self) (branch_at c.prepare_branch.new.self) c.loop-i.auto.i inv.kept (record { same = made.same; own = made.own; whole = made.whole }) made.others;
      stays = done_more CanStill (c.args.from / 8192) c.loop-i.i (branch_at a) (branch_at c.loop-i.self) (branch_at c.prepare_branch.new.self) c.loop-i.auto.i inv.stays made.stays made.others;
      ready = done_more (IsReady c.args.from c.args.to) (c.args.from / 8192) c.loop-i.i (branch_at a) (branch_at c.loop-i.self) (branch_at c.prepare_branch.new.self) c.loop-i.auto.i inv.ready made.ready made.others;
    }

pub returns-in_err-prepare_branch-clause-same : goal.returns-in_err-prepare_branch-clause-same
returns-in_err-prepare_branch-clause-same c =
    let made = c.in_err-prepare_branch.ensures in
    kept_row (c.args.from / 8192) (c.loop-i.i + 1) c.args.self.now c.prepare_branch.new.self (done_more IsKept (c.args.from / 8192) c.loop-i.i (branch_at c.args.self.now) (branch_at c.loop-i.self) (branch_at c.prepare_branch.new.self) c.loop-i.auto.i c.loop-i.invariant.kept (record { same = made.same; own = made.own; whole = made.whole }) made.others)

pub returns-in_err-prepare_branch-clause-own : goal.returns-in_err-prepare_branch-clause-own
returns-in_err-prepare_branch-clause-own c =
    let made = c.in_err-prepare_branch.ensures in
    kept_owners (c.args.from / 8192) (c.loop-i.i + 1) c.args.self.now c.prepare_branch.new.self (done_more IsKept (c.args.from / 8192) c.loop-i.i (branch_at c.args.self.now) (branch_at c.loop-i.self) (branch_at c.prepare_branch.new.self) c.loop-i.auto.i c.loop-i.invariant.kept (record { same = made.same; own = made.own; whole = made.whole }) made.others)

pub returns-in_err-prepare_branch-clause-whole : goal.returns-in_err-prepare_branch-clause-whole
returns-in_err-prepare_branch-clause-whole c =
    let made = c.in_err-prepare_branch.ensures in
    kept_whole (c.args.from / 8192) (c.loop-i.i + 1) c.args.self.now c.prepare_branch.new.self (done_more IsKept (c.args.from / 8192) c.loop-i.i (branch_at c.args.self.now) (branch_at c.loop-i.self) (branch_at c.prepare_branch.new.self) c.loop-i.auto.i c.loop-i.invariant.kept (record { same = made.same; own = made.own; whole = made.whole }) made.others)

pub returns-clause-same : goal.returns-clause-same
returns-clause-same c = kept_row (c.args.from / 8192) c.loop-i.i c.args.self.now c.loop-i.self c.loop-i.invariant.kept

pub returns-clause-own : goal.returns-clause-own
returns-clause-own c = kept_owners (c.args.from / 8192) c.loop-i.i c.args.self.now c.loop-i.self c.loop-i.invariant.kept

pub returns-clause-whole : goal.returns-clause-whole
returns-clause-whole c = kept_whole (c.args.from / 8192) c.loop-i.i c.args.self.now c.loop-i.self c.loop-i.invariant.kept

pub returns-clause-ready : goal.returns-clause-ready
returns-clause-ready c = ready_row c.args.from c.args.to c.loop-i.i c.args.self.now c.loop-i.self (omega arith) c.loop-i.invariant.ready

pub returns-in_err-prepare_branch-clause-stays : goal.returns-in_err-prepare_branch-clause-stays
returns-in_err-prepare_branch-clause-stays c =
    let made = c.in_err-prepare_branch.ensures in
    tree_prepared (c.args.from / 8192) (c.loop-i.i + 1) c.args.self.now c.prepare_branch.new.self (done_more CanStill (c.args.from / 8192) c.loop-i.i (branch_at c.args.self.now) (branch_at c.loop-i.self) (branch_at c.prepare_branch.new.self) c.loop-i.auto.i c.loop-i.invariant.stays made.stays made.others)

pub returns-clause-stays : goal.returns-clause-stays
returns-clause-stays c = tree_prepared (c.args.from / 8192) c.loop-i.i c.args.self.now c.loop-i.self c.loop-i.invariant.stays
