use Rattle.std.proofs.Common.{arith, sym, subst, ◌/◌, ◌-◌, ◌*◌, min}
use Rattle.page_tree.specs.Trees.{branch_at}
use Rattle.page_tree.specs.Ready.{ReadyLimb}
use Rattle.page_tree.proofs.Spread.{done_none, done_more}
use Rattle.page_tree.proofs.BranchRanges.{IsPermittedPart, permitted_row, permitted_whole, permitted_ready}
use Rattle.page_tree.proofs.tree.Tree.permit.Goals as goal

pub loop-i-init : goal.loop-i-init
loop-i-init c = record {
  done = done_none (IsPermittedPart c.args.from c.args.to c.args.permission) (c.args.from / 8192) (branch_at c.args.self.now);
}

pub permit_branch-requires-clause-ready : goal.permit_branch-requires-clause-ready
permit_branch-requires-clause-ready c =
    let i = c.loop-i.i in
    subst (ReadyLimb (c.args.from - 8192 * i) (min (c.args.to - 8192 * i) 8192)) (sym (c.loop-i.invariant.done.above i (omega arith))) (c.requires.ready i (omega arith) (omega arith) (omega arith))

pub loop-i-preserved : goal.loop-i-preserved
loop-i-preserved c =
    let made = c.permit_branch.ensures in
    record {
      done = done_more (IsPermittedPart c.args.from c.args.to c.args.permission) (c.args.from / 8192) c.loop-i.i (branch_at c.args.self.now) (branch_at c.loop-i.self) (branch_at c.permit_branch.new.self) c.loop-i.auto.i c.loop-i.invariant.done (record { permitted = made.permitted; whole = made.whole; ready = made.ready }) made.others;
    }

pub returns-clause-permitted : goal.returns-clause-permitted
returns-clause-permitted c = permitted_row c.args.from c.args.to c.args.permission c.loop-i.i c.args.self.now c.loop-i.self c.requires.rise (omega arith) c.loop-i.invariant.done

pub returns-clause-whole : goal.returns-clause-whole
returns-clause-whole c = permitted_whole c.args.from c.args.to c.args.permission c.loop-i.i c.args.self.now c.loop-i.self c.loop-i.invariant.done

pub returns-clause-ready : goal.returns-clause-ready
returns-clause-ready c = permitted_ready c.args.from c.args.to c.args.permission c.loop-i.i c.args.self.now c.loop-i.self (omega arith) c.loop-i.invariant.done
