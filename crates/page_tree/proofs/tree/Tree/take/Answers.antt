use Rattle.std.proofs.Common.{arith, sym, subst, ◌/◌, ◌-◌, ◌*◌, min}
use Rattle.page_tree.specs.declared.branch_ref.BranchRef.{BranchRef}
use Rattle.page_tree.specs.declared.tree.Tree.{Tree}
use Rattle.page_tree.specs.Trees.{branch_at}
use Rattle.page_tree.specs.Cuts.{CutLimb}
use Rattle.page_tree.proofs.Spread.{done_none, done_more}
use Rattle.page_tree.proofs.BranchRanges.{IsTakenPart, IsTakenOf, IsAny, taken_row, taken_whole, taken_ready}
use Rattle.page_tree.proofs.tree.Tree.take.Goals as goal

pub loop-i-init : goal.loop-i-init
loop-i-init c = record {
  done = done_none (IsTakenOf c.args.from c.args.to c.args.other.now) (c.args.from / 8192) (branch_at c.args.self.now);
  rest = done_none IsAny (c.args.from / 8192) (branch_at c.args.other.now);
}

pub take_branch-requires-clause-cut : goal.take_branch-requires-clause-cut
take_branch-requires-clause-cut c =
    let i = c.loop-i.i in
    subst (CutLimb (c.args.from - 8192 * i) (min (c.args.to - 8192 * i) 8192)) (sym (c.loop-i.invariant.done.above i (omega arith))) (c.requires.cut i (omega arith) (omega arith) (omega arith))

pub take_branch-requires-clause-other : goal.take_branch-requires-clause-other
take_branch-requires-clause-other c =
    let i = c.loop-i.i in
    subst (CutLimb (c.args.from - 8192 * i) (min (c.args.to - 8192 * i) 8192)) (sym (c.loop-i.invariant.rest.above i (omega arith))) (c.requires.other i (omega arith) (omega arith) (omega arith))

pub loop-i-preserved : goal.loop-i-preserved
loop-i-preserved c =
    let i = c.loop-i.i in
    let from = c.args.from in
    let to = c.args.to in
    let old : Tree = c.args.other.now in
    let other : Tree = c.loop-i.other in
    let self : Tree = c.loop-i.self in
    let new : Tree = c.take_branch.new.self in
    let made = c.take_branch.ensures in
    let part : IsTakenPart from to i (branch_at other i) (branch_at self i) (branch_at new i) = record { taken = made.taken; whole = made.whole; ready = made.ready } in
    let of : IsTakenOf from to old i (branch_at self i) (branch_at new i) = subst (λ (o : BranchRef). IsTakenPart from to i o (branch_at self i) (branch_at new i)) (c.loop-i.invariant.rest.above i (omega arith)) part in
    record {
      done = done_more (IsTakenOf from to old) (from / 8192) i (branch_at c.args.self.now) (branch_at self) (branch_at new) c.loop-i.auto.i c.loop-i.invariant.done of made.others;
      rest = done_more IsAny (from / 8192) i (branch_at old) (branch_at other) (branch_at c.take_branch.new.other) c.loop-i.auto.i c.loop-i.invariant.rest tt made.rest;
    }

pub returns-clause-taken : goal.returns-clause-taken
returns-clause-taken c = taken_row c.args.from c.args.to c.loop-i.i c.args.other.now c.args.self.now c.loop-i.self c.requires.rise (omega arith) c.loop-i.invariant.done

pub returns-clause-whole : goal.returns-clause-whole
returns-clause-whole c = taken_whole c.args.from c.args.to c.loop-i.i c.args.other.now c.args.self.now c.loop-i.self c.loop-i.invariant.done

pub returns-clause-ready : goal.returns-clause-ready
returns-clause-ready c mine theirs = taken_ready c.args.from c.args.to c.loop-i.i c.args.other.now c.args.self.now c.loop-i.self (omega arith) c.loop-i.invariant.done mine theirs
