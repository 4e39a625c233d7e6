use Rattle.std.proofs.Common.{arith, sym, subst, ◌/◌, ◌-◌, ◌*◌, min}
use Rattle.page_tree.specs.declared.block_ref.BlockRef.{BlockRef}
use Rattle.page_tree.specs.declared.branch.Branch.{Branch}
use Rattle.page_tree.specs.Branches.{block_at}
use Rattle.page_tree.specs.Cuts.{CutBlock}
use Rattle.page_tree.proofs.Spread.{done_none, done_more}
use Rattle.page_tree.proofs.BlockRanges.{IsTakenPart, IsTakenOf, IsAny, taken_row, taken_whole, taken_ready}
use Rattle.page_tree.proofs.branch.Branch.take.Goals as goal

pub loop-i-init : goal.loop-i-init
loop-i-init c = record {
  done = done_none (IsTakenOf c.args.from c.args.to c.args.other.now) (c.args.from / 64) (block_at c.args.self.now);
  rest = done_none IsAny (c.args.from / 64) (block_at c.args.other.now);
}

pub take_block-requires-clause-cut : goal.take_block-requires-clause-cut
take_block-requires-clause-cut c =
    let i = c.loop-i.i in
    subst (CutBlock (c.args.from - 64 * i) (min (c.args.to - 64 * i) 64)) (sym (c.loop-i.invariant.done.above i (omega arith))) (c.requires.cut i (omega arith) (omega arith) (omega arith))

pub take_block-requires-clause-other : goal.take_block-requires-clause-other
take_block-requires-clause-other c =
    let i = c.loop-i.i in
    subst (CutBlock (c.args.from - 64 * i) (min (c.args.to - 64 * i) 64)) (sym (c.loop-i.invariant.rest.above i (omega arith))) (c.requires.other i (omega arith) (omega arith) (omega arith))

pub loop-i-preserved : goal.loop-i-preserved
loop-i-preserved c =
    let i = c.loop-i.i in
    let from = c.args.from in
    let to = c.args.to in
    let old : Branch = c.args.other.now in
    let other : Branch = c.loop-i.other in
    let self : Branch = c.loop-i.self in
    let new : Branch = c.take_block.new.self in
    let made = c.take_block.ensures in
    let part : IsTakenPart from to i (block_at other i) (block_at self i) (block_at new i) = record { taken = made.taken; whole = made.whole; ready = made.ready } in
    let of : IsTakenOf from to old i (block_at self i) (block_at new i) = subst (λ (o : BlockRef). IsTakenPart from to i o (block_at self i) (block_at new i)) (c.loop-i.invariant.rest.above i (omega arith)) part in
    record {
      done = done_more (IsTakenOf from to old) (from / 64) i (block_at c.args.self.now) (block_at self) (block_at new) c.loop-i.auto.i c.loop-i.invariant.done of made.others;
      rest = done_more IsAny (from / 64) i (block_at old) (block_at other) (block_at c.take_block.new.other) c.loop-i.auto.i c.loop-i.invariant.rest tt made.rest;
    }

pub returns-clause-taken : goal.returns-clause-taken
returns-clause-taken c = taken_row c.args.from c.args.to c.loop-i.i c.args.other.now c.args.self.now c.loop-i.self c.requires.rise (omega arith) c.loop-i.invariant.done

pub returns-clause-whole : goal.returns-clause-whole
returns-clause-whole c = taken_whole c.args.from c.args.to c.loop-i.i c.args.other.now c.args.self.now c.loop-i.self c.loop-i.invariant.done

pub returns-clause-ready : goal.returns-clause-ready
returns-clause-ready c mine theirs = taken_ready c.args.from c.args.to c.loop-i.i c.args.other.now c.args.self.now c.loop-i.self (omega arith) c.loop-i.invariant.done mine theirs
