use Rattle.std.proofs.Common.{refl}
use Rattle.user_runtime.proofs.Forks.{given, suited}
use Rattle.user_runtime.proofs.forking.give.Goals as goal

pub invariant_of-child : goal.invariant_of-child
invariant_of-child c = (c.child.invariant.0, c.child.invariant.1, suited c.args.memory c.args.snapshot c.child.inside.snapshot c.keep.new.kept c.requires.suits c.keep.ensures)

pub returns : goal.returns
returns c =
    given c.args.caller.now _ c.args.child.now _ _ _ c.args.snapshot c.child.inside.snapshot _ c.caller.view_is c.child.view_is c.bounds-2.ensures c.bounds.ensures c.requires.copy c.fork_registers-child-inside.ensures c.requires.kept c.keep.ensures refl
