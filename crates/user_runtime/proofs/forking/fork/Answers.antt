use Rattle.call_model.specs.declared.Call.TheVariants.{Fork}
use Rattle.space_model.specs.Caller.{with_action}
use Rattle.space_model.proofs.Callers.{stays_sound}
use Rattle.user_runtime.proofs.Meetings.{acts_from, same_from}
use Rattle.user_runtime.proofs.forking.fork.Goals as goal

pub returns-clause-ok : goal.returns-clause-ok
unfolding with_action
returns-clause-ok c = acts_from c.fork_by.result (Fork c.args.child) c.args.space.now c.process_memory.new.space c.fork_by.new.space c.process_memory.ensures.same c.fork_by.ensures.ok

pub returns-clause-sound : goal.returns-clause-sound
returns-clause-sound c =
    let same = same_from c.fork_by.result c.args.space.now c.process_memory.new.space c.fork_by.new.space c.process_memory.ensures.same c.fork_by.ensures.err in
    stays_sound c.fork_by.result c.args.depth (Fork c.args.child) c.args.space.now c.fork_by.new.space c.requires (returns-clause-ok c) same
