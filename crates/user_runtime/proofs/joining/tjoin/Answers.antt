use Rattle.std.proofs.Common.{◌-◌}
use Rattle.call_model.specs.declared.Call.TheVariants.{Tjoin}
use Rattle.user_runtime.specs.Joins.{after_call}
use Rattle.user_runtime.proofs.Joins.{after_call_sound}
use Rattle.user_runtime.proofs.joining.tjoin.Goals as goal

pub returns-clause-ok : goal.returns-clause-ok
unfolding after_call
returns-clause-ok c = c.join_space.ensures.ok (8 - c.args.depth)

pub returns-clause-sound : goal.returns-clause-sound
returns-clause-sound c =
    after_call_sound c.join_space.result c.args.depth (Tjoin c.args.child) c.args.space.now c.join_space.new.space c.requires (c.join_space.ensures.ok (8 - c.args.depth)) c.join_space.ensures.err
