use Rattle.round_eval.proofs.Moves.{last_stands, one_put_back}
use Rattle.round_eval.proofs.moving.put_all.Goals as goal

pub swap_top-requires : goal.swap_top-requires
swap_top-requires c =
    last_stands c.loop-done.dones.items c.pop.new.self.items c.args.dones.items c.in-Some.done c.loop-done.space c.args.space.now c.in-Some.ensures.items c.loop-done.invariant

pub loop-done-preserved : goal.loop-done-preserved
loop-done-preserved c =
    one_put_back c.loop-done.dones.items c.pop.new.self.items c.args.dones.items c.in-Some.done c.loop-done.space c.swap_top.new.space c.args.space.now c.in-Some.ensures.items
    c.loop-done.invariant c.swap_top.ensures.swapped
