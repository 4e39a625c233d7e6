use Rattle.round_eval.proofs.Later.{then_either, then_second}
use Rattle.round_eval.proofs.RootFirst.{shows_before}
use Rattle.round_eval.proofs.apart.round_hinted.Goals as goal

pub returns-then-went-clause-ok : goal.returns-then-went-clause-ok
returns-then-went-clause-ok g c =
    then_either c.in_ok-went.went c.in_ok-met.met c.args.space.now c.go_all.new.space c.meet_root.new.space c.if-went.true c.in_ok-went.ensures.ok c.in_ok-met.ensures.ok

pub returns-else-went-clause-ok : goal.returns-else-went-clause-ok
returns-else-went-clause-ok g c =
    then_second c.in_ok-went.went c.in_ok-met.met c.args.space.now c.go_all.new.space c.meet_root.new.space c.if-went.false c.in_ok-went.ensures.ok c.in_ok-met.ensures.ok

pub returns-then-went-clause-shows : goal.returns-then-went-clause-shows
returns-then-went-clause-shows g c = shows_before _ _ _ c.args.space.now c.go_all.new.space c.meet_root.new.space c.in_ok-went.ensures.shows c.in_ok-met.ensures.console

pub returns-else-went-clause-shows : goal.returns-else-went-clause-shows
returns-else-went-clause-shows g c = shows_before _ _ _ c.args.space.now c.go_all.new.space c.meet_root.new.space c.in_ok-went.ensures.shows c.in_ok-met.ensures.console
