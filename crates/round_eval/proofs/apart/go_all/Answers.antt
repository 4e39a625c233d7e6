use Rattle.std.proofs.Common.{◌-◌, arith}
use Rattle.round_eval.proofs.Later.{then_either, then_second}
use Rattle.round_eval.proofs.RootFirst.{shows_then}
use Rattle.round_eval.proofs.apart.go_all.Goals as goal

pub returns-then-went-clause-ok : goal.returns-then-went-clause-ok
returns-then-went-clause-ok g c =
    then_either c.in_ok-went.went c.in_ok-more.more c.args.space.now c.advance_root.new.space c.go_further.new.space c.if-went.true c.in_ok-went.ensures.ok c.in_ok-more.ensures.ok

pub returns-else-went-clause-ok : goal.returns-else-went-clause-ok
returns-else-went-clause-ok g c =
    then_second c.in_ok-went.went c.in_ok-more.more c.args.space.now c.advance_root.new.space c.go_further.new.space c.if-went.false c.in_ok-went.ensures.ok c.in_ok-more.ensures.ok

pub returns-then-went-clause-shows : goal.returns-then-went-clause-shows
returns-then-went-clause-shows g c = shows_then _ _ _ _ _ _ _ _ _ (omega (arith, c.min-first.ensures)) c.in_ok-went.ensures.shows c.in_ok-more.ensures.shows

pub returns-else-went-clause-shows : goal.returns-else-went-clause-shows
returns-else-went-clause-shows g c = shows_then _ _ _ _ _ _ _ _ _ (omega (arith, c.min-first.ensures)) c.in_ok-went.ensures.shows c.in_ok-more.ensures.shows
