use Rattle.std.proofs.Common.{◌-◌}
use Rattle.std.proofs.lemmas.Result.{IfOk-weaker}
use Rattle.round_eval.proofs.Onward.{here_reaches}
use Rattle.round_eval.proofs.going.go_on_here.Goals as goal

pub returns : goal.returns
returns c =
    IfOk-weaker c.advance.result _ _
    (λ a h. here_reaches (8 - c.args.depth) a.ran c.space.inside.top c.advance.new.top c.args.space.now c.space.inside.children c.space.view_is h.follows)
    c.advance.ensures.ok
