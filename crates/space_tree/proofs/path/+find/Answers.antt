use Rattle.std.proofs.Common.{◌∙◌, sym, ap}
use Rattle.std.specs.Option.{option_copied}
use Rattle.space_tree.proofs.Paths.{at_child, at_none}
use Rattle.space_tree.proofs.path.+find.Goals as goal

pub returns-in_err-get-in-len1-up : goal.returns-in_err-get-in-len1-up
returns-in_err-get-in-len1-up t c =
    let gone = at_none c.args.path.now c.space.inside.top c.args.space.now c.space.inside.children c.in-len1-up.len_at_least c.space.view_is c.in_err-get-in-len1-up.ensures in
    ap option_copied c.from_residual.ensures ∙ sym gone

pub returns-in_ok-get-in-len1-up : goal.returns-in_ok-get-in-len1-up
returns-in_ok-get-in-len1-up t c =
    c.find.ensures ∙ at_child c.args.path.now c.space.inside.top c.args.space.now c.in_ok-get-in-len1-up.field-0.now c.space.inside.children c.in-len1-up.len_at_least c.space.view_is c.in_ok-get-in-len1-up.ensures
