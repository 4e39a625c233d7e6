use Rattle.std.proofs.Common.{sym, subst}
use Rattle.path_set.specs.Paths.{Has}
use Rattle.path_set.proofs.Exact.{not_there, only_taken, was_there}
use Rattle.path_set.proofs.set.PathSet.remove.Goals as goal

pub returns-clause-gone : goal.returns-clause-gone
returns-clause-gone c = not_there c.remove.new.self.keys c.args.path.now c.remove.ensures.updates.1

pub returns-clause-others : goal.returns-clause-others
returns-clause-others c =
    λ p other has. only_taken c.self.inside.paths.keys c.remove.new.self.keys c.args.path.now p c.remove.ensures.keys other (subst (λ ps. Has ps p) (sym c.self.view_is) has)

pub returns-clause-less : goal.returns-clause-less
returns-clause-less c = λ p has. subst (λ ps. Has ps p) c.self.view_is (was_there c.self.inside.paths.keys c.remove.new.self.keys c.args.path.now p c.remove.ensures.keys has)
