use Rattle.std.proofs.Common.{sym, ◌∙◌, subst}
use Rattle.path_set.specs.Paths.{Has}
use Rattle.path_set.proofs.Exact.{found_there, there_found}
use Rattle.path_set.proofs.set.PathSet.contains.Goals as goal

pub returns-clause-yes : goal.returns-clause-yes
returns-clause-yes c = λ yes. subst (λ ps. Has ps c.args.path.now.items) c.self.view_is (found_there c.self.inside.paths.keys c.args.path.now (sym c.contains.ensures ∙ yes))

pub returns-clause-no : goal.returns-clause-no
returns-clause-no c = λ has. c.contains.ensures ∙ there_found c.self.inside.paths.keys c.args.path.now (subst (λ ps. Has ps c.args.path.now.items) (sym c.self.view_is) has)
