use Rattle.std.proofs.Common.{sym, subst, inl, inr, ◌⊎◌, ◌≡◌}
use Rattle.path_set.specs.Paths.{Has}
use Rattle.path_set.proofs.Puts.{is_there, stays_there}
use Rattle.path_set.proofs.Exact.{only_put}
use Rattle.path_set.proofs.set.PathSet.insert.Goals as goal

pub returns-clause-there : goal.returns-clause-there
returns-clause-there c = is_there c.self.inside.paths.keys c.insert.new.self.keys c.args.path c.in_ok-insert.ensures.keys

pub returns-clause-others : goal.returns-clause-others
returns-clause-others c =
    λ p has. stays_there c.self.inside.paths.keys c.insert.new.self.keys c.args.path p c.in_ok-insert.ensures.keys (subst (λ ps. Has ps p) (sym c.self.view_is) has)

pub returns-clause-only : goal.returns-clause-only
returns-clause-only c =
    λ p has. subst (λ ps. Has ps p ⊎ (p ≡ c.args.path.items)) c.self.view_is (only_put c.self.inside.paths.keys c.insert.new.self.keys c.args.path p c.in_ok-insert.ensures.keys has)
