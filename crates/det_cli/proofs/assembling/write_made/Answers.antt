use Rattle.std.proofs.Common.{◌∙◌, [], inl, refl, sym, subst}
use Rattle.det_host.specs.Outside.{Takes}
use Rattle.det_cli.proofs.Courses.{takes_nothing}
use Rattle.det_cli.proofs.assembling.write_made.Goals as goal

pub returns-in-Ok-write_all-clause-writes : goal.returns-in-Ok-write_all-clause-writes
returns-in-Ok-write_all-clause-writes g c err untouched =
    inl (refl, subst (Takes (g.O.Sink.taken c.args.out.now) (g.O.Sink.taken c.write_all.new.sink)) (c.deref.ensures.value ∙ c.in-Ok.ensures.exact) c.in-Ok-write_all.ensures.ok, subst (λ t. Takes err.taken_before t []) (sym untouched.0) (takes_nothing err.taken_before))
