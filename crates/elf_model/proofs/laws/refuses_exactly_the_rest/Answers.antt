use Rattle.elf_model.proofs.Images.{exactly_refused, either, never_both}
use Rattle.elf_model.proofs.laws.refuses_exactly_the_rest.Goals as goal

pub returns-clause-exact : goal.returns-clause-exact
returns-clause-exact c = exactly_refused

pub returns-clause-either : goal.returns-clause-either
returns-clause-either c = either

pub returns-clause-never_both : goal.returns-clause-never_both
returns-clause-never_both c = never_both
