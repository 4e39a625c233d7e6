use Rattle.std.proofs.Common.{refl}
use Rattle.explain_cli.specs.About.{help_text}
use Rattle.explain_cli.proofs.about.help.Goals as goal

pub returns : goal.returns
unfolding help_text
returns c = refl
