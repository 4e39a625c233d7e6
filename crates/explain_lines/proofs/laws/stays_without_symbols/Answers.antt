use Rattle.explain_lines.proofs.Unnamed.{unnamed}
use Rattle.explain_lines.proofs.laws.stays_without_symbols.Goals as goal

pub returns : goal.returns
returns c = λ text. unnamed text
