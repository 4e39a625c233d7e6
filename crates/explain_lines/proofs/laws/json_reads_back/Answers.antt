use Rattle.explain_lines.proofs.Arrays.{reads_back}
use Rattle.explain_lines.proofs.laws.json_reads_back.Goals as goal

pub returns : goal.returns
returns c = λ text. reads_back text
