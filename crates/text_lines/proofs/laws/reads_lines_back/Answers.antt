use Rattle.text_lines.proofs.FirstLine.{read_back}
use Rattle.text_lines.proofs.laws.reads_lines_back.Goals as goal

pub returns : goal.returns
returns c = λ ls last. read_back ls last
