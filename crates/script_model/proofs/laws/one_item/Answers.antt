use Rattle.text_lines.proofs.Items.{one_item}
use Rattle.script_model.specs.Script.{Says}
use Rattle.script_model.specs.Reading.{item_of}
use Rattle.script_model.proofs.Items.{reads}
use Rattle.script_model.proofs.laws.one_item.Goals as goal

pub returns : goal.returns
returns c = one_item Says item_of reads
