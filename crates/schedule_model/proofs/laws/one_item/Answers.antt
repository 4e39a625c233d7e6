use Rattle.text_lines.proofs.Items.{one_item}
use Rattle.schedule_model.specs.Schedule.{Says}
use Rattle.schedule_model.specs.Reading.{item_of}
use Rattle.schedule_model.proofs.Items.{reads}
use Rattle.schedule_model.proofs.laws.one_item.Goals as goal

pub returns : goal.returns
returns c = one_item Says item_of reads
