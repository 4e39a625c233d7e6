use Rattle.source_model.specs.Layout.{definitions, start}
use Rattle.source_model.specs.Bytes.{lines_of}
use Rattle.source_model.proofs.Definitions.{is-first, first-is}
use Rattle.source_model.proofs.laws.labels_are_addresses.Goals as goal

pub returns : goal.returns
unfolding definitions
returns c = λ text name d. (is-first 1 start (lines_of text) name d, first-is 1 start (lines_of text) name d)
