use Rattle.image_model.proofs.Formats.{has_format_of, two, different, one}
use Rattle.image_model.proofs.laws.spellings.Goals as goal

pub returns-clause-format : goal.returns-clause-format
returns-clause-format c = has_format_of

pub returns-clause-two : goal.returns-clause-two
returns-clause-two c = two

pub returns-clause-different : goal.returns-clause-different
returns-clause-different c = different

pub returns-clause-one : goal.returns-clause-one
returns-clause-one c = one
