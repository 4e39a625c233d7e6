use Rattle.std.proofs.Common.{◌∙◌, sym}
use Rattle.std.proofs.lemmas.List.{take_rest}
use Rattle.dev_script.proofs.Pairs.{first_pair}
use Rattle.dev_script.proofs.words.first_byte.Goals as goal

pub returns-in_ok-byte_of-in-len2-up-clause-bytes : goal.returns-in_ok-byte_of-in-len2-up-clause-bytes
returns-in_ok-byte_of-in-len2-up-clause-bytes c = rw take_rest (first_pair c.args.digits.now c.in_ok-byte_of-in-len2-up.field-0 c.in-len2-up.len_at_least (sym c.byte_of.ensures ∙ c.in_ok-byte_of-in-len2-up.was))
