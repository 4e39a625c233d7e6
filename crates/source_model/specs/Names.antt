-- The names of the kinds of fault.
-- Our choice: the texts.
use Rattle.std.specs.Prelude.{ℕ, List, codes}
use Rattle.source_model.specs.declared.error.AsmErrorKind.{AsmErrorKind}
use Rattle.source_model.specs.declared.error.AsmErrorKind.TheVariants as kinds

abbrev pub kind_name : AsmErrorKind → List ℕ
kind_name kinds.Word = codes "word"
kind_name kinds.Operand = codes "operand"
kind_name kinds.Register = codes "register"
kind_name kinds.Number = codes "number"
kind_name kinds.Twice = codes "twice"
kind_name kinds.Place = codes "place"
kind_name kinds.TooBig = codes "toobig"
kind_name kinds.Label = codes "label"
