-- The status with which the program ends, and the line that says why.
-- Our choice: the numbers and the texts. Those of a failure are those of `det`.
use Rattle.std.specs.Prelude.{ℕ, List, [], ◌∷◌, ◌++◌, codes}
use Rattle.det_cli.specs.Status as det
use Rattle.det_cli.specs.Lines.{fault_line}
use Rattle.explain_cli.specs.declared.end.End.{End}
use Rattle.explain_cli.specs.declared.end.End.TheVariants.{Shown, NoEvent, NoSpace, Usage, Failed}

abbrev pub status_of : End → ℕ
status_of Shown = 0
status_of NoEvent = 1
status_of NoSpace = 1
status_of Usage = 2
status_of (Failed failure) = det.status_of failure

-- the program's name, the cause, and a line feed; nothing where all went well
abbrev pub line_text : End → List ℕ
line_text Shown = []
line_text NoEvent = codes "explain: no such event" ++ 10 ∷ []
line_text NoSpace = codes "explain: no such space" ++ 10 ∷ []
line_text Usage = codes "explain: usage: at|trace|why" ++ 10 ∷ []
line_text (Failed failure) = fault_line failure
