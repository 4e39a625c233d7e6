-- The line that names a fault's cause.
-- Our choice: the texts.
use Rattle.std.specs.Prelude.{ℕ, List, [], ◌∷◌, ◌++◌, codes, decimal}
use Rattle.image_model.specs.Names.{error_text}
use Rattle.elf_model.specs.Names as elf
use Rattle.source_model.specs.Names.{kind_name}
use Rattle.det_cli.specs.declared.end.End.{End}
use Rattle.det_cli.specs.declared.end.End.TheVariants.{Ret, Trapped, Usage, BadImage, BadElf, BadScript, BadSchedule, BadSource, TooLarge, ReadFault, WriteFault, NoMemory}

-- the program's name, the cause, and a line feed; nothing where all went well
abbrev pub fault_line : End → List ℕ
fault_line Ret = []
fault_line Trapped = []
fault_line Usage = codes "det: usage: run|walk|asm|bench" ++ 10 ∷ []
fault_line (BadImage e) = codes "det: image: " ++ (error_text e ++ 10 ∷ [])
fault_line (BadElf e) = codes "det: elf: " ++ (elf.error_text e ++ 10 ∷ [])
fault_line (BadScript e) = codes "det: script: line " ++ (decimal e.line ++ 10 ∷ [])
fault_line (BadSchedule e) = codes "det: schedule: line " ++ (decimal e.line ++ 10 ∷ [])
fault_line (BadSource e) = codes "det: source: line " ++ (decimal e.line ++ (codes ": " ++ (kind_name e.kind ++ 10 ∷ [])))
fault_line (TooLarge read) = codes "det: too large: " ++ (decimal read ++ (codes " bytes read" ++ 10 ∷ []))
fault_line ReadFault = codes "det: read fault" ++ 10 ∷ []
fault_line WriteFault = codes "det: write fault" ++ 10 ∷ []
fault_line NoMemory = codes "det: out of memory" ++ 10 ∷ []
