-- The lines that are the same whoever changed what.
-- Our choice: the text.
use Rattle.std.specs.Prelude.{ℕ, List, [], ◌∷◌, ◌++◌, codes}
use Rattle.std.specs.Fmt.{decimal}
use Rattle.report_model.specs.Report.{hex8, path_text, stop_text}
use Rattle.space_model.specs.declared.Status.{Status}
use Rattle.explain_core.specs.Contents.{name_text}
use Rattle.explain_core.specs.Hex.{hex2}
use Rattle.explain_core.specs.Instructions.{register_name}
use Rattle.explain_core.specs.Trace.{call_name}

-- the space, the call that found the conflict by its number, the child that was joined, and the address
abbrev pub conflict_text : List ℕ → ℕ → List ℕ → ℕ → List ℕ
conflict_text p call child address = codes "conflict " ++ (path_text p ++ 32 ∷ (call_name call ++ (codes " of " ++ (path_text child ++ (codes " at " ++ (hex8 address ++ 10 ∷ []))))))

-- the same, where no child with a snapshot stands there any more
abbrev pub lone_conflict_text : List ℕ → ℕ → List ℕ
lone_conflict_text p address = codes "conflict " ++ (path_text p ++ (codes " at " ++ (hex8 address ++ 10 ∷ [])))

-- a byte of the snapshot, of the child and of its parent
abbrev pub bytes_text : ℕ → ℕ → ℕ → List ℕ
bytes_text snapshot child parent = codes "snapshot " ++ (hex2 snapshot ++ (codes " child " ++ (hex2 child ++ (codes " parent " ++ (hex2 parent ++ 10 ∷ [])))))

-- a space that a trap has stopped
abbrev pub trap_text : List ℕ → Status → List ℕ
trap_text p status = codes "trap " ++ (path_text p ++ 32 ∷ (stop_text status ++ 10 ∷ []))

-- the register of an address
abbrev pub register_word : ℕ → List ℕ
register_word r = codes "register " ++ (register_name r ++ codes " changed by")

-- a space with a file in conflict, its name and its slot
abbrev pub file_text : List ℕ → ℕ → List ℕ → List ℕ
file_text p k name = codes "conflict " ++ (path_text p ++ (codes " file " ++ (name_text name ++ (codes " slot " ++ (decimal k ++ 10 ∷ [])))))
