-- Worked examples: a file that a child and its parent both changed.
use Rattle.std.proofs.Common.{◌≡◌, ℕ, Bool, true, false, List, [], ◌∷◌, refl, Option, Some, None}
use Rattle.std.specs.Prelude.{codes}
use Rattle.file_model.specs.File.{File}
use Rattle.file_model.specs.Operations.{entry_from, free_from, new_file}
use Rattle.file_model.specs.Reconcile.{reconcile, reconcile_files, shown_from}

-- a file `a` that was made and added to
abbrev pub file : ℕ → List ℕ → Bool → File
file version content append = record { name = codes "a"; version = version; base = 0; length_at_base = 0; content = content; append = append; conflicted = false; deleted = false }

-- the child's, that began with the parent's of version 1 and was added to twice
abbrev pub child : Bool → List (Option File)
child append = Some (record (file 3 (codes "cc") append) { base = 1 }) ∷ None ∷ []

-- the parent's, that was added to once
abbrev pub parent : Bool → List (Option File)
parent append = Some (file 2 (codes "p") append) ∷ None ∷ []

-- both changed it: it is in conflict, with the parent's content
pub conflict : (reconcile (parent false) (child false)).slots ≡ Some (record (file 3 (codes "p") false) { conflicted = true }) ∷ None ∷ []
unfolding reconcile_files shown_from entry_from free_from
conflict = refl

-- both added to it: it has what either added
pub addition : (reconcile (parent true) (child true)).slots ≡ Some (file 3 (codes "pcc") true) ∷ None ∷ []
unfolding reconcile_files shown_from entry_from free_from
addition = refl

-- a file that the parent lacks comes to the lowest free slot
pub arrival : (reconcile (None ∷ None ∷ []) (child true)).slots ≡ Some (file 3 (codes "cc") true) ∷ None ∷ []
unfolding reconcile_files shown_from entry_from free_from
arrival = refl

-- and is left out where there is none
pub no_room : (reconcile (Some (new_file (codes "b") false) ∷ []) (child true)).left_out ≡ 1
unfolding reconcile_files shown_from entry_from free_from
no_room = refl
