-- Paths as text that grows from parent to child, and the line behind one.
-- Our choice: a restatement for proofs.
use Rattle.std.specs.Prelude.{ℕ, Bool, List, [], ◌∷◌, ◌++◌}
use Rattle.std.specs.List.{flat_map}
use Rattle.std.specs.Fmt.{decimal}
use Rattle.space_model.specs.Space.{Top}
use Rattle.report_model.specs.Report.{state_text, digest_part}

-- a slash and a number for each level
abbrev pub steps_of : List ℕ → List ℕ
steps_of path = flat_map (λ k. 47 ∷ decimal k) path

-- as a line shows them: no steps as a slash
abbrev pub path_in_line : List ℕ → List ℕ
path_in_line [] = 47 ∷ []
path_in_line (c ∷ cs) = c ∷ cs

-- a space's line, behind these steps
abbrev pub line_behind : Bool → List ℕ → Top → List ℕ
line_behind digest steps t = path_in_line steps ++ (state_text t ++ (digest_part digest t ++ 10 ∷ []))
