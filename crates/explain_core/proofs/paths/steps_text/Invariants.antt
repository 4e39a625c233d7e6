use Rattle.std.proofs.Common.{◌≡◌, ◌∷◌, ◌++◌, drop}
use Rattle.std.specs.Prelude.{string_bytes}
use Rattle.std.specs.List.{flat_map}
use Rattle.std.specs.Fmt.{decimal}
use Rattle.explain_core.proofs.paths.steps_text.Given as goal

-- what stands there, and the steps that are left
abbrev pub invariant-loop-number : goal.invariant-loop-number
invariant-loop-number l = string_bytes l.text ++ flat_map (λ k. 47 ∷ decimal k) (drop l.number-index l.path) ≡ flat_map (λ k. 47 ∷ decimal k) l.path
