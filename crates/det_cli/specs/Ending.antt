-- What a root is brought to, and whoever brings it there.
-- Our choice: a restatement for proofs.
use Rattle.std.specs.Prelude.{◌≡◌, true, Result, IfOk}
use Rattle.space_model.specs.Space.{Space, is_settled}
use Rattle.space_model.specs.Sound.{IsSound}
use Rattle.run_model.specs.Demand.{settle_tree}
use Rattle.det_cli.specs.declared.evaluating.Booted.{Booted}

-- a tree that was brought to its end is settled, and what the root settles to
abbrev pub Ends : {E : Type 0} → Space → Result Space E → Type 0
Ends root r = IfOk r (λ s. (s ≡ settle_tree root) × (is_settled s ≡ true))

-- a function that may be called for each sound root, by what it asks for and what comes of it, and brings it to its end
abbrev pub BringsToEnds : {E : Type 0} → (Booted → Type 0) → (Booted → Result Space E → Type 0) → Type 0
BringsToEnds pre post = (b : Booted) → IsSound b.root → pre b × ((r : _) → post b r → Ends b.root r)
