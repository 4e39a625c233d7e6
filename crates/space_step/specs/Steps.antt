-- What is next of a space, as calls answer it.
-- Our choice: a restatement for proofs.
use Rattle.std.specs.Prelude.{◌≡◌, ℕ, Result, Ok, Err}
use Rattle.std.specs.declared.alloc.AllocError.{AllocError}
use Rattle.space_step.specs.declared.event.Next.{Next}
use Rattle.space_step.specs.declared.event.Next.TheVariants as answers
use Rattle.space_model.specs.Space.{Top}
use Rattle.space_model.specs.Change.{after_payment}
use Rattle.space_model.specs.Event as event

-- a local event is next
abbrev pub IsNextLocal : ℕ → Top → Type 0
IsNextLocal levels t = (u : Top) × (event.next levels t ≡ event.moves u)

-- a local event, a call that meets a child, or nothing
abbrev pub IsNext : ℕ → Next → Top → Type 0
IsNext levels answers.Local t = IsNextLocal levels t
IsNext levels (answers.Meet k) t = event.next levels t ≡ event.meets k (after_payment t t)
IsNext levels answers.Stopped t = event.next levels t ≡ event.rests

-- a local event, which has happened; a call or nothing, and then nothing has changed
abbrev pub Answers : ℕ → Next → Top → Top → Type 0
Answers levels answers.Local old new = event.next levels old ≡ event.moves new
Answers levels (answers.Meet k) old new = (event.next levels old ≡ event.meets k (after_payment old old)) × (new ≡ old)
Answers levels answers.Stopped old new = (event.next levels old ≡ event.rests) × (new ≡ old)

-- and where memory ran out, a local event is next, and nothing has changed
abbrev pub Steps : ℕ → Result Next AllocError → Top → Top → Type 0
Steps levels (Ok n) old new = Answers levels n old new
Steps levels (Err e) old new = IsNextLocal levels old × (new ≡ old)

-- an effect that meets no child
abbrev pub IsLocal : event.Effect → Type 0
IsLocal (event.becomes t) = Unit {0}
IsLocal (event.asks call) = ⊥

-- the answer to an effect: a local event, or a call that meets children
abbrev pub IsAnswer : Next → event.Effect → Type 0
IsAnswer answers.Local effect = IsLocal effect
IsAnswer (answers.Meet k) effect = effect ≡ event.asks k
IsAnswer answers.Stopped effect = ⊥

-- what an effect does, and what it costs; a call that meets a child is left to do
abbrev pub Acts : event.Effect → Next → Top → Top → Type 0
Acts effect answers.Local old new = event.charge old effect ≡ event.moves new
Acts effect (answers.Meet k) old new = (effect ≡ event.asks k) × (new ≡ old)
Acts effect answers.Stopped old new = ⊥
