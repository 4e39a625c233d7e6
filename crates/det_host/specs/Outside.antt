-- What a loader and a sink tell of themselves, and how often they have failed.
-- Our choice: what is said of the outside: bytes told, requests made, faults counted.
use Rattle.std.specs.Prelude.{◌≡◌, ℕ, ◌+◌, ◌-◌, ◌^◌, ◌<◌, ◌≤◌, ◌⊎◌, min, List, [], ◌∷◌, ◌++◌, length, Option, Some, IfSome, Result, Ok, Err}
use Rattle.det_host.specs.declared.loader.LoadError.{LoadError}
use Rattle.det_host.specs.declared.loader.LoadError.TheVariants.{Failed, TooLarge, Memory}

-- a count rose, or stands at its end
abbrev pub Rose : ℕ → ℕ → Type 0
Rose before now = min (before + 1) (2 ^ 64 - 1) ≤ now

-- what a load with so much room answers, where the name's bytes are told or not
abbrev pub Loads : {V : Type 0} → (V → List ℕ) → Option (List ℕ) → ℕ → Result V LoadError → Type 0
Loads items told room (Ok v) = (length (items v) ≤ room) × IfSome told (λ bytes. items v ≡ bytes)
Loads items told room (Err Failed) = Unit {0}
Loads items told room (Err (TooLarge read)) = (read ≡ room + 1) × IfSome told (λ bytes. room < length bytes)
Loads items told room (Err Memory) = Unit {0}

-- a file that was asked for: the bytes of its name, and the most bytes that it may have
pub record Request : Type 0 where
  pub name : List ℕ
  pub room : ℕ

-- a load appends its request to those that were made; where memory ran out it may not
abbrev pub Asks : {V : Type 0} → List Request → List Request → Request → Result V LoadError → Type 0
Asks old new request (Ok v) = new ≡ old ++ request ∷ []
Asks old new request (Err Failed) = new ≡ old ++ request ∷ []
Asks old new request (Err (TooLarge read)) = new ≡ old ++ request ∷ []
Asks old new request (Err Memory) = (new ≡ old) ⊎ (new ≡ old ++ request ∷ [])

-- only a load that failed counts a fault
abbrev pub IsQuiet : {V : Type 0} → ℕ → ℕ → Result V LoadError → Type 0
IsQuiet before now (Ok v) = now ≡ before
IsQuiet before now (Err Failed) = Unit {0}
IsQuiet before now (Err (TooLarge read)) = now ≡ before
IsQuiet before now (Err Memory) = now ≡ before

-- a sink that told what it had taken has taken these bytes more, and tells it
abbrev pub Takes : Option (List ℕ) → Option (List ℕ) → List ℕ → Type 0
Takes old new bytes = IfSome old (λ before. new ≡ Some (before ++ bytes))
