-- When a worker may sleep.
-- Our choice: never the last that is awake. Whoever is awake comes back to the lock, or goes home and wakes all.
use Rattle.std.specs.Prelude.{ℕ, ◌≡◌, ◌+◌, ◌<◌, Bool, false}

-- one that is awake is not the only one
abbrev pub IsBesideAnother : ℕ → ℕ → Type 0
IsBesideAnother asleep here = asleep + 1 < here

-- until one goes home, one is awake where some sleep
abbrev pub IsWatched : Bool → ℕ → ℕ → Type 0
IsWatched ended asleep here = ended ≡ false → 0 < asleep → asleep < here
