-- What holds of every space that is reached: no space is deeper than the greatest depth, numbers of children rise and are below
-- 65,536, fuel and used add to one number in all, and the root alone has devices.
-- Our choice: a depth of at most 8, child numbers below 65,536, one sum of fuel and used.
use Rattle.std.specs.Prelude.{◌≡◌, ℕ, zero, suc, ◌+◌, ◌^◌, ◌<◌, ◌≤◌, Option, Some, None, Bool, true, false}
use Rattle.call_model.specs.Limits.{greatest_depth, IsChild}
use Rattle.device_model.specs.Devices.{Devices}
use Rattle.space_model.specs.Space.{Space, space, Children, none, child, Top}

abbrev pub has_devices : Option Devices → Bool
has_devices None = false
has_devices (Some d) = true

-- with this fuel in all, at the root or below it
pub record IsSoundTop (fuel : ℕ) (root : Bool) (t : Top) : Type 0 where
  pub sum : t.fuel + t.used ≡ fuel
  pub devices : has_devices t.devices ≡ root

-- with so many levels of children left below it
abbrev mutual
  pub IsSoundAt : ℕ → Bool → ℕ → Space → Type 0
  IsSoundAt levels root fuel (space t cs) = IsSoundTop fuel root t × AreSound levels fuel 0 cs

  -- children whose numbers are at least this
  pub AreSound : ℕ → ℕ → ℕ → Children → Type 0
  AreSound levels fuel least none = Unit {0}
  AreSound zero fuel least (child n s rest) = ⊥
  AreSound (suc levels) fuel least (child n s rest) = (least ≤ n) × IsChild n × IsSoundAt levels false fuel s × AreSound (suc levels) fuel (suc n) rest

-- a whole tree, from its root on
abbrev pub IsSound : Space → Type 0
IsSound s = (fuel : ℕ) × ((1 ≤ fuel) × (fuel < 2 ^ 32) × IsSoundAt greatest_depth true fuel s)
