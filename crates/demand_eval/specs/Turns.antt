-- What a run does to a space, turn by turn.
-- Our choice: a restatement for proofs.
use Rattle.std.specs.Prelude.{◌≡◌, ℕ, ◌<◌, List, [], ◌∷◌, Bool, true, false, Option, Some, None}
use Rattle.call_model.specs.declared.Call.{Call}
use Rattle.space_model.specs.declared.Reach.{Reach}
use Rattle.space_model.specs.Space.{Space, Children, Top, none, child, top_of}
use Rattle.space_model.specs.Change.{after_payment}
use Rattle.space_model.specs.Event.{next, rests, meets}
use Rattle.space_step.specs.declared.event.Next.{Next}
use Rattle.space_step.specs.declared.event.Next.TheVariants.{Local, Meet, Stopped}
use Rattle.space_model.specs.Sound.{IsSoundAt}
use Rattle.space_model.specs.Path.{under}
use Rattle.space_model.specs.Meeting.{awaits}
use Rattle.run_model.specs.Demand.{meaning, run, run_for, left_of, wait_for, everyone, of_children}

-- sound, with so many levels of children left below it, as a root or below one
pub record IsSoundBelow (levels : ℕ) (s : Space) : Type 0 where
  pub root : Bool
  pub fuel : ℕ
  pub sound : IsSoundAt levels root fuel s

-- the numbers of children
abbrev pub numbers_of : Children → List ℕ
numbers_of none = []
numbers_of (child n s rest) = n ∷ numbers_of rest

-- what becomes of a space that is waited for, itself or whole
abbrev pub end_of : ℕ → Reach → Space → Space
end_of levels reach s = (meaning levels reach s).space

-- with the children that a call waits for as they are once they have run
abbrev pub with_awaited : ℕ → Call → Space → Space
with_awaited levels k s = under (λ cs. (wait_for (of_children levels) (awaits k) cs).children) s

-- with every child as it is once it has settled
abbrev pub with_everyone : ℕ → Space → Space
with_everyone levels s = under (λ cs. (wait_for (of_children levels) (everyone cs) cs).children) s

-- A space that has had this many events of its own by demand: what its calls waited for ran before each of them, and no other space did. One that stopped
-- before has had fewer.
abbrev pub by_demand : ℕ → ℕ → Space → Space
by_demand levels n s = (run_for (of_children levels) levels n s).space

-- a space that has gone on by demand: its run comes to the same, it is sound, and fewer of its events are left
pub record GoesOn (levels : ℕ) (old new : Space) : Type 0 where
  pub events : ℕ
  pub came : new ≡ by_demand levels events old
  pub same : run levels new ≡ run levels old
  pub sound : IsSoundBelow levels new
  pub fewer : left_of (top_of new) < left_of (top_of old)

-- a turn after which the space has stopped, or goes on
abbrev pub Turned : ℕ → Bool → Space → Space → Type 0
Turned levels true old new = new ≡ run levels old
Turned levels false old new = GoesOn levels old new

-- a root has the devices that it had
abbrev pub KeepsDevices : Space → Space → Type 0
KeepsDevices old new = let t = top_of old in let u = top_of new in u.devices ≡ t.devices

-- what is next of a space that has gone on; of a local event nothing is said
abbrev pub IsTold : ℕ → Option Next → Top → Type 0
IsTold levels None t = Unit {0}
IsTold levels (Some Local) t = Unit {0}
IsTold levels (Some (Meet k)) t = next levels t ≡ meets k (after_payment t t)
IsTold levels (Some Stopped) t = next levels t ≡ rests

-- the call that was next has met its children, or there was none; and whether the space has stopped
abbrev pub Comes : ℕ → Option Next → Bool → Space → Space → Type 0
Comes levels None stopped old new = ⊥
Comes levels (Some Local) stopped old new = (stopped ≡ false) × (new ≡ old)
Comes levels (Some (Meet k)) stopped old new = (stopped ≡ false) × GoesOn levels old new × KeepsDevices old new
Comes levels (Some Stopped) stopped old new = (stopped ≡ true) × (new ≡ old)
