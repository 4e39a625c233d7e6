-- How a space goes on for the sake of the own events at a path from it: which schedule leads it there, and which own events of the path are in it.
-- Our choice: a restatement for proofs.
use Rattle.std.specs.Prelude.{◌≡◌, ℕ, ◌+◌, ◌-◌, ◌<◌, ◌≤◌, true, false, List, [], ◌∷◌, length, Option, Some, None, IfSome, if◌then◌else◌}
use Rattle.space_model.specs.Stop.{is_stopped}
use Rattle.space_model.specs.Space.{Space, Top, Children, top_of, children_of, find}
use Rattle.run_model.specs.Schedule.{try_step}
use Rattle.run_model.specs.Replay.{replay}
use Rattle.run_model.specs.Demand.{left_of}
use Rattle.det_laws.specs.Tops.{top_at}
use Rattle.event_laws.specs.OwnEvents.{OwnEvent, own_event_at, is_same_path, and_others}
use Rattle.explain_core.specs.declared.watching.Asked.{Asked}
use Rattle.explain_core.specs.declared.going.Turn.{Turn}
use Rattle.explain_core.specs.Watch.{Kept, keep_all}

-- the own events at a path in a schedule of a space with so many levels of children left below it
abbrev pub own_below : ℕ → List ℕ → List (List ℕ) → Space → List OwnEvent
own_below levels p [] s = []
own_below levels p (q ∷ qs) s = and_others (if is_same_path p q then own_event_at p levels s else None) (own_below levels p qs (try_step q levels s))

-- a schedule with these own events at a path leads from s to now
pub record GoesBy (levels : ℕ) (p : List ℕ) (own : List OwnEvent) (s now : Space) : Type 0 where
  pub schedule : List (List ℕ)
  pub leads : replay schedule levels s ≡ now
  pub events : own_below levels p schedule s ≡ own

-- every space on the way to a path, and the one there, has stopped, where it is there
abbrev pub WayStopped : List ℕ → Space → Type 0
WayStopped [] s = let t = top_of s in is_stopped t.status ≡ true
WayStopped (n ∷ p) s = (let t = top_of s in is_stopped t.status ≡ true) × IfSome (find n (children_of s)) (WayStopped p)

-- and every space but the first
abbrev pub BelowStopped : List ℕ → Children → Type 0
BelowStopped [] cs = Unit {0}
BelowStopped (n ∷ p) cs = IfSome (find n cs) (WayStopped p)

-- the last own event has left this top
abbrev pub EndsWith : List OwnEvent → Option Top → Type 0
EndsWith [] o = Unit {0}
EndsWith (e ∷ []) o = o ≡ Some e.after
EndsWith (e ∷ f ∷ es) o = EndsWith (f ∷ es) o

-- the first own event happened to this top
abbrev pub StartsWith : List OwnEvent → Top → Type 0
StartsWith [] t = Unit {0}
StartsWith (e ∷ es) t = e.before ≡ t

-- a turn of a space: its own events are so many, and at a path below none happens where every space on the way there has stopped
pub record TakesTurn (levels most : ℕ) (turn : Turn) (s now : Space) : Type 0 where
  pub own : List OwnEvent
  pub itself : GoesBy levels [] own s now
  pub count : length own ≡ turn.events
  pub within : turn.events ≤ most
  pub first : StartsWith own (top_of s)
  pub last : EndsWith own (Some (top_of now))
  pub below : (n : ℕ) (p : List ℕ) → BelowStopped (n ∷ p) (children_of s) → GoesBy levels (n ∷ p) [] s now
  pub fewer : turn.stopped ≡ false → left_of (top_of now) < left_of (top_of s)
  pub stopped : turn.stopped ≡ true → (let t = top_of now in is_stopped t.status ≡ true) × (children_of now ≡ children_of s)

-- the same of a space of whose own events so many are left, and those that are asked for are noticed
pub record TellsTurn (levels left : ℕ) (a : Asked) (turn : Turn) (old new : Kept) (s now : Space) : Type 0 where
  pub takes : TakesTurn levels left turn s now
  pub kept : new ≡ keep_all a (a.to - left) takes.own old

-- so many own events of a path so far, of those that are wanted, and what is kept of them, and so many are left
pub record SoFar (levels : ℕ) (p : List ℕ) (a : Asked) (wanted left : ℕ) (old mid : Kept) (s now : Space) : Type 0 where
  pub own : List OwnEvent
  pub goes : GoesBy levels p own s now
  pub count : length own + left ≡ wanted
  pub kept : mid ≡ keep_all a (a.to - wanted) own old

-- Of so many own events of a path that are wanted, so many are left: none, and the last one has just happened; or some, and every space on the way has
-- stopped. Those that are asked for are noticed.
pub record HasCome (levels : ℕ) (p : List ℕ) (a : Asked) (wanted left : ℕ) (old new : Kept) (s now : Space) : Type 0 where
  pub own : List OwnEvent
  pub goes : GoesBy levels p own s now
  pub count : length own + left ≡ wanted
  pub kept : new ≡ keep_all a (a.to - wanted) own old
  pub last : left ≡ 0 → EndsWith own (top_at p now)
  pub over : 0 < left → WayStopped p now

-- the same of a path below a space that has not gone on itself
pub record HasComeBelow (levels : ℕ) (p : List ℕ) (a : Asked) (wanted left : ℕ) (old new : Kept) (s now : Space) : Type 0 where
  pub own : List OwnEvent
  pub goes : GoesBy levels p own s now
  pub count : length own + left ≡ wanted
  pub kept : new ≡ keep_all a (a.to - wanted) own old
  pub last : left ≡ 0 → EndsWith own (top_at p now)
  pub over : 0 < left → BelowStopped p (children_of now)
  pub top : top_of now ≡ top_of s
  pub itself : GoesBy levels [] [] s now
