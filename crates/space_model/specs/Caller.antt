-- The caller of a call that meets children: when it may call, and what it and its children are after the meeting.
-- Code counts the depth of a space, from 0 at the root; definitions count the levels of children that are left below it. Here alone the one
-- is turned into the other.
-- Our choice: a restatement for contracts.
use Rattle.std.specs.Prelude.{ℕ, ◌≤◌, Bool}
use Rattle.call_model.specs.declared.Call.{Call}
use Rattle.call_model.specs.Limits.{greatest_depth, levels_below}
use Rattle.space_model.specs.Space.{Space, top_of, children_of}
use Rattle.space_model.specs.Change.{after_payment}
use Rattle.space_model.specs.Call.{seen_of, apply_meeting}
use Rattle.space_model.specs.Event.{MayPay}
use Rattle.space_model.specs.Meeting.{awaits, action, meet, MayMeet}
use Rattle.space_model.specs.Sound.{IsSoundAt}

-- a space at this depth may call: it is no deeper than the deepest, the call may meet children from there, and it may pay for the call
pub record MayCall (at : ℕ) (k : Call) (s : Space) : Type 0 where
  pub depth : at ≤ greatest_depth
  pub may_meet : MayMeet (levels_below at) k
  pub may_pay : MayPay (top_of s)

-- a space at this depth after a call for which it had not paid yet, once the children that the call waits for are ready
abbrev pub met_by : ℕ → Call → Space → Space
met_by depth k s = meet (levels_below depth) k (after_payment (top_of s) (top_of s)) (children_of s)

-- the same of a call that no test stops
unfoldable pub with_action : Call → Space → Space
with_action k s = apply_meeting (action k (after_payment (top_of s) (top_of s)) (seen_of (awaits k) (children_of s))) (children_of s)

-- a space at this depth is as sound as it was
abbrev pub StaysSound : ℕ → Space → Space → Type 0
StaysSound depth old new = (root : Bool) (fuel : ℕ) → IsSoundAt (levels_below depth) root fuel old → IsSoundAt (levels_below depth) root fuel new
