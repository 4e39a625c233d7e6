-- A call that may meet its children at a path is the event that may happen there.
use Rattle.std.proofs.Common.{◌≡◌, ℕ, Bool, true, false, cond, List, [], ◌∷◌, Some, None, refl}
use Rattle.std.specs.Prelude.{pred, Option, option_and_then}
use Rattle.call_model.specs.declared.Call.{Call}
use Rattle.space_model.specs.Space.{Space, Children, top_of, children_of, find}
use Rattle.space_model.specs.Meeting.{awaits}
use Rattle.space_model.specs.Event.{NextEvent, rests, moves, meets, next}
use Rattle.run_model.specs.Schedule.{are_ready, may_happen, on_child, is_enabled, ready_call, call_at}

where_ready : (b : Bool) (j k : Call) → cond b (Some j) None ≡ Some k → b ≡ true
where_ready true j k e = refl
where_ready false j k e = cc

ready_happens : (e : NextEvent) (cs : Children) (k : Call) → ready_call e cs ≡ Some k → may_happen e cs ≡ true
ready_happens rests cs k is = cc
ready_happens (moves t) cs k is = refl
ready_happens (meets j t) cs k is = where_ready (are_ready (awaits j) cs) j k is

child_happens : (p : List ℕ) (levels : ℕ) (o : Option Space) (k : Call) → option_and_then (call_at p levels) o ≡ Some k → ((c : Space) → call_at p levels c ≡ Some k → is_enabled p levels c ≡ true)
    → on_child (is_enabled p levels) o ≡ true
child_happens p levels None k is rec = cc
child_happens p levels (Some c) k is rec = rec c is

pub call_enabled : (p : List ℕ) (levels : ℕ) (s : Space) (k : Call) → call_at p levels s ≡ Some k → is_enabled p levels s ≡ true
call_enabled [] levels s k is = ready_happens (next levels (top_of s)) (children_of s) k is
call_enabled (n ∷ p) levels s k is = child_happens p (pred levels) (find n (children_of s)) k is (λ c e. call_enabled p (pred levels) c k e)
