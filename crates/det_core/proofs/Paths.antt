-- The space at a path: what may happen there, and what an event there does to the whole.
use Rattle.std.proofs.Common.{◌≡◌, ◌-◌, ◌≤◌, ℕ, suc, Bool, true, false, cond, List, [], ◌∷◌, length, get_or, Option, Some, None, refl, sym, ap, ◌∙◌, subst, arith}
use Rattle.std.specs.Prelude.{pred, option_and_then, Result, Ok, Err, OnOk, OnErr}
use Rattle.space_model.specs.Space.{Space, space, Top, Children, top_of, children_of, find, over}
use Rattle.space_model.specs.Path.{at}
use Rattle.space_model.specs.Event.{next}
use Rattle.space_model.specs.Sound.{IsSoundAt}
use Rattle.space_model.proofs.Children.{over-at, over_itself}
use Rattle.space_tree.proofs.Paths.{onward, path_is}
use Rattle.run_model.specs.Schedule.{may_happen, on_child, is_enabled, step, try_step, ready_call, call_at, where_some, try_meet}
use Rattle.run_model.proofs.Sound.{try_step_sound}
use Rattle.call_model.specs.declared.Call.{Call}

levels_below : (levels n : ℕ) → pred levels - n ≡ levels - suc n
levels_below levels n = omega arith

enabled_found : (p : List ℕ) (levels : ℕ) (o : Option Space) (r : Space) → option_and_then (at p) o ≡ Some r → ((c : Space) → at p c ≡ Some r → is_enabled p (pred levels) c ≡ may_happen (next (pred levels - length p) (top_of r)) (children_of r))
    → on_child (is_enabled p (pred levels)) o ≡ may_happen (next (levels - suc (length p)) (top_of r)) (children_of r)
enabled_found p levels None r e rec = cc
enabled_found p levels (Some c) r e rec = rec c e ∙ ap (λ k. may_happen (next k (top_of r)) (children_of r)) (levels_below levels (length p))

-- what may happen at a path is what may happen of the space there
pub enabled_at : (p : List ℕ) (levels : ℕ) (s r : Space) → at p s ≡ Some r → is_enabled p levels s ≡ may_happen (next (levels - length p) (top_of r)) (children_of r)
enabled_at [] levels s r is =
    let same : s ≡ r = cc in
    let all : levels ≡ levels - 0 = omega arith in
    ap (λ x. may_happen (next levels (top_of x)) (children_of x)) same ∙ ap (λ k. may_happen (next k (top_of r)) (children_of r)) all
enabled_at (n ∷ p) levels s r is = enabled_found p levels (find n (children_of s)) r is (λ c e. enabled_at p (pred levels) c r e)

enabled_lost : (p : List ℕ) (levels : ℕ) (o : Option Space) → option_and_then (at p) o ≡ None → ((c : Space) → at p c ≡ None → is_enabled p levels c ≡ false) → on_child (is_enabled p levels) o ≡ false
enabled_lost p levels None e rec = refl
enabled_lost p levels (Some c) e rec = rec c e

-- where no space stands nothing may happen
pub enabled_missing : (p : List ℕ) (levels : ℕ) (s : Space) → at p s ≡ None → is_enabled p levels s ≡ false
enabled_missing [] levels s is = cc
enabled_missing (n ∷ p) levels s is = enabled_lost p (pred levels) (find n (children_of s)) is (λ c e. enabled_missing p (pred levels) c e)

-- a child's event is an event of the space
child_steps : (n : ℕ) (p : List ℕ) (levels : ℕ) (u : Top) (c : Space) (cs : Children) → find n cs ≡ Some c → space u (over n (λ d. try_step p (pred levels) c) cs) ≡ try_step (n ∷ p) levels (space u cs)
child_steps n p levels u c cs is =
    by_test (is_enabled p (pred levels) c)
    ∙ ap (λ o. cond (on_child (is_enabled p (pred levels)) o) (space u (over n (step p (pred levels)) cs)) (space u cs)) (sym is)
  where
    by_test : (b : Bool) → space u (over n (λ d. cond b (step p (pred levels) c) c) cs) ≡ cond b (space u (over n (step p (pred levels)) cs)) (space u cs)
    by_test true = ap (space u) (over-at n (λ d. step p (pred levels) c) (step p (pred levels)) c cs is refl)
    by_test false = ap (space u) (over_itself n c cs is)

-- a space that has at the first number of a path the child c, or none
pub record HasFirst (p : List ℕ) (u : Top) (s : Space) (cs : Children) (o : Option Space) : Type 0 where
  pub long : 1 ≤ length p
  pub is : space u cs ≡ s
  pub found : o ≡ find (get_or p 0 0) cs

pub enabled_child : (p : List ℕ) (levels below : ℕ) (u : Top) (s c : Space) (cs : Children) → below ≡ pred levels → HasFirst p u s cs (Some c) → is_enabled (onward p) below c ≡ is_enabled p levels s
enabled_child p levels below u s c cs e h =
    ap (λ k. is_enabled (onward p) k c) e
    ∙ ap (on_child (is_enabled (onward p) (pred levels))) h.found
    ∙ ap (λ x. is_enabled x levels (space u cs)) (sym (path_is p h.long))
    ∙ ap (is_enabled p levels) h.is

pub enabled_none : (p : List ℕ) (levels : ℕ) (u : Top) (s : Space) (cs : Children) → HasFirst p u s cs None → false ≡ is_enabled p levels s
enabled_none p levels u s cs h =
    ap (on_child (is_enabled (onward p) (pred levels))) h.found
    ∙ ap (λ x. is_enabled x levels (space u cs)) (sym (path_is p h.long))
    ∙ ap (is_enabled p levels) h.is

pub stepped_child : (p : List ℕ) (levels below : ℕ) (u : Top) (s c w : Space) (cs : Children) → below ≡ pred levels → HasFirst p u s cs (Some c) → w ≡ try_step (onward p) below c
    → space u (over (get_or p 0 0) (λ _. w) cs) ≡ try_step p levels s
stepped_child p levels below u s c w cs e h done =
    let n = get_or p 0 0 in
    let q = onward p in
    ap (λ x. space u (over n (λ _. x) cs)) (done ∙ ap (λ k. try_step q k c) e)
    ∙ child_steps n q levels u c cs (sym h.found)
    ∙ ap (λ x. try_step x levels (space u cs)) (sym (path_is p h.long))
    ∙ ap (try_step p levels) h.is

pub stepped_none : (p : List ℕ) (levels : ℕ) (u : Top) (s : Space) (cs : Children) → HasFirst p u s cs None → space u cs ≡ try_step p levels s
stepped_none p levels u s cs h = h.is ∙ ap (λ b. cond b (step p levels s) s) (enabled_none p levels u s cs h)

-- a child that has not changed
pub same_child : (p : List ℕ) (u : Top) (s c w : Space) (cs : Children) → HasFirst p u s cs (Some c) → w ≡ c → space u (over (get_or p 0 0) (λ _. w) cs) ≡ s
same_child p u s c w cs h same =
    let n = get_or p 0 0 in
    ap (λ x. space u (over n (λ _. x) cs)) same ∙ ap (space u) (over_itself n c cs (sym h.found)) ∙ h.is

-- a step keeps a tree sound
pub step_keeps : {T E : Type 0} (r : Result T E) (p : List ℕ) (fuel : ℕ) (old new : Space) → OnOk r (new ≡ try_step p 8 old) → OnErr r (new ≡ old) → IsSoundAt 8 true fuel old → IsSoundAt 8 true fuel new
step_keeps (Ok x) p fuel old new ok err sound = subst (IsSoundAt 8 true fuel) (sym ok) (try_step_sound p 8 true fuel old sound)
step_keeps (Err e) p fuel old new ok err sound = subst (IsSoundAt 8 true fuel) (sym err) sound

-- a call of a child is one of the space
pub call_child : (p : List ℕ) (levels below : ℕ) (u : Top) (s c : Space) (cs : Children) → below ≡ pred levels → HasFirst p u s cs (Some c) → call_at (onward p) below c ≡ call_at p levels s
call_child p levels below u s c cs e h =
    ap (λ k. call_at (onward p) k c) e
    ∙ ap (option_and_then (call_at (onward p) (pred levels))) h.found
    ∙ ap (λ x. call_at x levels (space u cs)) (sym (path_is p h.long))
    ∙ ap (call_at p levels) h.is

pub call_none : (p : List ℕ) (levels : ℕ) (u : Top) (s : Space) (cs : Children) → HasFirst p u s cs None → None ≡ call_at p levels s
call_none p levels u s cs h =
    ap (option_and_then (call_at (onward p) (pred levels))) h.found
    ∙ ap (λ x. call_at x levels (space u cs)) (sym (path_is p h.long))
    ∙ ap (call_at p levels) h.is

-- and where it has met its children, it is the space's event
child_meets : (n : ℕ) (p : List ℕ) (levels : ℕ) (u : Top) (c : Space) (cs : Children) → find n cs ≡ Some c → space u (over n (λ d. try_meet p (pred levels) c) cs) ≡ try_meet (n ∷ p) levels (space u cs)
child_meets n p levels u c cs is =
    by_call (call_at p (pred levels) c)
    ∙ ap (λ o. where_some (option_and_then (call_at p (pred levels)) o) (space u (over n (step p (pred levels)) cs)) (space u cs)) (sym is)
  where
    by_call : (o : Option Call) → space u (over n (λ d. where_some o (step p (pred levels) c) c) cs) ≡ where_some o (space u (over n (step p (pred levels)) cs)) (space u cs)
    by_call (Some k) = ap (space u) (over-at n (λ d. step p (pred levels) c) (step p (pred levels)) c cs is refl)
    by_call None = ap (space u) (over_itself n c cs is)

pub met_child : (p : List ℕ) (levels below : ℕ) (u : Top) (s c w : Space) (cs : Children) → below ≡ pred levels → HasFirst p u s cs (Some c) → w ≡ try_meet (onward p) below c
    → space u (over (get_or p 0 0) (λ _. w) cs) ≡ try_meet p levels s
met_child p levels below u s c w cs e h done =
    let n = get_or p 0 0 in
    let q = onward p in
    ap (λ x. space u (over n (λ _. x) cs)) (done ∙ ap (λ k. try_meet q k c) e)
    ∙ child_meets n q levels u c cs (sym h.found)
    ∙ ap (λ x. try_meet x levels (space u cs)) (sym (path_is p h.long))
    ∙ ap (try_meet p levels) h.is

pub met_none : (p : List ℕ) (levels : ℕ) (u : Top) (s : Space) (cs : Children) → HasFirst p u s cs None → space u cs ≡ try_meet p levels s
met_none p levels u s cs h = h.is ∙ ap (λ o. where_some o (step p levels s) s) (call_none p levels u s cs h)

call_below : (p : List ℕ) (levels : ℕ) (o : Option Space) (r : Space) → option_and_then (at p) o ≡ Some r → ((c : Space) → at p c ≡ Some r → call_at p (pred levels) c ≡ ready_call (next (pred levels - length p) (top_of r)) (children_of r))
    → option_and_then (call_at p (pred levels)) o ≡ ready_call (next (levels - suc (length p)) (top_of r)) (children_of r)
call_below p levels None r e rec = cc
call_below p levels (Some c) r e rec = rec c e ∙ ap (λ k. ready_call (next k (top_of r)) (children_of r)) (levels_below levels (length p))

-- the call that may meet its children at a path is that of the space there
pub call_found : (p : List ℕ) (levels : ℕ) (s r : Space) → at p s ≡ Some r → call_at p levels s ≡ ready_call (next (levels - length p) (top_of r)) (children_of r)
call_found [] levels s r is =
    let same : s ≡ r = cc in
    let all : levels ≡ levels - 0 = omega arith in
    ap (λ x. ready_call (next levels (top_of x)) (children_of x)) same ∙ ap (λ k. ready_call (next k (top_of r)) (children_of r)) all
call_found (n ∷ p) levels s r is = call_below p levels (find n (children_of s)) r is (λ c e. call_found p (pred levels) c r e)

call_lost : (p : List ℕ) (levels : ℕ) (o : Option Space) → option_and_then (at p) o ≡ None → ((c : Space) → at p c ≡ None → call_at p levels c ≡ None) → option_and_then (call_at p levels) o ≡ None
call_lost p levels None e rec = refl
call_lost p levels (Some c) e rec = rec c e

-- where no space stands there is none
pub call_missing : (p : List ℕ) (levels : ℕ) (s : Space) → at p s ≡ None → call_at p levels s ≡ None
call_missing [] levels s is = cc
call_missing (n ∷ p) levels s is = call_lost p (pred levels) (find n (children_of s)) is (λ c e. call_missing p (pred levels) c e)
