-- A space that has had local events, or a call, goes on to the same end.
use Rattle.std.proofs.Common.{◌≡◌, ℕ, zero, suc, pred, ◌+◌, ◌≤◌, ◌<◌, Bool, true, false, cond, Option, Some, None, refl, sym, ap, ◌∙◌, subst, arith}
use Rattle.call_model.specs.declared.Call.{Call}
use Rattle.space_model.specs.Stop.{is_stopped}
use Rattle.space_model.specs.Space.{Space, space, Top, Children, top_of, children_of}
use Rattle.space_model.specs.Sound.{IsSoundAt, AreSound}
use Rattle.space_model.specs.Change.{after_payment}
use Rattle.space_model.specs.Meeting.{MayMeet, awaits, meet}
use Rattle.space_model.specs.Event.{next, rests, meets, Follows, MayPay}
use Rattle.space_model.proofs.Next.{next_meets, follows_sound}
use Rattle.space_step.specs.declared.event.Next.{Next}
use Rattle.space_step.specs.declared.event.Next.TheVariants as answers
use Rattle.space_step.specs.Running.{Ended}
use Rattle.run_model.specs.Demand.{run, left_of, of_children, wait_for}
use Rattle.run_model.proofs.Fuel.{left_falls, stopped_rests}
use Rattle.run_model.proofs.Run.{run_on, run-run_on, run_on-follows, run_on-rests, run_on-meets, meet_fuel, call_costs}
use Rattle.run_model.proofs.Sound.{KeepsSound, wait_for_sound, meaning_sound, next_meets_sound}
use Rattle.run_model.proofs.Console.{meet_devices}
use Rattle.demand_eval.specs.Turns.{IsSoundBelow, GoesOn, KeepsDevices, IsTold, Comes, Turned, by_demand, with_awaited}
use Rattle.demand_eval.proofs.ByDemand.{demand-add, demand-follows, demand-meets}

-- what a space that has gone on is told of what is next
told : (levels quantum ran : ℕ) (o p : Option Next) (t : Top) → Ended levels quantum ran o t → o ≡ p → Ended levels quantum ran p t
told levels quantum ran o p t h e = subst (λ (q : Option Next). Ended levels quantum ran q t) e h

pub told_local : (levels quantum ran : ℕ) (o : Option Next) (t : Top) → Ended levels quantum ran o t → o ≡ Some answers.Local → ran ≡ quantum
told_local levels quantum ran o t h e = told levels quantum ran o (Some answers.Local) t h e

pub told_meet : (levels quantum ran : ℕ) (o : Option Next) (k : Call) (t : Top) → Ended levels quantum ran o t → o ≡ Some (answers.Meet k) → next levels t ≡ meets k (after_payment t t)
told_meet levels quantum ran o k t h e = (told levels quantum ran o (Some (answers.Meet k)) t h e).1

pub told_stopped : (levels quantum ran : ℕ) (o : Option Next) (t : Top) → Ended levels quantum ran o t → o ≡ Some answers.Stopped → next levels t ≡ rests
told_stopped levels quantum ran o t h e = (told levels quantum ran o (Some answers.Stopped) t h e).1

-- so many events leave so many fewer
pub follows_left : (levels n : ℕ) (t u : Top) → Follows levels n t u → left_of u + n ≤ left_of t
follows_left levels zero t u is = rw is (omega arith)
follows_left levels (suc n) t u is = let first = left_falls levels t is.0 is.1 in let rest = follows_left levels n is.0 u is.2 in omega arith

pub run-follows : (levels n : ℕ) (t u : Top) (cs : Children) → Follows levels n t u → run levels (space u cs) ≡ run levels (space t cs)
run-follows levels n t u cs is = run-run_on levels (space u cs) ∙ sym (run_on-follows (of_children levels) levels n t u cs is) ∙ sym (run-run_on levels (space t cs))

-- after so many events a space is as sound
pub advanced_sound : (levels n : ℕ) (t u : Top) (cs : Children) (s : Space) → IsSoundBelow levels s → space t cs ≡ s → Follows levels n t u → IsSoundBelow levels (space u cs)
advanced_sound levels n t u cs s ok is follows =
    let here : IsSoundAt levels ok.root ok.fuel (space t cs) = subst (IsSoundAt levels ok.root ok.fuel) (sym is) ok.sound in
    record { root = ok.root; fuel = ok.fuel; sound = (follows_sound levels n ok.fuel ok.root t u follows here.0, here.1) }

-- and goes on, where there was one at least
pub advanced : (levels n : ℕ) (t u : Top) (cs : Children) (s : Space) → IsSoundBelow levels s → space t cs ≡ s → Follows levels n t u → 1 ≤ n → GoesOn levels s (space u cs)
advanced levels n t u cs s ok is follows some =
    let fewer = follows_left levels n t u follows in
    let top : top_of s ≡ t = ap top_of (sym is) in
    record {
      events = n;
      came = sym (demand-follows levels n t u cs follows) ∙ ap (by_demand levels n) is;
      same = run-follows levels n t u cs follows ∙ ap (run levels) is;
      sound = advanced_sound levels n t u cs s ok is follows;
      fewer = rw top (omega arith);
    }

-- or has stopped
pub advanced_stopped : (levels n : ℕ) (t u : Top) (cs : Children) (s : Space) → space t cs ≡ s → Follows levels n t u → next levels u ≡ rests → space u cs ≡ run levels s
advanced_stopped levels n t u cs s is follows ends = sym (run_on-rests (of_children levels) levels (space u cs) ends) ∙ sym (run-run_on levels (space u cs)) ∙ run-follows levels n t u cs follows ∙ ap (run levels) is

-- or goes on from there
pub advanced_then : (levels n : ℕ) (t u : Top) (cs : Children) (s r : Space) → space t cs ≡ s → Follows levels n t u → GoesOn levels (space u cs) r → GoesOn levels s r
advanced_then levels n t u cs s r is follows on =
    let some = follows_left levels n t u follows in
    let top : top_of s ≡ t = ap top_of (sym is) in
    let fewer = on.fewer in
    let first : space u cs ≡ by_demand levels n s = sym (demand-follows levels n t u cs follows) ∙ ap (by_demand levels n) is in
    record {
      events = n + on.events;
      came = on.came ∙ ap (by_demand levels on.events) first ∙ sym (demand-add levels n on.events s);
      same = on.same ∙ run-follows levels n t u cs follows ∙ ap (run levels) is;
      sound = on.sound;
      fewer = rw top (omega arith);
    }

-- what becomes of children keeps them sound
children_keep : (levels fuel : ℕ) → KeepsSound (of_children levels) (pred levels) fuel
children_keep zero fuel = λ reach c h. h
children_keep (suc levels) fuel = λ reach c h. meaning_sound levels reach false fuel c h

-- its caller is as it was
pub awaited_top : (levels : ℕ) (k : Call) (s : Space) → top_of (with_awaited levels k s) ≡ top_of s
awaited_top levels k (space t cs) = refl

pub may_meet : (levels : ℕ) (k : Call) (s : Space) → next levels (top_of s) ≡ meets k (after_payment (top_of s) (top_of s)) → MayMeet levels k
may_meet levels k s e = (next_meets levels (top_of s) k (after_payment (top_of s) (top_of s)) e).may

pub may_pay : (levels : ℕ) (k : Call) (s w : Space) → next levels (top_of s) ≡ meets k (after_payment (top_of s) (top_of s)) → w ≡ with_awaited levels k s → MayPay (top_of w)
may_pay levels k s w e is = let top : top_of w ≡ top_of s = ap top_of is ∙ awaited_top levels k s in subst MayPay (sym top) (next_meets levels (top_of s) k (after_payment (top_of s) (top_of s)) e).pays

not_at_rest : (levels : ℕ) (t u : Top) (k : Call) → next levels t ≡ meets k u → (b : Bool) → is_stopped t.status ≡ b → b ≡ false
not_at_rest levels t u k e true is = let ends = stopped_rests levels t is in cc
not_at_rest levels t u k e false is = refl

left_running : (b : Bool) (n : ℕ) → b ≡ false → cond b 0 n ≡ n
left_running true n e = cc
left_running false n e = refl

left_most : (b : Bool) (n : ℕ) → cond b 0 n ≤ n
left_most true n = omega arith
left_most false n = omega arith

call_leaves : (levels : ℕ) (t u : Top) (k : Call) (cs : Children) → next levels t ≡ meets k u → left_of (top_of (meet levels k u cs)) < left_of t
call_leaves levels t u k cs e =
    let costs = call_costs levels t u k e in
    let fuel = meet_fuel levels k u cs in
    let now = left_running (is_stopped t.status) (suc t.fuel) (not_at_rest levels t u k e (is_stopped t.status) refl) in
    let later = left_most (is_stopped (top_of (meet levels k u cs)).status) (suc (top_of (meet levels k u cs)).fuel) in
    omega arith

met_here : (levels : ℕ) (k : Call) (t : Top) (cs ds : Children) → IsSoundBelow levels (space t cs) → next levels t ≡ meets k (after_payment t t) → ds ≡ (wait_for (of_children levels) (awaits k) cs).children → GoesOn levels (space t cs) (meet levels k (after_payment t t) ds)
met_here levels k t cs ds ok e is =
    let kept : AreSound levels ok.fuel 0 ds = rw is (wait_for_sound (of_children levels) levels ok.fuel (awaits k) cs (children_keep levels ok.fuel) ok.sound.1) in
    let same : run_on (of_children levels) levels (space t cs) ≡ run_on (of_children levels) levels (meet levels k (after_payment t t) ds) = rw is (run_on-meets (of_children levels) levels t (after_payment t t) k cs e) in
    record {
      events = 1;
      came = ap (meet levels k (after_payment t t)) is ∙ sym (demand-meets levels t (after_payment t t) k cs e);
      same = run-run_on levels (meet levels k (after_payment t t) ds) ∙ sym same ∙ sym (run-run_on levels (space t cs));
      sound = record { root = ok.root; fuel = ok.fuel; sound = next_meets_sound levels ok.root ok.fuel t (after_payment t t) k ds e ok.sound.0 kept };
      fewer = call_leaves levels t (after_payment t t) k ds e;
    }

-- a call after which a space goes on
pub met : (levels : ℕ) (k : Call) (s w r : Space) → IsSoundBelow levels s → next levels (top_of s) ≡ meets k (after_payment (top_of s) (top_of s)) → w ≡ with_awaited levels k s → r ≡ meet levels k (after_payment (top_of w) (top_of w)) (children_of w) → GoesOn levels s r
met levels k (space t cs) w r ok e waited is =
    let here : r ≡ meet levels k (after_payment t t) (wait_for (of_children levels) (awaits k) cs).children = is ∙ ap (λ v. meet levels k (after_payment (top_of v) (top_of v)) (children_of v)) waited in
    rw here (met_here levels k t cs (wait_for (of_children levels) (awaits k) cs).children ok e refl)

-- and it keeps its devices
pub met_devices : (levels : ℕ) (k : Call) (s w r : Space) → w ≡ with_awaited levels k s → r ≡ meet levels k (after_payment (top_of w) (top_of w)) (children_of w) → KeepsDevices s r
met_devices levels k (space t cs) w r waited is =
    let here : r ≡ meet levels k (after_payment t t) (wait_for (of_children levels) (awaits k) cs).children = is ∙ ap (λ v. meet levels k (after_payment (top_of v) (top_of v)) (children_of v)) waited in
    ap (λ v. (top_of v).devices) here ∙ meet_devices levels k (after_payment t t) (wait_for (of_children levels) (awaits k) cs).children

-- what is told of what is next
pub told_next : (levels quantum ran : ℕ) (o : Option Next) (t : Top) → Ended levels quantum ran o t → IsTold levels o t
told_next levels quantum ran None t h = tt
told_next levels quantum ran (Some answers.Local) t h = tt
told_next levels quantum ran (Some (answers.Meet k)) t h = h.1
told_next levels quantum ran (Some answers.Stopped) t h = h.1

-- local events, and then the call that is next
pub turned : (levels quantum ran : ℕ) (o : Option Next) (stopped : Bool) (t u : Top) (cs : Children) (s r : Space) → IsSoundBelow levels s → space t cs ≡ s → Follows levels ran t u → 1 ≤ quantum
    → Ended levels quantum ran o u → Comes levels o stopped (space u cs) r → Turned levels stopped s r
turned levels quantum ran None stopped t u cs s r ok is f some h c = absurd c
turned levels quantum ran (Some answers.Local) stopped t u cs s r ok is f some h c =
    rw c.0 (subst (GoesOn levels s) (sym c.1) (advanced levels ran t u cs s ok is f (omega (arith, some, h))))
turned levels quantum ran (Some (answers.Meet k)) stopped t u cs s r ok is f some h c = rw c.0 (advanced_then levels ran t u cs s r is f c.1)
turned levels quantum ran (Some answers.Stopped) stopped t u cs s r ok is f some h c = rw c.0 (c.1 ∙ advanced_stopped levels ran t u cs s is f h.1)

pub came_devices : (levels : ℕ) (o : Option Next) (stopped : Bool) (s r : Space) → Comes levels o stopped s r → KeepsDevices s r
came_devices levels None stopped s r c = absurd c
came_devices levels (Some answers.Local) stopped s r c = ap (λ v. (top_of v).devices) c.1
came_devices levels (Some (answers.Meet k)) stopped s r c = c.2
came_devices levels (Some answers.Stopped) stopped s r c = ap (λ v. (top_of v).devices) c.1

-- a space that came by demand has gone on
pub came_further : (levels : ℕ) (s m r : Space) → (n : ℕ) × (m ≡ by_demand levels n s) → GoesOn levels m r → (n : ℕ) × (r ≡ by_demand levels n s)
came_further levels s m r before on = (before.0 + on.events, on.came ∙ ap (by_demand levels on.events) before.1 ∙ sym (demand-add levels before.0 on.events s))
