use Rattle.std.proofs.Common.{◌≡◌, ◌+◌, ◌≤◌, Bool, true, false, cond, sym, ap, subst, ◌∙◌, arith}
use Rattle.file_model.specs.Slots.{slots_of}
use Rattle.file_model.specs.Operations.{entry_of}
use Rattle.file_model.specs.Reconcile.{against, with_entries, Reconciliation}
use Rattle.file_model.proofs.Reconciling.{rest}
use Rattle.file_image.specs.Lookup.{file_in}
use Rattle.file_image.specs.Outcomes.{AreReady, Happens, IsReadyFor}
use Rattle.file_image.specs.Spared.{IsSparedFor, IsSparedTurn, content_in, is_taken}
use Rattle.file_image.proofs.LaterFiles.{later, later_idle, changed_shown, changed_against, turns, ready_here, nothing_left, none_left_out}
use Rattle.file_image.proofs.Turns.{spared_carried, turn_here, turns_idle, turns_later}
use Rattle.file_image.proofs.reconciling.reconcile.Goals as goal

pub reconcile_changed-is_left_out-requires-clause-ready : goal.reconcile_changed-is_left_out-requires-clause-ready
reconcile_changed-is_left_out-requires-clause-ready g c =
    let s = slots_of (g.P.FileBytes.bytes c.loop-slot.parent) in
    let d = g.C.FileBytes.bytes c.args.child.now in
    let changed = sym c.is_changed.ensures.changed ∙ c.if-not-is_changed.false in
    subst (IsReadyFor (λ k. g.P.FileBytes.is_ready c.loop-slot.parent k)) (changed_against s d c.loop-slot.slot changed)
    (ready_here (λ k. g.P.FileBytes.is_ready c.loop-slot.parent k) s d c.loop-slot.slot (omega arith) (changed_shown d c.loop-slot.slot changed) c.loop-slot.invariant.ready)

pub reconcile_changed-is_left_out-requires-clause-spared : goal.reconcile_changed-is_left_out-requires-clause-spared
reconcile_changed-is_left_out-requires-clause-spared g c =
    let p = c.args.parent.now in
    let q = c.loop-slot.parent in
    let s = slots_of (g.P.FileBytes.bytes q) in
    let d = g.C.FileBytes.bytes c.args.child.now in
    let f = file_in d c.loop-slot.slot in
    let changed = sym c.is_changed.ensures.changed ∙ c.if-not-is_changed.false in
    let here = turn_here (IsSparedTurn (content_in (g.P.FileBytes.bytes p)) (g.P.FileBytes.spared p)) s d c.loop-slot.slot (omega arith) (changed_shown d c.loop-slot.slot changed) c.loop-slot.invariant.turns in
    spared_carried (against f (entry_of s f.name) s) (is_taken f (entry_of s f.name)) (content_in (g.P.FileBytes.bytes p)) (content_in (g.P.FileBytes.bytes q)) (g.P.FileBytes.spared p) (g.P.FileBytes.spared q) f.content
    (λ k. g.met.P.FileBytes.spared_on p q k c.loop-slot.invariant.kept) (λ k i below. g.met.P.FileBytes.spared_stays p q k i c.loop-slot.invariant.kept below)
    (subst (λ o. IsSparedFor o (is_taken f (entry_of s f.name)) (content_in (g.P.FileBytes.bytes p)) (g.P.FileBytes.spared p) f.content) (changed_against s d c.loop-slot.slot changed) here)

pub loop-slot-preserved-then-not-is_changed : goal.loop-slot-preserved-then-not-is_changed
loop-slot-preserved-then-not-is_changed g c =
    let b = g.P.FileBytes.bytes c.loop-slot.parent in
    let d = g.C.FileBytes.bytes c.args.child.now in
    let l : rest (slots_of b) (later d c.loop-slot.slot) ≡ rest (slots_of b) (later d (c.loop-slot.slot + 1)) = later_idle (slots_of b) d c.loop-slot.slot (omega arith) (sym c.is_changed.ensures.changed ∙ c.if-not-is_changed.true) in
    record {
      bytes = ap (λ (r : Reconciliation). with_entries b r.edits) (sym l) ∙ c.loop-slot.invariant.bytes;
      left_out = ap (λ (r : Reconciliation). c.loop-slot.left_out + r.left_out) (sym l) ∙ c.loop-slot.invariant.left_out;
      few = omega (arith, c.loop-slot.invariant.few);
      ready = subst (AreReady (λ k. g.P.FileBytes.is_ready c.loop-slot.parent k)) l c.loop-slot.invariant.ready;
      turns = turns_idle (IsSparedTurn (content_in (g.P.FileBytes.bytes c.args.parent.now)) (g.P.FileBytes.spared c.args.parent.now)) (slots_of b) d c.loop-slot.slot (omega arith) (sym c.is_changed.ensures.changed ∙ c.if-not-is_changed.true) c.loop-slot.invariant.turns;
      kept = c.loop-slot.invariant.kept;
    }

one : (t : Bool) → cond t 1 0 ≤ 1
one true = omega arith
one false = omega arith

pub loop-slot-preserved : goal.loop-slot-preserved
loop-slot-preserved g c =
    let b = g.P.FileBytes.bytes c.loop-slot.parent in
    let n = g.P.FileBytes.bytes c.reconcile_changed-is_left_out.new.parent in
    let d = g.C.FileBytes.bytes c.args.child.now in
    let changed = sym c.is_changed.ensures.changed ∙ c.if-not-is_changed.false in
    let shown = changed_shown d c.loop-slot.slot changed in
    let happens = subst (λ o. Happens o c.reconcile_changed-is_left_out.result b n) (sym (changed_against (slots_of b) d c.loop-slot.slot changed)) c.reconcile_changed-is_left_out.ensures.happens in
    let t = turns b n d c.loop-slot.slot c.reconcile_changed-is_left_out.result (g.met.P.FileBytes.small c.loop-slot.parent) (g.met.C.FileBytes.small c.args.child.now) (c.is_changed.ensures.file c.if-not-is_changed.false) shown happens in
    let o = one c.reconcile_changed-is_left_out.result in
    record {
      bytes = sym t.bytes ∙ c.loop-slot.invariant.bytes;
      left_out = omega (arith, t.left_out, c.loop-slot.invariant.left_out, c.count-left_out.ensures);
      few = omega (arith, c.loop-slot.invariant.few, c.count-left_out.ensures, o);
      ready = λ k e l. g.met.P.FileBytes.ready_on c.loop-slot.parent c.reconcile_changed-is_left_out.new.parent _ c.reconcile_changed-is_left_out.ensures.kept (t.ready (λ j. g.P.FileBytes.is_ready c.loop-slot.parent j) c.loop-slot.invariant.ready k e l);
      turns = turns_later (IsSparedTurn (content_in (g.P.FileBytes.bytes c.args.parent.now)) (g.P.FileBytes.spared c.args.parent.now)) (slots_of b) (slots_of n) d c.loop-slot.slot (omega arith) shown t.slots c.loop-slot.invariant.turns;
      kept = g.met.P.FileBytes.keeps_on c.args.parent.now c.loop-slot.parent c.reconcile_changed-is_left_out.new.parent c.loop-slot.invariant.kept c.reconcile_changed-is_left_out.ensures.kept;
    }

pub returns-clause-bytes : goal.returns-clause-bytes
returns-clause-bytes g c =
    sym (nothing_left (g.P.FileBytes.bytes c.loop-slot.parent) (g.C.FileBytes.bytes c.args.child.now) c.loop-slot.slot (omega arith)) ∙ c.loop-slot.invariant.bytes

pub returns-clause-left_out : goal.returns-clause-left_out
returns-clause-left_out g c =
    let n = none_left_out (slots_of (g.P.FileBytes.bytes c.loop-slot.parent)) (g.C.FileBytes.bytes c.args.child.now) c.loop-slot.slot (omega arith) in
    let i = c.loop-slot.invariant.left_out in
    omega (arith, n, i)
