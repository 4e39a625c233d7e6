use Rattle.std.proofs.Common.{sym, ap, ◌∙◌, arith}
use Rattle.file_image.specs.Lookup.{file_in, optional_entry}
use Rattle.file_image.specs.Marks.{slot_of}
use Rattle.file_image.proofs.Marked.{follows, marked_end}
use Rattle.file_image.proofs.Planned.{planned_begin, planned_end, planned_idle, planned_shown}
use Rattle.file_image.proofs.LaterFiles.{changed_shown, changed_against}
use Rattle.file_image.proofs.marking.touched.Goals as goal

pub loop-slot-init : goal.loop-slot-init
loop-slot-init g c = planned_begin (g.P.FileBytes.bytes c.args.parent.now) (g.C.FileBytes.bytes c.args.child.now)

pub loop-slot-preserved-then-not-is_changed : goal.loop-slot-preserved-then-not-is_changed
loop-slot-preserved-then-not-is_changed g c =
    planned_idle (g.P.FileBytes.bytes c.args.parent.now) (g.C.FileBytes.bytes c.args.child.now) c.loop-slot.plan.marks c.loop-slot.plan.whole c.loop-slot.plan.from c.loop-slot.slot (omega arith)
    (sym c.is_changed.ensures.changed ∙ c.if-not-is_changed.true) c.loop-slot.invariant

pub loop-slot-preserved : goal.loop-slot-preserved
loop-slot-preserved g c =
    let b = g.P.FileBytes.bytes c.args.parent.now in
    let d = g.C.FileBytes.bytes c.args.child.now in
    let k = c.loop-slot.slot in
    let changed = sym c.is_changed.ensures.changed ∙ c.if-not-is_changed.false in
    let shown = changed_shown d k changed in
    let m = c.loop-slot.invariant in
    let t = c.target-to.ensures.slot (file_in d k) m.marked.slots c.find_same-same.ensures.entry (follows b d c.loop-slot.plan.marks k shown m.marked) in
    let a = changed_against m.marked.slots d k changed in
    planned_shown b d c.loop-slot.plan.marks c.mark.new.plan.marks c.loop-slot.plan.whole c.mark.new.plan.whole c.loop-slot.plan.from c.mark.new.plan.from k c.taken_pages-whole.result (optional_entry b c.find_same-same.result) c.target-to.result
    (omega arith) shown m c.find_same-same.ensures.entry c.taken_pages-whole.ensures.whole c.taken_pages-whole.ensures.few (t ∙ ap slot_of (sym a)) c.target-to.ensures.within
    c.mark.ensures.marks c.mark.ensures.whole c.mark.ensures.from

pub returns : goal.returns
returns g c =
    let b = g.P.FileBytes.bytes c.args.parent.now in
    let d = g.C.FileBytes.bytes c.args.child.now in
    let m = c.loop-slot.invariant in
    record {
      marks = marked_end b d c.loop-slot.plan.marks c.loop-slot.slot (omega arith) m.marked;
      whole = planned_end b d c.loop-slot.plan.marks c.loop-slot.plan.whole c.loop-slot.plan.from c.loop-slot.slot (omega arith) m;
      few = m.few;
      from = m.sources;
      none = m.none;
    }
