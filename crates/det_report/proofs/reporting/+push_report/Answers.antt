use Rattle.std.proofs.Common.{◌≡◌, ◌∷◌, ◌++◌, sym, ap, ◌∙◌, arith, rules}
use Rattle.std.proofs.lemmas.Map.Iter.{rest_more, rest_all}
use Rattle.std.specs.Map.Iter.{deref_pair}
use Rattle.space_model.specs.Space.{space, is_settled}
use Rattle.space_model.specs.Encoding.{size_of}
use Rattle.report_model.specs.Report.{report_of}
use Rattle.det_report.proofs.Reports.{left_first, left_child, left_next, left_none}
use Rattle.det_report.proofs.reporting.+push_report.Goals as goal

pub loop-number-init : goal.loop-number-init
loop-number-init t c =
    let es : c.into_iter-number-iterator.result ≡ c.entries-number-items.result.now.entries = search rules in
    rw es (left_first c.args.digest c.space.inside.top c.args.space.now c.entries-number-items.result.now.entries c.args.steps.now c.args.text.now.items c.push_line.new.text.items (ap (space c.space.inside.top) c.entries-number-items.ensures ∙ c.space.view_is) (search rules) c.in_ok-push_line.ensures)

pub push_report-requires : goal.push_report-requires
push_report-requires t c =
    let e : (c.in-Some.number.now, c.in-Some.child.now) ∷ c.next.new.self ≡ c.loop-number.number-iterator = sym (rest_more deref_pair _ _ _ _ c.in-Some.is c.next.ensures.steps) in
    let h = left_child c.args.digest (c.in-Some.number.now, c.in-Some.child.now) c.next.new.self c.args.steps.now c.args.text.now.items c.loop-number.text.items c.args.space.now (rw e c.loop-number.invariant) in
    let box = c.deref-in-loop-number.ensures in
    let size : size_of c.deref-in-loop-number.result.now ≡ size_of c.in-Some.child.now.value = ap size_of box in
    (omega (arith, h.0, size), ap is_settled box ∙ h.1)

pub loop-number-preserved : goal.loop-number-preserved
loop-number-preserved t c =
    let e : (c.in-Some.number.now, c.in-Some.child.now) ∷ c.next.new.self ≡ c.loop-number.number-iterator = sym (rest_more deref_pair _ _ _ _ c.in-Some.is c.next.ensures.steps) in
    left_next c.args.digest (c.in-Some.number.now, c.in-Some.child.now) c.next.new.self c.args.steps.now c.args.text.now.items c.loop-number.text.items c.push_report.new.text.items c.args.space.now (rw e c.loop-number.invariant)
    (λ path same. c.in_ok-push_report.ensures path (c.deref.ensures ∙ c.in_ok-steps.ensures ∙ same) ∙ ap (λ r. c.loop-number.text.items ++ report_of c.args.digest path r) c.deref-in-loop-number.ensures)

pub returns : goal.returns
returns t c =
    let e = rest_all deref_pair _ _ _ c.in-None.is c.next.ensures.steps in
    left_none c.args.digest c.args.steps.now c.args.text.now.items c.loop-number.text.items c.args.space.now (rw e at c.loop-number.invariant)
