use Rattle.std.proofs.Common.{◌==◌, ap, sym, ◌∙◌, rules, tests}
use Rattle.std.specs.List.{slice_split}
use Rattle.std.specs.Slice.Iter.{split_rest, split_done, split_callee}
use Rattle.std.proofs.lemmas.Iterator.Splits.{YieldsList-from_slice_split}
use Rattle.schedule_model.specs.Reading.{numbers_of}
use Rattle.det_core.proofs.Parts.{begins, goes_on, ends, is_full, is_done}
use Rattle.det_core.proofs.Steps.{is_first, is_over}
use Rattle.det_core.proofs.schedule_line.path_of_numbers.Goals as goal

pub loop-digits-init : goal.loop-digits-init
loop-digits-init c =
    let same = c.into_iter-digits-iterator.ensures.into_iter_gives in
    record {
      short = search rules;
      left = slice_split (λ b. b == 47) c.args.text.now;
      yields = YieldsList-from_slice_split _ (λ b. b == 47) c.args.text.now (ap split_rest same ∙ c.split-digits-items.ensures.rest) (ap split_done same ∙ c.split-digits-items.ensures.done)
          (ap split_callee same ∙ c.split-digits-items.ensures.closure) (λ x r q k. search (rules, tests));
      so_far = begins c.new-path.result.items (numbers_of (slice_split (λ b. b == 47) c.args.text.now)) (search rules);
    }

pub returns-in_err-number : goal.returns-in_err-number
returns-in_err-number c =
    let step = is_first c.loop-digits.invariant.left c.loop-digits.digits-iterator c.next.new.self c.in-Some.digits c.loop-digits.invariant.yields c.in-Some.ensures.steps in
    rw c.from_residual.ensures (ends c.loop-digits.path.items c.in-Some.digits.now c.loop-digits.invariant.left step.0 _ step.1 (sym c.number_of.ensures ∙ c.in_err-number.was) c.loop-digits.invariant.so_far)

pub returns-then-is_full : goal.returns-then-is_full
returns-then-is_full c =
    let step = is_first c.loop-digits.invariant.left c.loop-digits.digits-iterator c.next.new.self c.in-Some.digits c.loop-digits.invariant.yields c.in-Some.ensures.steps in
    is_full c.loop-digits.path.items c.in-Some.digits.now c.loop-digits.invariant.left step.0 c.in_ok-number.number _ step.1 (sym c.number_of.ensures ∙ c.in_ok-number.was) (search rules) c.loop-digits.invariant.so_far

pub loop-digits-preserved : goal.loop-digits-preserved
loop-digits-preserved c =
    let step = is_first c.loop-digits.invariant.left c.loop-digits.digits-iterator c.next.new.self c.in-Some.digits c.loop-digits.invariant.yields c.in-Some.ensures.steps in
    record {
      short = search rules;
      left = step.0;
      yields = step.2;
      so_far = rw c.push.ensures.items (goes_on c.loop-digits.path.items c.in-Some.digits.now c.loop-digits.invariant.left step.0 c.in_ok-number.number _ step.1 (sym c.number_of.ensures ∙ c.in_ok-number.was) c.loop-digits.invariant.so_far);
    }

pub returns : goal.returns
returns c = is_done c.loop-digits.path.items c.loop-digits.invariant.left _ (is_over c.loop-digits.invariant.left c.loop-digits.digits-iterator c.next.new.self c.loop-digits.invariant.yields c.in-None.ensures.steps) c.loop-digits.invariant.short c.loop-digits.invariant.so_far
