use Rattle.std.proofs.Common.{◌≡◌, ◌+◌, sym, ◌∙◌, arith}
use Rattle.source_model.specs.Number.{times}
use Rattle.rv_asm.specs.Gives.{clamp}
use Rattle.rv_asm.proofs.Digits.{goes-on, no-digit, is-done}
use Rattle.rv_asm.proofs.number.value_of_digits.Goals as goal

pub returns-in_err-digit-clause-value : goal.returns-in_err-digit-clause-value
returns-in_err-digit-clause-value c = c.from_residual.ensures ∙ no-digit c.args.base c.args.text.now c.loop-byte.byte-index c.loop-byte.value c.loop-byte-test.true (sym c.digit_of.ensures.value ∙ c.in_err-digit.was) c.loop-byte.invariant.so_far

pub loop-byte-preserved : goal.loop-byte-preserved
loop-byte-preserved c =
    let w : c.min-value.result ≡ clamp (times c.args.base c.loop-byte.value + c.in_ok-digit.digit) = rw (← c.times.ensures.value, ← c.from.ensures) c.min-value.ensures in
    record {
      so_far = goes-on c.args.base c.args.text.now c.loop-byte.byte-index c.loop-byte.value c.in_ok-digit.digit c.min-value.result c.loop-byte-test.true (sym c.digit_of.ensures.value ∙ c.in_ok-digit.was) w c.loop-byte.invariant.so_far;
      small = omega (arith, c.min-value.ensures);
    }

pub returns-clause-value : goal.returns-clause-value
returns-clause-value c = is-done c.args.base c.args.text.now c.loop-byte.byte-index c.loop-byte.value c.loop-byte-test.false c.loop-byte.invariant.small c.loop-byte.invariant.so_far
