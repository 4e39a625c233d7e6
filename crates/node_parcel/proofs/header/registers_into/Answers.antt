use Rattle.std.proofs.Common.{◌≡◌, ◌+◌, ◌*◌, ◌∙◌, ℕ, Ok, arith, refl, replicate, rules, subst}
use Rattle.std.specs.Int.{w32}
use Rattle.std.proofs.lemmas.Result.{err_from_is_err_and}
use Rattle.fault_model.specs.Gives.{Fails}
use Rattle.parcel_model.specs.Reading.{number_at}
use Rattle.node_parcel.proofs.Words.{begins, none, goes_on, ends, is_done, set_word, long_set}
use Rattle.node_parcel.proofs.header.registers_into.Goals as goal

pub returns-in_err-pc : goal.returns-in_err-pc
returns-in_err-pc c =
    let p = err_from_is_err_and c.from_residual.result c.from_residual.ensures.1 in
    rw (p.1, p.2) (none c.args.at c.args.bytes.now c.in_err-pc.field-0.0 c.in_err-pc.ensures)

pub loop-number-init : goal.loop-number-init
loop-number-init c = rw c.new.ensures (record { read = begins c.args.at c.in_ok-pc.pc c.args.bytes.now c.in_ok-pc.first.now (replicate 32 0) c.in_ok-pc.ensures refl; length = refl })

pub returns-in_err-word : goal.returns-in_err-word
returns-in_err-word c =
    let p = err_from_is_err_and c.from_residual-in_err-word.result c.from_residual-in_err-word.ensures.1 in
    let kept = c.loop-number.invariant in
    let from : c.from.result ≡ c.loop-number.number = search rules in
    let cut = subst (λ (k : ℕ). Fails c.in_err-word.field-0.0 (number_at w32 (c.args.at + 4 * k) c.loop-number.rest.now)) from c.in_err-word.ensures in
    rw (p.1, p.2) (ends c.loop-number.registers.pc c.loop-number.number c.args.at c.in_err-word.field-0.0 c.loop-number.registers.x c.loop-number.rest.now _ c.loop-number-test.true cut kept.read)

pub loop-number-preserved : goal.loop-number-preserved
loop-number-preserved c =
    let kept = c.loop-number.invariant in
    let from : c.from.result ≡ c.loop-number.number = search rules in
    let read = subst (λ (k : ℕ). number_at w32 (c.args.at + 4 * k) c.loop-number.rest.now ≡ Ok (c.in_ok-word.word, c.in_ok-word.after.now)) from c.in_ok-word.ensures in
    let set = c.set_register.ensures ∙ set_word c.loop-number.number c.in_ok-word.word c.loop-number.registers (omega (arith, c.loop-number.auto.number)) in
    rw set (record {
      read = goes_on c.loop-number.registers.pc c.loop-number.number c.args.at c.in_ok-word.word c.loop-number.registers.x c.loop-number.rest.now c.in_ok-word.after.now _ c.loop-number-test.true kept.length read kept.read;
      length = long_set c.loop-number.registers.x c.loop-number.number c.in_ok-word.word kept.length;
    })

pub returns : goal.returns
returns c =
    let kept = c.loop-number.invariant in
    is_done c.loop-number.registers.pc c.loop-number.number c.args.at c.loop-number.registers.x c.loop-number.rest.now _ c.loop-number-test.false kept.length kept.read
