use Rattle.std.proofs.Common.{rules, ◌≡◌, ◌∙◌, ap, sym, Some, None}
use Rattle.std.specs.Str.Parse.{ParsesUnsigned, ExplainsUnsignedError, HasUnsignedDigitsIfOk}
use Rattle.clap.specs.Words.{found_of}
use Rattle.command_line.proofs.ReadLemmas.{above, below, number_reads, within, within_in}
use Rattle.command_line.proofs.reading.number_from.Goals as goal
use Rattle.command_line.proofs.reading.number_from.Goals.{else-low-number-via-then-low-number+else-number-high, else-low-number-via-else-low-number}

pub returns-then-number-high : goal.returns-then-number-high
returns-then-number-high c =
    let reads = number_reads _ (λ bs r. ParsesUnsigned 32 10 bs r × ExplainsUnsignedError 10 bs r × HasUnsignedDigitsIfOk bs r) c.args.low c.args.high (found_of c.args.matches.now) c.args.id.now c.get_one.result c.ranges.high.fits (λ u x g. g.0) c.get_one.ensures.none c.get_one.ensures.value in
    let some : c.get_one.result ≡ Some c.in-Some.number = search rules in
    sym (within_in c.args.low c.args.high c.in-Some.number (search rules) (search rules)) ∙ sym (ap (within c.args.low c.args.high) some) ∙ reads

pub returns-else-low-number : goal.returns-else-low-number
returns-else-low-number c =
    let reads = number_reads _ (λ bs r. ParsesUnsigned 32 10 bs r × ExplainsUnsignedError 10 bs r × HasUnsignedDigitsIfOk bs r) c.args.low c.args.high (found_of c.args.matches.now) c.args.id.now c.get_one.result c.ranges.high.fits (λ u x g. g.0) c.get_one.ensures.none c.get_one.ensures.value in
    let some : c.get_one.result ≡ Some c.in-Some.number = search rules in
    let out : within c.args.low c.args.high (Some c.in-Some.number) ≡ None = elim c.else-low-number.branch [
      | else-low-number-via-then-low-number+else-number-high w ↦ above c.args.low c.args.high c.in-Some.number (search rules)
      | else-low-number-via-else-low-number w ↦ below c.args.low c.args.high c.in-Some.number (search rules)
    ] in
    sym out ∙ sym (ap (within c.args.low c.args.high) some) ∙ reads

pub returns-in-None : goal.returns-in-None
returns-in-None c =
    let reads = number_reads _ (λ bs r. ParsesUnsigned 32 10 bs r × ExplainsUnsignedError 10 bs r × HasUnsignedDigitsIfOk bs r) c.args.low c.args.high (found_of c.args.matches.now) c.args.id.now c.get_one.result c.ranges.high.fits (λ u x g. g.0) c.get_one.ensures.none c.get_one.ensures.value in
    let none : c.get_one.result ≡ None = search rules in
    sym (ap (within c.args.low c.args.high) none) ∙ reads
