use Rattle.std.proofs.Common.{arith, refl}
use Rattle.node_parcel.proofs.OneNumber.{one_on}
use Rattle.node_parcel.proofs.spans.Span.same_end.Goals as goal

pub returns-then-has_one_number-clause-same : goal.returns-then-has_one_number-clause-same
returns-then-has_one_number-clause-same c q low high =
    one_on c.args.self.now c.args.other.now c.args.page q (c.if-has_one_number.ensures refl) low
    (omega (arith, high, c.min.ensures, c.end-end.ensures.end))
    (omega (arith, high, c.min.ensures, c.end-other_end.ensures.end))
