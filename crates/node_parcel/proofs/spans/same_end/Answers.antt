use Rattle.std.proofs.Common.{sym}
use Rattle.node_parcel.proofs.spans.same_end.Goals as goal

pub returns-in-Some-Some-clause-same : goal.returns-in-Some-Some-clause-same
returns-in-Some-Some-clause-same c q low high =
    let a = c.in-Some-Some.ensures.lookup in
    let b = c.in-Some-Some.ensures'.lookup in
    record {
      our = c.in-Some-Some.ours.now;
      their = c.in-Some-Some.theirs.now;
      in_ours = (c.args.our, a.3.0, sym a.1);
      in_theirs = (c.args.their, b.3.0, sym b.1);
      one = c.same_end.ensures.same q low high;
    }
