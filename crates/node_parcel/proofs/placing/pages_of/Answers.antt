use Rattle.std.proofs.Common.{◌≡◌, arith}
use Rattle.std.proofs.lemmas.Result.{err_from_is_err_and}
use Rattle.node_parcel.specs.AtOnce.{meant}
use Rattle.node_parcel.proofs.Placed.{begins, goes_on, ends, is_done}
use Rattle.node_parcel.proofs.placing.pages_of.Goals as goal

pub loop-init : goal.loop-init
loop-init c = record { read = rw c.new-placing.ensures.means (begins c.args.known.now c.args.count c.args.start c.args.bytes.now); run = c.new-placing.ensures.run; put = c.new-placing.ensures.put; near = omega arith }

pub returns-in_err-least-clause-read : goal.returns-in_err-least-clause-read
returns-in_err-least-clause-read c =
    let p = err_from_is_err_and c.from_residual.result c.from_residual.ensures.1 in
    rw (p.1, p.2) (ends c.args.known.now c.args.count c.loop.counter c.loop.least c.loop.at (meant c.args.known.now c.loop.placing) c.loop.rest.now c.in_err-least.field-0.0 _ c.loop-test.true c.in_err-least.ensures.read c.loop.invariant.read)

pub loop-preserved : goal.loop-preserved
loop-preserved c = record {
  read = goes_on c.args.known.now c.args.count c.loop.counter c.loop.least c.loop.at _ _ (meant c.args.known.now c.loop.placing) _ c.loop.rest.now _ _ c.loop-test.true c.in_ok-least.ensures.read c.loop.invariant.read;
  run = c.in_ok-least.ensures.run;
  put = c.in_ok-least.ensures.put;
  near = omega (arith, c.in_ok-least.ensures.near, c.loop.invariant.near);
}

pub returns-clause-read : goal.returns-clause-read
returns-clause-read c =
    let e : c.in_ok-placed.placed.memory.memory ≡ meant c.args.known.now c.loop.placing = c.in_ok-placed.ensures.memory in
    rw e (is_done c.args.known.now c.args.count c.loop.counter c.loop.least c.loop.at (meant c.args.known.now c.loop.placing) c.loop.rest.now _ c.loop-test.false c.loop.invariant.read)

pub returns-clause-spans : goal.returns-clause-spans
returns-clause-spans c = c.in_ok-placed.ensures.spans c.loop.least c.loop.invariant.put

pub entry_into-requires-clause-put : goal.entry_into-requires-clause-put
entry_into-requires-clause-put c = c.loop.invariant.put
