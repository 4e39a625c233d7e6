use Rattle.std.proofs.Common.{arith}
use Rattle.std.proofs.lemmas.Result.{err_from_is_err_and}
use Rattle.node_parcel.proofs.Placed.{entry_placed, entry_cut}
use Rattle.node_parcel.proofs.placing.entry_into.Goals as goal

pub returns-in_err-end-clause-read : goal.returns-in_err-end-clause-read
returns-in_err-end-clause-read c =
    let p = err_from_is_err_and c.from_residual-in_err-end.result c.from_residual-in_err-end.ensures.1 in
    rw (p.1, p.2) (entry_cut c.args.known.now _ c.args.least c.in_ok-page.page c.in_ok-permission.permission c.args.at c.args.bytes.now _ _ c.in_err-end.field-0.0 c.in_ok-page.ensures.read c.in_ok-permission.ensures.read c.in_err-end.ensures.read)

pub returns-clause-read : goal.returns-clause-read
returns-clause-read c =
    entry_placed c.args.known.now _ _ c.args.least c.in_ok-page.page c.in_ok-permission.permission c.args.at c.in_ok-end.end c.args.bytes.now _ _ c.in_ok-end.rest.now c.in_ok-page.ensures.read c.in_ok-permission.ensures.read c.in_ok-end.ensures.read

pub content_into-requires-clause-put : goal.content_into-requires-clause-put
content_into-requires-clause-put c = record {
  held = c.requires.put.held;
  before = c.requires.put.before;
  behind = omega (arith, c.requires.put.behind, c.in_ok-page.ensures.least);
}
