use Rattle.std.proofs.Common.{◌≡◌, ◌^◌, ◌<◌, length, ◌∙◌, ap, sym, subst}
use Rattle.std.specs.Prelude.{slice_index}
use Rattle.call_model.specs.declared.Block.{Block}
use Rattle.call_model.specs.Block.{words}
use Rattle.space_model.specs.Block.{block_of}
use Rattle.space_model.specs.Space.{Top}
use Rattle.parcel_model.specs.Packing.{IsPackable}
use Rattle.node_parcel.proofs.Bounds.{limit_fits}
use Rattle.node_parcel.proofs.packing.may_travel.Goals as goal

pub returns : goal.returns
returns c = subst (λ (t : Top). IsPackable t) c.top.view_is (record {
  registers = subst (λ xs. length xs ≡ 32) c.x-x.ensures.same c.register_bounds.ensures;
  zero = subst (λ xs. slice_index xs 0 ≡ 0) c.x-x.ensures.same c.x-x.ensures.zero;
  words = λ k. subst (λ (b : Block). slice_index (words b) k < 2 ^ 32) (c.block-block.ensures ∙ ap block_of (sym c.top.view_is)) (c.block_bounds.ensures k);
  limit = limit_fits c.top.inside.limit c.unwrap_or.result c.unwrap_or.ensures c.number_bounds.ensures;
  fuel = c.top.invariant.0;
  some = c.top.invariant.1;
  memory = c.bounds.ensures;
  snapshot = c.snapshot_bounds.ensures;
  devices = ap (λ (t : Top). t.devices) c.top.view_is ∙ c.requires;
})
