use Rattle.std.proofs.Common.{◌≡◌, None, refl, rules, arith}
use Rattle.source_model.specs.Layout.{definition_in, start}
use Rattle.source_model.specs.Bytes.{lines_of}
use Rattle.rv_asm.specs.View.{labels_in}
use Rattle.rv_asm.proofs.Names.{goes-on, is-done, none-in-empty}
use Rattle.rv_asm.proofs.labels.labels_of.Goals as goal

pub loop-rest-preserved : goal.loop-rest-preserved
loop-rest-preserved c = rw c.next-here.ensures.value record {
  found = λ q. goes-on q c.loop-rest.number c.loop-rest.here c.loop-rest.rest.now c.first_line.result.0.now c.first_line.result.1.now (labels_in c.loop-rest.labels q) (labels_in c.define_label.new.labels q) (definition_in 1 start (lines_of c.args.source.now) q) c.first_line.ensures.lines (c.in_ok-define_label.ensures q) (c.loop-rest.invariant.found q);
  near = rw (← c.next-here.ensures.value) c.next-here.ensures.near;
  few = omega (arith, c.first_line.ensures.shorter, c.loop-rest.invariant.few);
}

pub returns : goal.returns
returns c = is-done c.loop-rest.rest.now c.args.source.now c.loop-rest.number c.loop-rest.here (labels_in c.loop-rest.labels) (search rules) c.loop-rest.invariant.found

pub loop-rest-init : goal.loop-rest-init
loop-rest-init c = record {
  found = λ q. let none : labels_in c.new-labels.result q ≡ None = none-in-empty c.new-labels.result q c.new-labels.ensures.empty in rw none refl;
  near = tt;
  few = omega arith;
}
