use Rattle.std.proofs.Common.{◌≡◌, [], ◌∷◌, ◌++◌, refl, ap, ◌∙◌, sym, arith, rules}
use Rattle.std.specs.Prelude.{Some, None, option_map}
use Rattle.text_lines.specs.Lines.{lines_of}
use Rattle.text_lines.specs.Reading.{items_of}
use Rattle.text_lines.proofs.Loops.{begins, goes_on, ends, is_done}
use Rattle.schedule_model.specs.Reading.{item_of, schedule_of}
use Rattle.det_core.specs.View.{item_view}
use Rattle.det_core.proofs.Lines.{one_more}
use Rattle.det_core.proofs.reading.paths_of.Goals as goal

pub loop-rest-init : goal.loop-rest-init
loop-rest-init c = record { front = []; made = rw c.new-paths.ensures.items refl; so_far = begins (items_of item_of 1 (lines_of c.args.bytes.now)); few = omega arith }

pub returns-in-None : goal.returns-in-None
unfolding schedule_of
returns-in-None c =
    let refused : item_of c.first_line.result.0.now ≡ None = sym c.item_of.ensures ∙ ap (option_map item_view) c.in-None.is in
    rw (c.bad.ensures, ends item_of c.loop-rest.number c.loop-rest.invariant.front c.loop-rest.rest.now c.first_line.result.0.now c.first_line.result.1.now _ c.first_line.ensures.lines refused c.loop-rest.invariant.so_far) refl

pub loop-rest-preserved : goal.loop-rest-preserved
loop-rest-preserved c =
    let said : item_of c.first_line.result.0.now ≡ Some (item_view c.in-Some.item) = sym c.item_of.ensures ∙ ap (option_map item_view) c.in-Some.is in
    record {
      front = c.loop-rest.invariant.front ++ item_view c.in-Some.item ∷ [];
      made = rw c.in_ok-add-in-Some.ensures (one_more _ c.loop-rest.invariant.front (item_view c.in-Some.item) c.loop-rest.invariant.made);
      so_far = goes_on item_of c.loop-rest.number c.loop-rest.invariant.front c.loop-rest.rest.now c.first_line.result.0.now c.first_line.result.1.now (item_view c.in-Some.item) _ c.first_line.ensures.lines said c.loop-rest.invariant.so_far;
      few = omega (arith, c.first_line.ensures.shorter, c.loop-rest.invariant.few);
    }

pub returns : goal.returns
unfolding schedule_of
returns c = rw (is_done item_of c.loop-rest.number c.loop-rest.invariant.front c.loop-rest.rest.now _ (search rules) c.loop-rest.invariant.so_far, c.loop-rest.invariant.made) refl
