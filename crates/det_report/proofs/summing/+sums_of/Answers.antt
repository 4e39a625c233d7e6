use Rattle.std.proofs.Common.{◌≡◌, ◌+◌, ◌^◌, ◌%◌, [], ap, rules, arith, ◌∙◌}
use Rattle.std.proofs.lemmas.Map.Iter.{rest_all}
use Rattle.std.specs.Map.{values_of}
use Rattle.space_model.specs.Space.{space}
use Rattle.space_model.specs.Encoding.{size_of}
use Rattle.std.specs.Map.Iter.{deref}
use Rattle.det_report.proofs.Sums.{sizes_in, spaces_first, used_first, smaller_first, whole}
use Rattle.det_report.proofs.summing.+sums_of.Goals as goal

pub loop-child-init : goal.loop-child-init
loop-child-init t c =
    let entries = c.entries-entries.result.now.entries in
    let view = ap (space c.space.inside.top) (c.entries-entries.ensures ∙ ap (λ x. x.children) c.space-inside.view_is) ∙ c.space.view_is in
    let es : c.into_iter-child-iterator.result ≡ values_of entries = search rules in
    rw es record {
      spaces = ap (λ n. n % 2 ^ 64) (spaces_first c.space.inside.top entries c.args.space.now view);
      used = ap (λ n. n % 2 ^ 64) (used_first c.space.inside.top entries c.args.space.now c.from-used.result view (c.from-used.ensures ∙ ap (λ x. x.top.used) c.space-inside.view_is));
      smaller = smaller_first c.space.inside.top entries c.args.space.now view;
    }

pub sums_of-below-requires : goal.sums_of-below-requires
sums_of-below-requires t c =
    let left : sizes_in c.loop-child.child-iterator ≡ size_of c.in-Some.child.now.value + sizes_in c.next.new.self = ap sizes_in c.in-Some.ensures.steps in
    let size : size_of c.deref.result.now ≡ size_of c.in-Some.child.now.value = ap size_of c.deref.ensures in
    (omega (arith, left, size, c.loop-child.invariant.smaller), tt)

pub returns-clause-spaces : goal.returns-clause-spaces
returns-clause-spaces t c =
    let e : c.loop-child.child-iterator ≡ [] = rest_all deref _ _ _ c.in-None.is c.next.ensures.steps in
    whole _ _ (search rules) (rw e at c.loop-child.invariant.spaces)

pub returns-clause-used : goal.returns-clause-used
returns-clause-used t c =
    let e : c.loop-child.child-iterator ≡ [] = rest_all deref _ _ _ c.in-None.is c.next.ensures.steps in
    whole _ _ (search rules) (rw e at c.loop-child.invariant.used)
