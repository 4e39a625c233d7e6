use Rattle.std.proofs.Common.{◌≡◌, ◌∷◌, ◌++◌, [], length, map, sym, ap, ◌∙◌, arith, rules}
use Rattle.std.proofs.lemmas.Map.Iter.{rest_more, rest_all}
use Rattle.std.specs.Map.Iter.{deref_pair}
use Rattle.space_model.specs.Space.{space}
use Rattle.space_model.specs.Encoding.{size_of}
use Rattle.explain_why.proofs.TreePaths.{child_paths, child_sound, left_child, left_first, left_next, left_none, pushed}
use Rattle.explain_why.proofs.paths.+push_paths.Goals as goal

pub loop-number-init : goal.loop-number-init
loop-number-init t c =
    let entries = c.entries-number-items.result.now.entries in
    let es : c.into_iter-number-iterator.result ≡ entries = search rules in
    rw es (left_first c.args.path.now.items c.space.inside.top c.args.space.now entries (map (λ p. p.items) c.args.paths.now.items) (map (λ p. p.items) c.push.new.self.items)
    (ap (space c.space.inside.top) c.entries-number-items.ensures ∙ c.space.view_is) c.requires (pushed c.args.paths.now.items c.push.new.self.items c.in_ok-copy_path.field-0 c.args.path.now.items c.in_ok-push.ensures.items c.in_ok-copy_path.ensures))

pub push-requires-in-loop-number : goal.push-requires-in-loop-number
push-requires-in-loop-number t c =
    let e : (c.in-Some.number.now, c.in-Some.child.now) ∷ c.next.new.self ≡ c.loop-number.number-iterator = sym (rest_more deref_pair _ _ _ _ c.in-Some.is c.next.ensures.steps) in
    let next = left_child c.args.path.now.items (c.in-Some.number.now, c.in-Some.child.now) c.next.new.self (map (λ p. p.items) c.args.paths.now.items) (map (λ p. p.items) c.loop-number.paths.items) c.args.space.now (rw e c.loop-number.invariant) in
    let room = next.room in
    let same : length c.in_ok-below.below.items ≡ length c.args.path.now.items = ap length c.in_ok-below.ensures in
    omega (arith, room, same)

pub push_paths-requires : goal.push_paths-requires
push_paths-requires t c =
    let e : (c.in-Some.number.now, c.in-Some.child.now) ∷ c.next.new.self ≡ c.loop-number.number-iterator = sym (rest_more deref_pair _ _ _ _ c.in-Some.is c.next.ensures.steps) in
    let next = left_child c.args.path.now.items (c.in-Some.number.now, c.in-Some.child.now) c.next.new.self (map (λ p. p.items) c.args.paths.now.items) (map (λ p. p.items) c.loop-number.paths.items) c.args.space.now (rw e c.loop-number.invariant) in
    let smaller = next.size in
    let size : size_of c.deref.result.now ≡ size_of c.in-Some.child.now.value = ap size_of c.deref.ensures in
    let below = c.push-in-loop-number.ensures.items ∙ ap (λ p. p ++ c.in-Some.number.now ∷ []) c.in_ok-below.ensures in
    (omega (arith, smaller, size), child_sound c.args.path.now.items c.push-in-loop-number.new.self.items c.in-Some.number.now c.args.space.now c.in-Some.child.now.value c.deref.result.now next below c.deref.ensures)

pub loop-number-preserved : goal.loop-number-preserved
loop-number-preserved t c =
    let e : (c.in-Some.number.now, c.in-Some.child.now) ∷ c.next.new.self ≡ c.loop-number.number-iterator = sym (rest_more deref_pair _ _ _ _ c.in-Some.is c.next.ensures.steps) in
    let below = c.push-in-loop-number.ensures.items ∙ ap (λ p. p ++ c.in-Some.number.now ∷ []) c.in_ok-below.ensures in
    left_next c.args.path.now.items (c.in-Some.number.now, c.in-Some.child.now) c.next.new.self (map (λ p. p.items) c.args.paths.now.items) (map (λ p. p.items) c.loop-number.paths.items) (map (λ p. p.items) c.push_paths.new.paths.items)
    c.args.space.now (rw e c.loop-number.invariant)
    (child_paths c.args.path.now.items c.push-in-loop-number.new.self.items c.in-Some.number.now c.in-Some.child.now.value c.deref.result.now (map (λ p. p.items) c.loop-number.paths.items) (map (λ p. p.items) c.push_paths.new.paths.items) below c.deref.ensures c.in_ok-push_paths.ensures)

pub returns : goal.returns
returns t c =
    let e = rest_all deref_pair _ _ _ c.in-None.is c.next.ensures.steps in
    left_none c.args.path.now.items (map (λ p. p.items) c.args.paths.now.items) (map (λ p. p.items) c.loop-number.paths.items) c.args.space.now (rw e at c.loop-number.invariant)
