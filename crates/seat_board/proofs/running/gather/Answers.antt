use Rattle.std.proofs.Common.{◌≡◌, ◌+◌, ◌||◌, ◌∷◌, ◌++◌, [], Ok, Some, length, vec_len, ap, ◌∙◌, subst, arith, length-append}
use Rattle.std.specs.Prelude.{IfOk}
use Rattle.std.proofs.lemmas.List.Elements.{All-pop}
use Rattle.seat_board.specs.declared.known.Known.{Known}
use Rattle.seat_board.specs.Passes.{known}
use Rattle.seat_board.specs.Workers.{IsFirst, IsReady}
use Rattle.seat_board.proofs.Working.{one_fewer, takes_one}
use Rattle.seat_board.proofs.running.gather.Goals as goal

pub loop-one-preserved : goal.loop-one-preserved
loop-one-preserved c =
    let table = c.args.board.now.lock.table.shared.table_id in
    let was = c.loop-one.invariant in
    let first = c.loop-one.first in
    let all = c.loop-one.others.items in
    let left = c.pop.new.self.items in
    let r = c.in-Some.one in
    let p = c.in_ok-one.field-0 in
    let new = c.join.new.pass in
    let is = c.join.ensures.known in
    let items : all ≡ left ++ r ∷ [] = c.in-Some.ensures.items in
    let split : all ≡ left ++ Ok p ∷ [] = items ∙ ap (λ x. left ++ x ∷ []) c.in_ok-one.was in
    let many : vec_len c.loop-one.others ≡ vec_len c.pop.new.self + 1 = (let a = ap length items in let b = length-append left (r ∷ []) in let x = c.loop-one.others.ok in let y = c.pop.new.self.ok in omega (arith, a, b, x, y)) in
    let one = takes_one (known c.args.first) (known first) (known new) c.args.others.items all left p was.3 was.4 was.5 split is in (
      one_fewer table (vec_len c.pop.new.self) first p new (subst (λ n. IsFirst table n first) many was.0) c.join.ensures.pass is,
      ap (λ (k : Known). k.over) is ∙ ap (λ b. b || (let k = known p in k.over)) was.1,
      (ap (λ (k : Known). k.boot) is ∙ was.2.0, ap (λ (k : Known). k.nodes) is ∙ was.2.1),
      one.0,
      one.1,
      one.2,
      (All-pop (λ x. IfOk x (IsReady table)) all left (Some r) items was.6).0,
    )
