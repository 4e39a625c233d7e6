use Rattle.std.proofs.Common.{◌≡◌, [], ◌∷◌, ◌++◌, length, Some, ap, ◌∙◌, arith, if◌then◌else◌, length-append}
use Rattle.std.proofs.lemmas.List.Elements.{All-pop, All-push, All-same}
use Rattle.std.specs.Result.{is_ok}
use Rattle.pool_tests.specs.Played.{IsPlayed}
use Rattle.pool_tests.proofs.seats_by_hand.play_each.Goals as goal

pub loop-player-preserved : goal.loop-player-preserved
loop-player-preserved g c =
    let table = c.args.board.now.lock.table.shared.table_id in
    let old = c.loop-player.played.items in
    let player = c.play_by_chance-player.result in
    let popped : c.loop-player.left.items ≡ c.pop.new.self.items ++ c.in-Some.player ∷ [] = c.in-Some.ensures.items in
    let rest = All-pop (λ p. IsPlayed table p.pass p.done p.over) c.loop-player.left.items c.pop.new.self.items (Some c.in-Some.player) popped c.loop-player.invariant.0 in
    let pushed : c.push.new.self.items ≡ old ++ player ∷ [] = c.push.ensures.items ∙ ap (λ r. if is_ok r then old ++ player ∷ [] else old) c.expect.ensures in (
      rest.0,
      All-same (λ p. IsPlayed table p.pass p.done p.over) c.push.new.self.items (old ++ player ∷ []) pushed (All-push (λ p. IsPlayed table p.pass p.done p.over) old player c.loop-player.invariant.1 c.play_by_chance-player.ensures.played),
      (let a = ap length popped in let b = ap length pushed in let d = length-append c.pop.new.self.items (c.in-Some.player ∷ []) in let e = length-append old (player ∷ []) in let w = c.loop-player.left.ok in let x = c.loop-player.played.ok in let y = c.pop.new.self.ok in let z = c.push.new.self.ok in let i = c.loop-player.invariant.2 in omega (arith, a, b, d, e, w, x, y, z, i)),
    )
