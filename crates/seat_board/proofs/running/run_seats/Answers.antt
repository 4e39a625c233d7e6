use Rattle.std.proofs.Common.{◌≡◌, ◌<◌, ◌==◌, Some, length, sym, ap, ◌∙◌, subst, arith}
use Rattle.std.specs.List.{All, count_by}
use Rattle.run_model.specs.Demand.{settle_tree}
use Rattle.seat_board.specs.declared.known.Known.{Known}
use Rattle.seat_board.specs.Passes.{known}
use Rattle.seat_board.specs.declared.seat_turn.SeatTurn.{SeatTurn}
use Rattle.seat_board.specs.Desk.{cut}
use Rattle.seat_board.specs.Shares.{AreCounts}
use Rattle.seat_board.proofs.Logs.{seats_below}
use Rattle.seat_board.proofs.Shares.{are_counts, are_workers, written_back}
use Rattle.seat_board.proofs.running.run_seats.Goals as goal

pub returns-clause-boot : goal.returns-clause-boot
returns-clause-boot g c =
    let before : (known c.in_ok-board.first).boot ≡ Some c.args.space = ap (λ (k : Known). k.boot) c.in_ok-board.ensures.known in
    let nodes : (known c.in_ok-board.first).nodes ≡ c.args.nodes = ap (λ (k : Known). k.nodes) c.in_ok-board.ensures.known in
    let ran = c.in_ok-last.ensures.first in
    let boot : Some c.close-closed.result.closed.boot ≡ Some c.args.space = sym c.close-closed.ensures.boot.0 ∙ (ran.2.0 ∙ before) in
    ((let same : c.close-closed.result.closed.boot ≡ c.args.space = cc in same), sym c.close-closed.ensures.boot.1 ∙ (ran.2.1 ∙ nodes))

pub returns-clause-end : goal.returns-clause-end
returns-clause-end g c =
    let before : (known c.in_ok-board.first).boot ≡ Some c.args.space = ap (λ (k : Known). k.boot) c.in_ok-board.ensures.known in
    let ran = c.in_ok-last.ensures.first in
    let boot : Some c.close-closed.result.closed.boot ≡ Some c.args.space = sym c.close-closed.ensures.boot.0 ∙ (ran.2.0 ∙ before) in
    let same : c.close-closed.result.closed.boot ≡ c.args.space = cc in
    c.close-closed.ensures.end (c.close-closed.ensures.over ran.1) ∙ ap settle_tree same

pub count_turns-requires-clause-seats : goal.count_turns-requires-clause-seats
count_turns-requires-clause-seats g c =
    let given = c.in_ok-last.ensures.ended.given in
    let turns = c.close-closed.result.turns.items in
    let below = seats_below c.close-closed.result.closed.history.items turns c.args.workers (λ n le. c.close-closed.ensures.fresh n (omega (arith, given, le))) in
    let many : c.args.workers ≡ length c.as_mut_slice.result.now = (let a = ap length c.as_mut_slice.ensures.value in let b = c.in_ok-counts.ensures.len in let o = c.in_ok-counts.counts.ok in omega (arith, a, b, o)) in
    subst (λ l. All (λ (t : SeatTurn). t.seat < length c.as_mut_slice.result.now) l) (sym c.as_slice.ensures.value) (subst (λ n. All (λ (t : SeatTurn). t.seat < n) turns) many below)

pub returns-clause-seats : goal.returns-clause-seats
returns-clause-seats g c =
    let given = c.in_ok-last.ensures.ended.given in
    seats_below c.close-closed.result.closed.history.items c.close-closed.result.turns.items c.args.workers (λ n le. c.close-closed.ensures.fresh n (omega (arith, given, le)))

pub returns-clause-turns : goal.returns-clause-turns
returns-clause-turns g c =
    let ran = c.in_ok-last.ensures.first in
    let whole = ran.0.given in
    are_workers c.args.workers (known c.in_ok-last.last) (cut c.close-closed.result.closed.history.items c.close-closed.result.turns.items) c.in_ok-last.ensures.ended (omega (arith, whole)) c.close-closed.ensures.once c.close-closed.ensures.turns c.close-closed.ensures.ended

pub returns-clause-counts : goal.returns-clause-counts
returns-clause-counts g c =
    let new = c.count_turns.new.counts in
    let old = c.in_ok-counts.counts in
    let history = c.close-closed.result.closed.history.items in
    let turns = c.close-closed.result.turns.items in
    let kept : length new ≡ old.len = (let a = c.count_turns.ensures.len in let b = ap length c.as_mut_slice.ensures.value in let o = old.ok in omega (arith, a, b, o)) in
    let many : length new ≡ c.args.workers = (let b = c.in_ok-counts.ensures.len in omega (arith, kept, b)) in
    let each = c.count_turns.ensures.each in
    subst (AreCounts c.args.workers (cut history turns)) (sym (written_back old.len new old.items kept (let o = old.ok in omega (arith, o)))) (are_counts c.args.workers history turns new many (λ n lt. each n lt ∙ ap (count_by (λ (t : SeatTurn). t.seat == n)) c.as_slice.ensures.value))
