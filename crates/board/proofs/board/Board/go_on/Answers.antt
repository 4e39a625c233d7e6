use Rattle.std.proofs.Common.{sym, subst}
use Rattle.std.specs.Prelude.{IfSome}
use Rattle.board.specs.Jobs.{MayBeTaken, MayBeTakenOn}
use Rattle.board.specs.Steps.{IsLeast}
use Rattle.board.specs.Value.{Shown}
use Rattle.board.proofs.Turns.{least_goes, goes_on_node}
use Rattle.board.proofs.board.Board.go_on.Goals as goal

pub go_on_at-requires : goal.go_on_at-requires
go_on_at-requires c =
    let now = c.args.self.now in
    let least = subst (λ o. IfSome o (λ p. IsLeast (MayBeTakenOn now.places c.args.node now.tree now.out) p.items)) c.in-Some.is c.in_ok-path.ensures.some in
    let one = least.one in
    subst (λ (s : Shown). MayBeTaken s.tree s.out c.in-Some.path.items) (sym c.to_take.ensures.same) one.may

pub returns-then-not-more-clause-some : goal.returns-then-not-more-clause-some
returns-then-not-more-clause-some c =
    let now = c.args.self.now in
    let least = subst (λ o. IfSome o (λ p. IsLeast (MayBeTakenOn now.places c.args.node now.tree now.out) p.items)) c.in-Some.is c.in_ok-path.ensures.some in
    let gone = c.in_ok-more.ensures.gone in (
      c.in-Some.path,
      least_goes c.args.node now c.to_take.new.self c.go_on_at.new.self c.in-Some.path gone.0 c.to_take.ensures.same least gone.1,
    )

pub returns-clause-some : goal.returns-clause-some
returns-clause-some c =
    let now = c.args.self.now in
    let least = subst (λ o. IfSome o (λ p. IsLeast (MayBeTakenOn now.places c.args.node now.tree now.out) p.items)) c.in-Some.is c.in_ok-path.ensures.some in
    let gone = c.in_ok-more.ensures.gone in
    goes_on_node c.args.node now c.go_on_at.new.self c.hand_on.new.self c.in-Some.path c.hand_on.result (least_goes c.args.node now c.to_take.new.self c.go_on_at.new.self c.in-Some.path gone.0 c.to_take.ensures.same least gone.1) c.hand_on.ensures
