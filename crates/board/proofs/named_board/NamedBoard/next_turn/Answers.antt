use Rattle.std.proofs.Common.{◌≡◌, Some, Option, sym, ap, ◌∙◌, subst}
use Rattle.std.specs.Prelude.{IfSome}
use Rattle.space_model.specs.Space.{Top}
use Rattle.worker_pool.specs.declared.shop.Turn.TheVariants.{Met}
use Rattle.board.specs.Turns.{IsTurn}
use Rattle.board.specs.Value.{Shown}
use Rattle.board.proofs.Names.{handed_out_stands, met_turn_stands}
use Rattle.board.proofs.named_board.NamedBoard.next_turn.Goals as goal

pub invariant_of-self-in-Job : goal.invariant_of-self-in-Job
invariant_of-self-in-Job g c =
    let b = c.self.inside in
    let turn = subst (λ t. IsTurn c.args.worker b.board t c.next_turn.new.self) c.in-Job.is c.in_ok-job.ensures.is in
    let from = turn.1 in
    let is_top : (v : Option Top) → c.again.result ≡ Some v → v ≡ Some c.in-Job.job.top.value = λ v e.
    let named : v ≡ Some c.deref.result.now = subst (λ (o : Option (Option Top)). IfSome o (λ n. n ≡ Some c.deref.result.now)) (sym c.again.ensures ∙ e) c.name-name.ensures in
    named ∙ ap Some c.deref.ensures
    in
    handed_out_stands from.node b.starts.items c.keep.new.starts.items b.board c.next_turn.new.self c.in-Job.job c.again.result is_top c.keep.ensures from.goes c.self.invariant

pub invariant_of-self-in-Met : goal.invariant_of-self-in-Met
invariant_of-self-in-Met g c =
    let b = c.self.inside in
    let turn = subst (λ t. IsTurn c.args.worker b.board t c.next_turn.new.self) c.in-Met.is c.in_ok-job.ensures.is in
    met_turn_stands c.args.worker b.starts.items b.board c.next_turn.new.self c.jobs_go_on.ensures.sound c.jobs_go_on.ensures.run turn c.self.invariant

pub returns-in-Met-clause-is : goal.returns-in-Met-clause-is
returns-in-Met-clause-is g c =
    let turn = subst (λ t. IsTurn c.args.worker c.self.inside.board t c.next_turn.new.self) c.in-Met.is c.in_ok-job.ensures.is in
    subst (λ (s : Shown). IsTurn c.args.worker s Met c.next_turn.new.self) c.self.view_is turn
