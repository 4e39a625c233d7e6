use Rattle.std.proofs.Common.{◌≡◌, true, Result, Ok, Err, IfOk, ap, ◌∙◌}
use Rattle.space_model.specs.Space.{Space, is_settled}
use Rattle.run_model.specs.Demand.{settle_tree}
use Rattle.det_cli.specs.Ending.{Ends}
use Rattle.det_cli.proofs.running.settled_root.Goals as goal

meaning_of_end : {E : Type 0} (r : Result Space E) (root booted : Space) → root ≡ booted → Ends root r → IfOk r (λ s. s ≡ settle_tree booted)
meaning_of_end (Ok s) root booted same h = h.0 ∙ ap settle_tree same
meaning_of_end (Err e) root booted same h = h

settled_by_end : {E : Type 0} (r : Result Space E) (root : Space) → Ends root r → IfOk r (λ s. is_settled s ≡ true)
settled_by_end (Ok s) root h = h.1
settled_by_end (Err e) root h = h

pub returns-clause-root : goal.returns-clause-root
returns-clause-root g c =
    meaning_of_end c.settle.result c.in_ok-root.root _ c.in_ok-root.ensures.value
    ((c.requires.settles (record { root = c.in_ok-root.root; plan = c.args.plan }) c.in_ok-root.ensures.sound).1 c.settle.result c.settle.ensures)

pub returns-clause-settled : goal.returns-clause-settled
returns-clause-settled g c =
    settled_by_end c.settle.result c.in_ok-root.root
    ((c.requires.settles (record { root = c.in_ok-root.root; plan = c.args.plan }) c.in_ok-root.ensures.sound).1 c.settle.result c.settle.ensures)
