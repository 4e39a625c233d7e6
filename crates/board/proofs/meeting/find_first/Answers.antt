use Rattle.std.proofs.Common.{[], sym, ◌∙◌, subst}
use Rattle.board.specs.Listed.{IsListed}
use Rattle.board.proofs.Kept.{call_dropped}
use Rattle.board.proofs.meeting.find_first.Goals as goal

pub loop-first-preserved : goal.loop-first-preserved
loop-first-preserved c =
    λ run out listed.
    subst (λ calls. IsListed c.args.tree.now run calls [] out) (sym c.pop_first.ensures)
    (call_dropped c.args.tree.now run c.loop-first.calls out c.in-Some.first.now.items (c.loop-first.invariant run out listed) c.in-Some.ensures.some (sym c.ready_call.ensures ∙ c.in_default-ready_call.is))
