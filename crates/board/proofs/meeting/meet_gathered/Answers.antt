use Rattle.std.proofs.Common.{◌≡◌, ◌∷◌, ◌++◌, [], ap, ◌∙◌}
use Rattle.det_core.specs.declared.entry.Entry.TheVariants.{Met}
use Rattle.det_core.specs.Legal.{replaced}
use Rattle.board.proofs.Histories.{met_now}
use Rattle.board.proofs.Meetings.{has_met_by, moved, moved_else, moved_then}
use Rattle.board.proofs.meeting.meet_gathered.Goals.{then-branch, else-branch}
use Rattle.board.proofs.meeting.meet_gathered.Goals as goal

pub returns-clause-met : goal.returns-clause-met
returns-clause-met c =
    λ k may on are is.
    let path = c.args.path.now in
    let node = c.args.gathered.node in
    let went = c.in_ok-go_and_meet.field-0 in
    let es = c.args.history.now.items in
    let es1 = c.if-branch.history.items in
    let items1 : es1 ≡ es ++ moved went path node = elim c.if-branch.branch [
      | then-branch w ↦ moved_then went path c.in_ok-copy_path.field-0 node es es1 w.if-branch.true c.in_ok-copy_path.ensures (ap (λ v. v.items) w.history-is ∙ w.push_reserved.ensures.items)
      | else-branch w ↦ moved_else went path node es es1 w.if-branch.false (ap (λ v. v.items) w.history-is)
    ] in
    let items3 = c.push_reserved-2.ensures.items ∙ ap (λ p. c.bring_home.new.history.items ++ Met p ∷ []) c.in_ok-copy_path-2.ensures in
    has_met_by path k node c.args.tree.now c.go_and_meet.new.tree c.args.places.now c.go_and_meet.new.places c.bring_home.new.places c.leave.new.places es es1 c.bring_home.new.history.items c.push_reserved-2.new.self.items went c.args.gathered.away
    may (met_now c.args.tree.now c.go_and_meet.new.tree path k may c.in_ok-go_and_meet.ensures.met) c.requires.node on are c.in_ok-go_and_meet.ensures.gone items1 c.bring_home.ensures.home (c.leave.ensures.copied (replaced k) is) items3

pub returns-clause-nodes : goal.returns-clause-nodes
returns-clause-nodes c = let home = c.bring_home.ensures.home in c.leave.ensures.nodes ∙ home.nodes ∙ c.go_and_meet.ensures.nodes
