use Rattle.std.proofs.Common.{None}
use Rattle.board.specs.Jobs.{Sets}
use Rattle.board.proofs.Works.{took_from_work}
use Rattle.board.proofs.slots.take_out.Goals as goal

pub returns-clause-work : goal.returns-clause-work
returns-clause-work c =
    let before = c.args.out.now.slots in
    let after = c.remove-job.new.self.slots in
    let sets : Sets c.args.slot None before after = record { here = c.remove-job.ensures.updates.changed; others = c.remove-job.ensures.updates.others } in
    took_from_work before after c.args.at_work.now c.remove.new.self c.args.slot c.remove-job.result c.requires.work c.requires.apart c.remove-job.ensures.value sets c.remove.ensures.gone
    c.remove.ensures.others c.remove.ensures.less
