use Rattle.std.proofs.Common.{◌∙◌, ap}
use Rattle.call_model.specs.Calls.{read}
use Rattle.space_model.specs.Sound.{has_devices}
use Rattle.space_model.specs.Space.{Top}
use Rattle.space_step.proofs.CallEvents.{call_done}
use Rattle.space_step.proofs.calling.read_and_act.Goals as goal

pub returns-clause-ok : goal.returns-clause-ok
returns-clause-ok g c =
    let t = c.args.top.now in
    let registers = c.x.ensures.same ∙ ap (λ (x : Top). x.registers.x) c.top.view_is in
    let reading = c.read_call-reading.ensures ∙ ap (λ xs. read xs c.has_devices.result c.args.depth) registers ∙ ap (λ d. read t.registers.x d c.args.depth) c.has_devices.ensures in
    call_done c.args.depth t c.act_as_read.new.top c.act_as_read.result c.act_as_read.new.next c.requires.may_pay c.requires.depth c.requires.calls (rw reading at c.act_as_read.ensures.ok)
