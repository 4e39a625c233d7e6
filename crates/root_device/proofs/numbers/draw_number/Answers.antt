use Rattle.std.proofs.Common.{◌≡◌, Some, sym, ap, ◌∙◌, subst}
use Rattle.space_model.specs.Space.{Top}
use Rattle.space_model.specs.Event as event
use Rattle.space_model.specs.Event.{moves, charge, with_devices}
use Rattle.root_device.proofs.NumberEvents.{random_given}
use Rattle.root_device.proofs.numbers.draw_number.Goals as goal

pub returns : goal.returns
returns c =
    subst (λ (t : Top). charge t (with_devices t t.devices (event.random t)) ≡ moves c.tell_number.new.top) c.top.view_is
    (random_given _ c.tell_number.new.top _ c.pop_front-number.new.self c.pop_front-number.result (c.in-Some.is ∙ ap Some (sym c.devices.view_is)) c.pop_front-number.ensures.items c.pop_front-number.ensures.rest c.tell_number.ensures)
