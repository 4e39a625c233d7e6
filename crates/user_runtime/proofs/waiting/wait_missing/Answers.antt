use Rattle.user_runtime.proofs.Waits.{missing_waited}
use Rattle.user_runtime.proofs.waiting.wait_missing.Goals as goal

pub returns : goal.returns
returns c fuel = missing_waited fuel c.args.caller.now _ c.tell_stop.new.self _ c.caller.view_is c.set_register.ensures c.tell_stop.ensures
