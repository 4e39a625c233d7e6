use Rattle.std.proofs.Common.{rules}
use Rattle.dev_script.proofs.Pairs.{goes_on, ends, is_done}
use Rattle.dev_script.proofs.words.bytes_of.Goals as goal

pub returns-in-None : goal.returns-in-None
returns-in-None c = ends c.loop-rest.bytes.items c.loop-rest.rest.now _ (search rules) c.loop-rest.invariant

pub loop-rest-preserved : goal.loop-rest-preserved
loop-rest-preserved c = rw c.in_ok-push-in-Some.ensures.items (goes_on c.loop-rest.bytes.items c.loop-rest.rest.now c.in-Some.after.now c.in-Some.byte _ c.in-Some.ensures.bytes c.loop-rest.invariant)

pub returns : goal.returns
returns c = is_done c.loop-rest.bytes.items c.loop-rest.rest.now _ (search rules) c.loop-rest.invariant
