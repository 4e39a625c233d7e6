use Rattle.std.proofs.Common.{arith}
use Rattle.std.proofs.lemmas.Grind.{common_steps}
use Rattle.det_host.proofs.Reading.{consumed_at_most}
use Rattle.det_host.proofs.real_loader.read_all.Goals as goal

pub returns-in-Err-clause-loses : goal.returns-in-Err-clause-loses
returns-in-Err-clause-loses g c =
    consumed_at_most _ _ _ c.turns.bytes.items _ _ (grind (arith, common_steps)) c.turns.invariant.consumed c.read_piece.ensures.loses
