use Rattle.std.proofs.Common.{true}
use Rattle.det_laws.proofs.Near.{enabled_near, going_on_stays}
use Rattle.det_laws.proofs.laws.what_a_meeting_leaves.Goals as goal

pub returns-clause-tops : goal.returns-clause-tops
returns-clause-tops c s p q k sound ne may is = going_on_stays p q 8 true sound.0 s k sound.1.2 ne may is

pub returns-clause-near : goal.returns-clause-near
returns-clause-near c s p q k sound is may = enabled_near p q 8 true sound.0 s k sound.1.2 is may
