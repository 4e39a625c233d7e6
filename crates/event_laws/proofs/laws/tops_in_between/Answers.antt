use Rattle.event_laws.proofs.Histories.{others_stay}
use Rattle.event_laws.proofs.laws.tops_in_between.Goals as goal

pub returns : goal.returns
returns c s p q away = others_stay p q 8 s away
