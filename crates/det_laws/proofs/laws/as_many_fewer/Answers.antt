use Rattle.std.proofs.Common.{sym, ◌∙◌, ap, ◌+◌}
use Rattle.det_laws.specs.Tree.{events_left, after_all}
use Rattle.det_laws.proofs.Ending.{counted, all_happen}
use Rattle.det_laws.proofs.laws.as_many_fewer.Goals as goal

pub returns : goal.returns
returns c s ps sound all = sym (counted ps sound.0 s sound.1.2) ∙ ap (λ n. n + events_left (after_all ps s)) (all_happen ps s all)
