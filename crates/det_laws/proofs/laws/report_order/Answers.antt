use Rattle.std.proofs.Common.{true}
use Rattle.det_laws.proofs.Paths.{paths_of, are_paths, report_lines}
use Rattle.det_laws.proofs.laws.report_order.Goals as goal

pub returns : goal.returns
returns c digest s sound = (paths_of s, are_paths 8 true sound.0 s sound.1.2, report_lines digest 8 true sound.0 s sound.1.2)
