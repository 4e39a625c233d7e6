use Rattle.std.proofs.Common.{◌≡◌, drop}
use Rattle.run_model.specs.Replay.{replay}
use Rattle.det_core.specs.View.{path_views}
use Rattle.det_core.proofs.walking.walk.Given as goal

abbrev pub invariant-loop-path : goal.invariant-loop-path
invariant-loop-path l = replay (path_views (drop l.path-index l.paths)) 8 l.space ≡ replay (path_views l.paths) 8 l.fn.space
