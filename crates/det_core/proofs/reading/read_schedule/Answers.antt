use Rattle.std.proofs.Common.{List, Result, ℕ, subst}
use Rattle.schedule_model.specs.declared.error.ScheduleError.{ScheduleError}
use Rattle.schedule_model.proofs.Schedules.{schedule_again, refused_again}
use Rattle.fault_model.specs.Gives.{Gives}
use Rattle.det_core.specs.View.{path_views}
use Rattle.det_core.proofs.Found.{is_found, is_named}
use Rattle.det_core.proofs.reading.read_schedule.Goals as goal

pub returns-clause-found : goal.returns-clause-found
returns-clause-found c = is_found (λ found. path_views found.items) c.args.bytes.now c.paths_of.result c.paths_of.ensures

pub returns-clause-only : goal.returns-clause-only
returns-clause-only c = λ paths h. subst (λ (r : Result (List (List ℕ)) ScheduleError). Gives (λ found. path_views found.items) c.paths_of.result r) (schedule_again c.args.bytes.now paths h) c.paths_of.ensures

pub returns-clause-named : goal.returns-clause-named
returns-clause-named c = is_named (λ found. path_views found.items) c.args.bytes.now c.paths_of.result c.paths_of.ensures

pub returns-clause-refused : goal.returns-clause-refused
returns-clause-refused c = λ n h. subst (λ (r : Result (List (List ℕ)) ScheduleError). Gives (λ found. path_views found.items) c.paths_of.result r) (refused_again c.args.bytes.now n h) c.paths_of.ensures
