use Rattle.std.proofs.Common.{◌≡◌, [], ◌∷◌, ℕ, Ok, Vec, Global, ap, refl}
use Rattle.arrayvec.specs.ArrayVec.{ArrayVec}
use Rattle.det_core.specs.View.{path_views}
use Rattle.command_line.specs.Line.{engine_of}
use Rattle.det_cli.specs.Commands.{paths_of_file, schedule_step}
use Rattle.det_cli.proofs.Stages.{by_engine, file_stopped, handed_on, last_read, none_to_read}
use Rattle.det_cli.proofs.evaluating.read_plan.Goals as goal

pub returns-in_err-paths-in-Schedule-clause-reads : goal.returns-in_err-paths-in-Schedule-clause-reads
returns-in_err-paths-in-Schedule-clause-reads g c whole e made done =
    by_engine _ _ _ _ _ _ (ap engine_of c.in-Schedule.is) (handed_on (λ plan. e) (schedule_step c.in-Schedule.name.now ∷ []) whole _ _ _ c.from_residual.ensures.1
    (file_stopped (λ bytes (paths : Vec (ArrayVec ℕ) Global). paths_of_file bytes ≡ Ok (path_views paths.items)) (λ plan. e) (schedule_step c.in-Schedule.name.now) [] whole _ _
    c.in_err-paths-in-Schedule.ensures.file))

pub returns-in_ok-paths-in-Schedule-clause-reads : goal.returns-in_ok-paths-in-Schedule-clause-reads
returns-in_ok-paths-in-Schedule-clause-reads g c whole e made done =
    by_engine _ _ _ _ _ _ (ap engine_of c.in-Schedule.is)
    (last_read (λ bytes (paths : Vec (ArrayVec ℕ) Global). paths_of_file bytes ≡ Ok (path_views paths.items)) (λ plan. e) (schedule_step c.in-Schedule.name.now) whole _ c.in_ok-paths-in-Schedule.paths _
    c.in_ok-paths-in-Schedule.ensures.file (λ bytes led. made (bytes ∷ [])) done)

pub returns-in-Pool-clause-reads : goal.returns-in-Pool-clause-reads
returns-in-Pool-clause-reads g c whole e made done = by_engine _ _ _ _ _ _ (ap engine_of c.in-Pool.is) (none_to_read (λ plan. e) whole _ _ (made []) done refl)

pub returns-in-Seats-clause-reads : goal.returns-in-Seats-clause-reads
returns-in-Seats-clause-reads g c whole e made done = by_engine _ _ _ _ _ _ (ap engine_of c.in-Seats.is) (none_to_read (λ plan. e) whole _ _ (made []) done refl)
