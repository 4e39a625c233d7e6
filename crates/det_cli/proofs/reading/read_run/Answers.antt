use Rattle.std.proofs.Common.{◌≡◌, ◌∷◌, Ok, refl}
use Rattle.command_line.specs.Line.{run, run_of}
use Rattle.det_cli.specs.Commands.{devices_of_file, engine_steps, image_of_file, image_step, run_shows, run_whole, script_step, settled_root, whole_of}
use Rattle.det_cli.proofs.Stages.{file_stopped, handed_on, root_done, run_made, shown_by, stopped_so, then_others}
use Rattle.det_cli.proofs.reading.read_run.Goals as goal

pub returns-in_err-image-clause-reads : goal.returns-in_err-image-clause-reads
returns-in_err-image-clause-reads g c =
    let r = run_of c.args.run.now in
    handed_on _ _ _ _ _ _ c.from_residual.ensures.1 (file_stopped (λ bytes i. image_of_file bytes ≡ Ok i) (λ x. run_shows r.fuel r.digest x.0 x.1) (image_step r.image) (script_step r.script ∷ engine_steps r.engine) (whole_of (run r)) _ _ c.in_err-image.ensures.file)

pub returns-in_err-devices-clause-reads : goal.returns-in_err-devices-clause-reads
returns-in_err-devices-clause-reads g c =
    let r = run_of c.args.run.now in
    handed_on _ _ _ _ _ _ c.from_residual-in_err-devices.ensures.1 (then_others (λ bytes i. image_of_file bytes ≡ Ok i) (λ x. run_shows r.fuel r.digest x.0 x.1) (image_step r.image) (script_step r.script ∷ engine_steps r.engine) (whole_of (run r)) _ _ _ _ _ _ _ _ _ _ c.in_ok-image.ensures.file c.in_ok-image.ensures.told c.in_ok-image.ensures.later
    (λ image is. file_stopped (λ bytes d. devices_of_file bytes ≡ Ok d) (λ x. run_shows r.fuel r.digest x.0 x.1) (script_step r.script) (engine_steps r.engine) (λ rest. run_whole r.fuel r.digest (image ∷ rest)) _ _ c.in_err-devices.ensures.file))

pub returns-in_err-plan-clause-reads : goal.returns-in_err-plan-clause-reads
returns-in_err-plan-clause-reads g c =
    let r = run_of c.args.run.now in
    let e = run_shows r.fuel r.digest c.in_ok-image.image c.in_ok-devices.devices in
    handed_on _ _ _ _ _ _ c.from_residual-in_err-plan.ensures.1 (then_others (λ bytes i. image_of_file bytes ≡ Ok i) (λ x. run_shows r.fuel r.digest x.0 x.1) (image_step r.image) (script_step r.script ∷ engine_steps r.engine) (whole_of (run r)) _ _ _ _ _ _ _ _ _ _ c.in_ok-image.ensures.file c.in_ok-image.ensures.told c.in_ok-image.ensures.later
    (λ image is. then_others (λ bytes d. devices_of_file bytes ≡ Ok d) (λ x. run_shows r.fuel r.digest x.0 x.1) (script_step r.script) (engine_steps r.engine) (λ rest. run_whole r.fuel r.digest (image ∷ rest)) _ _ _ _ _ _ _ _ _ _ c.in_ok-devices.ensures.file c.in_ok-devices.ensures.told c.in_ok-devices.ensures.later
    (λ script said. stopped_so (λ plan. e) (λ x. run_shows r.fuel r.digest x.0 x.1) (engine_steps r.engine) (λ rest. run_whole r.fuel r.digest (image ∷ script ∷ rest)) _ _
    (c.in_err-plan.ensures.reads (λ rest. run_whole r.fuel r.digest (image ∷ script ∷ rest)) e (λ rest. run_made r.fuel r.digest (image_of_file image) (devices_of_file script) _ _ is said) (root_done r.digest (settled_root c.in_ok-image.image c.in_ok-devices.devices r.fuel))))))

pub returns-clause-reads : goal.returns-clause-reads
returns-clause-reads g c =
    let r = run_of c.args.run.now in
    let e = run_shows r.fuel r.digest c.in_ok-image.image c.in_ok-devices.devices in
    then_others (λ bytes i. image_of_file bytes ≡ Ok i) (λ x. run_shows r.fuel r.digest x.0 x.1) (image_step r.image) (script_step r.script ∷ engine_steps r.engine) (whole_of (run r)) _ _ _ _ _ _ _ _ _ _ c.in_ok-image.ensures.file c.in_ok-image.ensures.told c.in_ok-image.ensures.later
    (λ image is. then_others (λ bytes d. devices_of_file bytes ≡ Ok d) (λ x. run_shows r.fuel r.digest x.0 x.1) (script_step r.script) (engine_steps r.engine) (λ rest. run_whole r.fuel r.digest (image ∷ rest)) _ _ _ _ _ _ _ _ _ _ c.in_ok-devices.ensures.file c.in_ok-devices.ensures.told c.in_ok-devices.ensures.later
    (λ script said. shown_by e (λ x. run_shows r.fuel r.digest x.0 x.1) (engine_steps r.engine) (λ rest. run_whole r.fuel r.digest (image ∷ script ∷ rest)) _ _ _ refl
    (c.in_ok-plan.ensures.reads (λ rest. run_whole r.fuel r.digest (image ∷ script ∷ rest)) e (λ rest. run_made r.fuel r.digest (image_of_file image) (devices_of_file script) _ _ is said) (root_done r.digest (settled_root c.in_ok-image.image c.in_ok-devices.devices r.fuel)))))
