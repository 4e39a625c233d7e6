use Rattle.std.proofs.Common.{◌≡◌, ◌∷◌, [], Some, None, Ok, ap, ap₂, option_map, refl}
use Rattle.explain_words.specs.Line.{line_of}
use Rattle.det_cli.specs.Commands.{devices_of_file, image_step, script_step}
use Rattle.image_symbols.specs.Files.{AreSymbolsOf}
use Rattle.explain_cli.specs.declared.names.Names.{Names}
use Rattle.explain_cli.specs.Stages.{ReadsNamed}
use Rattle.explain_cli.specs.Answers.{names_step, naming_file, run_of, source_steps, steps_of, whole_of}
use Rattle.explain_cli.proofs.Files.{all_were_read, by_source, handed_on, stopped, then_others}
use Rattle.explain_cli.proofs.reading.read_run.Goals as goal

pub returns-in_err-image-clause-reads : goal.returns-in_err-image-clause-reads
returns-in_err-image-clause-reads g c =
    let a = line_of c.args.command.now in
    handed_on (steps_of a) whole_of _ _ _ c.from_residual.ensures.1 (stopped ReadsNamed (image_step a.image) (script_step a.script ∷ source_steps a.source) whole_of _ _ c.in_err-image.ensures.file)

pub returns-in_err-devices-clause-reads : goal.returns-in_err-devices-clause-reads
returns-in_err-devices-clause-reads g c =
    let a = line_of c.args.command.now in
    handed_on (steps_of a) whole_of _ _ _ c.from_residual-in_err-devices.ensures.1
    (then_others ReadsNamed (image_step a.image) (script_step a.script ∷ source_steps a.source) whole_of _ _ _ _ _ _ _ _ _ _ c.in_ok-image.ensures.file c.in_ok-image.ensures.told c.in_ok-image.ensures.later
    (λ image is. stopped (λ bytes d. devices_of_file bytes ≡ Ok d) (script_step a.script) (source_steps a.source) (λ rest. whole_of (image ∷ rest)) _ _ c.in_err-devices.ensures.file))

pub returns-in_err-names-in-Some-clause-reads : goal.returns-in_err-names-in-Some-clause-reads
returns-in_err-names-in-Some-clause-reads g c =
    let a = line_of c.args.command.now in
    let name = c.in-Some.source.now in
    handed_on (steps_of a) whole_of _ _ _ c.from_residual-in_err-names-in-Some.ensures.1
    (by_source (image_step a.image) (script_step a.script) a.source (Some name) _ _ (ap (option_map (λ s. s.now)) c.in-Some.is)
    (then_others ReadsNamed (image_step a.image) (script_step a.script ∷ names_step name ∷ []) whole_of _ _ _ _ _ _ _ _ _ _ c.in_ok-image.ensures.file c.in_ok-image.ensures.told c.in_ok-image.ensures.later
    (λ image is. then_others (λ bytes d. devices_of_file bytes ≡ Ok d) (script_step a.script) (names_step name ∷ []) (λ rest. whole_of (image ∷ rest)) _ _ _ _ _ _ _ _ _ _ c.in_ok-devices.ensures.file c.in_ok-devices.ensures.told c.in_ok-devices.ensures.later
    (λ script found. stopped (λ bytes (n : Names). AreSymbolsOf bytes n.symbols) (names_step name) [] (λ rest. whole_of (image ∷ script ∷ rest)) _ _ c.in_err-names-in-Some.ensures.file))))

pub returns-in_ok-names-in-Some-clause-reads : goal.returns-in_ok-names-in-Some-clause-reads
returns-in_ok-names-in-Some-clause-reads g c =
    let a = line_of c.args.command.now in
    let name = c.in-Some.source.now in
    by_source (image_step a.image) (script_step a.script) a.source (Some name) _ _ (ap (option_map (λ s. s.now)) c.in-Some.is)
    (then_others ReadsNamed (image_step a.image) (script_step a.script ∷ names_step name ∷ []) whole_of _ _ _ _ _ _ _ _ _ _ c.in_ok-image.ensures.file c.in_ok-image.ensures.told c.in_ok-image.ensures.later
    (λ image is. then_others (λ bytes d. devices_of_file bytes ≡ Ok d) (script_step a.script) (names_step name ∷ []) (λ rest. whole_of (image ∷ rest)) _ _ _ _ _ _ _ _ _ _ c.in_ok-devices.ensures.file c.in_ok-devices.ensures.told c.in_ok-devices.ensures.later
    (λ script found. then_others (λ bytes (n : Names). AreSymbolsOf bytes n.symbols) (names_step name) [] (λ rest. whole_of (image ∷ script ∷ rest)) _ _ _ _ _ _ _ _ _ _ c.in_ok-names-in-Some.ensures.file c.in_ok-names-in-Some.ensures.told c.in_ok-names-in-Some.ensures.later
    (λ source labels. all_were_read (λ rest. whole_of (image ∷ script ∷ source ∷ rest)) _ _ (Some source) (ap₂ (λ x y. run_of x y (Some source)) is.0 found) labels refl))))

pub returns-in-None-clause-reads : goal.returns-in-None-clause-reads
returns-in-None-clause-reads g c =
    let a = line_of c.args.command.now in
    by_source (image_step a.image) (script_step a.script) a.source None _ _ (ap (option_map (λ s. s.now)) c.in-None.is)
    (then_others ReadsNamed (image_step a.image) (script_step a.script ∷ []) whole_of _ _ _ _ _ _ _ _ _ _ c.in_ok-image.ensures.file c.in_ok-image.ensures.told c.in_ok-image.ensures.later
    (λ image is. then_others (λ bytes d. devices_of_file bytes ≡ Ok d) (script_step a.script) [] (λ rest. whole_of (image ∷ rest)) _ _ _ _ _ _ _ _ _ _ c.in_ok-devices.ensures.file c.in_ok-devices.ensures.told c.in_ok-devices.ensures.later
    (λ script found. all_were_read (λ rest. whole_of (image ∷ script ∷ rest)) _ _ (naming_file image None) (ap₂ (λ x y. run_of x y (naming_file image None)) is.0 found) is.1 refl)))
