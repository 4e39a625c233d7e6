use Rattle.std.proofs.Common.{◌≡◌, arith, sym, subst}
use Rattle.std.proofs.lemmas.Grind.{common_steps}
use Rattle.run_model.specs.Boot.{boot}
use Rattle.run_model.proofs.Sound.{boot_sound}
use Rattle.space_model.specs.Sound.{IsSound}
use Rattle.det_core.proofs.booting.boot.Goals as goal

pub returns-clause-sound : goal.returns-clause-sound
unfolding boot
returns-clause-sound c =
    let same : c.alone.result ≡ boot c.args.image.now c.args.devices c.args.fuel = grind (arith, common_steps) in
    subst IsSound (sym same) (boot_sound c.args.image.now c.args.devices c.args.fuel (omega arith) (omega arith))
