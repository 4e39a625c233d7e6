use Rattle.std.proofs.Common.{◌≡◌, ◌-◌, length, drop}
use Rattle.elf_model.specs.Reading as reading
use Rattle.elf_image.specs.View.{load_views, run_views}
use Rattle.elf_image.proofs.runs.runs_of.Given as goal

abbrev pub invariant-loop-done : goal.invariant-loop-done
invariant-loop-done l = run_views l.runs.items ≡ reading.runs_of (drop (length l.loads - l.done) (load_views l.loads))
