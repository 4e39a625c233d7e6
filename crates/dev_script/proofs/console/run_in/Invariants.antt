use Rattle.std.proofs.Common.{◌≡◌, ◌++◌, drop}
use Rattle.dev_script.specs.Pieces.{bytes_in}
use Rattle.dev_script.proofs.console.run_in.Given as goal

abbrev pub invariant-loop-i : goal.invariant-loop-i
invariant-loop-i l = drop l.fn.at (bytes_in l.pieces ++ l.tail) ≡ drop l.inner (bytes_in (drop l.i l.pieces) ++ l.tail)
