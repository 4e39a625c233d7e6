use Rattle.std.proofs.Common.{◌≡◌, ◌++◌, drop}
use Rattle.dev_script.specs.Pieces.{bytes_in}
use Rattle.dev_script.proofs.console.share_all.Given as goal

abbrev pub invariant-loop-i : goal.invariant-loop-i
invariant-loop-i l = bytes_in l.shares.items ++ bytes_in (drop l.i l.pieces) ≡ bytes_in l.pieces
