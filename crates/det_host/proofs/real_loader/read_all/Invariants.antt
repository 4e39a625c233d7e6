use Rattle.std.proofs.Common.{◌≡◌, ◌≤◌, ◌+◌, ◌-◌, vec_len, List, ℕ}
use Rattle.std.specs.Io.KnownBytes.{Consumes}
use Rattle.det_host.proofs.real_loader.read_all.Given as goal

abbrev pub invariant-turns : goal.invariant-turns
invariant-turns g l = record {
  most : vec_len l.bytes ≤ l.room + 1;
  consumed : Consumes (g.F.FileReader.left l.fn.files) (g.F.FileReader.left l.files) l.bytes.items;
  held : (other : List ℕ) → g.F.FileReader.held l.files other ≡ g.F.FileReader.held l.fn.files other;
}

abbrev pub decreases-turns : goal.decreases-turns
decreases-turns g l = l.room + 1 - vec_len l.bytes
