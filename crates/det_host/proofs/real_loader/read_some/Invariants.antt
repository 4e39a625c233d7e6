use Rattle.std.proofs.Common.{◌≡◌, List, ℕ, length}
use Rattle.std.specs.Io.KnownBytes.{Keeps}
use Rattle.det_host.proofs.real_loader.read_some.Given as goal

abbrev pub invariant-loop : goal.invariant-loop
invariant-loop g l = record {
  long : length l.buffer ≡ length l.fn.buffer;
  kept : Keeps (g.F.FileReader.left l.fn.files) (g.F.FileReader.left l.files);
  held : (other : List ℕ) → g.F.FileReader.held l.files other ≡ g.F.FileReader.held l.fn.files other;
}
