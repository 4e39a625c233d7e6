use Rattle.std.proofs.Common.{◌≡◌, ◌≤◌, ◌-◌, length, take}
use Rattle.std.specs.Io.KnownBytes.{Appends}
use Rattle.det_host.proofs.real_sink.StdSinkSink.write.Given as goal

abbrev pub invariant-pieces : goal.invariant-pieces
invariant-pieces g l = record {
  within : l.done ≤ length l.piece;
  no_fault : l.self.faults ≡ l.fn.self.faults;
  sent : Appends (g.W.Write.contents l.fn.self.writer) (g.W.Write.contents l.self.writer) (take l.done l.piece);
}

abbrev pub decreases-pieces : goal.decreases-pieces
decreases-pieces g l = length l.piece - l.done
