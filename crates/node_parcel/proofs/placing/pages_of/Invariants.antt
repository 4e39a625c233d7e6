use Rattle.std.proofs.Common.{◌≡◌, ◌+◌, ◌-◌, ◌*◌, ◌≤◌}
use Rattle.parcel_model.specs.Reading.{entries_at}
use Rattle.node_parcel.specs.Meant.{pages_in}
use Rattle.node_parcel.specs.AtOnce.{meant, IsRun}
use Rattle.node_parcel.specs.OneNumber.{ArePut}
use Rattle.node_parcel.proofs.Placed.{pages_after}
use Rattle.node_parcel.proofs.placing.pages_of.Given as goal

-- so many pages are put, or are still to be
abbrev pub invariant-loop : goal.invariant-loop
invariant-loop l = record {
  read : pages_after l.known (meant l.known l.placing) (entries_at l.known (l.count - l.counter) l.least l.at l.rest) ≡ pages_in l.known l.count l.start l.bytes;
  run : IsRun l.known l.placing.run;
  put : ArePut l.known l.placing l.least;
  near : l.at ≤ l.start + 4102 * l.counter;
}
