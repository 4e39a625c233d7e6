use Rattle.std.proofs.Common.{◌≤◌, ◌-◌}
use Rattle.sha2.specs.Hashers.{Holds256}
use Rattle.memory_model.specs.Sizes.{pages}
use Rattle.report_model.specs.Digest.{text_below}
use Rattle.det_report.proofs.digesting.digest.Given as goal

-- the hasher has the text of all pages before `first`
abbrev pub invariant-loop-page : goal.invariant-loop-page
invariant-loop-page l = record {
  within : l.first ≤ pages;
  held : Holds256 l.hasher (text_below l.memory.memory l.first);
}

abbrev pub decreases-loop-page : goal.decreases-loop-page
decreases-loop-page l = pages - l.first
