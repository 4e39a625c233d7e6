use Rattle.det_report.proofs.Reports.{IsLeft}
use Rattle.det_report.proofs.reporting.+push_report.Given as goal

abbrev pub invariant-loop-number : goal.invariant-loop-number
invariant-loop-number l = IsLeft l.digest l.steps l.fn.text.items l.space l.text.items l.number-iterator
