use Rattle.std.proofs.Common.{◌≡◌, ◌++◌, drop}
use Rattle.std.specs.List.{flat_map}
use Rattle.explain_core.specs.Contents.{run_text}
use Rattle.explain_core.proofs.contents.push_run_lines.Given as goal

-- what stands there, and the runs that are left
abbrev pub invariant-loop-run : goal.invariant-loop-run
invariant-loop-run l = l.text.items ++ flat_map run_text (drop l.run-index l.runs) ≡ l.fn.text.items ++ flat_map run_text l.runs
