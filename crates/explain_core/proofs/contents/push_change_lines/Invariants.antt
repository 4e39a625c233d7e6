use Rattle.std.proofs.Common.{◌≡◌, ◌++◌, drop}
use Rattle.std.specs.List.{flat_map}
use Rattle.explain_core.specs.Contents.{change_line}
use Rattle.explain_core.proofs.contents.push_change_lines.Given as goal

-- what stands there, and the pages that are left
abbrev pub invariant-loop-address : goal.invariant-loop-address
invariant-loop-address l = l.text.items ++ flat_map change_line (drop l.address-index l.changed) ≡ l.fn.text.items ++ flat_map change_line l.changed
