use Rattle.std.proofs.Common.{◌≡◌, ◌-◌, ◌++◌}
use Rattle.std.specs.List.{flat_map, range_with_len}
use Rattle.explain_core.specs.Bytes.{row_behind, rows, rows_text}
use Rattle.explain_core.proofs.bytes.push_rows.Given as goal

-- what stands there, and the lines that are left
abbrev pub invariant-loop-row : goal.invariant-loop-row
invariant-loop-row l = l.text.items ++ flat_map (row_behind l.memory.memory l.first l.count) (range_with_len l.row (rows l.count - l.row)) ≡ l.fn.text.items ++ rows_text l.memory.memory l.first l.count
