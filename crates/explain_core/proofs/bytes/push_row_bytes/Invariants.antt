use Rattle.std.proofs.Common.{◌≡◌, ◌+◌, ◌-◌, ◌++◌}
use Rattle.explain_core.specs.Bytes.{row_bytes}
use Rattle.explain_core.proofs.bytes.push_row_bytes.Given as goal

-- what stands there, and the bytes that are left
abbrev pub invariant-loop-index : goal.invariant-loop-index
invariant-loop-index l = l.text.items ++ row_bytes l.memory.memory (l.first + l.index) (l.count - l.index) ≡ l.fn.text.items ++ row_bytes l.memory.memory l.first l.count
