use Rattle.std.proofs.Common.{◌≡◌, ◌++◌, drop}
use Rattle.explain_core.specs.Text.{registers_text}
use Rattle.explain_core.proofs.showing.push_registers.Given as goal

-- what stands there, and the lines that are left
abbrev pub invariant-loop-number : goal.invariant-loop-number
invariant-loop-number l = l.text.items ++ registers_text l.number (drop l.number l.x) ≡ l.fn.text.items ++ registers_text 0 l.x
