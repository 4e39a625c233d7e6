use Rattle.std.proofs.Common.{◌≡◌, ◌++◌, drop}
use Rattle.std.specs.Prelude.{string_bytes}
use Rattle.explain_core.specs.Trace.{changes_text}
use Rattle.explain_core.proofs.tracing.changes_text.Given as goal

-- what stands there, and the changes that are left
abbrev pub invariant-loop-register : goal.invariant-loop-register
invariant-loop-register l = string_bytes l.text ++ changes_text l.register (drop l.register l.old) (drop l.register l.new) ≡ changes_text 0 l.old l.new
