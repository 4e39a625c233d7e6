use Rattle.std.proofs.Common.{◌≡◌, ◌++◌, drop}
use Rattle.std.specs.Prelude.{string_bytes}
use Rattle.explain_core.specs.Contents.{name_text}
use Rattle.explain_why.proofs.texts.name_text.Given as goal

-- what stands there, and the bytes that are left
abbrev pub invariant-loop-byte : goal.invariant-loop-byte
invariant-loop-byte l = string_bytes l.text ++ name_text (drop l.byte-index l.name) ≡ name_text l.name
