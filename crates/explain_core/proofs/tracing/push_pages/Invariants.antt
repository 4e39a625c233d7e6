use Rattle.std.proofs.Common.{◌≡◌, ◌++◌, drop}
use Rattle.std.specs.List.{flat_map}
use Rattle.std.specs.Prelude.{string_bytes}
use Rattle.explain_core.specs.Trace.{page_text}
use Rattle.explain_core.proofs.tracing.push_pages.Given as goal

-- what stands there, and the pages that are left
abbrev pub invariant-loop-address : goal.invariant-loop-address
invariant-loop-address l = string_bytes l.text ++ flat_map page_text (drop l.address-index l.pages) ≡ string_bytes l.fn.text ++ flat_map page_text l.pages
