-- What the code's values stand for.
-- Our choice: a restatement for proofs.
use Rattle.std.specs.Prelude.{ℕ, List}
use Rattle.std.specs.BTreeMap as tree
use Rattle.std.specs.BTreeMap.{BTreeMap}
use Rattle.std.specs.Cmp.Lexicographic.{slice_cmp}
use Rattle.std.specs.Ordering.{nat_cmp}
use denote.Ref.{Bor}
use Rattle.fault_model.specs.declared.fault.Fault.{Fault}
use Rattle.fault_model.specs.declared.fault.Fault.TheVariants as faults
use Rattle.image_file.specs.View.{segment_views}
use Rattle.source_model.specs.declared.error.AsmError.{AsmError}
use Rattle.source_model.specs.declared.statement.Definition.{Definition}
use Rattle.source_model.specs.Source.{IsRefused}
use Rattle.source_model.specs.Reading as model
use Rattle.source_model.specs.Reading.{Labels}
use Rattle.rv_asm.specs.declared.draft.Draft.{Draft}

-- where a map of names has labels defined
unfoldable pub labels_in : BTreeMap (Bor (List ℕ)) Definition → Labels
labels_in m name = tree.get_by (λ k. slice_cmp nat_cmp name k.now) m

abbrev pub draft_view : Draft → model.Draft
draft_view d = record { layout = d.layout; base = d.base; permission = d.permission; content = d.content.items; segments = segment_views d.segments.items; first = d.first; entry = d.entry; stack = d.stack; size = d.size }

-- the text is refused with this fault, or memory ran out
abbrev pub Refuses : Fault AsmError → List ℕ → Type 0
Refuses faults.Memory text = Unit {0}
Refuses (faults.Bad e) text = IsRefused text e
