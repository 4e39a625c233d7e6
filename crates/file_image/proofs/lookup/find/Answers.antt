use Rattle.std.proofs.Common.{ap, sym, ◌∙◌, arith, Some, None}
use Rattle.std.specs.Prelude.{option_map}
use Rattle.file_model.specs.Operations.{Entry}
use Rattle.file_image.proofs.Looking.{entry_next, entry_here, entry_end, number_found}
use Rattle.file_image.proofs.lookup.find.Goals as goal

pub returns-then-slot_holds-clause-entry : goal.returns-then-slot_holds-clause-entry
returns-then-slot_holds-clause-entry g c =
    c.loop-slot.invariant ∙ entry_here (g.B.FileBytes.bytes c.args.bytes.now) c.loop-slot.slot 64 c.args.name.now (omega arith) (sym c.if-slot_holds.ensures.holds)

pub returns-then-slot_holds-clause-slot : goal.returns-then-slot_holds-clause-slot
returns-then-slot_holds-clause-slot g c =
    number_found (g.B.FileBytes.bytes c.args.bytes.now) (Some c.loop-slot.slot) ∙ ap (option_map (λ (e : Entry). e.slot)) (sym (returns-then-slot_holds-clause-entry g c))

pub loop-slot-preserved : goal.loop-slot-preserved
loop-slot-preserved g c =
    c.loop-slot.invariant ∙ entry_next (g.B.FileBytes.bytes c.args.bytes.now) c.loop-slot.slot 64 c.args.name.now (omega arith) (sym c.if-slot_holds.ensures.holds)

pub returns-clause-entry : goal.returns-clause-entry
returns-clause-entry g c =
    c.loop-slot.invariant ∙ entry_end (g.B.FileBytes.bytes c.args.bytes.now) c.loop-slot.slot 64 c.args.name.now (omega arith)

pub returns-clause-slot : goal.returns-clause-slot
returns-clause-slot g c =
    number_found (g.B.FileBytes.bytes c.args.bytes.now) None ∙ ap (option_map (λ (e : Entry). e.slot)) (sym (returns-clause-entry g c))
