use Rattle.std.proofs.Common.{ap, ◌∙◌}
use Rattle.std.specs.Prelude.{◌&&◌}
use Rattle.file_model.specs.Slots.{is_in_use, slot_start}
use Rattle.file_image.proofs.Looking.{held_name}
use Rattle.file_image.proofs.lookup.slot_holds.Goals as goal

pub returns-then-has_name-clause-holds : goal.returns-then-has_name-clause-holds
returns-then-has_name-clause-holds g c =
    let b = g.B.FileBytes.bytes c.args.bytes.now in
    c.is_in_use.ensures ∙ ap (λ t. t && is_in_use b (slot_start c.args.slot)) c.if-has_name.ensures ∙ held_name b c.args.slot c.args.name.now

pub returns-else-has_name-clause-holds : goal.returns-else-has_name-clause-holds
returns-else-has_name-clause-holds g c =
    let b = g.B.FileBytes.bytes c.args.bytes.now in
    c.if-has_name.false ∙ ap (λ t. t && is_in_use b (slot_start c.args.slot)) c.if-has_name.ensures ∙ held_name b c.args.slot c.args.name.now
