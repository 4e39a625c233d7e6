use Rattle.std.proofs.Common.{sym, ap, ◌∙◌}
use Rattle.file_model.specs.Operations.{lowest_free}
use Rattle.file_image.specs.Lookup.{optional_entry}
use Rattle.file_image.proofs.Following.{slot_against, slot_or}
use Rattle.file_image.proofs.marking.target.Goals as goal

pub returns-in-Some-clause-slot : goal.returns-in-Some-clause-slot
returns-in-Some-clause-slot g c = λ f s found h. sym (slot_against (g.P.FileBytes.bytes c.args.parent.now) c.args.marks.now f s h ∙ ap (λ o. slot_or o (lowest_free s)) (found ∙ ap (optional_entry (g.P.FileBytes.bytes c.args.parent.now)) c.in-Some.is))

pub returns-in-None-clause-slot : goal.returns-in-None-clause-slot
returns-in-None-clause-slot g c = λ f s found h.
    c.lowest_unmarked.ensures.slot s h.in_use ∙ sym (slot_against (g.P.FileBytes.bytes c.args.parent.now) c.args.marks.now f s h ∙ ap (λ o. slot_or o (lowest_free s)) (found ∙ ap (optional_entry (g.P.FileBytes.bytes c.args.parent.now)) c.in-None.is))
