use Rattle.source_model.specs.Reading.{blank}
use Rattle.source_model.specs.Bytes.{lines_of}
use Rattle.rv_asm.specs.View.{labels_in, draft_view}
use Rattle.rv_asm.proofs.Drafts.{are-sound, blank-whole, is-closed, count-closed, is-small}
use Rattle.rv_asm.proofs.assembling.whole.Goals as goal

pub draft_image-requires-clause-count : goal.draft_image-requires-clause-count
draft_image-requires-clause-count c = count-closed (draft_view c.in_ok-draft.draft) (are-sound (labels_in c.in_ok-labels.labels) 1 blank (draft_view c.in_ok-draft.draft) (lines_of c.args.source.now) blank-whole c.in_ok-draft.ensures).0

pub draft_image-requires-clause-sound : goal.draft_image-requires-clause-sound
draft_image-requires-clause-sound c = (is-closed (draft_view c.in_ok-draft.draft) (are-sound (labels_in c.in_ok-labels.labels) 1 blank (draft_view c.in_ok-draft.draft) (lines_of c.args.source.now) blank-whole c.in_ok-draft.ensures).0).segments

pub returns-clause-small : goal.returns-clause-small
returns-clause-small c = is-small (draft_view c.in_ok-draft.draft) c.in_ok-draft_image.field-0 (are-sound (labels_in c.in_ok-labels.labels) 1 blank (draft_view c.in_ok-draft.draft) (lines_of c.args.source.now) blank-whole c.in_ok-draft.ensures) c.in_ok-draft_image.ensures
