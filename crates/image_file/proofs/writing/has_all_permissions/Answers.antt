use Rattle.std.proofs.Common.{sym, ◌∙◌, rules, tests}
use Rattle.std.proofs.lemmas.Iterator.{YieldsList-from_slice}
use Rattle.std.proofs.lemmas.Iterator.Search.{all_from_yields_List}
use Rattle.std.proofs.lemmas.List.Folds.{list_all-map}
use Rattle.image_model.specs.Image as model
use Rattle.image_file.specs.declared.image.Segment.{Segment}
use Rattle.image_file.specs.View.{segment_view}
use Rattle.image_file.proofs.writing.has_all_permissions.Goals as goal

pub returns : goal.returns
returns c =
    let ss = c.args.segments.now in
    all_from_yields_List (λ (s : Segment). model.has_permission c.args.format s.perm) _ _ _ c.all.ensures.ran (YieldsList-from_slice ss cc) (λ x b q k. search (rules, tests))
    ∙ sym (list_all-map (λ (s : model.Segment). model.has_permission c.args.format s.permission) segment_view ss)
