use Rattle.std.proofs.Common.{ap, ◌∙◌}
use Rattle.rayon.specs.Lists.{vec_items}
use Rattle.round_eval.proofs.Jobs.{all_answered}
use Rattle.round_eval.proofs.side_by_side.run_pieces.Goals as goal

pub returns : goal.returns
returns g c =
    let items = ap (λ it. vec_items it.base) c.map_init.ensures.base ∙ ap vec_items c.with_min_len.ensures.base ∙ c.into_par_iter.ensures in
    let h = c.in_ok-collect.ensures in
    let chain = h.1 in
    all_answered (λ v. v.items) _ (λ j d t. t.2) c.args.jobs.items _ _ c.in_ok-collect.field-0 (chain.1 ∙ items) chain.2 h.2
