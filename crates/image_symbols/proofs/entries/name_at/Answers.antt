use Rattle.std.proofs.Common.{List, ℕ, ◌+◌, ap, ◌∙◌}
use Rattle.std.specs.Prelude.{◌==◌}
use Rattle.std.specs.List.{before_first}
use Rattle.image_symbols.specs.Entries.{longest}
use Rattle.image_symbols.proofs.Fronts.{front_of_rest}
use Rattle.image_symbols.proofs.entries.name_at.Goals as goal

pub returns : goal.returns
returns c =
    c.before_zero.ensures
    ∙ ap (λ (l : List ℕ). before_first (λ b. b == 0) l) (front_of_rest c.args.names.now c.split_at.result.1.now c.split_at-2.result.0.now c.args.at (longest + 1) _ _ c.min.ensures c.split_at.ensures.back c.min-2.ensures c.split_at-2.ensures.front)
