use Rattle.std.proofs.Common.{◌≡◌, ◌+◌, ◌*◌, ◌/◌, refl, sym, ◌∙◌, arith}
use Rattle.space_step.proofs.Caching.{dropped_agrees, dropped_lacks, lacking}
use Rattle.space_step.proofs.decode_cache.Table.invalidate.Goals as goal

pub returns-then-self-place-clause-agrees : goal.returns-then-self-place-clause-agrees
returns-then-self-place-clause-agrees c = λ v agrees. dropped_agrees v c.args.self.now c.args.at c.place_of-place.result _ c.place_of-place.ensures refl agrees

pub returns-then-self-place-clause-lacks : goal.returns-then-self-place-clause-lacks
returns-then-self-place-clause-lacks c = λ v agrees. dropped_lacks v c.args.self.now c.args.at c.place_of-place.result _ c.place_of-place.ensures refl agrees

pub returns-else-self-place-clause-lacks : goal.returns-else-self-place-clause-lacks
returns-else-self-place-clause-lacks c = λ v agrees.
    lacking v c.args.self.now c.args.at c.place_of-place.result _ c.place_of-place.ensures agrees
    (λ is.
    let word : c.args.self.now.first + 4 * (c.args.at / 4) ≡ c.args.self.now.first + c.args.at / 4 * 4 = omega arith in
    c.if-self-place.false (is ∙ word ∙ sym (c.key_of.ensures agrees.0.1)))
