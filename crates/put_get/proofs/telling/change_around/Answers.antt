use Rattle.std.proofs.Common.{◌∙◌, ap, arith}
use Rattle.std.proofs.lemmas.Result.{on_ok_weaker}
use Rattle.memory_model.specs.Memory.{with_bytes}
use Rattle.memory_model.specs.Ranges.{with_copies}
use Rattle.put_get.specs.Ranges.{ranged}
use Rattle.put_get.proofs.Around.{changed_around}
use Rattle.put_get.proofs.telling.change_around.Goals as goal

pub returns-clause-ok : goal.returns-clause-ok
returns-clause-ok c =
    let x = c.args.x.now in
    let s = c.args.source.now.memory in
    let block = c.args.block.now in
    let pages = c.around-pages.ensures in
    let first = c.around-pages.result.first in
    let count = c.around-pages.result.count in
    let frozen = c.in_ok-freeze_range.ensures.same in
    let copied = c.in_ok-copy_from.ensures.ok ∙ ap (λ m. with_copies c.new-made.result.memory m first first count) frozen ∙ ap (λ h. with_copies h.memory c.args.memory.now.memory first first count) c.new-made.ensures in
    let made = c.in_ok-write_bytes.ensures.ok ∙ ap (λ m. with_bytes m x.block block) (c.in_ok-change_pages.ensures.ok ∙ ap (ranged x s) copied) in
    on_ok_weaker c.copy_from-2.result
    (λ taken. changed_around x s c.args.memory.now.memory c.write_bytes.new.self.memory c.copy_from-2.new.self.memory block first count c.requires.writes pages.first pages.end pages.from (omega (arith, c.told-block, pages.to)) made
    (taken ∙ ap (λ m. with_copies m c.write_bytes.new.self.memory first first count) frozen))
    c.copy_from-2.ensures.ok
