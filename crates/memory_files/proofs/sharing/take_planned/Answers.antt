use Rattle.std.proofs.Common.{◌∙◌}
use Rattle.space_model.specs.Files.{file_bytes, with_file_bytes}
use Rattle.memory_files.specs.Taken.{with_taken}
use Rattle.memory_files.proofs.Taking.{all_beside, all_from, all_in_range, taken_memory}
use Rattle.memory_files.proofs.sharing.take_planned.Goals as goal

pub take_over_from-requires-clause-within : goal.take_over_from-requires-clause-within
take_over_from-requires-clause-within c = all_in_range c.args.plan.now.whole c.args.plan.now.from c.deref.result.now (c.deref.ensures.value ∙ c.in_ok-pages.ensures) c.requires.few c.requires.from

pub take_over_from-requires-clause-once : goal.take_over_from-requires-clause-once
take_over_from-requires-clause-once c = record {
  memory = with_file_bytes c.args.parent.now.memory (with_taken c.args.plan.now.whole c.args.plan.now.from (file_bytes c.args.parent.now.memory) (file_bytes c.args.child.now.memory));
  taken = all_from c.args.plan.now.whole c.args.plan.now.from c.args.parent.now.memory c.args.child.now.memory c.freeze_planned.new.child.memory c.deref.result.now (c.deref.ensures.value ∙ c.in_ok-pages.ensures) c.requires.few c.requires.from c.freeze_planned.ensures.same;
}

pub returns-clause-ok : goal.returns-clause-ok
returns-clause-ok c =
    let m = with_file_bytes c.args.parent.now.memory (with_taken c.args.plan.now.whole c.args.plan.now.from (file_bytes c.args.parent.now.memory) (file_bytes c.args.child.now.memory)) in
    taken_memory c.take_over_from.result c.args.plan.now.whole c.args.plan.now.from c.args.parent.now.memory c.args.child.now.memory c.take_over_from.new.self.memory c.deref.result.now (c.deref.ensures.value ∙ c.in_ok-pages.ensures) c.requires.few
    (c.take_over_from.ensures.ok m (all_from c.args.plan.now.whole c.args.plan.now.from c.args.parent.now.memory c.args.child.now.memory c.freeze_planned.new.child.memory c.deref.result.now (c.deref.ensures.value ∙ c.in_ok-pages.ensures) c.requires.few c.requires.from c.freeze_planned.ensures.same))

pub returns-clause-kept : goal.returns-clause-kept
returns-clause-kept c page beside = c.take_over_from.ensures.others page (all_beside c.args.plan.now.whole c.args.plan.now.from page c.deref.result.now (c.deref.ensures.value ∙ c.in_ok-pages.ensures) beside)
