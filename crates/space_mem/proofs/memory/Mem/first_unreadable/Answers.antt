use Rattle.std.proofs.Common.{◌∙◌, ◌%◌, ◌==◌, ap, sym}
use Rattle.memory_model.specs.Memory.{may_read}
use Rattle.space_mem.proofs.Lacks.{none_lacks, first_lacks}
use Rattle.space_mem.proofs.memory.Mem.first_unreadable.Goals as goal

pub returns-then-not-may_read : goal.returns-then-not-may_read
returns-then-not-may_read c =
    first_lacks (may_read c.args.self.now.memory) c.args.at c.args.count c.loop-done.done c.loop-done-test.true c.loop-done.invariant.all
    (sym (ap (λ n. n % 2 == 1) c.perm.ensures) ∙ sym c.may_read.ensures ∙ c.if-not-may_read.true)

pub returns : goal.returns
returns c = none_lacks (may_read c.args.self.now.memory) c.args.at c.args.count c.loop-done.done c.loop-done-test.false c.loop-done.invariant.all
