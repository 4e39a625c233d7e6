use Rattle.std.proofs.Common.{refl}
use Rattle.memory_files.proofs.Bases.{none_based}
use Rattle.space_mem.proofs.Kept.{keeps_refl, keeps_then}
use Rattle.memory_files.proofs.basing.mark_base.Goals as goal

pub returns-then-not-are_kept-clause-ok : goal.returns-then-not-are_kept-clause-ok
returns-then-not-are_kept-clause-ok c = none_based c.args.memory.now (c.if-not-are_kept.ensures refl)

pub returns-then-not-are_kept-clause-kept : goal.returns-then-not-are_kept-clause-kept
returns-then-not-are_kept-clause-kept c page out = keeps_refl c.args.memory.now page

pub returns-clause-kept : goal.returns-clause-kept
returns-clause-kept c page out = keeps_then c.args.memory.now c.own_used.new.memory c.mark_owned.new.memory page (c.in_ok-slots.ensures.kept page out) (c.mark_owned.ensures.kept page)
