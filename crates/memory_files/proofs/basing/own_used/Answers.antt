use Rattle.memory_files.specs.Files.{held_in}
use Rattle.memory_files.proofs.Bases.{used_file, used_has}
use Rattle.memory_files.proofs.basing.own_used.Goals as goal

pub returns-clause-used : goal.returns-clause-used
returns-clause-used c = used_has c.own_slots.result c.args.memory.now (held_in c.new.result) c.used-bits.result c.new.ensures c.used-bits.ensures c.own_slots.ensures.slots

pub returns-clause-kept : goal.returns-clause-kept
returns-clause-kept c page out = c.own_slots.ensures.beside page (λ k below bit. out k (used_file c.args.memory.now (held_in c.new.result) c.used-bits.result k below c.new.ensures c.used-bits.ensures bit))
