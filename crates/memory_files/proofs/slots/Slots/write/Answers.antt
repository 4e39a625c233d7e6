use Rattle.std.proofs.Common.{◌+◌, arith}
use Rattle.space_model.specs.Files.{file_bytes}
use Rattle.file_model.specs.Sizes.{first_address}
use Rattle.memory_files.proofs.Writes.{byte_beside, slot_owner, owned_after, parts_after, rest_kept, spared_after}
use Rattle.memory_files.proofs.slots.Slots.write.Goals as goal

pub write_byte-requires : goal.write_byte-requires
write_byte-requires c =
    slot_owner c.args.self.now.memory c.args.self.now.ready c.args.self.now.headers c.args.self.now.whole c.args.offset c.args.self.now.owned c.args.self.now.headed c.requires.header c.requires.content c.requires.beyond

pub invariant_of-self : goal.invariant_of-self
invariant_of-self c = record {
  owned = parts_after c.args.self.now.memory c.write_byte.new.memory (first_address + c.args.offset) c.args.value c.args.self.now.ready c.args.self.now.whole c.write_byte.ensures.written c.args.self.now.owned;
  headed = owned_after c.args.self.now.memory c.write_byte.new.memory (first_address + c.args.offset) c.args.value 1 c.args.self.now.headers c.write_byte.ensures.written c.args.self.now.headed;
  within = c.args.self.now.within;
  few = c.args.self.now.few;
  small = c.write_byte.ensures.small;
}

pub returns-clause-kept : goal.returns-clause-kept
returns-clause-kept c = rest_kept c.args.self.now.memory c.write_byte.new.memory c.args.offset c.args.value c.requires.within c.write_byte.ensures.written c.write_byte.ensures.in_place c.write_byte.ensures.marks

pub returns-clause-spared : goal.returns-clause-spared
returns-clause-spared c =
    let h = c.args.self.now.memory in
    let g = c.write_byte.new.memory in
    spared_after (file_bytes h.memory) (file_bytes g.memory) c.args.self.now.whole c.args.offset 1 c.args.self.now.few (λ a out. byte_beside h g c.args.offset c.args.value a c.write_byte.ensures.written out) (omega arith) c.requires.beyond
