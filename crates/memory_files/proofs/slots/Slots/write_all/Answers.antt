use Rattle.std.proofs.Common.{ap, ◌+◌, ◌∙◌, arith, length}
use Rattle.space_model.specs.Files.{file_bytes}
use Rattle.file_model.specs.Sizes.{first_address}
use Rattle.memory_model.specs.Memory.{byte_at}
use Rattle.space_mem.proofs.Kept.{keeps_memory}
use Rattle.memory_files.proofs.Writes.{slot_owner, spared_after}
use Rattle.memory_files.proofs.PageRuns.{parts_still_owned, run_beside, run_in_slots, rest_after, still_owned}
use Rattle.memory_files.proofs.slots.Slots.write_all.Goals as goal

pub write_run-requires-clause-owned : goal.write_run-requires-clause-owned
write_run-requires-clause-owned c =
    slot_owner c.args.self.now.memory c.args.self.now.ready c.args.self.now.headers c.args.self.now.whole c.args.offset c.args.self.now.owned c.args.self.now.headed c.requires.header c.requires.content c.requires.beyond

pub invariant_of-self : goal.invariant_of-self
invariant_of-self c =
    let h = c.args.self.now.memory in
    let g = c.write_run.new.memory in
    record {
      owned = parts_still_owned h g c.args.self.now.ready c.args.self.now.whole (λ page. keeps_memory h g _ page c.write_run.ensures.memory) c.args.self.now.owned;
      headed = still_owned h g 1 c.args.self.now.headers (λ page. keeps_memory h g _ page c.write_run.ensures.memory) c.args.self.now.headed;
      within = c.args.self.now.within;
      few = c.args.self.now.few;
      small = c.write_run.ensures.small;
    }

pub returns-clause-bytes : goal.returns-clause-bytes
returns-clause-bytes c = λ a.
    ap (λ x. byte_at x.memory (first_address + a)) c.write_run.ensures.memory ∙ run_in_slots c.args.self.now.memory.memory c.args.offset c.args.run.now a

pub returns-clause-kept : goal.returns-clause-kept
returns-clause-kept c = rest_after c.args.self.now.memory c.write_run.new.memory c.args.offset c.args.run.now (omega (arith, c.requires.within, c.requires.page)) c.write_run.ensures.memory c.write_run.ensures.marks

pub returns-clause-spared : goal.returns-clause-spared
returns-clause-spared c =
    let h = c.args.self.now.memory in
    let g = c.write_run.new.memory in
    spared_after (file_bytes h.memory) (file_bytes g.memory) c.args.self.now.whole c.args.offset (length c.args.run.now) c.args.self.now.few
    (λ a out. returns-clause-bytes c a ∙ run_beside (file_bytes h.memory) c.args.offset c.args.run.now a out) c.requires.page c.requires.beyond
