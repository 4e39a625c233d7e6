use Rattle.std.proofs.Common.{◌++◌, rules}
use Rattle.memory_model.specs.Memory.{Memory}
use Rattle.space_model.specs.Files.{file_bytes, files_in}
use Rattle.explain_core.specs.Contents.{files_text}
use Rattle.explain_core.proofs.Rows.{all_slots, one_slot}
use Rattle.explain_core.proofs.files.push_files.Goals as goal

pub loop-slot-preserved : goal.loop-slot-preserved
loop-slot-preserved c =
    let m : Memory = c.args.memory.now.memory in
    one_slot (file_bytes m) c.loop-slot.text.items _ c.extend_from_slice.new.self.items (c.args.text.now.items ++ files_text 0 (files_in m)) c.loop-slot.slot (search rules) c.loop-slot.invariant (search rules) c.in_ok-extend_from_slice.ensures.items

pub returns : goal.returns
returns c =
    let m : Memory = c.args.memory.now.memory in
    let past = c.loop-slot-test.false in
    all_slots (file_bytes m) c.loop-slot.text.items (c.args.text.now.items ++ files_text 0 (files_in m)) c.loop-slot.slot (search rules) c.loop-slot.invariant
