use Rattle.std.proofs.Common.{◌≡◌, ◌-◌, ◌++◌}
use Rattle.file_model.specs.Sizes.{slot_count}
use Rattle.file_model.specs.Slots.{slots_from}
use Rattle.space_model.specs.Files.{file_bytes, files_in}
use Rattle.explain_core.specs.Contents.{files_text}
use Rattle.explain_core.proofs.files.push_files.Given as goal

-- what stands there, and the slots that are left
abbrev pub invariant-loop-slot : goal.invariant-loop-slot
invariant-loop-slot l = (let m = l.memory in l.text.items ++ files_text l.slot (slots_from (file_bytes m.memory) l.slot (slot_count - l.slot)) ≡ l.fn.text.items ++ files_text 0 (files_in m.memory))
