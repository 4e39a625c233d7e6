use Rattle.std.proofs.Common.{◌∙◌, ap, sym}
use Rattle.memory_model.specs.Memory.{Memory, bytes_from}
use Rattle.space_model.specs.Files.{files_in, length_result}
use Rattle.memory_files.proofs.Refusals.{no_length, no_name}
use Rattle.memory_files.proofs.reading.tell_length.Goals as goal

pub returns-then-not-is_short : goal.returns-then-not-is_short
returns-then-not-is_short c =
    let m : Memory = c.args.memory.now.memory in
    let name = bytes_from m c.args.name c.args.name_len in
    let none = no_name m c.args.name c.args.name_len (sym c.is_short.ensures ∙ c.if-not-is_short.true) in
    ap (λ x. (length_result m x).answer) (sym (no_length (files_in m) name none))
