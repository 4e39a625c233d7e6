use Rattle.memory_files.specs.Files.{held_in}
use Rattle.std.proofs.Common.{◌≡◌, ℕ, List, length, Ok, ap, ◌∙◌, arith}
use Rattle.file_model.specs.Operations as operations
use Rattle.space_mem.specs.Held.{Held}
use Rattle.space_model.specs.Files.{files_in}
use Rattle.memory_files.proofs.Contents.{part_read, written_back}
use Rattle.memory_files.proofs.reading.read_part.Goals as goal

pub returns : goal.returns
returns c =
    let size : length c.deref_mut.result.now ≡ c.args.count = omega (arith, c.in_ok-resize.ensures.len) in
    let long : length c.get.new.out ≡ c.resize.new.self.len = omega (arith, c.in_ok-resize.ensures.len) in
    let read = part_read (λ (h : Held) (n : ℕ). operations.get (files_in h.memory) c.args.name.now c.args.offset n) c.args.memory.now (held_in c.new.result) c.deref_mut.result.now c.get.new.out c.args.count c.new.ensures size c.requires c.get.ensures.out in
    read ∙ ap (λ (xs : List ℕ). Ok xs) (written_back c.resize.new.self.items c.get.new.out c.resize.new.self.len (omega arith) long)
