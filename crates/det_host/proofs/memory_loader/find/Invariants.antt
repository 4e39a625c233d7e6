use Rattle.std.proofs.Common.{◌≡◌, drop, map}
use Rattle.det_host.specs.Held.{file_bytes, named_file}
use Rattle.det_host.proofs.memory_loader.find.Given as goal

abbrev pub invariant-loop-file : goal.invariant-loop-file
invariant-loop-file l = file_bytes (map named_file (drop l.file-index l.files)) l.name ≡ file_bytes (map named_file l.fn.files) l.name
