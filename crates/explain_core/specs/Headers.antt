-- What is shown of a file, by its header.
-- Our choice: a restatement for proofs.
use Rattle.std.specs.Prelude.{take}
use Rattle.file_image.specs.declared.writing.Header.{Header}
use Rattle.explain_core.specs.Contents.{ShownFile}

abbrev pub shown_header : Header → ShownFile
shown_header h = record { name = take h.name_length h.name; version = h.version; length = h.length; base = h.base; append = h.append; conflicted = h.conflicted; deleted = h.deleted }
