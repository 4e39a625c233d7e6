-- Section headers as contracts see them.
-- Our choice: a restatement for proofs.
use Rattle.image_symbols.specs.declared.sections.Section.{Section}
use Rattle.image_symbols.specs.Sections as model

abbrev pub section_view : Section → model.Section
section_view s = record { kind = s.kind; offset = s.offset; size = s.size; link = s.link }
