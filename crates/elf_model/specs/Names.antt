-- The names of the kinds of fault, and a fault as text.
-- Our choice: the texts.
use Rattle.std.specs.Prelude.{ℕ, List, ◌++◌, codes, decimal}
use Rattle.elf_model.specs.declared.error.ElfError.{ElfError}
use Rattle.elf_model.specs.declared.error.ElfKind.{ElfKind}
use Rattle.elf_model.specs.declared.error.ElfKind.TheVariants.{Truncated, Magic, Class, Encoding, Version, Filetype, Machine, Flags, Entries, Count, Dynamic, Order, Size, Range, TooBig}

abbrev pub kind_name : ElfKind → List ℕ
kind_name Truncated = codes "truncated"
kind_name Magic = codes "magic"
kind_name Class = codes "class"
kind_name Encoding = codes "encoding"
kind_name Version = codes "version"
kind_name Filetype = codes "filetype"
kind_name Machine = codes "machine"
kind_name Flags = codes "flags"
kind_name Entries = codes "entries"
kind_name Count = codes "count"
kind_name Dynamic = codes "dynamic"
kind_name Order = codes "order"
kind_name Size = codes "size"
kind_name Range = codes "range"
kind_name TooBig = codes "toobig"

-- the kind's name and the offset
abbrev pub error_text : ElfError → List ℕ
error_text e = kind_name e.kind ++ codes " at " ++ decimal e.at
