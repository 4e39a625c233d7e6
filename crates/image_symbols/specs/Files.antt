-- The symbols of a file, be it an executable file or a source.
-- Our choice: that a file which begins as executable files do is none of a source.
use Rattle.std.specs.Prelude.{◌≡◌, ℕ, false, List, MatchBool}
use Rattle.elf_model.specs.Elf.{is_elf}
use Rattle.fault_model.specs.declared.fault.Fault.{Fault}
use Rattle.fault_model.specs.declared.fault.Fault.TheVariants as faults
use Rattle.source_model.specs.declared.error.AsmError.{AsmError}
use Rattle.source_model.specs.Source.{IsRefused}
use Rattle.symbols.specs.Symbols.{IsArranged, Symbol}
use Rattle.image_symbols.specs.Entries.{elf_symbols}
use Rattle.image_symbols.specs.Labels.{AreLabelsOf}

-- those of its symbol table, or a source's labels
abbrev pub AreSymbolsOf : List ℕ → List Symbol → Type 0
AreSymbolsOf file symbols = MatchBool (is_elf file) (IsArranged (elf_symbols file) symbols) (AreLabelsOf file symbols)

-- a source that is refused with this fault
pub record HasFault (file : List ℕ) (e : AsmError) : Type 0 where
  pub source : is_elf file ≡ false
  pub refused : IsRefused file e

-- the file has this fault, or memory ran out
abbrev pub Tells : Fault AsmError → List ℕ → Type 0
Tells faults.Memory file = Unit {0}
Tells (faults.Bad e) file = HasFault file e
