-- Whether a section is a symbol table, by its header as the code has it.
use Rattle.std.proofs.Common.{◌≡◌, ◌≢◌, true, false, sym, ◌∙◌, ap}
use Rattle.std.proofs.lemmas.Bool.{eq-eqb, ne_eqb}
use Rattle.image_symbols.specs.declared.sections.Section.{Section}
use Rattle.image_symbols.specs.Sections as model
use Rattle.image_symbols.specs.Sections.{is_symbol_table}
use Rattle.image_symbols.specs.View.{section_view}

pub is_table : (s : Section) (m : model.Section) → section_view s ≡ m → s.kind ≡ 2 → is_symbol_table m ≡ true
is_table s m e is = ap is_symbol_table (sym e) ∙ eq-eqb s.kind 2 is

pub is_no_table : (s : Section) (m : model.Section) → section_view s ≡ m → s.kind ≢ 2 → is_symbol_table m ≡ false
is_no_table s m e other = ap is_symbol_table (sym e) ∙ ne_eqb s.kind 2 other
