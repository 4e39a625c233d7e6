use Rattle.std.proofs.Common.{◌≡◌, ◌+◌, ◌*◌, ◌-◌, map}
use Rattle.std.specs.List.{find, range_with_len}
use Rattle.image_symbols.specs.Sections.{header_size, is_symbol_table, section_at, sections_from}
use Rattle.image_symbols.proofs.sections.find_table.Given as goal

abbrev pub invariant-loop-k : goal.invariant-loop-k
invariant-loop-k l =
    (let at = l.fn.headers.at in
    find is_symbol_table (map (λ k. section_at (at + header_size * k) l.bytes) (range_with_len l.k (l.fn.headers.count - l.k)))
    ≡ find is_symbol_table (sections_from at l.fn.headers.count l.bytes))
