use Rattle.std.proofs.Common.{◌+◌, ◌*◌, sym, ◌∙◌, ap, Some, ℕ, arith}
use Rattle.image_symbols.specs.Sections.{header_size, section_at, sections_from}
use Rattle.image_symbols.proofs.Ranges.{none_numbered, numbered_from_zero}
use Rattle.image_symbols.proofs.sections.numbered.Goals as goal

pub returns-then-number-from : goal.returns-then-number-from
unfolding sections_from
returns-then-number-from c = sym (none_numbered (λ (k : ℕ). section_at (c.args.headers.at + header_size * k) c.args.bytes.now) 0 c.args.headers.count c.args.number (omega (arith, c.from.ensures)))

pub returns : goal.returns
unfolding sections_from
returns c =
    ap (λ x. Some x) c.section_at.ensures ∙ sym (numbered_from_zero (λ (k : ℕ). section_at (c.args.headers.at + header_size * k) c.args.bytes.now) c.args.headers.count c.args.number (omega (arith, c.from.ensures)))
