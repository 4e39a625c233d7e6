use Rattle.std.proofs.Common.{◌+◌, ◌*◌, ◌∙◌, ap, Some, ℕ, arith}
use Rattle.std.specs.List.{find}
use Rattle.image_symbols.specs.Sections.{Section, header_size, is_symbol_table, section_at, sections_from}
use Rattle.image_symbols.proofs.Ranges.{begins, found_here, not_here}
use Rattle.image_symbols.proofs.Headers.{is_no_table, is_table}
use Rattle.image_symbols.proofs.sections.find_table.Goals as goal

pub loop-k-init : goal.loop-k-init
unfolding sections_from
loop-k-init c = begins is_symbol_table (λ (k : ℕ). section_at (c.args.headers.at + header_size * k) c.args.bytes.now) c.args.headers.count

pub returns-then-section-eq-SYMBOL_TABLE : goal.returns-then-section-eq-SYMBOL_TABLE
returns-then-section-eq-SYMBOL_TABLE c =
    let f = λ (k : ℕ). section_at (c.args.headers.at + header_size * k) c.args.bytes.now in
    ap (λ (x : Section). Some x) c.section_at-section.ensures
    ∙ found_here is_symbol_table f c.loop-k.k c.args.headers.count (find is_symbol_table (sections_from c.args.headers.at c.args.headers.count c.args.bytes.now)) (omega (arith, c.loop-k-test.true, c.from-k-end.ensures))
    (is_table c.section_at-section.result _ c.section_at-section.ensures c.if-section-eq-SYMBOL_TABLE.true) c.loop-k.invariant

pub loop-k-preserved : goal.loop-k-preserved
loop-k-preserved c =
    let f = λ (k : ℕ). section_at (c.args.headers.at + header_size * k) c.args.bytes.now in
    not_here is_symbol_table f c.loop-k.k c.args.headers.count (find is_symbol_table (sections_from c.args.headers.at c.args.headers.count c.args.bytes.now)) (omega (arith, c.loop-k-test.true, c.from-k-end.ensures))
    (is_no_table c.section_at-section.result _ c.section_at-section.ensures c.if-section-eq-SYMBOL_TABLE.false) c.loop-k.invariant
