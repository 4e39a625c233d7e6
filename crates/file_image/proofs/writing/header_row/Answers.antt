use Rattle.std.proofs.Common.{◌≡◌, ℕ, List, ◌++◌, take, drop, ap, ◌∙◌}
use Rattle.std.proofs.lemmas.List.{append-nil}
use Rattle.std.specs.Prelude.{replicate, codes}
use Rattle.std.specs.Int.{w32, to_le_bytes}
use Rattle.file_image.specs.Writes.{first_half, flags_in}
use Rattle.file_image.proofs.writing.header_row.Goals as goal

-- numbers over others from a place on
abbrev placed : ℕ → ℕ → List ℕ → List ℕ → List ℕ
placed at count row part = take at row ++ (part ++ drop count (drop at row))

abbrev row_of : List ℕ → List ℕ → List ℕ → List ℕ → List ℕ → List ℕ → List ℕ → List ℕ → List ℕ
row_of mark version base length at_base flags name_length name =
    placed 28 32 (placed 24 4 (placed 20 4 (placed 16 4 (placed 12 4 (placed 8 4 (placed 4 4 (placed 0 4 (replicate {A = ℕ} 60 0) mark) version) base) length) at_base) flags) name_length) name

pub returns : goal.returns
returns c =
    let h = c.args.header.now in
    let mark : c.copy_from_slice.new.self ≡ codes "DTF1" = c.copy_from_slice.ensures.after in
    let version : c.copy_from_slice-2.new.self ≡ to_le_bytes w32 h.version = c.copy_from_slice-2.ensures.after ∙ c.to_le_bytes.ensures in
    let base : c.copy_from_slice-3.new.self ≡ to_le_bytes w32 h.base = c.copy_from_slice-3.ensures.after ∙ c.to_le_bytes-2.ensures in
    let length : c.copy_from_slice-4.new.self ≡ to_le_bytes w32 h.length = c.copy_from_slice-4.ensures.after ∙ c.to_le_bytes-3.ensures in
    let at_base : c.copy_from_slice-5.new.self ≡ to_le_bytes w32 h.length_at_base = c.copy_from_slice-5.ensures.after ∙ c.to_le_bytes-4.ensures in
    let flags : c.copy_from_slice-6.new.self ≡ to_le_bytes w32 (flags_in h) = c.copy_from_slice-6.ensures.after ∙ c.to_le_bytes-5.ensures ∙ ap (to_le_bytes w32) c.flags.ensures in
    let name_length : c.copy_from_slice-7.new.self ≡ to_le_bytes w32 h.name_length = c.copy_from_slice-7.ensures.after ∙ c.to_le_bytes-6.ensures in
    let name : c.copy_from_slice-8.new.self ≡ h.name = c.copy_from_slice-8.ensures.after in
    let numbers = to_le_bytes w32 h.length_at_base ++ to_le_bytes w32 (flags_in h) ++ to_le_bytes w32 h.name_length in
    let whole : row_of (codes "DTF1") (to_le_bytes w32 h.version) (to_le_bytes w32 h.base) (to_le_bytes w32 h.length) (to_le_bytes w32 h.length_at_base) (to_le_bytes w32 (flags_in h))
    (to_le_bytes w32 h.name_length) h.name ≡ first_half h ++ (numbers ++ h.name) = ap (λ xs. first_half h ++ (numbers ++ xs)) (append-nil h.name) in
    (λ i. row_of (mark i) (version i) (base i) (length i) (at_base i) (flags i) (name_length i) (name i)) ∙ whole
