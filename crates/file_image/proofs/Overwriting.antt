-- Bytes that are written one part after the other, and the header that they spell.
use Rattle.std.proofs.Common.{◌≡◌, ℕ, ◌+◌, ◌-◌, ◌≤◌, List, ◌++◌, length, take, drop, ap, sym, ◌∙◌, cond}
use Rattle.std.specs.Prelude.{codes, replicate}
use Rattle.std.specs.Int.{w32, to_le_bytes}
use Rattle.std.proofs.lemmas.List.{drop-replicate, length-take-le}
use Rattle.file_model.specs.File.{File}
use Rattle.file_model.specs.Slots.{with_bytes, header_bytes, with_padding, bytes_from}
use Rattle.file_model.proofs.Bytes.{length-bytes_from}
use Rattle.file_image.specs.declared.writing.Header.{Header}
use Rattle.file_image.specs.Writes.{Describes, first_half, second_half}

-- a part that begins further on
pub written_at : (b c : ℕ → ℕ) (at to : ℕ) (xs : List ℕ) → at ≡ to → c ≡ with_bytes b at xs → c ≡ with_bytes b to xs
written_at b c at to xs e f = f ∙ ap (λ a. with_bytes b a xs) e

-- the two halves of a header are that of its file
pub spelled : (h : Header) (f : File) → Describes h f → first_half h ++ second_half h ≡ header_bytes f
unfolding header_bytes
spelled h f d = λ i.
    codes "DTF1"
    ++ to_le_bytes w32 (d.version i)
    ++ to_le_bytes w32 (d.base i)
    ++ to_le_bytes w32 (d.length i)
    ++ to_le_bytes w32 (d.length_at_base i)
    ++ to_le_bytes w32 (cond (d.append i) 1 0 + cond (d.conflicted i) 2 0 + cond (d.deleted i) 4 0)
    ++ to_le_bytes w32 (d.name_length i)
    ++ d.name i

-- a name that was read into zeros
pub padding_read : (b : ℕ → ℕ) (at n : ℕ) (out : List ℕ) → n ≤ 32 → out ≡ bytes_from b at (length (take n (replicate {A = ℕ} 32 0))) → out ++ drop n (replicate {A = ℕ} 32 0) ≡ with_padding (bytes_from b at n)
padding_read b at n out h e =
    let l : length (take n (replicate {A = ℕ} 32 0)) ≡ n = length-take-le n (replicate {A = ℕ} 32 0) h in
    let o : out ≡ bytes_from b at n = e ∙ ap (bytes_from b at) l in
    let d : drop n (replicate {A = ℕ} 32 0) ≡ replicate (32 - n) 0 = drop-replicate n 32 0 in
    let r : replicate (32 - n) 0 ≡ replicate (32 - length (bytes_from b at n)) 0 = ap (λ m. replicate (32 - m) 0) (sym (length-bytes_from b at n)) in
    λ i. o i ++ (d ∙ r) i

-- a name that was copied into zeros
pub padding_copy : (name out : List ℕ) → out ≡ name → out ++ drop (length name) (replicate {A = ℕ} 32 0) ≡ with_padding name
padding_copy name out e = let d : drop (length name) (replicate {A = ℕ} 32 0) ≡ replicate (32 - length name) 0 = drop-replicate (length name) 32 0 in λ i. e i ++ d i
