-- Bytes that are read or written one run after the other.
use Rattle.std.proofs.Common.{◌≡◌, ℕ, ◌+◌, ◌-◌, ◌≤◌, List, [], ◌∷◌, ◌++◌, length, take, drop, refl, ap, sym, ◌∙◌, arith}
use Rattle.std.proofs.lemmas.List.{length-take-le, take-append-drop}
use Rattle.std.proofs.Math.Seq.{take-add}
use Rattle.std.specs.Int.{w32, from_le_bytes}
use Rattle.file_model.specs.Slots.{bytes_from, number_at, with_bytes}
use Rattle.file_model.proofs.Bytes.{with_bytes_twice, take-bytes_from, drop-bytes_from}

-- one run more of a part
pub run_written : (b c d : ℕ → ℕ) (at done count : ℕ) (part run : List ℕ) → done ≤ length part → run ≡ take count (drop done part)
    → ((a : ℕ) → c a ≡ with_bytes b at (take done part) a) → ((a : ℕ) → d a ≡ with_bytes c (at + done) run a) → (a : ℕ) → d a ≡ with_bytes b at (take (done + count) part) a
run_written b c d at done count part run within is before after a =
    let l : at + done ≡ at + length (take done part) = omega (arith, length-take-le done part within) in
    let same : c ≡ with_bytes b at (take done part) = λ i x. before x i in
    after a ∙ ap (λ (x : ℕ → ℕ). with_bytes x (at + done) run a) same
    ∙ ap (λ o. with_bytes (with_bytes b at (take done part)) o run a) l
    ∙ ap (λ (x : ℕ → ℕ). x a) (with_bytes_twice b at (take done part) run)
    ∙ ap (λ xs. with_bytes b at (take done part ++ xs) a) is
    ∙ ap (λ xs. with_bytes b at xs a) (sym (take-add done count part))

pub row_none : (b : ℕ → ℕ) (at : ℕ) → [] ≡ bytes_from b at 0
unfolding bytes_from
row_none b at = refl

-- one run more of a row
pub row_next : (b : ℕ → ℕ) (at done count : ℕ) → bytes_from b at done ++ bytes_from b (at + done) count ≡ bytes_from b at (done + count)
row_next b at done count =
    let e : done + count - done ≡ count = omega arith in
    let first : take done (bytes_from b at (done + count)) ≡ bytes_from b at done = take-bytes_from b at (done + count) done (omega arith) in
    let rest : drop done (bytes_from b at (done + count)) ≡ bytes_from b (at + done) count = drop-bytes_from b at (done + count) done ∙ ap (bytes_from b (at + done)) e in
    sym (λ i. first i ++ rest i) ∙ take-append-drop done (bytes_from b at (done + count))

-- a run of a row
pub run_of_row : (b : ℕ → ℕ) (at n done count : ℕ) → done + count ≤ n → bytes_from b (at + done) count ≡ take count (drop done (bytes_from b at n))
run_of_row b at n done count within = sym (ap (take count) (drop-bytes_from b at n done) ∙ take-bytes_from b (at + done) (n - done) count (omega arith))

-- the number of four bytes in a row
pub number_of_row : (b : ℕ → ℕ) (at : ℕ) → from_le_bytes w32 (bytes_from b at 4) ≡ number_at b at
unfolding bytes_from
number_of_row b at =
    let two : at + 1 + 1 ≡ at + 2 = omega arith in
    let three : at + 1 + 1 + 1 ≡ at + 3 = omega arith in
    λ i. from_le_bytes w32 (b at ∷ b (at + 1) ∷ b (two i) ∷ b (three i) ∷ [])
