-- The bytes at addresses in a row.
use Rattle.std.specs.Prelude.{◌≡◌, ℕ, zero, suc, ◌+◌, ◌-◌, ◌*◌, ◌/◌, ◌%◌, ◌<◌, ◌≤◌, List, [], ◌∷◌, ◌++◌, take, drop, replicate, length, slice_index}
use Rattle.std.proofs.Common.{refl, sym, ◌∙◌, ap, arith}
use Rattle.std.proofs.lemmas.List.{get_or-take, get_or-drop, get_or-replicate, length-replicate, length-take-le, length-drop, take_all}
use Rattle.memory_model.specs.Memory.{Memory, byte_at, bytes_from}
use Rattle.memory_model.specs.Ranges.{IsPageOf, IsZeroPage}
use Rattle.memory_model.proofs.Runs.{bytes_from-more}

pub bytes_from_is : (m : Memory) (a n : ℕ) (l : List ℕ) → length l ≡ n → ((k : ℕ) → k < n → byte_at m (a + k) ≡ slice_index l k) → l ≡ bytes_from m a n
bytes_from_is m a zero [] long same = refl
bytes_from_is m a zero (x ∷ xs) long same = absurd (omega arith)
bytes_from_is m a (suc n) [] long same = absurd (omega arith)
bytes_from_is m a (suc n) (x ∷ xs) long same =
    let first : x ≡ byte_at m a = sym (same 0 (omega arith)) ∙ ap (byte_at m) {x = a + 0} {y = a} (omega arith) in
    let rest = bytes_from_is m (a + 1) n xs (omega arith) (λ k below. ap (byte_at m) {x = a + 1 + k} {y = a + suc k} (omega arith) ∙ same (suc k) (omega arith)) in
    ap (λ y. y ∷ xs) first ∙ ap (λ l. byte_at m a ∷ l) rest

pub page_string : (m : Memory) (at count : ℕ) (bytes l old new : List ℕ) → IsPageOf m (at / 4096) bytes → at % 4096 + count ≤ 4096 → l ≡ bytes → new ≡ old ++ take (at % 4096 + count - at % 4096) (drop (at % 4096) l) → new ≡ old ++ bytes_from m at count
page_string m at count bytes l old new page within same is =
    let place = at % 4096 in
    let e : place + count - place ≡ count = omega arith in
    let long : length (take count (drop place bytes)) ≡ count = length-take-le count (drop place bytes) (omega (arith, page.sized, length-drop place bytes)) in
    is ∙ ap (λ n. old ++ take n (drop place l)) e ∙ ap (λ b. old ++ take count (drop place b)) same
    ∙ ap (λ b. old ++ b) (bytes_from_is m at count (take count (drop place bytes)) long (λ k below.
    ap (byte_at m) {x = at + k} {y = 4096 * (at / 4096) + (place + k)} (omega arith) ∙ page.byte (place + k) (omega arith)
    ∙ sym (get_or-take count (drop place bytes) k 0 below ∙ get_or-drop place bytes k 0)))

pub zero_string : (m : Memory) (at count a b : ℕ) (old new : List ℕ) → IsZeroPage m (at / 4096) → at % 4096 + count ≤ 4096 → a ≡ length old → b ≡ length old → new ≡ take (a + count) old ++ replicate (a + count - b) 0 → new ≡ old ++ bytes_from m at count
zero_string m at count a b old new page within sized sized2 is =
    let place = at % 4096 in
    let e : a + count - b ≡ count = omega arith in
    is ∙ ap (λ l. l ++ replicate (a + count - b) 0) (take_all (a + count) old (omega arith)) ∙ ap (λ n. old ++ replicate n 0) e
    ∙ ap (λ b. old ++ b) (bytes_from_is m at count (replicate count 0) (length-replicate {A = ℕ} count 0) (λ k below.
    ap (byte_at m) {x = at + k} {y = 4096 * (at / 4096) + (place + k)} (omega arith) ∙ page (place + k) (omega arith) ∙ sym (get_or-replicate {A = ℕ} count k 0 0 below)))

-- a turn of the loop that reads page by page
pub string_turn : (m : Memory) (at done part : ℕ) (old new : List ℕ) → old ≡ bytes_from m at done → new ≡ old ++ bytes_from m (at + done) part → new ≡ bytes_from m at (done + part)
string_turn m at done part old new before step = step ∙ ap (λ l. l ++ bytes_from m (at + done) part) before ∙ sym (bytes_from-more m at done part)
