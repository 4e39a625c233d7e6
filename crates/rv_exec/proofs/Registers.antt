-- x0 is written again after each register, or is not the one that is written.
use Rattle.std.proofs.Common.{◌≡◌, ℕ, zero, suc, ◌<◌, ◌≤◌, ◌==◌, List, [], ◌∷◌, length, if◌then◌else◌, slice_index, slice_set, false, refl, sym, ap, arith}
use Rattle.std.proofs.lemmas.Bool.Decides.{nat_tests}

pub zero_stays : (x : List ℕ) (r v : ℕ) → 0 < length x → slice_index x 0 ≡ 0 → slice_set (slice_set x r v) 0 0 ≡ (if r == 0 then x else slice_set x r v)
zero_stays [] r v some is = absurd (omega arith)
zero_stays (h ∷ t) zero v some is = ap (λ z. z ∷ t) (sym is)
zero_stays (h ∷ t) (suc n) v some is =
    let other : (suc n == 0) ≡ false = grind (arith, nat_tests) in
    rw other (ap (λ z. z ∷ slice_set t n v) (sym is))

pub other_written : (x : List ℕ) (r v : ℕ) → 1 ≤ r → slice_set x r v ≡ (if r == 0 then x else slice_set x r v)
other_written x zero v some = absurd (omega arith)
other_written x (suc n) v some =
    let other : (suc n == 0) ≡ false = grind (arith, nat_tests) in
    rw other refl

pub first_stays : (x : List ℕ) (r v : ℕ) → 1 ≤ r → slice_index x 0 ≡ 0 → slice_index (slice_set x r v) 0 ≡ 0
first_stays [] zero v some is = absurd (omega arith)
first_stays [] (suc n) v some is = is
first_stays (h ∷ t) zero v some is = absurd (omega arith)
first_stays (h ∷ t) (suc n) v some is = is
