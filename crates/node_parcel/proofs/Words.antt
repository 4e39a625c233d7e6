-- Reading registers one after the other, as a loop does.
use Rattle.std.proofs.Common.{◌≡◌, ℕ, zero, suc, ◌+◌, ◌-◌, ◌*◌, ◌<◌, ◌≤◌, eqb, false, List, [], ◌∷◌, ◌++◌, length, take, Result, Ok, Err, refl, sym, ap, ◌∙◌, append_assoc, arith}
use Rattle.std.specs.Prelude.{slice_set}
use Rattle.std.specs.Int.{w32}
use Rattle.std.proofs.lemmas.List.{append-nil}
use Rattle.std.proofs.lemmas.Bool.Decides.{nat_tests}
use Rattle.instruction_model.specs.Outcome.{Registers, with_register}
use Rattle.parcel_model.specs.declared.error.ParcelError.{ParcelError}
use Rattle.parcel_model.specs.Reading.{◌>>=◌, number_at, words_at}
use Rattle.fault_model.specs.declared.fault.Fault.{Fault}
use Rattle.fault_model.specs.declared.fault.Fault.TheVariants as faults
use Rattle.fault_model.specs.Gives.{Fails}
use Rattle.node_parcel.specs.Meant.{registers_at}

-- pc and the registers that were read before, and those that are still read
abbrev pub words_after : ℕ → List ℕ → Result (List ℕ × List ℕ) ParcelError → Result (Registers × List ℕ) ParcelError
words_after pc front read = read >>= λ o. Ok (record { pc = pc; x = front ++ o.0 }, o.1)

regroup : (pc : ℕ) (front : List ℕ) (w : ℕ) (read : Result (List ℕ × List ℕ) ParcelError) → words_after pc front (read >>= λ o. Ok (w ∷ o.0, o.1)) ≡ words_after pc (front ++ w ∷ []) read
regroup pc front w (Ok o) = ap (λ (ws : List ℕ). Ok (record { pc = pc; x = ws }, o.1)) (sym (append_assoc front (w ∷ []) o.0))
regroup pc front w (Err d) = refl

take_set : (x : List ℕ) (k w : ℕ) → k < length x → take (k + 1) (slice_set x k w) ≡ take k x ++ w ∷ []
take_set [] k w lt = absurd (omega (arith, lt))
take_set (v ∷ x) zero w lt = refl
take_set (v ∷ x) (suc k) w lt = let e : suc k + 1 ≡ suc (k + 1) = omega arith in ap (λ (n : ℕ). take n (v ∷ slice_set x k w)) e ∙ ap (λ (t : List ℕ). v ∷ t) (take_set x k w (omega (arith, lt)))

length_set : (x : List ℕ) (k w : ℕ) → length (slice_set x k w) ≡ length x
length_set [] k w = refl
length_set (v ∷ x) zero w = refl
length_set (v ∷ x) (suc k) w = ap suc (length_set x k w)

pub long_set : (x : List ℕ) (k w : ℕ) → length x ≡ 32 → length (slice_set x k w) ≡ 32
long_set x k w len = length_set x k w ∙ len

-- a register that is not x0
pub set_word : (n v : ℕ) (r : Registers) → 1 ≤ n → with_register r n v ≡ record { pc = r.pc; x = slice_set r.x n v }
set_word n v r le = let other : eqb n 0 ≡ false = grind (arith, nat_tests, le) in rw other refl

pub begins : (at pc : ℕ) (bytes first x : List ℕ) → number_at w32 at bytes ≡ Ok (pc, first) → take 1 x ≡ 0 ∷ [] → words_after pc (take 1 x) (words_at 31 (at + 4) first) ≡ registers_at at bytes
unfolding registers_at
begins at pc bytes first x h front = ap (λ (f : List ℕ). words_after pc f (words_at 31 (at + 4) first)) front ∙ sym (rw h refl)

pub none : (at : ℕ) (bytes : List ℕ) (e : Fault ParcelError) → Fails e (number_at w32 at bytes) → Fails e (registers_at at bytes)
unfolding registers_at
none at bytes faults.Memory e = tt
none at bytes (faults.Bad d) e = rw e refl

pub goes_on : (pc k at w : ℕ) (x rest after : List ℕ) (total : Result (Registers × List ℕ) ParcelError) → k < 32 → length x ≡ 32 → number_at w32 (at + 4 * k) rest ≡ Ok (w, after)
    → words_after pc (take k x) (words_at (32 - k) (at + 4 * k) rest) ≡ total → words_after pc (take (k + 1) (slice_set x k w)) (words_at (32 - (k + 1)) (at + 4 * (k + 1)) after) ≡ total
unfolding words_at
goes_on pc k at w x rest after total lt len h so_far =
    let left : 32 - k ≡ suc (32 - (k + 1)) = omega arith in
    let place : at + 4 * k + 4 ≡ at + 4 * (k + 1) = omega arith in
    let front : take (k + 1) (slice_set x k w) ≡ take k x ++ w ∷ [] = take_set x k w (omega (arith, len)) in
    let one : words_after pc (take k x) (words_at (32 - k) (at + 4 * k) rest) ≡ words_after pc (take k x ++ w ∷ []) (words_at (32 - (k + 1)) (at + 4 * k + 4) after) =
    rw (left, h) (regroup pc (take k x) w (words_at (32 - (k + 1)) (at + 4 * k + 4) after)) in
    ap (λ (f : List ℕ). words_after pc f (words_at (32 - (k + 1)) (at + 4 * (k + 1)) after)) front ∙ ap (λ (p : ℕ). words_after pc (take k x ++ w ∷ []) (words_at (32 - (k + 1)) p after)) (sym place) ∙ sym one ∙ so_far

pub ends : (pc k at : ℕ) (e : Fault ParcelError) (x rest : List ℕ) (total : Result (Registers × List ℕ) ParcelError) → k < 32 → Fails e (number_at w32 (at + 4 * k) rest) → words_after pc (take k x) (words_at (32 - k) (at + 4 * k) rest) ≡ total → Fails e total
unfolding words_at
ends pc k at faults.Memory x rest total lt h so_far = tt
ends pc k at (faults.Bad d) x rest total lt h so_far =
    let left : 32 - k ≡ suc (32 - (k + 1)) = omega arith in
    let one : words_after pc (take k x) (words_at (32 - k) (at + 4 * k) rest) ≡ Err d = rw (left, h) refl in
    sym so_far ∙ one

take_all : (x : List ℕ) (k : ℕ) → length x ≤ k → take k x ≡ x
take_all [] zero le = refl
take_all [] (suc k) le = refl
take_all (v ∷ x) zero le = absurd (omega (arith, le))
take_all (v ∷ x) (suc k) le = ap (λ (t : List ℕ). v ∷ t) (take_all x k (omega (arith, le)))

pub is_done : (pc k at : ℕ) (x rest : List ℕ) (total : Result (Registers × List ℕ) ParcelError) → 32 ≤ k → length x ≡ 32 → words_after pc (take k x) (words_at (32 - k) (at + 4 * k) rest) ≡ total → total ≡ Ok (record { pc = pc; x = x }, rest)
unfolding words_at
is_done pc k at x rest total le len so_far =
    let left : 32 - k ≡ 0 = omega arith in
    let all : take k x ++ [] ≡ x = append-nil (take k x) ∙ take_all x k (omega (arith, len)) in
    let one : words_after pc (take k x) (words_at (32 - k) (at + 4 * k) rest) ≡ Ok (record { pc = pc; x = x }, rest) = rw left (ap (λ (ws : List ℕ). Ok (record { pc = pc; x = ws }, rest)) all) in
    sym so_far ∙ one
