-- Slots that are owned one after the other, as bits tell.
use Rattle.std.proofs.Common.{◌≡◌, ℕ, zero, suc, ◌+◌, ◌*◌, ◌/◌, ◌%◌, ◌^◌, ◌<◌, ◌==◌, Bool, true, false, List, length, get_or, refl, sym, ◌∙◌, ap, arith, inl, inr, replicate, add-one}
use Rattle.std.proofs.Math.ListN.{set}
use Rattle.std.proofs.lemmas.Bool.{cases_eq, false≢true}
use Rattle.std.proofs.lemmas.Bool.Decides.{nat_tests}
use Rattle.std.proofs.lemmas.List.{get_or-set_same, get_or-set_other}
use Rattle.std.proofs.Math.Nat.{pow-succ', div-div-eq-div-mul}
use Rattle.file_image.specs.Spared.{spared_in}
use Rattle.space_mem.specs.Held.{Held}
use Rattle.memory_files.specs.Slots.{AreFew, OwnsParts, OwnsSlots, has_slot}

no_slot : (n k : ℕ) → get_or (replicate n false) k false ≡ false
no_slot zero k = refl
no_slot (suc n) zero = refl
no_slot (suc n) (suc k) = no_slot n k

-- to begin with, none is owned
pub none_owned : (h : Held) (n : ℕ) → OwnsSlots h n (replicate 64 false)
none_owned h n k e = absurd (false≢true (sym (no_slot 64 k) ∙ e))

-- none of them has pages that are taken
pub no_pages : (n k : ℕ) → ◌≡◌ {A = ℕ} (get_or (replicate {A = ℕ} n 0) k 0) 0
no_pages zero k = refl
no_pages (suc n) zero = refl
no_pages (suc n) (suc k) = no_pages n k

pub none_parts : (h : Held) (whole : List ℕ) → OwnsParts h (replicate 64 false) whole
none_parts h whole k e = absurd (false≢true (sym (no_slot 64 k) ∙ e))

pub all_parts : (h : Held) (slots : List Bool) (whole : List ℕ) → OwnsSlots h 16 slots → OwnsParts h slots whole
all_parts h slots whole owned k ready page low high = owned k ready page (omega (arith, low)) high

pub few_none : (whole : List ℕ) → ((k : ℕ) → get_or whole k 0 ≡ 0) → AreFew whole
few_none whole none k = omega (arith, none k)

pub headers_of : (h : Held) (slots : List Bool) → OwnsSlots h 16 slots → OwnsSlots h 1 slots
headers_of h slots owned k ready page low high = owned k ready page low (omega (arith, high))

pub none_spared : (k : ℕ) → spared_in (replicate 64 0) k ≡ 0
none_spared k = (let e = no_pages 64 k in omega (arith, e))

pub none_within : (slots : List Bool) (k : ℕ) → has_slot (replicate 64 false) k ≡ true → has_slot slots k ≡ true
none_within slots k e = absurd (false≢true (sym (no_slot 64 k) ∙ e))

pub one_owned : (old new : List Bool) (k : ℕ) → k < length old → new ≡ set old k true → has_slot new k ≡ true
one_owned old new k within is = ap (λ s. get_or s k false) is ∙ get_or-set_same old k true false within

-- the bits from slot k on
pub rest_next : (bits k rest : ℕ) → rest ≡ bits / 2 ^ k → rest / 2 ≡ bits / 2 ^ (k + 1)
rest_next bits k rest is =
    let p : 2 ^ k * 2 ≡ 2 ^ (k + 1) = (let s : 2 ^ suc k ≡ 2 * 2 ^ k = pow-succ' 2 k in let t : 2 ^ (k + 1) ≡ 2 ^ suc k = ap (λ n. 2 ^ n) (add-one k) in omega arith) in
    ap (λ n. n / 2) is ∙ div-div-eq-div-mul bits (2 ^ k) 2 ∙ ap (λ n. bits / n) p

is_set : (n : ℕ) → n ≡ 1 → (n == 1) ≡ true
is_set n e = grind (arith, nat_tests)

is_one : (n : ℕ) → (n == 1) ≡ true → n ≡ 1
is_one n e = grind (arith, nat_tests)

pub bit_here : (bits k rest : ℕ) → rest ≡ bits / 2 ^ k → (rest % 2 == 1) ≡ true → bits / 2 ^ k % 2 ≡ 1
bit_here bits k rest is set = ap (λ n. n % 2) (sym is) ∙ is_one (rest % 2) set

pub slots_next : (bits : ℕ) (old new : List Bool) (j rest : ℕ) → j < length old → rest ≡ bits / 2 ^ j → new ≡ set old j (rest % 2 == 1)
    → ((k : ℕ) → k < j → bits / 2 ^ k % 2 ≡ 1 → has_slot old k ≡ true) → (k : ℕ) → k < j + 1 → bits / 2 ^ k % 2 ≡ 1 → has_slot new k ≡ true
slots_next bits old new j rest long is new_is before k below bit = elim (cases_eq k j) [
  | inl here ↦
      ap (λ s. get_or s k false) new_is ∙ ap (λ n. get_or (set old j (rest % 2 == 1)) n false) here ∙ get_or-set_same old j (rest % 2 == 1) false long
      ∙ is_set (rest % 2) (ap (λ n. n % 2) is ∙ ap (λ n. bits / 2 ^ n % 2) (sym here) ∙ bit)
  | inr other ↦
      ap (λ s. get_or s k false) new_is ∙ get_or-set_other old j k (rest % 2 == 1) false other ∙ before k (omega (arith, other)) bit
]
