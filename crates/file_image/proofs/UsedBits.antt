-- The bits of the slots in use, from the last one down.
use Rattle.std.proofs.Common.{◌≡◌, ℕ, zero, suc, ◌+◌, ◌-◌, ◌*◌, ◌^◌, ◌<◌, ◌≤◌, Bool, true, false, cond, List, ◌∷◌, map, refl, ap, sym, ◌∙◌, arith, Some, None}
use Rattle.std.proofs.Math.Pow.{pow_mono}
use Rattle.std.proofs.Math.Nat.{pow-succ'}
use Rattle.file_model.specs.File.{File}
use Rattle.file_model.specs.Slots.{slot_at, slots_from, file_at, is_in_use, slot_start}
use Rattle.file_model.specs.Reconcile.{is_used, bits_of}
use Rattle.file_model.proofs.Lookups.{slots_next}

used_flag : (t : Bool) (f : File) → is_used (cond t (Some f) None) ≡ t
used_flag true f = refl
used_flag false f = refl

pub used_slot : (b : ℕ → ℕ) (k : ℕ) → is_used (slot_at b k) ≡ is_in_use b (slot_start k)
unfolding slot_at
used_slot b k = used_flag (is_in_use b (slot_start k)) (file_at b (slot_start k))

pub no_bits : (b : ℕ → ℕ) (k : ℕ) → 0 ≡ bits_of (map is_used (slots_from b k 0))
unfolding bits_of slots_from
no_bits b k = refl

pub bits_first : (t : Bool) (ts : List Bool) → bits_of (t ∷ ts) ≡ cond t 1 0 + 2 * bits_of ts
unfolding bits_of
bits_first t ts = refl

pub used_next : (b : ℕ → ℕ) (k s n : ℕ) → s ≡ k + 1 → k < n → bits_of (map is_used (slots_from b k (n - k))) ≡ cond (is_in_use b (slot_start k)) 1 0 + 2 * bits_of (map is_used (slots_from b s (n - s)))
used_next b k s n e h =
    ap (λ xs. bits_of (map is_used xs)) (slots_next b k n h)
    ∙ bits_first (is_used (slot_at b k)) (map is_used (slots_from b (k + 1) (n - (k + 1))))
    ∙ ap (λ t. cond t 1 0 + 2 * bits_of (map is_used (slots_from b (k + 1) (n - (k + 1))))) (used_slot b k)
    ∙ ap (λ j. cond (is_in_use b (slot_start k)) 1 0 + 2 * bits_of (map is_used (slots_from b j (n - j)))) (sym e)

pub bit_below : (t : Bool) → cond t 1 0 ≤ 1
bit_below true = omega arith
bit_below false = omega arith

used_below : (b : ℕ → ℕ) (k n : ℕ) → bits_of (map is_used (slots_from b k n)) < 2 ^ n
unfolding bits_of slots_from
used_below b k zero = omega arith
used_below b k (suc n) = let p : 2 ^ suc n ≡ 2 * 2 ^ n = pow-succ' 2 n in omega (arith, used_below b (k + 1) n, bit_below (is_used (slot_at b k)), p)

-- fewer than 64 bits fit below the last one
pub used_fit : (b : ℕ → ℕ) (k n : ℕ) → n ≤ 63 → bits_of (map is_used (slots_from b k n)) < 2 ^ 63
used_fit b k n h = let p : 2 ^ n ≤ 2 ^ 63 = pow_mono h in omega (arith, used_below b k n, p)
