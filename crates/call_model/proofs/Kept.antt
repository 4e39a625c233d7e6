-- What the tests keep of Put and Get, as facts on numbers.
use Rattle.std.proofs.Common.{◌≡◌, ℕ, Bool, true, false, not, ◌&&◌, ◌||◌, ◌==◌, refl, arith, ◌≤◌, ◌+◌, ◌%◌, ◌^◌, nat_lt}
use Rattle.std.proofs.lemmas.Bool.Decides.{nat_tests}
use Rattle.call_model.specs.declared.Transfer.{Transfer}
use Rattle.call_model.specs.Options.{regs, copy, has, has_range, wrong_range, IsRange, wrong_pages, wrong_block_address}
use Rattle.call_model.specs.Accepted.{IsTransfer}

both : (a b : Bool) → (a || b) ≡ false → (a ≡ false) × (b ≡ false)
both true b h = cc
both false b h = (refl, h)

second : (a b : Bool) → a ≡ true → (a && b) ≡ false → b ≡ false
second true b e h = h
second false b e h = cc

is_zero : (n : ℕ) → not (n == 0) ≡ false → n ≡ 0
is_zero n h = grind (arith, nat_tests)

not_past : (a b : ℕ) → nat_lt a b ≡ false → b ≤ a
not_past a b h = grind (arith, nat_tests)

is_range : (a s : ℕ) → wrong_range a s ≡ false → IsRange a s
is_range a s h =
    let b = both _ _ h in
    let d = both _ _ b.1 in
    record { first = is_zero _ b.0; whole = is_zero _ d.0; within = not_past _ _ d.1 }

pub destination_range : (t : Transfer) → IsTransfer t → has_range t.options ≡ true → IsRange t.destination t.size
unfolding wrong_pages
destination_range t k e = is_range _ _ (second (has_range t.options) _ e (both _ _ k.ranges).0)

pub source_range : (t : Transfer) → IsTransfer t → has copy t.options ≡ true → IsRange t.source t.size
unfolding wrong_pages
source_range t k e = is_range _ _ (second (has copy t.options) _ e (both _ _ k.ranges).1)

pub block_place : (t : Transfer) → IsTransfer t → has regs t.options ≡ true → (t.block % 4 ≡ 0) × (t.block + 136 ≤ 2 ^ 32)
unfolding wrong_block_address
block_place t k e =
    let b = both _ _ (second (has regs t.options) _ e k.block) in
    let end : t.block ≤ 0xFFFFFF78 = not_past _ _ b.1 in
    (is_zero _ b.0, omega arith)
