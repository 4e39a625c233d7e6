-- Where the ranges and the register block of Put and Get stand.
use Rattle.std.proofs.Common.{◌≡◌, ℕ, ◌+◌, ◌/◌, ◌%◌, ◌≤◌, Bool, true, false, ◌||◌, refl, arith}
use Rattle.call_model.specs.declared.Transfer.{Transfer}
use Rattle.call_model.specs.Options.{regs, copy, zeroing, merging, perm, has, IsRange}
use Rattle.call_model.specs.Accepted.{IsTransfer}
use Rattle.call_model.proofs.Kept.{destination_range, source_range, block_place}

first_of : (a b : Bool) → a ≡ true → (a || b) ≡ true
first_of true b h = refl
first_of false b h = cc

second_of : (a b : Bool) → b ≡ true → (a || b) ≡ true
second_of true b h = refl
second_of false b h = h

pages_within : (a s : ℕ) → IsRange a s → a / 4096 + s / 4096 ≤ 1048576
pages_within a s r = omega (arith, r.first, r.whole, r.within)

pub copied_pages : (x : Transfer) → IsTransfer x → has copy x.options ≡ true → x.destination / 4096 + x.size / 4096 ≤ 1048576
copied_pages x k h = pages_within _ _ (destination_range x k (first_of (has copy x.options) (has zeroing x.options || (has merging x.options || has perm x.options)) h))

pub zeroed_pages : (x : Transfer) → IsTransfer x → has zeroing x.options ≡ true → x.destination / 4096 + x.size / 4096 ≤ 1048576
zeroed_pages x k h =
    pages_within _ _
    (destination_range x k (second_of (has copy x.options) (has zeroing x.options || (has merging x.options || has perm x.options)) (first_of (has zeroing x.options) (has merging x.options || has perm x.options) h)))

pub permitted_pages : (x : Transfer) → IsTransfer x → has perm x.options ≡ true → x.destination / 4096 + x.size / 4096 ≤ 1048576
permitted_pages x k h =
    pages_within _ _
    (destination_range x k
    (second_of (has copy x.options) (has zeroing x.options || (has merging x.options || has perm x.options))
    (second_of (has zeroing x.options) (has merging x.options || has perm x.options) (second_of (has merging x.options) (has perm x.options) h))))

pub merged_pages : (x : Transfer) → IsTransfer x → has merging x.options ≡ true → x.destination / 4096 + x.size / 4096 ≤ 1048576
merged_pages x k h =
    pages_within _ _
    (destination_range x k
    (second_of (has copy x.options) (has zeroing x.options || (has merging x.options || has perm x.options))
    (second_of (has zeroing x.options) (has merging x.options || has perm x.options) (first_of (has merging x.options) (has perm x.options) h))))

pub source_pages : (x : Transfer) → IsTransfer x → has copy x.options ≡ true → x.source / 4096 + x.size / 4096 ≤ 1048576
source_pages x k h = pages_within _ _ (source_range x k h)

pub block_end : (x : Transfer) → IsTransfer x → has regs x.options ≡ true → x.block + 136 ≤ 4294967296
block_end x k h = let p = block_place x k h in omega (arith, p.1)

pub block_aligned : (x : Transfer) → IsTransfer x → has regs x.options ≡ true → x.block % 4 ≡ 0
block_aligned x k h = (block_place x k h).0
