-- Numbers that go round.
use Rattle.std.proofs.Common.{◌≡◌, ℕ, ◌+◌, ◌%◌, ◌<◌, arith}
use Rattle.ticket_lock.specs.Rule.{ahead}

pub next_ahead : (w n : ℕ) → w < 18446744073709551616 → n < 18446744073709551616 → ahead w n < 4294967296 → ahead w ((n + 1) % 18446744073709551616) ≡ ahead w n + 1
next_ahead w n a b c = omega arith

pub next_back : (w n : ℕ) → w < 18446744073709551616 → n < 18446744073709551616 → 0 < ahead w n → ahead ((w + 1) % 18446744073709551616) n + 1 ≡ ahead w n
next_back w n a b h = omega arith

pub same_ahead : (w t : ℕ) → w < 18446744073709551616 → t < 18446744073709551616 → ahead w t ≡ 0 → t ≡ w
same_ahead w t a b e = omega arith
