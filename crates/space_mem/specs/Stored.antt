-- A memory after a store keeps the laws of a bus.
-- Our choice: a restatement for proofs.
use Rattle.std.proofs.Common.{◌≡◌, ℕ, ◌+◌, ◌/◌, ◌%◌, true, cond, ◌==◌, refl, ap, ◌∙◌}
use Rattle.memory_model.specs.declared.Width.{Width}
use Rattle.memory_model.specs.declared.Width.TheVariants.{One, Two, Four}
use Rattle.memory_model.specs.Sparse.{value_at-put}
use Rattle.memory_model.specs.Memory.{Memory, byte_at, may_fetch, may_read, may_write, with_number}
use Rattle.rv_exec.specs.Access.{stored_byte}

pub byte_stored : (m : Memory) (a : ℕ) (w : Width) (v q : ℕ) → byte_at (with_number m a w v) q ≡ stored_byte (byte_at m) a w v q
byte_stored m a One v q = value_at-put m.bytes a (v % 256) q
byte_stored m a Two v q =
    value_at-put _ (a + 1) (v / 256 % 256) q
    ∙ ap (λ n. cond (q == a + 1) (v / 256 % 256) n) (value_at-put m.bytes a (v % 256) q)
byte_stored m a Four v q =
    value_at-put _ (a + 3) (v / 16777216 % 256) q
    ∙ ap (λ n. cond (q == a + 3) (v / 16777216 % 256) n) (value_at-put _ (a + 2) (v / 65536 % 256) q
    ∙ ap (λ n. cond (q == a + 2) (v / 65536 % 256) n) (value_at-put _ (a + 1) (v / 256 % 256) q
    ∙ ap (λ n. cond (q == a + 1) (v / 256 % 256) n) (value_at-put m.bytes a (v % 256) q)))

pub may_fetch_stored : (m : Memory) (a : ℕ) (w : Width) (v q : ℕ) → may_fetch (with_number m a w v) q ≡ may_fetch m q
may_fetch_stored m a One v q = refl
may_fetch_stored m a Two v q = refl
may_fetch_stored m a Four v q = refl

pub may_read_stored : (m : Memory) (a : ℕ) (w : Width) (v q : ℕ) → may_read (with_number m a w v) q ≡ may_read m q
may_read_stored m a One v q = refl
may_read_stored m a Two v q = refl
may_read_stored m a Four v q = refl

pub may_write_stored : (m : Memory) (a : ℕ) (w : Width) (v q : ℕ) → may_write (with_number m a w v) q ≡ may_write m q
may_write_stored m a One v q = refl
may_write_stored m a Two v q = refl
may_write_stored m a Four v q = refl

pub true_is_true : true ≡ true
true_is_true = refl
