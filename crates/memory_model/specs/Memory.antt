-- A memory: the bytes of 2 ^ 32 addresses, and the permissions of 2 ^ 20 pages of 4,096 bytes, each 0 where nothing else is kept.
-- Permissions stand for pages as in OSDI 2010, "Efficient System-Enforced Deterministic Parallelism", the section on the kernel
-- interface (the Perm option of Put and Get); the order of bytes in a number is that of RISC-V Unprivileged ISA, "Base Integer ISA".
-- Source: RISC-V Unprivileged ISA, "Memory": bytes by address, the least byte of a word first; RISC-V Privileged ISA, the R, W and X bits of
-- a page table entry.
-- Our choice: pages of 4,096 bytes, each with a permission, and its numbers.
use Rattle.std.specs.Prelude.{◌≡◌, ℕ, zero, suc, ◌+◌, ◌*◌, ◌/◌, ◌%◌, List, [], ◌∷◌, Option, Some, None, Bool, cond, ◌==◌, refl}
use Rattle.std.specs.Coded.{Coded, coded×, code_by}
use Rattle.memory_model.specs.Sparse.{Sparse, value_at, put, no_values, coded_sparse, same_sparse}
use Rattle.memory_model.specs.Sizes.{page_size}
use Rattle.memory_model.specs.declared.Width.{Width}
use Rattle.memory_model.specs.declared.Width.TheVariants.{One, Two, Four}

pub record Memory : Type 0 where
  pub bytes : Sparse
  pub permissions : Sparse

abbrev pub coded_memory : Coded Memory
coded_memory = code_by (Sparse × Sparse) (coded× coded_sparse coded_sparse) (λ m. (m.bytes, m.permissions)) (λ p. record { bytes = p.0; permissions = p.1 }) (λ _. refl)

-- every byte and every permission is 0
abbrev pub no_memory : Memory
no_memory = record { bytes = no_values; permissions = no_values }

abbrev pub byte_at : Memory → ℕ → ℕ
byte_at m a = value_at m.bytes a

abbrev pub permission_at : Memory → ℕ → ℕ
permission_at m page = value_at m.permissions page

abbrev pub with_byte : Memory → ℕ → ℕ → Memory
with_byte m a v = record m { bytes = put m.bytes a v }

abbrev pub with_permission : Memory → ℕ → ℕ → Memory
with_permission m page v = record m { permissions = put m.permissions page v }

-- memories are equal where all bytes and all permissions are
pub same_memory : (m n : Memory) → ((a : ℕ) → byte_at m a ≡ byte_at n a) → ((p : ℕ) → permission_at m p ≡ permission_at n p) → m ≡ n
same_memory m n bytes permissions =
    let b = same_sparse m.bytes n.bytes bytes in
    let p = same_sparse m.permissions n.permissions permissions in
    λ i. record { bytes = b i; permissions = p i }

-- bit 1 of the permission of the address's page: reading
abbrev pub may_read : Memory → ℕ → Bool
may_read m a = permission_at m (a / page_size) % 2 == 1

-- bit 2: writing
abbrev pub may_write : Memory → ℕ → Bool
may_write m a = permission_at m (a / page_size) / 2 % 2 == 1

-- bit 4: executing, which is to fetch instructions
abbrev pub may_fetch : Memory → ℕ → Bool
may_fetch m a = permission_at m (a / page_size) / 4 % 2 == 1

-- how many bytes an access has
abbrev pub width_bytes : Width → ℕ
width_bytes One = 1
width_bytes Two = 2
width_bytes Four = 4

-- the number whose bytes stand from an address on, the least first
abbrev pub number_from : (ℕ → ℕ) → Width → ℕ → ℕ
number_from byte One a = byte a
number_from byte Two a = byte a + 256 * byte (a + 1)
number_from byte Four a = byte a + 256 * byte (a + 1) + 65536 * byte (a + 2) + 16777216 * byte (a + 3)

-- a number's lowest bytes from an address on, the least first
abbrev pub with_number : Memory → ℕ → Width → ℕ → Memory
with_number m a One v = with_byte m a (v % 256)
with_number m a Two v = with_byte (with_byte m a (v % 256)) (a + 1) (v / 256 % 256)
with_number m a Four v = with_byte (with_byte (with_byte (with_byte m a (v % 256)) (a + 1) (v / 256 % 256)) (a + 2) (v / 65536 % 256)) (a + 3) (v / 16777216 % 256)

-- n bytes from an address on
abbrev pub bytes_from : Memory → ℕ → ℕ → List ℕ
bytes_from m a zero = []
bytes_from m a (suc n) = byte_at m a ∷ bytes_from m (a + 1) n

-- these bytes from an address on
abbrev pub with_bytes : Memory → ℕ → List ℕ → Memory
with_bytes m a [] = m
with_bytes m a (b ∷ bs) = with_bytes (with_byte m a b) (a + 1) bs

-- this permission of n pages
abbrev pub with_permissions : Memory → ℕ → ℕ → ℕ → Memory
with_permissions m page zero permission = m
with_permissions m page (suc n) permission = with_permissions (with_permission m page permission) (page + 1) n permission

-- the least of n addresses from a on that lacks a right
abbrev pub first_without : (ℕ → Bool) → ℕ → ℕ → Option ℕ
first_without right a zero = None
first_without right a (suc n) = cond (right a) (first_without right (a + 1) n) (Some a)
