-- Changes of a memory that look at no page beside a range and change none: made in another memory that is like it there, and taken over.
use Rattle.std.specs.Prelude.{◌≡◌, ℕ, ◌+◌, ◌-◌, ◌*◌, ◌<◌, ◌≤◌, ◌⊎◌, Bool, true, false, List, length, if◌then◌else◌}
use Rattle.std.proofs.Common.{refl, sym, ◌∙◌, ap, arith, inl, inr}
use Rattle.std.proofs.lemmas.Bool.{cases_lt}
use Rattle.memory_model.specs.Memory.{Memory, byte_at, permission_at, same_memory, with_bytes, with_permissions}
use Rattle.memory_model.specs.Ranges.{with_copies, with_zeros}
use Rattle.memory_model.proofs.Rows.{value_at-row_key, value_at-row_before, value_at-row_after}
use Rattle.memory_model.proofs.Runs.{byte_at-with_bytes, byte_at-with_bytes_out, permission_at-with_bytes, byte_at-with_permissions, permission_at-with_permissions, permission_at-with_permissions_out}

-- the pages of a range are the same in two memories
pub record IsAlike (first count : ℕ) (m n : Memory) : Type 0 where
  pub byte : (a : ℕ) → 4096 * first ≤ a → a < 4096 * (first + count) → byte_at m a ≡ byte_at n a
  pub permission : (p : ℕ) → first ≤ p → p < first + count → permission_at m p ≡ permission_at n p

-- all other pages are
pub record IsAlikeBeside (first count : ℕ) (m n : Memory) : Type 0 where
  pub byte : (a : ℕ) → (a < 4096 * first) ⊎ (4096 * (first + count) ≤ a) → byte_at m a ≡ byte_at n a
  pub permission : (p : ℕ) → (p < first) ⊎ (first + count ≤ p) → permission_at m p ≡ permission_at n p

pub beside_same : (first count : ℕ) (m n : Memory) → m ≡ n → IsAlikeBeside first count m n
beside_same first count m n same = record { byte = λ a out. ap (λ k. byte_at k a) same; permission = λ p out. ap (λ k. permission_at k p) same }

pub beside_then : (first count : ℕ) (l m n : Memory) → IsAlikeBeside first count l m → IsAlikeBeside first count m n → IsAlikeBeside first count l n
beside_then first count l m n one other = record { byte = λ a out. one.byte a out ∙ other.byte a out; permission = λ p out. one.permission p out ∙ other.permission p out }

-- an address of a range of pages, or one beside it
cases_range : (from to a : ℕ) → ((from ≤ a) × (a < to)) ⊎ ((a < from) ⊎ (to ≤ a))
cases_range from to a = elim (cases_lt a from) [
  | inl before ↦ inr (inl before)
  | inr above ↦ elim (cases_lt a to) [ inl below ↦ inl (above, below) | inr after ↦ inr (inr after) ]
]

zero_here : (m : Memory) (f c a : ℕ) → 4096 * f ≤ a → a < 4096 * (f + c) → byte_at (with_zeros m f c) a ≡ 0
zero_here m f c a from to = value_at-row_key m.bytes (4096 * f) (λ _. 0) (4096 * c) a from (omega arith)

zero_out : (m : Memory) (f c a : ℕ) → (a < 4096 * f) ⊎ (4096 * (f + c) ≤ a) → byte_at (with_zeros m f c) a ≡ byte_at m a
zero_out m f c a (inl before) = value_at-row_before m.bytes (4096 * f) (λ _. 0) (4096 * c) a before
zero_out m f c a (inr after) = value_at-row_after m.bytes (4096 * f) (λ _. 0) (4096 * c) a (omega arith)

pub zeros_alike : (first count f c : ℕ) (m n : Memory) → IsAlike first count m n → IsAlike first count (with_zeros m f c) (with_zeros n f c)
zeros_alike first count f c m n like = record {
  byte = λ a above below. elim (cases_range (4096 * f) (4096 * (f + c)) a) [
    | inl here ↦ zero_here m f c a here.0 here.1 ∙ sym (zero_here n f c a here.0 here.1)
    | inr out ↦ zero_out m f c a out ∙ like.byte a above below ∙ sym (zero_out n f c a out)
  ];
  permission = like.permission;
}

pub zeros_beside : (first count f c : ℕ) (m : Memory) → first ≤ f → f + c ≤ first + count → IsAlikeBeside first count (with_zeros m f c) m
zeros_beside first count f c m low high = record {
  byte = λ a out. zero_out m f c a (elim out [ inl before ↦ inl (omega arith) | inr after ↦ inr (omega arith) ]);
  permission = λ p out. refl;
}

copy_byte : (m s : Memory) (from f c a : ℕ) → 4096 * f ≤ a → a < 4096 * (f + c) → byte_at (with_copies m s from f c) a ≡ byte_at s (4096 * from + (a - 4096 * f))
copy_byte m s from f c a above below = value_at-row_key m.bytes (4096 * f) (λ k. byte_at s (4096 * from + k)) (4096 * c) a above (omega arith)

copy_byte_out : (m s : Memory) (from f c a : ℕ) → (a < 4096 * f) ⊎ (4096 * (f + c) ≤ a) → byte_at (with_copies m s from f c) a ≡ byte_at m a
copy_byte_out m s from f c a (inl before) = value_at-row_before m.bytes (4096 * f) (λ k. byte_at s (4096 * from + k)) (4096 * c) a before
copy_byte_out m s from f c a (inr after) = value_at-row_after m.bytes (4096 * f) (λ k. byte_at s (4096 * from + k)) (4096 * c) a (omega arith)

copy_permission : (m s : Memory) (from f c p : ℕ) → f ≤ p → p < f + c → permission_at (with_copies m s from f c) p ≡ permission_at s (from + (p - f))
copy_permission m s from f c p above below = value_at-row_key m.permissions f (λ k. permission_at s (from + k)) c p above below

copy_permission_out : (m s : Memory) (from f c p : ℕ) → (p < f) ⊎ (f + c ≤ p) → permission_at (with_copies m s from f c) p ≡ permission_at m p
copy_permission_out m s from f c p (inl before) = value_at-row_before m.permissions f (λ k. permission_at s (from + k)) c p before
copy_permission_out m s from f c p (inr after) = value_at-row_after m.permissions f (λ k. permission_at s (from + k)) c p after

pub copies_alike : (first count : ℕ) (s : Memory) (from f c : ℕ) (m n : Memory) → IsAlike first count m n → IsAlike first count (with_copies m s from f c) (with_copies n s from f c)
copies_alike first count s from f c m n like = record {
  byte = λ a above below. elim (cases_range (4096 * f) (4096 * (f + c)) a) [
    | inl here ↦ copy_byte m s from f c a here.0 here.1 ∙ sym (copy_byte n s from f c a here.0 here.1)
    | inr out ↦ copy_byte_out m s from f c a out ∙ like.byte a above below ∙ sym (copy_byte_out n s from f c a out)
  ];
  permission = λ p above below. elim (cases_range f (f + c) p) [
    | inl here ↦ copy_permission m s from f c p here.0 here.1 ∙ sym (copy_permission n s from f c p here.0 here.1)
    | inr out ↦ copy_permission_out m s from f c p out ∙ like.permission p above below ∙ sym (copy_permission_out n s from f c p out)
  ];
}

pub copies_beside : (first count : ℕ) (s : Memory) (from f c : ℕ) (m : Memory) → first ≤ f → f + c ≤ first + count → IsAlikeBeside first count (with_copies m s from f c) m
copies_beside first count s from f c m low high = record {
  byte = λ a out. copy_byte_out m s from f c a (elim out [ inl before ↦ inl (omega arith) | inr after ↦ inr (omega arith) ]);
  permission = λ p out. copy_permission_out m s from f c p (elim out [ inl before ↦ inl (omega arith) | inr after ↦ inr (omega arith) ]);
}

right_out : (m : Memory) (f c r p : ℕ) → (p < f) ⊎ (f + c ≤ p) → permission_at (with_permissions m f c r) p ≡ permission_at m p
right_out m f c r p (inl before) = permission_at-with_permissions_out m f c r p (λ le. absurd (omega arith))
right_out m f c r p (inr after) = permission_at-with_permissions_out m f c r p (λ le. after)

pub permissions_alike : (first count f c r : ℕ) (m n : Memory) → IsAlike first count m n → IsAlike first count (with_permissions m f c r) (with_permissions n f c r)
permissions_alike first count f c r m n like = record {
  byte = λ a above below. byte_at-with_permissions m f c r a ∙ like.byte a above below ∙ sym (byte_at-with_permissions n f c r a);
  permission = λ p above below. elim (cases_range f (f + c) p) [
    | inl here ↦ permission_at-with_permissions m f c r p here.0 here.1 ∙ sym (permission_at-with_permissions n f c r p here.0 here.1)
    | inr out ↦ right_out m f c r p out ∙ like.permission p above below ∙ sym (right_out n f c r p out)
  ];
}

pub permissions_beside : (first count f c r : ℕ) (m : Memory) → first ≤ f → f + c ≤ first + count → IsAlikeBeside first count (with_permissions m f c r) m
permissions_beside first count f c r m low high = record {
  byte = λ a out. byte_at-with_permissions m f c r a;
  permission = λ p out. right_out m f c r p (elim out [ inl before ↦ inl (omega arith) | inr after ↦ inr (omega arith) ]);
}

bytes_out : (m : Memory) (at : ℕ) (bs : List ℕ) (a : ℕ) → (a < at) ⊎ (at + length bs ≤ a) → byte_at (with_bytes m at bs) a ≡ byte_at m a
bytes_out m at bs a (inl before) = byte_at-with_bytes_out m at bs a (λ le. absurd (omega arith))
bytes_out m at bs a (inr after) = byte_at-with_bytes_out m at bs a (λ le. after)

byte_here : (m n : Memory) (at : ℕ) (bs : List ℕ) (a : ℕ) → at ≤ a → a < at + length bs → byte_at (with_bytes m at bs) a ≡ byte_at (with_bytes n at bs) a
byte_here m n at bs a above below =
    let k : ℕ = a - at in
    let e : a ≡ at + k = omega arith in
    ap (byte_at (with_bytes m at bs)) e ∙ byte_at-with_bytes m at bs k (omega arith) ∙ sym (byte_at-with_bytes n at bs k (omega arith)) ∙ ap (byte_at (with_bytes n at bs)) (sym e)

pub bytes_alike : (first count at : ℕ) (bs : List ℕ) (m n : Memory) → IsAlike first count m n → IsAlike first count (with_bytes m at bs) (with_bytes n at bs)
bytes_alike first count at bs m n like = record {
  byte = λ a above below. elim (cases_range at (at + length bs) a) [
    | inl here ↦ byte_here m n at bs a here.0 here.1
    | inr out ↦ bytes_out m at bs a out ∙ like.byte a above below ∙ sym (bytes_out n at bs a out)
  ];
  permission = λ p above below. permission_at-with_bytes m at bs p ∙ like.permission p above below ∙ sym (permission_at-with_bytes n at bs p);
}

pub bytes_beside : (first count at : ℕ) (bs : List ℕ) (m : Memory) → 4096 * first ≤ at → at + length bs ≤ 4096 * (first + count) → IsAlikeBeside first count (with_bytes m at bs) m
bytes_beside first count at bs m low high = record {
  byte = λ a out. bytes_out m at bs a (elim out [ inl before ↦ inl (omega arith) | inr after ↦ inr (omega arith) ]);
  permission = λ p out. permission_at-with_bytes m at bs p;
}

-- pages that were taken over from a memory
pub copied_alike : (first count : ℕ) (m s : Memory) → IsAlike first count (with_copies m s first first count) s
copied_alike first count m s = record {
  byte = λ a above below. copy_byte m s first first count a above below ∙ ap (byte_at s) {x = 4096 * first + (a - 4096 * first)} {y = a} (omega arith);
  permission = λ p above below. copy_permission m s first first count p above below ∙ ap (permission_at s) {x = first + (p - first)} {y = p} (omega arith);
}

-- what was made of the range elsewhere is taken over
pub taken_over : (first count : ℕ) (m made r : Memory) → IsAlike first count made r → IsAlikeBeside first count r m → with_copies m made first first count ≡ r
taken_over first count m made r like beside = same_memory (with_copies m made first first count) r
    (λ a. elim (cases_range (4096 * first) (4096 * (first + count)) a) [
      | inl here ↦ (copied_alike first count m made).byte a here.0 here.1 ∙ like.byte a here.0 here.1
      | inr out ↦ copy_byte_out m made first first count a out ∙ sym (beside.byte a out)
    ])
    (λ p. elim (cases_range first (first + count) p) [
      | inl here ↦ (copied_alike first count m made).permission p here.0 here.1 ∙ like.permission p here.0 here.1
      | inr out ↦ copy_permission_out m made first first count p out ∙ sym (beside.permission p out)
    ])

-- one of two memories, by a truth value
pub if_alike : (b : Bool) (first count : ℕ) (m n x y : Memory) → IsAlike first count m n → IsAlike first count x y → IsAlike first count (if b then x else m) (if b then y else n)
if_alike true first count m n x y plain changed = changed
if_alike false first count m n x y plain changed = plain

pub if_beside : (b : Bool) (first count : ℕ) (m x l : Memory) → IsAlikeBeside first count m l → (b ≡ true → IsAlikeBeside first count x l) → IsAlikeBeside first count (if b then x else m) l
if_beside true first count m x l plain changed = changed refl
if_beside false first count m x l plain changed = plain
