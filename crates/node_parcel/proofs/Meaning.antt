-- Reading a parcel and telling what it means is reading what each field means.
use Rattle.std.proofs.Common.{◌≡◌, ℕ, List, [], ◌∷◌, Option, None, Result, Ok, Err, refl, sym}
use Rattle.std.specs.Int.{w32}
use Rattle.memory_model.specs.Memory.{Memory}
use Rattle.instruction_model.specs.Outcome.{Registers}
use Rattle.call_model.specs.declared.Block.{Block}
use Rattle.space_model.specs.Space.{Top}
use Rattle.parcel_model.specs.declared.error.ParcelError.{ParcelError}
use Rattle.parcel_model.specs.Parcel.{Entry, Parcel, memory_of, snapshot_of, status_in, top_in}
use Rattle.parcel_model.specs.Reading.{◌>>=◌, number_at, magic_at, words_at, cause_at, value_at, block_at, flags_at, limit_at, used_at, memory_at, snapshot_at, ended, parcel_at, top_at}
use Rattle.node_parcel.specs.Meant.{registers_at, end_at, memory_in, snapshot_in, read_top}

abbrev means : List (List ℕ) → Parcel → Result Top ParcelError
means known p = Ok (top_in known p)

-- ---- the end

ended_means : (known : List (List ℕ)) (p : Parcel) (at : ℕ) (bytes : List ℕ) → (ended p at bytes >>= means known) ≡ (end_at at bytes >>= λ e. Ok (top_in known p))
ended_means known p at [] = refl
ended_means known p at (b ∷ bytes) = refl

abbrev parcel : Block → Option ℕ → ℕ → ℕ → List Entry → Option (List Entry) → Parcel
parcel block limit fuel used memory snapshot = record { block = block; limit = limit; fuel = fuel; used = used; memory = memory; snapshot = snapshot }

-- a top of these fields
abbrev top : Registers → ℕ → ℕ → Option ℕ → ℕ → ℕ → Memory → Option Memory → Top
top r c v l n u m s = record { registers = r; memory = m; snapshot = s; limit = l; fuel = n; used = u; status = status_in c v; devices = None }

-- ---- the memories

abbrev snapshot_then : List (List ℕ) → Block → Option ℕ → ℕ → ℕ → List Entry → Result (Option (List Entry) × ℕ × List ℕ) ParcelError → Result Parcel ParcelError
snapshot_then known b l n u es r = r >>= λ s. ended (parcel b l n u es s.0) s.1 s.2

abbrev snapshot_meant : Registers → ℕ → ℕ → Option ℕ → ℕ → ℕ → Memory → Result (Option Memory × ℕ × List ℕ) ParcelError → Result Top ParcelError
snapshot_meant r c v l n u m s = s >>= λ s. end_at s.1 s.2 >>= λ e. Ok (top r c v l n u m s.0)

registers_of : Block → Registers
registers_of b = record { pc = b.pc; x = 0 ∷ b.x }

snapshot_means : (known : List (List ℕ)) (b : Block) (l : Option ℕ) (n u : ℕ) (es : List Entry) (r : Result (Option (List Entry) × ℕ × List ℕ) ParcelError)
    → (snapshot_then known b l n u es r >>= means known) ≡ snapshot_meant (registers_of b) b.cause b.value l n u (memory_of known es) (r >>= λ s. Ok (snapshot_of known s.0, s.1, s.2))
unfolding registers_of
snapshot_means known b l n u es (Err d) = refl
snapshot_means known b l n u es (Ok s) = ended_means known (parcel b l n u es s.0) s.1 s.2

abbrev memory_then : List (List ℕ) → ℕ → Block → Option ℕ → ℕ → ℕ → Result (List Entry × ℕ × List ℕ) ParcelError → Result Parcel ParcelError
memory_then known f b l n u r = r >>= λ o. snapshot_then known b l n u o.0 (snapshot_at known f o.1 o.2)

abbrev memory_meant : List (List ℕ) → ℕ → Registers → ℕ → ℕ → Option ℕ → ℕ → ℕ → Result (Memory × ℕ × List ℕ) ParcelError → Result Top ParcelError
memory_meant known f r c v l n u m = m >>= λ o. snapshot_meant r c v l n u o.0 (snapshot_in known f o.1 o.2)

memory_means : (known : List (List ℕ)) (f : ℕ) (b : Block) (l : Option ℕ) (n u : ℕ) (r : Result (List Entry × ℕ × List ℕ) ParcelError)
    → (memory_then known f b l n u r >>= means known) ≡ memory_meant known f (registers_of b) b.cause b.value l n u (r >>= λ o. Ok (memory_of known o.0, o.1, o.2))
unfolding snapshot_in
memory_means known f b l n u (Err d) = refl
memory_means known f b l n u (Ok o) = snapshot_means known b l n u o.0 (snapshot_at known f o.1 o.2)

-- ---- flags, limit, fuel and used

abbrev body_then : List (List ℕ) → Block → List ℕ → Result Parcel ParcelError
body_then known b bytes = flags_at 140 bytes >>= λ f. limit_at f.0 141 f.1 >>= λ l. number_at w32 145 l.1 >>= λ n. used_at n.0 149 n.1 >>= λ u. memory_then known f.0 b l.0 n.0 u.0 (memory_at known 153 u.1)

abbrev body_meant : List (List ℕ) → Registers → ℕ → ℕ → List ℕ → Result Top ParcelError
body_meant known r c v bytes = flags_at 140 bytes >>= λ f. limit_at f.0 141 f.1 >>= λ l. number_at w32 145 l.1 >>= λ n. used_at n.0 149 n.1 >>= λ u. memory_meant known f.0 r c v l.0 n.0 u.0 (memory_in known 153 u.1)

used_means : (known : List (List ℕ)) (b : Block) (f : ℕ) (l : Option ℕ) (n : ℕ) (r : Result (ℕ × List ℕ) ParcelError) → ((r >>= λ u. memory_then known f b l n u.0 (memory_at known 153 u.1)) >>= means known) ≡ (r >>= λ u. memory_meant known f (registers_of b) b.cause b.value l n u.0 (memory_in known 153 u.1))
unfolding memory_in
used_means known b f l n (Err d) = refl
used_means known b f l n (Ok u) = memory_means known f b l n u.0 (memory_at known 153 u.1)

fuel_means : (known : List (List ℕ)) (b : Block) (f : ℕ) (l : Option ℕ) (r : Result (ℕ × List ℕ) ParcelError)
    → ((r >>= λ n. used_at n.0 149 n.1 >>= λ u. memory_then known f b l n.0 u.0 (memory_at known 153 u.1)) >>= means known) ≡ (r >>= λ n. used_at n.0 149 n.1 >>= λ u. memory_meant known f (registers_of b) b.cause b.value l n.0 u.0 (memory_in known 153 u.1))
fuel_means known b f l (Err d) = refl
fuel_means known b f l (Ok n) = used_means known b f l n.0 (used_at n.0 149 n.1)

limit_means : (known : List (List ℕ)) (b : Block) (f : ℕ) (r : Result (Option ℕ × List ℕ) ParcelError)
    → ((r >>= λ l. number_at w32 145 l.1 >>= λ n. used_at n.0 149 n.1 >>= λ u. memory_then known f b l.0 n.0 u.0 (memory_at known 153 u.1)) >>= means known)
    ≡ (r >>= λ l. number_at w32 145 l.1 >>= λ n. used_at n.0 149 n.1 >>= λ u. memory_meant known f (registers_of b) b.cause b.value l.0 n.0 u.0 (memory_in known 153 u.1))
limit_means known b f (Err d) = refl
limit_means known b f (Ok l) = fuel_means known b f l.0 (number_at w32 145 l.1)

flags_means : (known : List (List ℕ)) (b : Block) (r : Result (ℕ × List ℕ) ParcelError)
    → ((r >>= λ f. limit_at f.0 141 f.1 >>= λ l. number_at w32 145 l.1 >>= λ n. used_at n.0 149 n.1 >>= λ u. memory_then known f.0 b l.0 n.0 u.0 (memory_at known 153 u.1)) >>= means known)
    ≡ (r >>= λ f. limit_at f.0 141 f.1 >>= λ l. number_at w32 145 l.1 >>= λ n. used_at n.0 149 n.1 >>= λ u. memory_meant known f.0 (registers_of b) b.cause b.value l.0 n.0 u.0 (memory_in known 153 u.1))
flags_means known b (Err d) = refl
flags_means known b (Ok f) = limit_means known b f.0 (limit_at f.0 141 f.1)

body_means : (known : List (List ℕ)) (b : Block) (bytes : List ℕ) → (body_then known b bytes >>= means known) ≡ body_meant known (registers_of b) b.cause b.value bytes
body_means known b bytes = flags_means known b (flags_at 140 bytes)

-- ---- the register block

abbrev block : ℕ → List ℕ → ℕ → ℕ → Block
block pc x c v = record { pc = pc; x = x; cause = c; value = v }

abbrev registers : ℕ → List ℕ → Registers
registers pc x = record { pc = pc; x = 0 ∷ x }

abbrev block_ok : Block → List ℕ → Result (Block × List ℕ) ParcelError
block_ok b rest = Ok (b, rest)

abbrev registers_ok : Registers → List ℕ → Result (Registers × List ℕ) ParcelError
registers_ok r rest = Ok (r, rest)

value_means : (known : List (List ℕ)) (pc : ℕ) (x : List ℕ) (c : ℕ) (r : Result (ℕ × List ℕ) ParcelError)
    → (((r >>= λ v. block_ok (block pc x c v.0) v.1) >>= λ b. body_then known b.0 b.1) >>= means known) ≡ (r >>= λ v. body_meant known (registers pc x) c v.0 v.1)
unfolding registers_of
value_means known pc x c (Err d) = refl
value_means known pc x c (Ok v) = body_means known (block pc x c v.0) v.1

cause_means : (known : List (List ℕ)) (pc : ℕ) (x : List ℕ) (r : Result (ℕ × List ℕ) ParcelError)
    → (((r >>= λ c. value_at c.0 136 c.1 >>= λ v. block_ok (block pc x c.0 v.0) v.1) >>= λ b. body_then known b.0 b.1) >>= means known) ≡ (r >>= λ c. value_at c.0 136 c.1 >>= λ v. body_meant known (registers pc x) c.0 v.0 v.1)
cause_means known pc x (Err d) = refl
cause_means known pc x (Ok c) = value_means known pc x c.0 (value_at c.0 136 c.1)

abbrev stop_meant : List (List ℕ) → Registers × List ℕ → Result Top ParcelError
stop_meant known r = cause_at 132 r.1 >>= λ c. value_at c.0 136 c.1 >>= λ v. body_meant known r.0 c.0 v.0 v.1

words_means : (known : List (List ℕ)) (pc : ℕ) (r : Result (List ℕ × List ℕ) ParcelError)
    → (((r >>= λ x. cause_at 132 x.1 >>= λ c. value_at c.0 136 c.1 >>= λ v. block_ok (block pc x.0 c.0 v.0) v.1) >>= λ b. body_then known b.0 b.1) >>= means known) ≡ ((r >>= λ x. registers_ok (registers pc x.0) x.1) >>= stop_meant known)
words_means known pc (Err d) = refl
words_means known pc (Ok x) = cause_means known pc x.0 (cause_at 132 x.1)

pc_means : (known : List (List ℕ)) (r : Result (ℕ × List ℕ) ParcelError)
    → (((r >>= λ pc. words_at 31 8 pc.1 >>= λ x. cause_at 132 x.1 >>= λ c. value_at c.0 136 c.1 >>= λ v. block_ok (block pc.0 x.0 c.0 v.0) v.1) >>= λ b. body_then known b.0 b.1) >>= means known)
    ≡ ((r >>= λ pc. words_at 31 8 pc.1 >>= λ x. registers_ok (registers pc.0 x.0) x.1) >>= stop_meant known)
pc_means known (Err d) = refl
pc_means known (Ok pc) = words_means known pc.0 (words_at 31 8 pc.1)

-- ---- all

magic_means : (known : List (List ℕ)) (r : Result (List ℕ) ParcelError) → ((r >>= λ m. block_at 4 m >>= λ b. body_then known b.0 b.1) >>= means known) ≡ (r >>= λ m. registers_at 4 m >>= stop_meant known)
unfolding block_at registers_at
magic_means known (Err d) = refl
magic_means known (Ok m) = pc_means known (number_at w32 4 m)

pub read_is : (known : List (List ℕ)) (bytes : List ℕ) → read_top known bytes ≡ top_at known bytes
unfolding top_at parcel_at read_top
read_is known bytes = sym (magic_means known (magic_at 0 bytes))
