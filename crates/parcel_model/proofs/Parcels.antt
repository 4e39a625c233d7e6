-- What is read is spelled so, and what is spelled so is read.
use Rattle.std.proofs.Common.{◌≡◌, ℕ, ◌+◌, ◌*◌, ◌%◌, ◌^◌, ◌<◌, eqb, ltb, List, [], ◌∷◌, ◌++◌, Option, Some, None, Result, Ok, Err, refl, sym, ap, ◌∙◌, arith}
use Rattle.std.specs.Prelude.{IsErr}
use Rattle.std.specs.Int.{w32, to_le_bytes}
use Rattle.std.proofs.lemmas.List.{append-nil}
use Rattle.space_model.specs.Space.{Top}
use Rattle.parcel_model.specs.declared.error.ParcelError.{ParcelError}
use Rattle.parcel_model.specs.Parcel.{Entry, Parcel, block_spelling, flags_of, is_there, limit_number, memory_spelling, snapshot_spelling, spelling, top_in, IsParcel, ParcelOf, TopOf}
use Rattle.parcel_model.specs.Reading.{IsBytes, flags_at, limit_at, snapshot_at, parcel_at, top_at}
use Rattle.parcel_model.proofs.Fields.{bind_ok, ok_is, number_again, magic_again, block_again, used_again}
use Rattle.parcel_model.proofs.Entries.{memory_again, end_of_memory, snapshot_again, end_of_snapshot}
use Rattle.parcel_model.proofs.Stages.{parcel_takes}

-- ---- flags and limit

limit_again : (flags at : ℕ) (l : Option ℕ) (rest : List ℕ) → limit_number l < 2 ^ 32 → ltb 1 flags ≡ eqb (is_there l) 1 → limit_at flags at (to_le_bytes w32 (limit_number l) ++ rest) ≡ Ok (l, rest)
limit_again flags at None rest lt is = rw (number_again at 0 rest lt, is) refl
limit_again flags at (Some n) rest lt is = rw (number_again at n rest lt, is) refl

-- what the flags tell
flags_again : (at : ℕ) (l : Option ℕ) (s : Option (List Entry)) (rest : List ℕ) → flags_at at ((is_there s + 2 * is_there l) ∷ rest) ≡ Ok (is_there s + 2 * is_there l, rest)
flags_again at None None rest = refl
flags_again at None (Some s) rest = refl
flags_again at (Some l) None rest = refl
flags_again at (Some l) (Some s) rest = refl

flag_of_limit : (l : Option ℕ) (s : Option (List Entry)) → ltb 1 (is_there s + 2 * is_there l) ≡ eqb (is_there l) 1
flag_of_limit None None = refl
flag_of_limit None (Some s) = refl
flag_of_limit (Some l) None = refl
flag_of_limit (Some l) (Some s) = refl

flag_of_snapshot : (l : Option ℕ) (s : Option (List Entry)) → (is_there s + 2 * is_there l) % 2 ≡ is_there s
flag_of_snapshot None None = refl
flag_of_snapshot None (Some s) = refl
flag_of_snapshot (Some l) None = refl
flag_of_snapshot (Some l) (Some s) = refl

-- ---- a parcel

pub spelling_again : (known : List (List ℕ)) (p : Parcel) → IsParcel known p → parcel_at known (spelling p) ≡ Ok p
unfolding parcel_at
spelling_again known p h =
    let second = snapshot_spelling p.snapshot in
    let first = memory_spelling p.memory ++ second in
    let used = to_le_bytes w32 p.used ++ first in
    let fuel = to_le_bytes w32 p.fuel ++ used in
    let limited = to_le_bytes w32 (limit_number p.limit) ++ fuel in
    let flagged = flags_of p ∷ limited in
    let lt : p.fuel < 2 ^ 32 = omega (arith, h.fuel) in
    let at = end_of_memory 153 p.memory in
    let last : snapshot_at known (flags_of p) at second ≡ Ok (p.snapshot, end_of_snapshot at p.snapshot, []) = ap (snapshot_at known (flags_of p) at) (sym (append-nil second)) ∙ snapshot_again known (flags_of p) at p.snapshot [] (flag_of_snapshot p.limit p.snapshot) h.snapshot in
    rw (magic_again 0 (block_spelling p.block ++ flagged), block_again 4 p.block flagged h.block, flags_again 140 p.limit p.snapshot limited, limit_again (flags_of p) 141 p.limit fuel h.limit (flag_of_limit p.limit p.snapshot), number_again 145 p.fuel used lt, used_again p.fuel 149 p.used first (record { most = h.fuel; some = h.some }), memory_again known 153 p.memory second h.memory, last) refl

parcel_reads : (known : List (List ℕ)) (bytes : List ℕ) (p : Parcel) → ParcelOf known bytes p → parcel_at known bytes ≡ Ok p
parcel_reads known bytes p h = ap (parcel_at known) h.spelled ∙ spelling_again known p h.sound

pub reads_parcels : (known : List (List ℕ)) (bytes : List ℕ) (p : Parcel) → IsBytes bytes → (parcel_at known bytes ≡ Ok p → ParcelOf known bytes p) × (ParcelOf known bytes p → parcel_at known bytes ≡ Ok p)
reads_parcels known bytes p fits = (parcel_takes known bytes p fits, parcel_reads known bytes p)

pub one : (known : List (List ℕ)) (bytes : List ℕ) (p q : Parcel) → ParcelOf known bytes p → ParcelOf known bytes q → p ≡ q
one known bytes p q h k = ok_is p q (sym (parcel_reads known bytes p h) ∙ parcel_reads known bytes q k)

-- ---- a top

pub top_takes : (known : List (List ℕ)) (bytes : List ℕ) (t : Top) → IsBytes bytes → top_at known bytes ≡ Ok t → TopOf known bytes t
unfolding top_at
top_takes known bytes t fits e =
    let p = bind_ok (parcel_at known bytes) (λ p. Ok (top_in known p)) t e in
    record { parcel = p.0; spelled = parcel_takes known bytes p.0 fits p.1; means = sym (ok_is (top_in known p.0) t p.2) }

pub top_reads : (known : List (List ℕ)) (bytes : List ℕ) (t : Top) → TopOf known bytes t → top_at known bytes ≡ Ok t
unfolding top_at
top_reads known bytes t h = rw (parcel_reads known bytes h.parcel h.spelled) (ap (λ (u : Top). Ok u) (sym h.means))

pub one_top : (known : List (List ℕ)) (bytes : List ℕ) (t u : Top) → TopOf known bytes t → TopOf known bytes u → t ≡ u
one_top known bytes t u h k = ok_is t u (sym (top_reads known bytes t h) ∙ top_reads known bytes u k)

is_refused : (known : List (List ℕ)) (bytes : List ℕ) (r : Result Top ParcelError) → r ≡ top_at known bytes → IsErr r → (t : Top) → TopOf known bytes t → ⊥
is_refused known bytes (Ok x) e h t k = absurd cc
is_refused known bytes (Err d) e h t k = let back = top_reads known bytes t k in cc

refuses : (known : List (List ℕ)) (bytes : List ℕ) (r : Result Top ParcelError) → IsBytes bytes → r ≡ top_at known bytes → ((t : Top) → TopOf known bytes t → ⊥) → IsErr r
refuses known bytes (Ok x) fits e none = absurd (none x (top_takes known bytes x fits (sym e)))
refuses known bytes (Err d) fits e none = refl

pub refuses_the_rest : (known : List (List ℕ)) (bytes : List ℕ) → IsBytes bytes → (IsErr (top_at known bytes) → (t : Top) → TopOf known bytes t → ⊥) × (((t : Top) → TopOf known bytes t → ⊥) → IsErr (top_at known bytes))
refuses_the_rest known bytes fits = (is_refused known bytes (top_at known bytes) refl, refuses known bytes (top_at known bytes) fits refl)
