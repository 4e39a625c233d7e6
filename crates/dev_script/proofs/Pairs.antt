-- Pairs of digits one after the other, as a loop takes them.
use Rattle.std.proofs.Common.{◌≡◌, ℕ, ◌≤◌, Bool, true, false, cond, get_or, drop, List, [], ◌∷◌, ◌++◌, length, refl, sym, ap, ◌∙◌, append_assoc, arith}
use Rattle.std.specs.Prelude.{Option, Some, None, option_map, ◌&&◌, if◌then◌else◌}
use Rattle.std.proofs.lemmas.List.{append-nil}
use Rattle.script_model.specs.Script.{byte_of}
use Rattle.script_model.specs.Reading.{is_hex_digit, bytes_of}

-- the byte of one pair
abbrev pub pair : ℕ → ℕ → Option ℕ
pair high low = if is_hex_digit high && is_hex_digit low then Some (byte_of high low) else None

pair_then : (high low : ℕ) (digits : List ℕ) (t : Bool) → (is_hex_digit high && is_hex_digit low) ≡ t → (b : ℕ) → cond t (Some (byte_of high low)) None ≡ Some b
    → cond t (option_map (λ bytes. byte_of high low ∷ bytes) (bytes_of digits)) None ≡ option_map (λ bytes. b ∷ bytes) (bytes_of digits)
pair_then high low digits true t b e = let same : byte_of high low ≡ b = cc in rw same refl
pair_then high low digits false t b e = absurd cc

pub first_pair : (digits : List ℕ) (b : ℕ) → 2 ≤ length digits → pair (get_or digits 0 0) (get_or digits 1 0) ≡ Some b → bytes_of digits ≡ option_map (λ bytes. b ∷ bytes) (bytes_of (drop 2 digits))
unfolding bytes_of
first_pair [] b two e = absurd (omega (arith, two))
first_pair (high ∷ []) b two e = absurd (omega (arith, two))
first_pair (high ∷ low ∷ digits) b two e = pair_then high low digits (is_hex_digit high && is_hex_digit low) refl b e

-- bytes before those of the rest
abbrev pub with_front : List ℕ → Option (List ℕ) → Option (List ℕ)
with_front front read = option_map (λ bytes. front ++ bytes) read

regroup : (front : List ℕ) (b : ℕ) (read : Option (List ℕ)) → with_front front (option_map (λ bytes. b ∷ bytes) read) ≡ with_front (front ++ b ∷ []) read
regroup front b None = refl
regroup front b (Some bytes) = ap (λ (l : List ℕ). Some l) (simp append_assoc)

pub goes_on : (front text digits : List ℕ) (b : ℕ) (total : Option (List ℕ)) → bytes_of text ≡ option_map (λ bytes. b ∷ bytes) (bytes_of digits) → with_front front (bytes_of text) ≡ total → with_front (front ++ b ∷ []) (bytes_of digits) ≡ total
goes_on front text digits b total e so_far = sym (ap (with_front front) e ∙ regroup front b (bytes_of digits)) ∙ so_far

pub ends : (front text : List ℕ) (total : Option (List ℕ)) → bytes_of text ≡ None → with_front front (bytes_of text) ≡ total → None ≡ total
ends front text total e so_far = sym (ap (with_front front) e) ∙ so_far

pub is_done : (front text : List ℕ) (total : Option (List ℕ)) → length text ≡ 0 → with_front front (bytes_of text) ≡ total → Some front ≡ total
unfolding bytes_of
is_done front [] total none so_far = ap (λ (l : List ℕ). Some l) (sym (append-nil front)) ∙ so_far
is_done front (b ∷ bs) total none so_far = absurd (omega (arith, none))
