-- Looking for a name in slots one after the other.
use Rattle.std.proofs.Common.{◌≡◌, ℕ, ◌+◌, ◌-◌, ◌<◌, ◌≤◌, Bool, true, false, cond, not, List, ◌∷◌, refl, ap, sym, ◌∙◌, arith, Option, Some, None}
use Rattle.std.specs.Prelude.{option_map, ◌&&◌, nat_le}
use Rattle.std.proofs.lemmas.Bool.{false≢true}
use Rattle.std.proofs.lemmas.Bool.Decides.{nat_tests}
use Rattle.std.specs.Str.{bytes_eq}
use Rattle.file_model.specs.File.{File}
use Rattle.file_model.specs.Slots.{slot_at, slots_from, file_at, is_in_use, name_at, number_at, name_length_offset, slot_start}
use Rattle.file_model.specs.Operations.{Entry, entry_from, free_from}
use Rattle.file_model.proofs.Lookups.{slots_next, short_name}
use Rattle.file_model.proofs.SlotHeaders.{named_in_use}
use Rattle.file_image.specs.Lookup.{file_in, holds, entry_in, optional_entry}

pub entry_other : (k : ℕ) (s : Option File) (slots : List (Option File)) (name : List ℕ) → holds name s ≡ false → entry_from k (s ∷ slots) name ≡ entry_from (k + 1) slots name
unfolding entry_from
entry_other k None slots name h = refl
entry_other k (Some f) slots name h = ap (λ t. cond t (Some (record { slot = k; file = f })) (entry_from (k + 1) slots name)) h

entry_first : (k : ℕ) (f : File) (slots : List (Option File)) (name : List ℕ) → bytes_eq f.name name ≡ true → entry_from k (Some f ∷ slots) name ≡ Some (record { slot = k; file = f })
unfolding entry_from
entry_first k f slots name h = ap (λ t. cond t (Some (record { slot = k; file = f })) (entry_from (k + 1) slots name)) h

chosen : (t : Bool) (f : File) (name : List ℕ) → holds name (cond t (Some f) None) ≡ true → cond t (Some f) None ≡ Some f
chosen true f name h = refl
chosen false f name h = cc

-- a slot that has the name is in use
pub in_use_here : (b : ℕ → ℕ) (k : ℕ) (name : List ℕ) → holds name (slot_at b k) ≡ true → slot_at b k ≡ Some (file_in b k)
unfolding slot_at
in_use_here b k name h = chosen (is_in_use b (slot_start k)) (file_in b k) name h

choice : (u s t : Bool) (f : File) (name : List ℕ) → (u ≡ true → s ≡ true) → bytes_eq f.name name ≡ t → ((s && t) && u) ≡ holds name (cond u (Some f) None)
choice true true true f name h e = sym e
choice true true false f name h e = sym e
choice true false t f name h e = absurd (false≢true (h refl))
choice false true true f name h e = refl
choice false true false f name h e = refl
choice false false t f name h e = refl

short_test : (n : ℕ) → n ≤ 32 → nat_le n 32 ≡ true
short_test n h = grind (arith, nat_tests)

-- a slot has a name where the name stands in it, is short, and the slot is in use
pub held_name : (b : ℕ → ℕ) (k : ℕ) (name : List ℕ)
    → ((nat_le (number_at b (slot_start k + name_length_offset)) 32 && bytes_eq (name_at b (slot_start k)) name) && is_in_use b (slot_start k)) ≡ holds name (slot_at b k)
unfolding slot_at file_at
held_name b k name =
    choice (is_in_use b (slot_start k)) (nat_le (number_at b (slot_start k + name_length_offset)) 32) (bytes_eq (name_at b (slot_start k)) name) (file_in b k) name
    (λ u. short_test (number_at b (slot_start k + name_length_offset)) (short_name b (slot_start k) (named_in_use b (slot_start k) u))) refl

pub entry_next : (b : ℕ → ℕ) (k n : ℕ) (name : List ℕ) → k < n → holds name (slot_at b k) ≡ false
    → entry_from k (slots_from b k (n - k)) name ≡ entry_from (k + 1) (slots_from b (k + 1) (n - (k + 1))) name
entry_next b k n name h e = ap (λ s. entry_from k s name) (slots_next b k n h) ∙ entry_other k (slot_at b k) (slots_from b (k + 1) (n - (k + 1))) name e

pub entry_here : (b : ℕ → ℕ) (k n : ℕ) (name : List ℕ) → k < n → holds name (slot_at b k) ≡ true
    → entry_from k (slots_from b k (n - k)) name ≡ Some (entry_in b k)
entry_here b k n name h e =
    let u : slot_at b k ≡ Some (file_in b k) = in_use_here b k name e in
    ap (λ s. entry_from k s name) (slots_next b k n h ∙ ap (λ s. s ∷ slots_from b (k + 1) (n - (k + 1))) u)
    ∙ entry_first k (file_in b k) (slots_from b (k + 1) (n - (k + 1))) name (ap (holds name) (sym u) ∙ e)

pub entry_end : (b : ℕ → ℕ) (k n : ℕ) (name : List ℕ) → n ≤ k → entry_from k (slots_from b k (n - k)) name ≡ None
unfolding entry_from slots_from
entry_end b k n name h = let e : n - k ≡ 0 = omega arith in ap (λ m. entry_from k (slots_from b k m) name) e

-- the number of a slot that was found
pub number_found : (b : ℕ → ℕ) (r : Option ℕ) → r ≡ option_map (λ (e : Entry). e.slot) (optional_entry b r)
number_found b None = refl
number_found b (Some k) = refl

-- ---- the lowest free slot

free_other : (t : Bool) (f : File) (k : ℕ) (slots : List (Option File)) → not t ≡ false → free_from k (cond t (Some f) None ∷ slots) ≡ free_from (k + 1) slots
unfolding free_from
free_other true f k slots h = refl
free_other false f k slots h = cc

free_first : (t : Bool) (f : File) (k : ℕ) (slots : List (Option File)) → not t ≡ true → free_from k (cond t (Some f) None ∷ slots) ≡ Some k
unfolding free_from
free_first true f k slots h = cc
free_first false f k slots h = refl

pub free_next : (b : ℕ → ℕ) (k n : ℕ) → k < n → not (is_in_use b (slot_start k)) ≡ false
    → free_from k (slots_from b k (n - k)) ≡ free_from (k + 1) (slots_from b (k + 1) (n - (k + 1)))
unfolding slot_at
free_next b k n h e = ap (free_from k) (slots_next b k n h) ∙ free_other (is_in_use b (slot_start k)) (file_in b k) k (slots_from b (k + 1) (n - (k + 1))) e

pub free_here : (b : ℕ → ℕ) (k n : ℕ) → k < n → not (is_in_use b (slot_start k)) ≡ true → free_from k (slots_from b k (n - k)) ≡ Some k
unfolding slot_at
free_here b k n h e = ap (free_from k) (slots_next b k n h) ∙ free_first (is_in_use b (slot_start k)) (file_in b k) k (slots_from b (k + 1) (n - (k + 1))) e

pub free_end : (b : ℕ → ℕ) (k n : ℕ) → n ≤ k → free_from k (slots_from b k (n - k)) ≡ None
unfolding free_from slots_from
free_end b k n h = let e : n - k ≡ 0 = omega arith in ap (λ m. free_from k (slots_from b k m)) e
