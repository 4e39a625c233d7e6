-- The base of one slot after the other.
use Rattle.std.proofs.Common.{◌≡◌, ℕ, ◌+◌, ◌-◌, ◌<◌, ◌≤◌, Bool, true, false, cond, not, List, ◌∷◌, refl, ap, sym, ◌∙◌, arith, Option, Some, None}
use Rattle.file_model.specs.Sizes.{slot_count}
use Rattle.file_model.specs.File.{File, IsFile, with_base}
use Rattle.file_model.specs.Slots.{slot_at, slots_from, is_in_use, slot_start, with_slot}
use Rattle.file_model.specs.Operations.{Entry}
use Rattle.file_model.specs.Reconcile.{with_entries, base_entries}
use Rattle.file_model.proofs.Lookups.{slots_next}
use Rattle.file_model.proofs.OtherSlots.{slots_behind, in_use_higher}
use Rattle.file_model.proofs.WellFormed.{file_well, based_well}
use Rattle.file_image.specs.Lookup.{file_in, HasFile}

not_used : (t : Bool) → not t ≡ true → t ≡ false
not_used true h = cc
not_used false h = refl

is_so : (t : Bool) → not t ≡ false → t ≡ true
is_so true h = refl
is_so false h = cc

-- a slot that is not free
pub has_file : (b : ℕ → ℕ) (k : ℕ) → k < slot_count → not (is_in_use b (slot_start k)) ≡ false → HasFile b k
has_file b k l h = record { within = l; used = is_so (is_in_use b (slot_start k)) h }

free_base : (t : Bool) (f : File) (k : ℕ) (slots : List (Option File)) → t ≡ false → base_entries k (cond t (Some f) None ∷ slots) ≡ base_entries (k + 1) slots
unfolding base_entries
free_base true f k slots e = cc
free_base false f k slots e = refl

used_base : (t : Bool) (f : File) (k : ℕ) (slots : List (Option File)) → t ≡ true → base_entries k (cond t (Some f) None ∷ slots) ≡ record { slot = k; file = with_base f } ∷ base_entries (k + 1) slots
unfolding base_entries
used_base true f k slots e = refl
used_base false f k slots e = cc

-- a free slot stays
pub bases_pass : (b : ℕ → ℕ) (k n : ℕ) → k < n → not (is_in_use b (slot_start k)) ≡ true
    → with_entries b (base_entries k (slots_from b k (n - k))) ≡ with_entries b (base_entries (k + 1) (slots_from b (k + 1) (n - (k + 1))))
unfolding slot_at
bases_pass b k n h u = ap (with_entries b) (ap (base_entries k) (slots_next b k n h) ∙ free_base (is_in_use b (slot_start k)) (file_in b k) k (slots_from b (k + 1) (n - (k + 1))) (not_used (is_in_use b (slot_start k)) u))

entries_first : (b : ℕ → ℕ) (e : Entry) (es : List Entry) → with_entries b (e ∷ es) ≡ with_entries (with_slot b e.slot e.file) es
unfolding with_entries
entries_first b e es = refl

-- a slot in use has its base
pub bases_mark : (b d : ℕ → ℕ) (k n : ℕ) → ((a : ℕ) → b a < 256) → k < n → HasFile b k → d ≡ with_slot b k (with_base (file_in b k))
    → with_entries b (base_entries k (slots_from b k (n - k))) ≡ with_entries d (base_entries (k + 1) (slots_from d (k + 1) (n - (k + 1))))
unfolding slot_at
bases_mark b d k n small h u e =
    let f : IsFile (with_base (file_in b k)) = based_well (file_in b k) (file_well b (slot_start k) small u.used) in
    ap (with_entries b) (ap (base_entries k) (slots_next b k n h) ∙ used_base (is_in_use b (slot_start k)) (file_in b k) k (slots_from b (k + 1) (n - (k + 1))) u.used)
    ∙ entries_first b (record { slot = k; file = with_base (file_in b k) }) (base_entries (k + 1) (slots_from b (k + 1) (n - (k + 1))))
    ∙ ap (λ s. with_entries (with_slot b k (with_base (file_in b k))) (base_entries (k + 1) s)) (sym (slots_behind b k (with_base (file_in b k)) (k + 1) (n - (k + 1)) f (omega arith)))
    ∙ ap (λ (x : ℕ → ℕ). with_entries x (base_entries (k + 1) (slots_from x (k + 1) (n - (k + 1))))) (sym e)

-- a higher slot that is in use was so before
pub still_used : (b d : ℕ → ℕ) (k j : ℕ) → ((a : ℕ) → b a < 256) → HasFile b k → d ≡ with_slot b k (with_base (file_in b k)) → k < j → HasFile d j → HasFile b j
still_used b d k j small u e l h =
    let f : IsFile (with_base (file_in b k)) = based_well (file_in b k) (file_well b (slot_start k) small u.used) in
    record {
      within = h.within;
      used = sym (in_use_higher b k (with_base (file_in b k)) j f l) ∙ ap (λ (x : ℕ → ℕ). is_in_use x (slot_start j)) (sym e) ∙ h.used;
    }

pub bases_end : (b : ℕ → ℕ) (k n : ℕ) → n ≤ k → with_entries b (base_entries k (slots_from b k (n - k))) ≡ b
unfolding with_entries base_entries slots_from
bases_end b k n h = let e : n - k ≡ 0 = omega arith in ap (λ m. with_entries b (base_entries k (slots_from b k m))) e
