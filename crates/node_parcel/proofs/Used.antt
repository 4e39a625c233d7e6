-- The entries of a memory's pages, from one used page to the next.
use Rattle.std.proofs.Common.{◌≡◌, ℕ, zero, suc, ◌+◌, ◌-◌, ◌<◌, ◌≤◌, Bool, true, false, eqb, List, [], ◌∷◌, refl, sym, ap, ◌∙◌, arith}
use Rattle.std.proofs.lemmas.Bool.{eqb-true}
use Rattle.std.proofs.lemmas.Grind.{same_number_lists}
use Rattle.memory_model.specs.Sizes.{page_size, pages}
use Rattle.memory_model.specs.Memory.{Memory, permission_at}
use Rattle.memory_model.specs.Ranges.{IsUsed, NoneUsed, IsNextPage, IsPageOf, IsZeroPage}
use Rattle.parcel_model.specs.Parcel.{is_zero}
use Rattle.parcel_model.specs.Packing.{page_bytes, entry_of, is_unused, entries_from}
use Rattle.parcel_model.proofs.Packed.{both_true, all_zero, zeros_in, byte-page_bytes, length-page_bytes}

-- the bytes that are kept of a page are the page's
pub page_is : (m : Memory) (page : ℕ) (bytes : List ℕ) → IsPageOf m page bytes → bytes ≡ page_bytes m page
page_is m page bytes h =
    same_number_lists bytes (page_bytes m page) (h.sized ∙ sym (length-page_bytes m page))
    (λ k lt. let below : k < page_size = omega (arith, h.sized) in sym (h.byte k below) ∙ sym (byte-page_bytes m page k below))

pub zero_bytes : (m : Memory) (page : ℕ) → IsZeroPage m page → is_zero (page_bytes m page) ≡ true
zero_bytes m page h = zeros_in (page_bytes m page) (λ k lt. let below : k < page_size = omega (arith, length-page_bytes m page) in byte-page_bytes m page k below ∙ h k below)

unused : (m : Memory) (page : ℕ) → (permission_at m page ≡ 0) × IsZeroPage m page → is_unused m page ≡ true
unfolding is_unused
unused m page h = rw (h.0, zero_bytes m page h.1) refl

has_nothing : (m : Memory) (page : ℕ) → is_unused m page ≡ true → (permission_at m page ≡ 0) × IsZeroPage m page
unfolding is_unused
has_nothing m page e =
    let u = both_true (eqb (permission_at m page) 0) (is_zero (page_bytes m page)) e in
    (eqb-true _ _ u.0, λ k lt. sym (byte-page_bytes m page k lt) ∙ sym (all_zero (page_bytes m page) u.1 k))

pub used_by : (m : Memory) (page : ℕ) (b : Bool) → is_unused m page ≡ b → IsUsed m page → b ≡ false
used_by m page true e h = absurd (h (has_nothing m page e))
used_by m page false e h = refl

-- pages of which none is used have no entries
skip : (known : List (List ℕ)) (m : Memory) (from count n : ℕ) → NoneUsed m from (from + count) → entries_from known m from (count + n) ≡ entries_from known m (from + count) n
unfolding entries_from
skip known m from zero n none =
    let e : from ≡ from + 0 = omega arith in
    let f : 0 + n ≡ n = omega arith in
    ap (entries_from known m from) f ∙ ap (λ (k : ℕ). entries_from known m k n) e
skip known m from (suc count) n none =
    let e : suc count + n ≡ suc (count + n) = omega arith in
    let f : from + 1 + count ≡ from + suc count = omega arith in
    let here : is_unused m from ≡ true = unused m from (none from (omega arith) (omega arith)) in
    let step : entries_from known m from (suc (count + n)) ≡ entries_from known m (from + 1) (count + n) = rw here refl in
    ap (entries_from known m from) e ∙ step ∙ skip known m (from + 1) count n (λ q le lt. none q (omega arith) (omega arith)) ∙ ap (λ (k : ℕ). entries_from known m k n) f

pub skip_to : (known : List (List ℕ)) (m : Memory) (from to : ℕ) → from ≤ to → to ≤ pages → NoneUsed m from to → entries_from known m from (pages - from) ≡ entries_from known m to (pages - to)
skip_to known m from to le within none =
    let e : from + (to - from) ≡ to = omega arith in
    let f : pages - from ≡ (to - from) + (pages - to) = omega arith in
    ap (entries_from known m from) f ∙ skip known m from (to - from) (pages - to) (λ q low high. none q low (omega arith)) ∙ ap (λ (k : ℕ). entries_from known m k (pages - to)) e

-- the next one is the first
pub next_entries : (known : List (List ℕ)) (m : Memory) (from page : ℕ) → IsNextPage m from page → entries_from known m from (pages - from) ≡ entry_of known m page ∷ entries_from known m (page + 1) (pages - (page + 1))
unfolding entries_from
next_entries known m from page h =
    let below = h.below in
    let e : pages - page ≡ suc (pages - (page + 1)) = omega arith in
    let some : is_unused m page ≡ false = used_by m page (is_unused m page) refl h.used in
    let step : entries_from known m page (suc (pages - (page + 1))) ≡ entry_of known m page ∷ entries_from known m (page + 1) (pages - (page + 1)) = rw some refl in
    skip_to known m from page h.from (omega arith) h.least ∙ ap (entries_from known m page) e ∙ step

pub no_more : (known : List (List ℕ)) (m : Memory) (from : ℕ) → from ≤ pages → NoneUsed m from pages → entries_from known m from (pages - from) ≡ []
unfolding entries_from
no_more known m from le none =
    let e : pages - pages ≡ 0 = omega arith in
    skip_to known m from pages le (omega arith) none ∙ ap (entries_from known m pages) e
