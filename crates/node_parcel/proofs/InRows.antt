-- Pages in a row that are used, and those of them of which no bytes are kept.
use Rattle.std.proofs.Common.{◌≡◌, ℕ, zero, suc, ◌+◌, ◌-◌, ◌<◌, ◌≤◌, Bool, true, false, cond, List, [], ◌∷◌, ◌++◌, length, refl, sym, ap, ◌∙◌, append_assoc, arith, inl, inr}
use Rattle.std.proofs.lemmas.Bool.{cases_lt}
use Rattle.std.proofs.lemmas.List.{length-append, append-nil}
use Rattle.std.specs.Prelude.{max}
use Rattle.std.specs.List.{flat_map}
use Rattle.std.proofs.lemmas.Grind.{flat_map-append}
use Rattle.memory_model.specs.Sizes.{pages}
use Rattle.memory_model.specs.Memory.{Memory, permission_at}
use Rattle.memory_model.specs.Ranges.{IsUsed, IsNextPage, IsZeroPage}
use Rattle.space_mem.specs.Held.{AllZero, HaveOnePermission}
use Rattle.parcel_model.specs.Parcel.{empty, entry_spelling, is_zero, Entry}
use Rattle.parcel_model.specs.Packing.{page_bytes, content_of, entry_of, is_unused, entries_from}
use Rattle.parcel_model.specs.Sent.{whole_pages}
use Rattle.node_parcel.specs.Bare.{bare_entry, bare_entries}
use Rattle.node_parcel.proofs.Used.{zero_bytes, used_by, skip_to}
use Rattle.node_parcel.proofs.Written.{left_from}

-- ---- pages that are used

-- each of the pages from one to before another is used
abbrev pub AllUsed : Memory → ℕ → ℕ → Type 0
AllUsed m from end = (q : ℕ) → from ≤ q → q < end → is_unused m q ≡ false

pub one_used : (m : Memory) (page : ℕ) → IsUsed m page → AllUsed m page (page + 1)
one_used m page used q low high = let e : page ≡ q = omega arith in ap (is_unused m) (sym e) ∙ used_by m page (is_unused m page) refl used

pub bare_used : (m : Memory) (page end : ℕ) → IsUsed m page → AllZero m page end → HaveOnePermission m page end → AllUsed m page end
bare_used m page end used zeros same q low high =
    used_by m q (is_unused m q) refl (λ nothing. used (sym (same q low high) ∙ nothing.0, λ k lt. zeros page k (omega arith) (omega arith) lt))

first_of : (known : List (List ℕ)) (m : Memory) (from n : ℕ) → is_unused m from ≡ false → entries_from known m from (suc n) ≡ entry_of known m from ∷ entries_from known m (from + 1) n
unfolding entries_from
first_of known m from n some = rw some refl

pub one_entry : (known : List (List ℕ)) (m : Memory) (page : ℕ) → IsUsed m page → entries_from known m page (page + 1 - page) ≡ entry_of known m page ∷ []
unfolding entries_from
one_entry known m page used =
    let e : page + 1 - page ≡ 1 = omega arith in
    ap (entries_from known m page) e ∙ first_of known m page 0 (used_by m page (is_unused m page) refl used)

counted : (known : List (List ℕ)) (m : Memory) (from n : ℕ) → AllUsed m from (from + n) → length (entries_from known m from n) ≡ n
unfolding entries_from
counted known m from zero used = refl
counted known m from (suc n) used =
    let here : is_unused m from ≡ false = used from (omega arith) (omega arith) in
    ap length (first_of known m from n here) ∙ ap suc (counted known m (from + 1) n (λ q low high. used q (omega arith) (omega arith)))

-- ---- some of the pages, and those behind them

joined : (b : Bool) (e : Entry) (all front rest : List Entry) → all ≡ front ++ rest → cond b all (e ∷ all) ≡ cond b front (e ∷ front) ++ rest
joined true e all front rest h = h
joined false e all front rest h = ap (λ (t : List Entry). e ∷ t) h

in_two : (known : List (List ℕ)) (m : Memory) (from a b : ℕ) → entries_from known m from (a + b) ≡ entries_from known m from a ++ entries_from known m (from + a) b
unfolding entries_from
in_two known m from zero b =
    let e : from ≡ from + 0 = omega arith in
    let f : 0 + b ≡ b = omega arith in
    ap (entries_from known m from) f ∙ ap (λ (k : ℕ). entries_from known m k b) e
in_two known m from (suc a) b =
    let e : suc a + b ≡ suc (a + b) = omega arith in
    let f : from + 1 + a ≡ from + suc a = omega arith in
    ap (entries_from known m from) e
    ∙ joined (is_unused m from) (entry_of known m from) _ _ _ (in_two known m (from + 1) a b ∙ ap (λ (k : ℕ). entries_from known m (from + 1) a ++ entries_from known m k b) f)

-- those from a used page on, and those behind them
row_then : (known : List (List ℕ)) (m : Memory) (from page end : ℕ) → IsNextPage m from page → page ≤ end → end ≤ pages
    → entries_from known m from (pages - from) ≡ entries_from known m page (end - page) ++ entries_from known m end (pages - end)
row_then known m from page end h le within =
    let e : pages - page ≡ (end - page) + (pages - end) = omega arith in
    let f : page + (end - page) ≡ end = omega arith in
    skip_to known m from page h.from (omega arith) h.least ∙ ap (entries_from known m page) e
    ∙ in_two known m page (end - page) (pages - end) ∙ ap (λ (k : ℕ). entries_from known m page (end - page) ++ entries_from known m k (pages - end)) f

pub row_written : {A : Type 0} (f : Entry → List A) (known : List (List ℕ)) (m : Memory) (from page end : ℕ) (out total : List A) → IsNextPage m from page → page < end → end ≤ pages → out ++ left_from f known m from ≡ total
    → (out ++ flat_map f (entries_from known m page (end - page))) ++ left_from f known m end ≡ total
row_written {A = A} f known m from page end out total h lt within so_far =
    let row = entries_from known m page (end - page) in
    let e : left_from f known m from ≡ flat_map f row ++ left_from f known m end = ap (flat_map f) (row_then known m from page end h (omega arith) within) ∙ flat_map-append f row (entries_from known m end (pages - end)) in
    append_assoc out (flat_map f row) (left_from f known m end) ∙ ap (λ (t : List A). out ++ t) (sym e) ∙ so_far

pub row_counted : (known : List (List ℕ)) (m : Memory) (from page end count total : ℕ) → IsNextPage m from page → page < end → end ≤ pages → AllUsed m page end → count + length (entries_from known m from (pages - from)) ≡ total
    → count + (end - page) + length (entries_from known m end (pages - end)) ≡ total
row_counted known m from page end count total h lt within used so_far =
    let row = entries_from known m page (end - page) in
    let rest = entries_from known m end (pages - end) in
    let e = ap length (row_then known m from page end h (omega arith) within) ∙ length-append row rest in
    let n = counted known m page (end - page) (λ q low high. used q low (omega arith)) in
    omega (arith, e, n, so_far)

-- those without bytes, or one alone
pub row_used : (m : Memory) (page end to : ℕ) → IsUsed m page → AllZero m page end → HaveOnePermission m page end → to ≡ max end (page + 1) → AllUsed m page to
row_used m page end to used zeros same is q low high = elim (cases_lt q end) [
  | inl before ↦ bare_used m page end used zeros same q low before
  | inr behind ↦ one_used m page used q low (omega (arith, is, high, behind))
]

-- ---- pages of which no bytes are kept

bare_is : (known : List (List ℕ)) (m : Memory) (permission page n : ℕ) → AllUsed m page (page + n) → ((q : ℕ) → page ≤ q → q < page + n → permission_at m q ≡ permission) → ((q : ℕ) → page ≤ q → q < page + n → IsZeroPage m q)
    → entries_from known m page n ≡ bare_entries permission page n
unfolding entries_from bare_entries
bare_is known m permission page zero used same zeros = refl
bare_is known m permission page (suc n) used same zeros =
    let right = same page (omega arith) (omega arith) in
    let nothing : is_zero (page_bytes m page) ≡ true = zero_bytes m page (zeros page (omega arith) (omega arith)) in
    let content : content_of known (page_bytes m page) ≡ empty = rw nothing refl in
    let one : entry_of known m page ≡ bare_entry permission page = λ i. record { page = page; permission = right i; content = content i } in
    let others = bare_is known m permission (page + 1) n (λ q low high. used q (omega arith) (omega arith)) (λ q low high. same q (omega arith) (omega arith)) (λ q low high. zeros q (omega arith) (omega arith)) in
    first_of known m page n (used page (omega arith) (omega arith)) ∙ (λ i. one i ∷ others i)

pub row_is : (known : List (List ℕ)) (m : Memory) (page end : ℕ) → page ≤ end → IsUsed m page → AllZero m page end → HaveOnePermission m page end
    → entries_from known m page (end - page) ≡ bare_entries (permission_at m page) page (end - page)
row_is known m page end le used zeros same =
    let all = bare_used m page end used zeros same in
    bare_is known m (permission_at m page) page (end - page) (λ q low high. all q low (omega arith)) (λ q low high. same q low (omega arith)) (λ q low high k lt. zeros q k low (omega arith) lt)

pub none_sent : (permission page n : ℕ) → whole_pages (bare_entries permission page n) ≡ []
unfolding bare_entries
none_sent permission page zero = refl
none_sent permission page (suc n) = none_sent permission (page + 1) n

pub bare_written : (known : List (List ℕ)) (m : Memory) (page end permission : ℕ) (out new : List ℕ) → page ≤ end → IsUsed m page → AllZero m page end → HaveOnePermission m page end → permission ≡ permission_at m page
    → new ≡ out ++ flat_map entry_spelling (bare_entries permission page (end - page)) → new ≡ out ++ flat_map entry_spelling (entries_from known m page (end - page))
bare_written known m page end permission out new le used zeros same is e =
    e ∙ ap (λ (p : ℕ). out ++ flat_map entry_spelling (bare_entries p page (end - page))) is ∙ ap (λ (es : List Entry). out ++ flat_map entry_spelling es) (sym (row_is known m page end le used zeros same))

pub bare_not_sent : (known : List (List ℕ)) (m : Memory) (page end : ℕ) (old : List (List ℕ)) → page ≤ end → IsUsed m page → AllZero m page end → HaveOnePermission m page end → old ≡ old ++ whole_pages (entries_from known m page (end - page))
bare_not_sent known m page end old le used zeros same =
    sym (append-nil old) ∙ ap (λ (l : List (List ℕ)). old ++ l) (sym (ap whole_pages (row_is known m page end le used zeros same) ∙ none_sent (permission_at m page) page (end - page)))

-- one page
pub one_written : {A : Type 0} (f : Entry → List A) (known : List (List ℕ)) (m : Memory) (page : ℕ) (out new : List A) → IsUsed m page → new ≡ out ++ f (entry_of known m page) → new ≡ out ++ flat_map f (entries_from known m page (page + 1 - page))
one_written {A = A} f known m page out new used e =
    e ∙ ap (λ (t : List A). out ++ t) (sym (append-nil (f (entry_of known m page)))) ∙ ap (λ (es : List Entry). out ++ flat_map f es) (sym (one_entry known m page used))

-- those from one to before another, written page after page
pub bare_more : (permission page end : ℕ) (out total : List ℕ) → page < end → out ++ flat_map entry_spelling (bare_entries permission page (end - page)) ≡ total
    → (out ++ entry_spelling (bare_entry permission page)) ++ flat_map entry_spelling (bare_entries permission (page + 1) (end - (page + 1))) ≡ total
unfolding bare_entries
bare_more permission page end out total lt so_far =
    let e : end - page ≡ suc (end - (page + 1)) = omega arith in
    append_assoc out (entry_spelling (bare_entry permission page)) (flat_map entry_spelling (bare_entries permission (page + 1) (end - (page + 1))))
    ∙ ap (λ (n : ℕ). out ++ flat_map entry_spelling (bare_entries permission page n)) (sym e) ∙ so_far

pub bare_done : (permission page end : ℕ) (out total : List ℕ) → end ≤ page → out ++ flat_map entry_spelling (bare_entries permission page (end - page)) ≡ total → out ≡ total
unfolding bare_entries
bare_done permission page end out total le so_far =
    let e : end - page ≡ 0 = omega arith in
    sym (append-nil out) ∙ ap (λ (n : ℕ). out ++ flat_map entry_spelling (bare_entries permission page n)) (sym e) ∙ so_far
