-- Pages that a parent takes whole from its child, in a row.
use Rattle.std.proofs.Common.{◌≡◌, ℕ, zero, suc, ◌+◌, ◌-◌, ◌*◌, ◌/◌, ◌%◌, ◌<◌, ◌≤◌, ◌⊎◌, inl, inr, Bool, true, false, cond, List, [], ◌∷◌, ◌++◌, get_or, refl, ap, sym, subst, ◌∙◌, arith, append_assoc, Result, Ok, Err}
use Rattle.std.specs.Prelude.{All, OnOk, map, nat_le, nat_lt, ◌&&◌}
use Rattle.std.proofs.lemmas.Bool.{cases_eq, cases_lt, false≢true}
use Rattle.std.proofs.lemmas.Bool.Decides.{nat_tests}
use Rattle.std.proofs.lemmas.List.{append-nil}
use Rattle.std.proofs.lemmas.List.Elements.{All-append, All-cons, All-head, All-nil, All-tail}
use Rattle.memory_model.specs.Memory.{Memory, byte_at, same_memory}
use Rattle.memory_model.proofs.Rows.{value_at-row_before, value_at-row_after, value_at-row_key}
use Rattle.file_model.specs.Sizes.{first_address, slot_size, all_slots_size, content_offset}
use Rattle.file_model.specs.Slots.{slot_start}
use Rattle.file_image.specs.Spared.{HasTaken, IsSparedAt, content_from, spared_in}
use Rattle.space_model.specs.Files.{file_bytes, with_file_bytes}
use Rattle.space_mem.specs.declared.taking.TakenPage.{TakenPage}
use Rattle.space_mem.specs.Held.{SamePage}
use Rattle.space_mem.specs.Taken.{AreInRange, IsFrom, IsTakenOver, taken_page}
use Rattle.memory_files.specs.Slots.{AreFew}
use Rattle.memory_files.specs.Taken.{IsBesideTaken, content_page, is_spared, taken_before, taken_run, with_taken}

-- ---- how they are listed

pub run_none : (pages : List TakenPage) (k from : ℕ) → pages ≡ pages ++ taken_run k from 0
unfolding taken_run
run_none pages k from = sym (append-nil pages)

pub run_more : (old pages new : List TakenPage) (k from n p q : ℕ) → pages ≡ old ++ taken_run k from n → p ≡ content_page k n → q ≡ content_page from n → new ≡ pages ++ record { page = p; from = q } ∷ [] → new ≡ old ++ taken_run k from (n + 1)
unfolding taken_run
run_more old pages new k from n p q before is_page is_from added =
    let e : suc n ≡ n + 1 = omega arith in
    added ∙ (λ i. before i ++ record { page = is_page i; from = is_from i } ∷ []) ∙ append_assoc old (taken_run k from n) (record { page = content_page k n; from = content_page from n } ∷ []) ∙ ap (λ m. old ++ taken_run k from m) e

pub before_none : (whole from : List ℕ) (pages : List TakenPage) → pages ≡ [] → pages ≡ taken_before whole from 0
unfolding taken_before
before_none whole from pages is = is

pub before_more : (whole from : List ℕ) (k : ℕ) (pages new : List TakenPage) → pages ≡ taken_before whole from k → new ≡ pages ++ taken_run k (get_or from k 0) (get_or whole k 0) → new ≡ taken_before whole from (k + 1)
unfolding taken_before
before_more whole from k pages new before added = let e : suc k ≡ k + 1 = omega arith in added ∙ ap (λ xs. xs ++ taken_run k (get_or from k 0) (get_or whole k 0)) before ∙ ap (taken_before whole from) e

-- ---- what is so of each

run_all : (P : TakenPage → Type 0) (k from n : ℕ) → ((i : ℕ) → i < n → P (record { page = content_page k i; from = content_page from i })) → All P (taken_run k from n)
unfolding taken_run
run_all P k from zero each = All-nil P
run_all P k from (suc n) each = All-append P (taken_run k from n) (record { page = content_page k n; from = content_page from n } ∷ []) (run_all P k from n (λ i below. each i (omega arith))) (All-cons P (record { page = content_page k n; from = content_page from n }) [] (each n (omega arith)) (All-nil P))

before_all : (P : TakenPage → Type 0) (whole from : List ℕ) (n : ℕ) → ((k i : ℕ) → k < n → i < get_or whole k 0 → P (record { page = content_page k i; from = content_page (get_or from k 0) i })) → All P (taken_before whole from n)
unfolding taken_before
before_all P whole from zero each = All-nil P
before_all P whole from (suc n) each =
    All-append P (taken_before whole from n) (taken_run n (get_or from n 0) (get_or whole n 0)) (before_all P whole from n (λ k i low below. each k i (omega arith) below)) (run_all P n (get_or from n 0) (get_or whole n 0) (λ i below. each n i (omega arith) below))

all_left : (P : TakenPage → Type 0) (xs ys : List TakenPage) → All P (xs ++ ys) → All P xs
all_left P [] ys all = All-nil P
all_left P (x ∷ xs) ys all = All-cons P x xs (All-head P x (xs ++ ys) all) (all_left P xs ys (All-tail P x (xs ++ ys) all))

all_right : (P : TakenPage → Type 0) (xs ys : List TakenPage) → All P (xs ++ ys) → All P ys
all_right P [] ys all = all
all_right P (x ∷ xs) ys all = all_right P xs ys (All-tail P x (xs ++ ys) all)

run_has : (P : TakenPage → Type 0) (k from n i : ℕ) → i < n → All P (taken_run k from n) → P (record { page = content_page k i; from = content_page from i })
unfolding taken_run
run_has P k from zero i below all = absurd (omega arith)
run_has P k from (suc n) i below all = elim (cases_eq i n) [
  | inl here ↦ subst (λ j. P (record { page = content_page k j; from = content_page from j })) (sym here) (All-head P (record { page = content_page k n; from = content_page from n }) [] (all_right P (taken_run k from n) (record { page = content_page k n; from = content_page from n } ∷ []) all))
  | inr other ↦ run_has P k from n i (omega (arith, other)) (all_left P (taken_run k from n) (record { page = content_page k n; from = content_page from n } ∷ []) all)
]

before_has : (P : TakenPage → Type 0) (whole from : List ℕ) (n k i : ℕ) → k < n → i < get_or whole k 0 → All P (taken_before whole from n) → P (record { page = content_page k i; from = content_page (get_or from k 0) i })
unfolding taken_before
before_has P whole from zero k i low below all = absurd (omega arith)
before_has P whole from (suc n) k i low below all = elim (cases_eq k n) [
  | inl here ↦ run_has P k (get_or from k 0) (get_or whole k 0) i below (subst (λ j. All P (taken_run j (get_or from j 0) (get_or whole j 0))) (sym here) (all_right P (taken_before whole from n) (taken_run n (get_or from n 0) (get_or whole n 0)) all))
  | inr other ↦ before_has P whole from n k i (omega (arith, other)) below (all_left P (taken_before whole from n) (taken_run n (get_or from n 0) (get_or whole n 0)) all)
]

-- all are pages of a memory
pub all_in_range : (whole from : List ℕ) (pages : List TakenPage) → pages ≡ taken_before whole from 64 → AreFew whole → ((k : ℕ) → get_or from k 0 < 64) → All AreInRange pages
all_in_range whole from pages is few sources = subst (All AreInRange) (sym is) (before_all AreInRange whole from 64 (λ k i low below. (let f = few k in let s = sources k in (omega (arith, f), omega (arith, f, s)))))

-- ---- the bytes that are taken

decided : (a b c d : ℕ) → a ≤ b → c < d → (nat_le a b && nat_lt c d) ≡ true
decided a b c d low high = grind (arith, nat_tests)

le_of : (a b : ℕ) (t : Bool) → (nat_le a b && t) ≡ true → a ≤ b
le_of a b t is = grind (arith, nat_tests)

lt_of : (t : Bool) (a b : ℕ) → (t && nat_lt a b) ≡ true → a < b
lt_of true a b is = grind (arith, nat_tests)
lt_of false a b is = absurd (false≢true is)

-- a byte of the i-th page, counted from where slot 0 begins
taken_byte : (whole from : List ℕ) (p d : ℕ → ℕ) (k j : ℕ) → AreFew whole → j < spared_in whole k → with_taken whole from p d (slot_start k + content_offset + j) ≡ content_from d from k j
taken_byte whole from p d k j few below =
    let f = few k in
    let a = slot_start k + content_offset + j in
    let e : a / slot_size ≡ k = omega (arith, f, below) in
    let m : a % slot_size ≡ content_offset + j = omega (arith, f, below) in
    let w : get_or whole (a / slot_size) 0 ≡ get_or whole k 0 = ap (λ x. get_or whole x 0) e in
    let is : is_spared whole a ≡ true = decided content_offset (a % slot_size) (a % slot_size) (content_offset + spared_in whole (a / slot_size)) (omega (arith, m)) (omega (arith, m, w, below)) in
    let r : a % slot_size - content_offset ≡ j = omega (arith, m) in
    ap (λ t. cond t (content_from d from (a / slot_size) (a % slot_size - content_offset)) (p a)) is ∙ (λ i. content_from d from (e i) (r i))

-- the bytes that a file image has afterwards
pub has_taken : (whole from : List ℕ) (p d : ℕ → ℕ) → AreFew whole → HasTaken (spared_in whole) (content_from d from) p (with_taken whole from p d)
has_taken whole from p d few = record {
  few = λ k. (let f = few k in omega (arith, f));
  same = λ a. choice a (is_spared whole a) refl;
  taken = λ k i below. taken_byte whole from p d k i few below;
}
  where
    choice : (a : ℕ) (t : Bool) → is_spared whole a ≡ t → (with_taken whole from p d a ≡ p a) ⊎ IsSparedAt (spared_in whole) a
    choice a true is = inr (record { from = le_of content_offset (a % slot_size) (nat_lt (a % slot_size) (content_offset + spared_in whole (a / slot_size))) is; before = lt_of (nat_le content_offset (a % slot_size)) (a % slot_size) (content_offset + spared_in whole (a / slot_size)) is })
    choice a false is = inl (ap (λ t. cond t (content_from d from (a / slot_size) (a % slot_size - content_offset)) (p a)) is)

-- ---- in memory

in_slots : (m : Memory) (f : ℕ → ℕ) (a : ℕ) → a < all_slots_size → byte_at (with_file_bytes m f) (first_address + a) ≡ f a
in_slots m f a below =
    let e : first_address + a - first_address ≡ a = omega arith in
    value_at-row_key m.bytes first_address f all_slots_size (first_address + a) (omega arith) (omega arith) ∙ ap f e

page_byte : (whole from : List ℕ) (m c : Memory) (k i j : ℕ) → AreFew whole → k < 64 → i < get_or whole k 0 → j < 4096
    → byte_at (with_file_bytes m (with_taken whole from (file_bytes m) (file_bytes c))) (4096 * content_page k i + j) ≡ byte_at c (4096 * content_page (get_or from k 0) i + j)
page_byte whole from m c k i j few low below small =
    let f = few k in
    let o = 4096 * i + j in
    let e : 4096 * content_page k i + j ≡ first_address + (slot_start k + content_offset + o) = omega arith in
    let g : first_address + (slot_start (get_or from k 0) + content_offset + o) ≡ 4096 * content_page (get_or from k 0) i + j = omega arith in
    ap (byte_at (with_file_bytes m (with_taken whole from (file_bytes m) (file_bytes c)))) e
    ∙ in_slots m (with_taken whole from (file_bytes m) (file_bytes c)) (slot_start k + content_offset + o) (omega (arith, f, low, below, small))
    ∙ taken_byte whole from (file_bytes m) (file_bytes c) k o few (omega (arith, below, small))
    ∙ ap (byte_at c) g

pub all_from : (whole from : List ℕ) (m c d : Memory) (pages : List TakenPage) → pages ≡ taken_before whole from 64 → AreFew whole → ((k : ℕ) → get_or from k 0 < 64) → d ≡ c
    → All (IsFrom d (with_file_bytes m (with_taken whole from (file_bytes m) (file_bytes c)))) pages
all_from whole from m c d pages is few sources same =
    let n = with_file_bytes m (with_taken whole from (file_bytes m) (file_bytes c)) in
    subst (λ x. All (IsFrom x n) pages) (sym same) (subst (All (IsFrom c n)) (sym is) (before_all (IsFrom c n) whole from 64 (λ k i low below j small. page_byte whole from m c k i j few low below small)))

map_all : (P : ℕ → Type 0) (pages : List TakenPage) → All (λ (t : TakenPage). P t.page) pages → All P (map taken_page pages)
map_all P [] all = All-nil P
map_all P (x ∷ xs) all = All-cons P x.page (map taken_page xs) (All-head (λ (t : TakenPage). P t.page) x xs all) (map_all P xs (All-tail (λ (t : TakenPage). P t.page) x xs all))

map_back : (P : ℕ → Type 0) (pages : List TakenPage) → All P (map taken_page pages) → All (λ (t : TakenPage). P t.page) pages
map_back P [] all = All-nil (λ (t : TakenPage). P t.page)
map_back P (x ∷ xs) all = All-cons (λ (t : TakenPage). P t.page) x xs (All-head P x.page (map taken_page xs) all) (map_back P xs (All-tail P x.page (map taken_page xs) all))

pub all_beside : (whole from : List ℕ) (page : ℕ) (pages : List TakenPage) → pages ≡ taken_before whole from 64 → IsBesideTaken whole page → All (λ taken. page ≡ taken → ⊥) (map taken_page pages)
all_beside whole from page pages is beside =
    map_all (λ taken. page ≡ taken → ⊥) pages (subst (All (λ (t : TakenPage). page ≡ t.page → ⊥)) (sym is) (before_all (λ (t : TakenPage). page ≡ t.page → ⊥) whole from 64 (λ k i low below. beside k i low below)))

-- a page is one of a list, or none
is_in : (page : ℕ) (xs : List ℕ) → (All (λ taken. page ≡ taken → ⊥) xs) ⊎ ((P : ℕ → Type 0) → All P xs → P page)
is_in page [] = inl (All-nil (λ taken. page ≡ taken → ⊥))
is_in page (x ∷ xs) = elim (cases_eq page x) [
  | inl here ↦ inr (λ P all. subst P (sym here) (All-head P x xs all))
  | inr other ↦ elim (is_in page xs) [
    | inl none ↦ inl (All-cons (λ taken. page ≡ taken → ⊥) x xs other none)
    | inr one ↦ inr (λ P all. one P (All-tail P x xs all))
  ]
]

-- a byte of a page that is none of them
other_byte : (whole from : List ℕ) (m c : Memory) (pages : List TakenPage) (a : ℕ) → pages ≡ taken_before whole from 64 → AreFew whole → All (λ taken. a / 4096 ≡ taken → ⊥) (map taken_page pages)
    → byte_at (with_file_bytes m (with_taken whole from (file_bytes m) (file_bytes c))) a ≡ byte_at m a
other_byte whole from m c pages a is few none =
    let f = with_taken whole from (file_bytes m) (file_bytes c) in
    elim (cases_lt a first_address) [
      | inl before ↦ value_at-row_before m.bytes first_address f all_slots_size a before
      | inr from_here ↦ elim (cases_lt a (first_address + all_slots_size)) [
        | inl inside ↦
            let o = a - first_address in
            let e : first_address + o ≡ a = omega arith in
            ap (byte_at (with_file_bytes m f)) (sym e) ∙ in_slots m f o (omega arith) ∙ elim ((has_taken whole from (file_bytes m) (file_bytes c) few).same o) [
              | inl same ↦ same ∙ ap (byte_at m) e
              | inr at ↦ absurd (spared_none o at from_here inside)
            ]
        | inr after ↦ value_at-row_after m.bytes first_address f all_slots_size a after
      ]
    ]
  where
    spared_none : (o : ℕ) → IsSparedAt (spared_in whole) (a - first_address) → first_address ≤ a → a < first_address + all_slots_size → ⊥
    spared_none o at low high =
        let x = a - first_address in
        let k = x / slot_size in
        let i = (x % slot_size - content_offset) / 4096 in
        let f = few k in
        let from_is = at.from in
        let before_is = at.before in
        before_has (λ (t : TakenPage). a / 4096 ≡ t.page → ⊥) whole from 64 k i (omega (arith, low, high)) (omega (arith, from_is, before_is)) (subst (All (λ (t : TakenPage). a / 4096 ≡ t.page → ⊥)) is (map_back (λ taken. a / 4096 ≡ taken → ⊥) pages none))
        (omega (arith, low, high, from_is))

page_place : (m n : Memory) (a : ℕ) → SamePage m n (a / 4096) → byte_at m a ≡ byte_at n a
page_place m n a same = let e : 4096 * (a / 4096) + a % 4096 ≡ a = omega arith in ap (byte_at m) (sym e) ∙ same (a % 4096) (omega arith) ∙ ap (byte_at n) e

pub taken_memory : {E : Type 0} (r : Result Unit E) (whole from : List ℕ) (m c n : Memory) (pages : List TakenPage) → pages ≡ taken_before whole from 64 → AreFew whole
    → OnOk r (IsTakenOver m (with_file_bytes m (with_taken whole from (file_bytes m) (file_bytes c))) (map taken_page pages) n) → OnOk r (n ≡ with_file_bytes m (with_taken whole from (file_bytes m) (file_bytes c)))
taken_memory (Err e) whole from m c n pages is few taken = tt
taken_memory (Ok x) whole from m c n pages is few taken =
    let f = with_file_bytes m (with_taken whole from (file_bytes m) (file_bytes c)) in
    same_memory n f (λ a. elim (is_in (a / 4096) (map taken_page pages)) [
      | inl none ↦ page_place n m a (taken.other (a / 4096) none) ∙ sym (other_byte whole from m c pages a is few none)
      | inr one ↦ page_place n f a (one (SamePage n f) taken.taken)
    ]) taken.permission
