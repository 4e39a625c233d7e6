-- The text of a memory as it grows from one used page to the next.
use Rattle.std.specs.Prelude.{◌≡◌, ℕ, zero, suc, ◌+◌, ◌-◌, ◌*◌, ◌<◌, ◌≤◌, Bool, true, false, cond, not, ◌||◌, ◌==◌, List, [], ◌∷◌, ◌++◌, length, slice_index}
use Rattle.std.specs.List.{filter, flat_map, list_any, range_with_len}
use Rattle.std.proofs.Common.{refl, sym, ◌∙◌, ap, arith, append_assoc, get_or, replicate}
use Rattle.std.specs.Int.{w32, to_le_bytes}
use Rattle.std.proofs.lemmas.List.{append-nil, get_or-replicate, length-replicate}
use Rattle.std.proofs.lemmas.List.Elements.{filter-append}
use Rattle.std.proofs.lemmas.Grind.{flat_map-append, same_number_lists}
use Rattle.std.proofs.lemmas.Bool.Decides.{nat_tests}
use Rattle.memory_model.specs.Memory.{Memory, byte_at, permission_at, bytes_from}
use Rattle.memory_model.specs.Sizes.{page_size, pages}
use Rattle.memory_model.specs.Ranges.{IsUsed, NoneUsed, IsNextPage, IsPageOf, IsZeroPage}
use Rattle.memory_model.proofs.Runs.{length-bytes_from}
use Rattle.report_model.specs.Digest.{page_bytes, is_used, page_text, text_below}

-- numbers in a row, with one more
range_more : (a n j : ℕ) → a + n ≡ j → range_with_len a (suc n) ≡ range_with_len a n ++ j ∷ []
range_more a zero j e = ap (λ k. k ∷ []) {x = a} {y = j} (omega arith)
range_more a (suc n) j e = ap (λ ks. a ∷ ks) (range_more (a + 1) n j (omega arith))

one : (p : Bool) (f : ℕ → List ℕ) (page : ℕ) → flat_map f (cond p (page ∷ []) []) ≡ cond p (f page) []
one true f page = append-nil (f page)
one false f page = refl

-- one more page
text_more : (m : Memory) (n : ℕ) → text_below m (suc n) ≡ text_below m n ++ cond (is_used m n) (page_text m n) []
unfolding text_below
text_more m n =
    ap (λ ps. flat_map (page_text m) (filter (is_used m) ps)) (range_more 0 n n (omega arith))
    ∙ ap (flat_map (page_text m)) (filter-append (is_used m) (range_with_len 0 n) (n ∷ []))
    ∙ flat_map-append (page_text m) (filter (is_used m) (range_with_len 0 n)) (cond (is_used m n) (n ∷ []) [])
    ∙ ap (λ t. flat_map (page_text m) (filter (is_used m) (range_with_len 0 n)) ++ t) (one (is_used m n) (page_text m) n)

both : (a b : Bool) → (a || b) ≡ false → (a ≡ false) × (b ≡ false)
both false b e = (refl, e)
both true b e = cc

zero_byte : (b : ℕ) → not (b == 0) ≡ false → b ≡ 0
zero_byte b e = grind (arith, nat_tests)

-- bytes of which none is other than 0
all_zero : (m : Memory) (a n : ℕ) → list_any (λ b. not (b == 0)) (bytes_from m a n) ≡ false → (k : ℕ) → k < n → byte_at m (a + k) ≡ 0
all_zero m a zero e k within = absurd (omega arith)
all_zero m a (suc n) e zero within = ap (byte_at m) {x = a + 0} {y = a} (omega arith) ∙ zero_byte (byte_at m a) (both _ _ e).0
all_zero m a (suc n) e (suc k) within = ap (byte_at m) {x = a + suc k} {y = a + 1 + k} (omega arith) ∙ all_zero m (a + 1) n (both _ _ e).1 k (omega arith)

none_other : (m : Memory) (a n : ℕ) → ((k : ℕ) → k < n → byte_at m (a + k) ≡ 0) → list_any (λ b. not (b == 0)) (bytes_from m a n) ≡ false
none_other m a zero h = refl
none_other m a (suc n) h =
    let here : byte_at m a ≡ 0 = ap (byte_at m) {x = a} {y = a + 0} (omega arith) ∙ h 0 (omega arith) in
    ap (λ b. not (b == 0) || list_any (λ b. not (b == 0)) (bytes_from m (a + 1) n)) here
    ∙ none_other m (a + 1) n (λ k below. ap (byte_at m) {x = a + 1 + k} {y = a + suc k} (omega arith) ∙ h (suc k) (omega arith))

-- a page's test and the statement on its permission and bytes
unused : (m : Memory) (page : ℕ) → (permission_at m page ≡ 0) × IsZeroPage m page → is_used m page ≡ false
unfolding is_used page_bytes
unused m page h =
    ap (λ p. not (p == 0) || list_any (λ b. not (b == 0)) (page_bytes m page)) h.0
    ∙ none_other m (page_size * page) page_size h.1

has_nothing : (m : Memory) (page : ℕ) → is_used m page ≡ false → (permission_at m page ≡ 0) × IsZeroPage m page
unfolding is_used page_bytes
has_nothing m page e = (zero_byte _ (both _ _ e).0, all_zero m (page_size * page) page_size (both _ _ e).1)

used : (m : Memory) (page : ℕ) (b : Bool) → is_used m page ≡ b → IsUsed m page → b ≡ true
used m page true e h = refl
used m page false e h = absurd (h (has_nothing m page e))

-- before the first page
pub text_first : (m : Memory) → text_below m 0 ≡ []
unfolding text_below
text_first m = refl

-- pages of which none is used add nothing
text_same : (m : Memory) (n count : ℕ) → NoneUsed m n (n + count) → text_below m (n + count) ≡ text_below m n
text_same m n zero none = ap (text_below m) {x = n + 0} {y = n} (omega arith)
text_same m n (suc count) none =
    ap (text_below m) {x = n + suc count} {y = suc (n + count)} (omega arith)
    ∙ text_more m (n + count)
    ∙ ap (λ b. text_below m (n + count) ++ cond b (page_text m (n + count)) []) (unused m (n + count) (none (n + count) (omega arith) (omega arith)))
    ∙ append-nil (text_below m (n + count))
    ∙ text_same m n count (λ page from to. none page from (omega arith))

-- up to a number that is no less
text_up_to : (m : Memory) (n end : ℕ) → n ≤ end → NoneUsed m n end → text_below m end ≡ text_below m n
text_up_to m n end from none =
    let e : n + (end - n) ≡ end = omega arith in
    ap (text_below m) (sym e) ∙ text_same m n (end - n) (λ page h to. none page h (omega arith))

-- the text behind the next used page
pub text_next : (m : Memory) (n page : ℕ) → IsNextPage m n page → text_below m n ++ page_text m page ≡ text_below m (page + 1)
text_next m n page h =
    let e : text_below m (page + 1) ≡ text_below m page ++ page_text m page =
    ap (text_below m) {x = page + 1} {y = suc page} (omega arith)
    ∙ text_more m page
    ∙ ap (λ b. text_below m page ++ cond b (page_text m page) []) (used m page (is_used m page) refl h.used) in
    sym (e ∙ ap (λ t. t ++ page_text m page) (text_up_to m n page h.from h.least))

-- the text of the whole memory, where no page is left that is used
pub text_last : (m : Memory) (n : ℕ) → n ≤ pages → NoneUsed m n pages → text_below m n ≡ text_below m pages
text_last m n within none = sym (text_up_to m n pages within none)

-- at each place of a page
byte_at_place : (m : Memory) (a n k : ℕ) → k < n → get_or (bytes_from m a n) k 0 ≡ byte_at m (a + k)
byte_at_place m a zero k within = absurd (omega arith)
byte_at_place m a (suc n) zero within = ap (byte_at m) {x = a} {y = a + 0} (omega arith)
byte_at_place m a (suc n) (suc k) within = byte_at_place m (a + 1) n k (omega arith) ∙ ap (byte_at m) {x = a + 1 + k} {y = a + suc k} (omega arith)

bytes_same : (m : Memory) (a n : ℕ) (bytes : List ℕ) → length bytes ≡ n → ((k : ℕ) → k < n → byte_at m (a + k) ≡ slice_index bytes k) → bytes ≡ bytes_from m a n
bytes_same m a n bytes sized h =
    same_number_lists bytes (bytes_from m a n) (sized ∙ sym (length-bytes_from m a n))
    (λ k within. let below : k < n = omega arith in sym (byte_at_place m a n k below ∙ h k below))

-- the bytes that a page keeps are its bytes
pub page_kept : (m : Memory) (page : ℕ) (bytes : List ℕ) → IsPageOf m page bytes → bytes ≡ page_bytes m page
unfolding page_bytes
page_kept m page bytes h = bytes_same m (page_size * page) page_size bytes h.sized h.byte

-- and so are zeros, where none are kept
pub page_zero : (m : Memory) (page n : ℕ) → n ≡ page_size → IsZeroPage m page → replicate n 0 ≡ page_bytes m page
page_zero m page n sized h = page_kept m page (replicate n 0) record {
  sized = length-replicate n 0 ∙ sized;
  byte = λ k within. h k within ∙ sym (get_or-replicate n k 0 0 (omega arith));
}

-- a page's text in three parts, one after the other
pub page_parts : (m : Memory) (page : ℕ) (before number : List ℕ) (permission : ℕ) (bytes : List ℕ) → number ≡ to_le_bytes w32 page → permission ≡ permission_at m page
    → bytes ≡ page_bytes m page → ((before ++ number) ++ permission ∷ []) ++ bytes ≡ before ++ page_text m page
unfolding page_text
page_parts m page before number permission bytes n p b =
    append_assoc (before ++ number) (permission ∷ []) bytes
    ∙ append_assoc before number (permission ∷ bytes)
    ∙ ap (λ t. before ++ (t ++ permission ∷ bytes)) n
    ∙ ap (λ q. before ++ (to_le_bytes w32 page ++ q ∷ bytes)) p
    ∙ ap (λ t. before ++ (to_le_bytes w32 page ++ permission_at m page ∷ t)) b
