-- What a memory is after the bytes of one page have changed.
use Rattle.std.specs.Prelude.{◌≡◌, ℕ, ◌+◌, ◌-◌, ◌*◌, ◌/◌, ◌%◌, ◌<◌, ◌≤◌, ◌++◌, true, false, cond, List, [], ◌∷◌, take, drop, length, slice_index, slice_set, Option, Some, None}
use Rattle.std.proofs.Common.{refl, sym, ◌∙◌, ap, arith, inl, inr, eq-eqb, ne_eqb}
use Rattle.std.proofs.lemmas.List.{get_or-set_same, get_or-set_other, length-set, length-take-le, take-append-drop, take-take, drop-take, get_or_append_left, get_or-append_right, get_or-take, get_or-drop}
use Rattle.std.proofs.lemmas.Bool.{cases_eq, cases_lt, false≢true}
use Rattle.memory_model.specs.declared.Width.{Width}
use Rattle.memory_model.specs.declared.Width.TheVariants.{One, Two, Four}
use Rattle.memory_model.specs.Ranges.{with_page}
use Rattle.memory_model.proofs.Rows.{value_at-row_key, value_at-row_before, value_at-row_after}
use Rattle.memory_model.specs.Memory.{same_memory, Memory, byte_at, permission_at, with_byte, with_bytes, with_number, width_bytes}
use Rattle.memory_model.proofs.Runs.{byte_at-with_byte, byte_at-with_byte_other, byte_at-with_bytes, byte_at-with_bytes_out, permission_at-with_bytes}
use Rattle.page_store.specs.declared.PageRef.{PageRef}
use Rattle.page_store.specs.Bytes.{bytes_of, is_own, IsPage, with_number_in, with_bytes_in}
use Rattle.page_tree.specs.declared.tree_ref.TreeRef.{TreeRef}
use Rattle.page_tree.specs.Blocks.{byte_in, bytes_in, is_own_in, IsWhole}
use Rattle.page_tree.specs.Rows.{Row, IsReplacedRow, IsEditedRow}
use Rattle.page_tree.specs.TreeRefs.{root_row, root_page, root_own, AreWholeRoot}
use Rattle.space_mem.specs.Tables.{memory_of, SetsPage}
use Rattle.space_mem.proofs.Tables.{memory_is, byte_at-of, byte_at-high, byte_at-page, permission_at-of, permission_at-high, byte_in-bytes, aligned_in}
use Rattle.space_mem.proofs.Updates.{root_whole, own_kept}

-- a memory that differs from another in one page, which has these bytes
pub record IsWithPage (page : ℕ) (bytes : List ℕ) (old m : Memory) : Type 0 where
  pub here : (k : ℕ) → k < 4096 → byte_at m (4096 * page + k) ≡ slice_index bytes k
  pub other : (a : ℕ) → (a / 4096 ≡ page → ⊥) → byte_at m a ≡ byte_at old a
  pub permission : (p : ℕ) → permission_at m p ≡ permission_at old p

-- such a memory is that of the edited tree
pub edited_is : (page : ℕ) (bytes : List ℕ) (t s : TreeRef) (m : Memory) → page < 1048576 → SetsPage page bytes t s → IsWithPage page bytes (memory_of t) m → memory_of s ≡ m
edited_is page bytes t s m within sets with_it = memory_is s m
    (λ a below. elim (cases_eq (a / 4096) page) [
      | inl same ↦
          let e : a ≡ 4096 * page + a % 4096 = omega arith in
          ap (byte_at m) e ∙ with_it.here (a % 4096) (omega arith) ∙ sym (sets.here (a % 4096)) ∙ ap (λ n. byte_in (root_page s n) (a % 4096)) (sym same)
      | inr other ↦ with_it.other a other ∙ byte_at-of t a below ∙ sym (sets.other (a / 4096) (a % 4096) (omega arith) other)
    ])
    (λ a high. with_it.other a (λ e. omega arith) ∙ byte_at-high t a high)
    (λ p below. with_it.permission p ∙ permission_at-of t p below ∙ sym (sets.permission p below))
    (λ p high. with_it.permission p ∙ permission_at-high t p high)

with_page_start : (page : ℕ) (bytes : List ℕ) (t : TreeRef) → page < 1048576 → ((k : ℕ) → byte_in (root_page t page) k ≡ slice_index bytes k) → IsWithPage page bytes (memory_of t) (memory_of t)
with_page_start page bytes t within was = record {
  here = λ k below. byte_at-page t page k within below ∙ was k;
  other = λ a other. refl;
  permission = λ p. refl;
}

-- one byte of the page is written
pub with_page_byte : (page : ℕ) (bytes : List ℕ) (old m : Memory) (a k v : ℕ) → a ≡ 4096 * page + k → k < length bytes → k < 4096 → IsWithPage page bytes old m → IsWithPage page (slice_set bytes k v) old (with_byte m a v)
with_page_byte page bytes old m a k v at within below with_it = record {
  here = λ j less. elim (cases_eq j k) [
    | inl same ↦
        let e : 4096 * page + j ≡ a = omega arith in
        ap (byte_at (with_byte m a v)) e ∙ byte_at-with_byte m a v ∙ sym (ap (slice_index (slice_set bytes k v)) same ∙ get_or-set_same bytes k v 0 within)
    | inr other ↦
        byte_at-with_byte_other m a v (4096 * page + j) (λ e. other (omega arith)) ∙ with_it.here j less ∙ sym (get_or-set_other bytes k j v 0 other)
  ];
  other = λ q other. byte_at-with_byte_other m a v q (λ e. other (omega arith)) ∙ with_it.other q other;
  permission = with_it.permission;
}

-- a number is written
pub with_page_number : (page : ℕ) (bytes : List ℕ) (old m : Memory) (a k : ℕ) (width : Width) (v : ℕ) → a ≡ 4096 * page + k → length bytes ≡ 4096 → k < 4096 → k % width_bytes width ≡ 0 → IsWithPage page bytes old m → IsWithPage page (with_number_in bytes k width v) old (with_number m a width v)
with_page_number page bytes old m a k One v at sized below aligned with_it = with_page_byte page bytes old m a k (v % 256) at (omega arith) below with_it
with_page_number page bytes old m a k Two v at sized below aligned with_it =
    with_page_byte page _ old _ (a + 1) (k + 1) (v / 256 % 256) (omega arith) (omega (arith, length-set bytes k (v % 256))) (omega arith)
    (with_page_byte page bytes old m a k (v % 256) at (omega arith) below with_it)
with_page_number page bytes old m a k Four v at sized below aligned with_it =
    let b1 = slice_set bytes k (v % 256) in
    let b2 = slice_set b1 (k + 1) (v / 256 % 256) in
    let b3 = slice_set b2 (k + 2) (v / 65536 % 256) in
    let l1 : length b1 ≡ length bytes = length-set bytes k (v % 256) in
    let l2 : length b2 ≡ length b1 = length-set b1 (k + 1) (v / 256 % 256) in
    let l3 : length b3 ≡ length b2 = length-set b2 (k + 2) (v / 65536 % 256) in
    with_page_byte page b3 old _ (a + 3) (k + 3) (v / 16777216 % 256) (omega arith) (omega arith) (omega arith)
    (with_page_byte page b2 old _ (a + 2) (k + 2) (v / 65536 % 256) (omega arith) (omega arith) (omega arith)
    (with_page_byte page b1 old _ (a + 1) (k + 1) (v / 256 % 256) (omega arith) (omega arith) (omega arith)
    (with_page_byte page bytes old m a k (v % 256) at (omega arith) below with_it)))

-- bytes over those of a page
pub overwritten_before : (bytes : List ℕ) (at : ℕ) (new : List ℕ) (k : ℕ) → length bytes ≡ 4096 → at + length new ≤ 4096 → k < at → slice_index (with_bytes_in bytes at new) k ≡ slice_index bytes k
overwritten_before bytes at new k sized within before =
    let n : length (take at bytes) ≡ at = length-take-le at bytes (omega arith) in
    get_or_append_left (take at bytes) (new ++ drop (at + length new) bytes) 0 k (omega arith) ∙ get_or-take at bytes k 0 before

pub overwritten_here : (bytes : List ℕ) (at : ℕ) (new : List ℕ) (k : ℕ) → length bytes ≡ 4096 → at + length new ≤ 4096 → k < length new → slice_index (with_bytes_in bytes at new) (at + k) ≡ slice_index new k
overwritten_here bytes at new k sized within here =
    let n : length (take at bytes) ≡ at = length-take-le at bytes (omega arith) in
    get_or-append_right (take at bytes) (new ++ drop (at + length new) bytes) at (at + k) 0 n (omega arith)
    ∙ ap (λ j. slice_index (new ++ drop (at + length new) bytes) j) {x = at + k - at} {y = k} (omega arith)
    ∙ get_or_append_left new (drop (at + length new) bytes) 0 k here

pub overwritten_after : (bytes : List ℕ) (at : ℕ) (new : List ℕ) (k : ℕ) → length bytes ≡ 4096 → at + length new ≤ 4096 → at + length new ≤ k → slice_index (with_bytes_in bytes at new) k ≡ slice_index bytes k
overwritten_after bytes at new k sized within after =
    let n : length (take at bytes) ≡ at = length-take-le at bytes (omega arith) in
    get_or-append_right (take at bytes) (new ++ drop (at + length new) bytes) at k 0 n (omega arith)
    ∙ get_or-append_right new (drop (at + length new) bytes) (length new) (k - at) 0 refl (omega arith)
    ∙ get_or-drop (at + length new) bytes (k - at - length new) 0
    ∙ ap (slice_index bytes) {x = at + length new + (k - at - length new)} {y = k} (omega arith)

-- bytes in a page
with_page_bytes : (page : ℕ) (bytes new : List ℕ) (old : Memory) (a at : ℕ) → a ≡ 4096 * page + at → length bytes ≡ 4096 → at + length new ≤ 4096 → IsWithPage page bytes old old → IsWithPage page (with_bytes_in bytes at new) old (with_bytes old a new)
with_page_bytes page bytes new old a at is sized within with_it = record {
  here = λ k below. elim (cases_lt k at) [
    | inl before ↦ byte_at-with_bytes_out old a new (4096 * page + k) (λ le. absurd (omega arith)) ∙ with_it.here k below ∙ sym (overwritten_before bytes at new k sized within before)
    | inr from ↦ elim (cases_lt k (at + length new)) [
      | inl here ↦
          let e : 4096 * page + k ≡ a + (k - at) = omega arith in
          let j : at + (k - at) ≡ k = omega arith in
          ap (byte_at (with_bytes old a new)) e ∙ byte_at-with_bytes old a new (k - at) (omega arith)
          ∙ sym (overwritten_here bytes at new (k - at) sized within (omega arith)) ∙ ap (slice_index (with_bytes_in bytes at new)) j
      | inr after ↦ byte_at-with_bytes_out old a new (4096 * page + k) (λ le. omega arith) ∙ with_it.here k below ∙ sym (overwritten_after bytes at new k sized within after)
    ]
  ];
  other = λ q other. byte_at-with_bytes_out old a new q (λ le. elim (cases_lt q (a + length new)) [ inl in_page ↦ absurd (other (omega arith)) | inr past ↦ past ]);
  permission = λ p. permission_at-with_bytes old a new p;
}

-- the bytes of an owned page
own_bytes : (o : Option PageRef) → IsWhole o → is_own_in o ≡ true → IsPage (bytes_in o)
own_bytes None whole own = absurd (false≢true own)
own_bytes (Some page) whole own = whole

pub page_bytes : (t : TreeRef) (page : ℕ) → AreWholeRoot t → page < 1048576 → root_own t page ≡ true → IsPage (bytes_in (root_page t page))
page_bytes t page whole below own = own_bytes (root_page t page) (root_whole t whole page below) (own_kept t page own)

sets : (page : ℕ) (edit : List ℕ → List ℕ) (t s : TreeRef) → IsEditedRow 1048576 page edit (root_row t) (root_row s) → SetsPage page (edit (bytes_in (root_page t page))) t s
sets page edit t s edited = record {
  permission = edited.permission;
  here = λ k. byte_in-bytes (root_page s page) k ∙ ap (λ l. slice_index l k) edited.bytes;
  other = λ p k below ne. ap (λ o. byte_in o k) (edited.other p below ne);
}

-- a number was stored in an owned page
pub stored_memory : (t s : TreeRef) (at : ℕ) (width : Width) (v : ℕ) → at < 4294967296 → at % width_bytes width ≡ 0 → AreWholeRoot t → root_own t (at / 4096) ≡ true
    → IsEditedRow 1048576 (at / 4096) (λ bytes. with_number_in bytes (at % 4096) width v) (root_row t) (root_row s) → memory_of s ≡ with_number (memory_of t) at width v
stored_memory t s at width v below aligned whole own edited =
    let bytes : List ℕ = bytes_in (root_page t (at / 4096)) in
    let page : IsPage bytes = page_bytes t (at / 4096) whole (omega arith) own in
    edited_is (at / 4096) _ t s (with_number (memory_of t) at width v) (omega arith) (sets (at / 4096) _ t s edited)
    (with_page_number (at / 4096) bytes (memory_of t) (memory_of t) at (at % 4096) width v (omega arith) page.sized (omega arith) (aligned_in at width aligned)
    (with_page_start (at / 4096) bytes t (omega arith) (byte_in-bytes (root_page t (at / 4096)))))

-- bytes were written in an owned page
pub written_memory : (t s : TreeRef) (at : ℕ) (new : List ℕ) → at < 4294967296 → at % 4096 + length new ≤ 4096 → AreWholeRoot t → root_own t (at / 4096) ≡ true
    → IsEditedRow 1048576 (at / 4096) (λ bytes. with_bytes_in bytes (at % 4096) new) (root_row t) (root_row s) → memory_of s ≡ with_bytes (memory_of t) at new
written_memory t s at new below within whole own edited =
    let bytes : List ℕ = bytes_in (root_page t (at / 4096)) in
    let page : IsPage bytes = page_bytes t (at / 4096) whole (omega arith) own in
    edited_is (at / 4096) _ t s (with_bytes (memory_of t) at new) (omega arith) (sets (at / 4096) _ t s edited)
    (with_page_bytes (at / 4096) bytes new (memory_of t) at (at % 4096) (omega arith) page.sized within
    (with_page_start (at / 4096) bytes t (omega arith) (byte_in-bytes (root_page t (at / 4096)))))

-- a page that was taken out is put back with other bytes
pub put_back : (n page : ℕ) (edit : List ℕ → List ℕ) (r m s : Row) (q : PageRef) → page < n → IsReplacedRow n page None r m → IsReplacedRow n page (Some q) m s → bytes_of q ≡ edit (bytes_in (r.page page)) → is_own q ≡ true → r.own page ≡ true → IsEditedRow n page edit r s
put_back n page edit r m s q within out back bytes own was = record {
  permission = λ p below. back.permission p below ∙ out.permission p below;
  other = λ p below ne. back.page p below ∙ ap (λ b. cond b (Some q) (m.page p)) (ne_eqb p page ne) ∙ out.page p below ∙ ap (λ b. cond b None (r.page p)) (ne_eqb p page ne);
  own = λ p below. elim (cases_eq p page) [
    | inl same ↦ back.own p below ∙ ap (λ b. cond b (is_own q) (m.own p)) (eq-eqb p page same) ∙ own ∙ sym (ap r.own same ∙ was)
    | inr ne ↦ back.own p below ∙ ap (λ b. cond b (is_own q) (m.own p)) (ne_eqb p page ne) ∙ out.own p below ∙ ap (λ b. cond b false (r.own p)) (ne_eqb p page ne)
  ];
  bytes = ap bytes_in (back.page page within ∙ ap (λ b. cond b (Some q) (m.page page)) (eq-eqb page page refl)) ∙ bytes;
}

-- all of a page is written
pub page_written : (m : Memory) (page : ℕ) (bytes : List ℕ) → length bytes ≡ 4096 → with_bytes m (4096 * page) bytes ≡ with_page m page bytes
page_written m page bytes sized = same_memory (with_bytes m (4096 * page) bytes) (with_page m page bytes)
    (λ a. elim (cases_lt a (4096 * page)) [
      | inl before ↦ byte_at-with_bytes_out m (4096 * page) bytes a (λ le. absurd (omega arith)) ∙ sym (value_at-row_before m.bytes (4096 * page) (slice_index bytes) 4096 a before)
      | inr from ↦ elim (cases_lt a (4096 * page + 4096)) [
        | inl here ↦
            let e : a ≡ 4096 * page + (a - 4096 * page) = omega arith in
            ap (byte_at (with_bytes m (4096 * page) bytes)) e ∙ byte_at-with_bytes m (4096 * page) bytes (a - 4096 * page) (omega (arith, sized)) ∙ sym (value_at-row_key m.bytes (4096 * page) (slice_index bytes) 4096 a from here)
        | inr after ↦ byte_at-with_bytes_out m (4096 * page) bytes a (λ le. omega (arith, sized)) ∙ sym (value_at-row_after m.bytes (4096 * page) (slice_index bytes) 4096 a after)
      ]
    ])
    (λ p. permission_at-with_bytes m (4096 * page) bytes p)

-- more bytes after those that were written
pub with_bytes-append : (m : Memory) (a b : ℕ) (xs ys : List ℕ) → b ≡ a + length xs → with_bytes (with_bytes m a xs) b ys ≡ with_bytes m a (xs ++ ys)
with_bytes-append m a b [] ys is = ap (λ n. with_bytes m n ys) {x = b} {y = a} (omega arith)
with_bytes-append m a b (x ∷ xs) ys is = with_bytes-append (with_byte m a x) (a + 1) b xs ys (omega arith)

pub take_add : (n m : ℕ) (xs : List ℕ) → take (n + m) xs ≡ take n xs ++ take m (drop n xs)
take_add n m xs =
    sym (take-append-drop n (take (n + m) xs))
    ∙ ap (λ l. l ++ drop n (take (n + m) xs)) (take-take n (n + m) xs (omega arith))
    ∙ ap (λ l. take n xs ++ l) (drop-take n m xs)

-- a turn of the loop that writes page by page
pub written_turn : (m ms mt : Memory) (at from done count : ℕ) (bytes new : List ℕ) → ms ≡ with_bytes m at (take done bytes) → done ≤ length bytes → from ≡ at + done → new ≡ take count (drop done bytes) → mt ≡ with_bytes ms from new → mt ≡ with_bytes m at (take (done + count) bytes)
written_turn m ms mt at from done count bytes new before within is part step =
    step ∙ ap (λ x. with_bytes x from new) before
    ∙ with_bytes-append m at from (take done bytes) new (omega (arith, length-take-le done bytes within))
    ∙ ap (with_bytes m at) (ap (λ l. take done bytes ++ l) part ∙ sym (take_add done count bytes))
