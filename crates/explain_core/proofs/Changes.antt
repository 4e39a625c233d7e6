-- Pages that have changed since a snapshot, one after the other.
use Rattle.std.proofs.Common.{◌≡◌, ℕ, zero, suc, ◌+◌, ◌-◌, ◌*◌, ◌<◌, ◌≤◌, Bool, true, false, List, [], ◌∷◌, ◌++◌, append_assoc, refl, sym, ap, ap₂, ◌∙◌, arith}
use Rattle.std.proofs.lemmas.List.{append-nil}
use Rattle.std.proofs.lemmas.Slice.Eq.{bytes_eq-Decides}
use Rattle.std.specs.Prelude.{IsTrue, ◌↔◌, not, if◌then◌else◌}
use Rattle.std.specs.Str.{bytes_eq}
use Rattle.memory_model.specs.Memory.{Memory, byte_at, bytes_from}
use Rattle.memory_model.specs.Sizes.{page_size, pages}
use Rattle.report_model.specs.Digest.{page_bytes}
use Rattle.space_mem.specs.Held.{Held, AllClean, Covers, IsNextDirty, SamePage}
use Rattle.explain_core.specs.Pages.{each_page, is_changed, page_address, changed_pages, change_at}
use Rattle.explain_core.proofs.EachPage.{no_pages, passed, picked}

same_bytes : (m s : Memory) (a n : ℕ) → ((k : ℕ) → k < n → byte_at m (a + k) ≡ byte_at s (a + k)) → bytes_from m a n ≡ bytes_from s a n
same_bytes m s a zero same = refl
same_bytes m s a (suc n) same =
    let at : a + 0 ≡ a = omega arith in
    ap₂ (λ b bs. b ∷ bs)
    (ap (byte_at m) (sym at) ∙ same 0 (omega arith) ∙ ap (byte_at s) at)
    (same_bytes m s (a + 1) n (λ k below. ap (byte_at m) {x = a + 1 + k} {y = a + suc k} (omega arith) ∙ same (suc k) (omega arith) ∙ ap (byte_at s) {x = a + suc k} {y = a + 1 + k} (omega arith)))

pub unchanged : (m s : Memory) (page : ℕ) → SamePage m s page → is_changed m s page ≡ false
unfolding page_bytes
unchanged m s page same = ap not ((bytes_eq-Decides (page_bytes m page) (page_bytes s page)).1 (same_bytes m s (page_size * page) page_size same))

-- in the words of a test of two pages
pub tells : (b : Bool) (xs ys us vs : List ℕ) → (IsTrue b ↔ (xs ≡ ys)) → xs ≡ us → ys ≡ vs → not b ≡ not (bytes_eq us vs)
tells true xs ys us vs is left right = sym (ap not ((bytes_eq-Decides us vs).1 (sym left ∙ is.0 refl ∙ right)))
tells false xs ys us vs is left right = by_test (bytes_eq us vs) refl
  where
    by_test : (b : Bool) → bytes_eq us vs ≡ b → true ≡ not (bytes_eq us vs)
    by_test true e = let no = is.1 (left ∙ (bytes_eq-Decides us vs).0 e ∙ sym right) in cc
    by_test false e = sym (ap not e)

-- what is known before a page
pub record ChangesSoFar (m s : Memory) (changed : List ℕ) (page : ℕ) : Type 0 where
  pub all : changed ++ each_page (is_changed m s) page_address page (pages - page) ≡ changed_pages m s
  pub within : page ≤ pages

pub at_first : (m s : Memory) → ChangesSoFar m s [] 0
at_first m s = record { all = refl; within = omega arith }

clean_pages : (h : Held) (s : Memory) (page k n : ℕ) → Covers h s → page + k ≤ pages → AllClean h page (page + k)
    → each_page (is_changed h.memory s) page_address page (k + n) ≡ each_page (is_changed h.memory s) page_address (page + k) n
clean_pages h s page k n covers within clean = passed (is_changed h.memory s) page_address page k n (λ q above below. unchanged h.memory s q (covers q (omega (arith, below, within)) (clean q above below)))

-- a page that is looked at
pub at_page : (m s : Memory) (page n : ℕ) → each_page (is_changed m s) page_address page (suc n) ≡ change_at m s page ++ each_page (is_changed m s) page_address (page + 1) n
at_page m s page n = by_test (is_changed m s page) refl
  where
    by_test : (b : Bool) → is_changed m s page ≡ b → each_page (is_changed m s) page_address page (suc n) ≡ (if is_changed m s page then page_address page ∷ [] else []) ++ each_page (is_changed m s) page_address (page + 1) n
    by_test true is = picked (is_changed m s) page_address page n is ∙ sym (ap (λ b. (if b then page_address page ∷ [] else []) ++ each_page (is_changed m s) page_address (page + 1) n) is)
    by_test false is =
        ap (each_page (is_changed m s) page_address page) {x = suc n} {y = 1 + n} (omega arith)
        ∙ passed (is_changed m s) page_address page 1 n (λ q above below. ap (is_changed m s) {x = q} {y = page} (omega (arith, above, below)) ∙ is)
        ∙ sym (ap (λ b. (if b then page_address page ∷ [] else []) ++ each_page (is_changed m s) page_address (page + 1) n) is)

pub one_more : (h : Held) (s : Memory) (changed new : List ℕ) (from page : ℕ) → Covers h s → ChangesSoFar h.memory s changed from → IsNextDirty h from page → new ≡ changed ++ change_at h.memory s page → ChangesSoFar h.memory s new (page + 1)
one_more h s changed new from page covers far next is =
    let m = h.memory in
    let above = next.above in
    let below = next.below in
    let k = page - from in
    let n = pages - (page + 1) in
    let at : from + k ≡ page = omega (arith, above) in
    let all : pages - from ≡ k + suc n = omega (arith, above, below) in
    let passed_over = ap (each_page (is_changed m s) page_address from) all
    ∙ clean_pages h s from k (suc n) covers (omega (arith, at, below)) (λ q up down. next.clean q up (omega (arith, down, at)))
    ∙ ap (λ q. each_page (is_changed m s) page_address q (suc n)) at ∙ at_page m s page n in
    record {
      all = ap (λ v. v ++ each_page (is_changed m s) page_address (page + 1) n) is ∙ append_assoc changed (change_at m s page) (each_page (is_changed m s) page_address (page + 1) n)
          ∙ ap (λ v. changed ++ v) (sym passed_over) ∙ far.all;
      within = omega (arith, below);
    }

pub at_last : (h : Held) (s : Memory) (changed : List ℕ) (from : ℕ) → Covers h s → ChangesSoFar h.memory s changed from → AllClean h from 1048576 → changed ≡ changed_pages h.memory s
at_last h s changed from covers far clean =
    let m = h.memory in
    let within = far.within in
    let k = pages - from in
    let at : from + k ≡ pages = omega (arith, within) in
    let all : pages - from ≡ k + 0 = omega arith in
    let none = ap (each_page (is_changed m s) page_address from) all
    ∙ clean_pages h s from k 0 covers (omega (arith, at)) (λ q up down. clean q up (omega (arith, down, at)))
    ∙ no_pages (is_changed m s) page_address (from + k) in
    sym (append-nil changed) ∙ ap (λ v. changed ++ v) (sym none) ∙ far.all
