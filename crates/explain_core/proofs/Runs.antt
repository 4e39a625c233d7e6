-- Runs of pages with one permission, one after the other.
use Rattle.std.proofs.Common.{◌≡◌, ℕ, zero, suc, ◌+◌, ◌-◌, ◌*◌, ◌<◌, ◌≤◌, ◌==◌, Bool, true, false, List, [], ◌∷◌, ◌++◌, append_assoc, refl, sym, ap, ap₂, ◌∙◌, arith, inl, inr, ◌⊎◌}
use Rattle.std.proofs.lemmas.Bool.Decides.{nat_tests}
use Rattle.std.proofs.lemmas.Bool.{cases_eq}
use Rattle.std.proofs.lemmas.List.{append-nil}
use Rattle.std.specs.Prelude.{nat_lt, not, ◌&&◌, ◌||◌, if◌then◌else◌}
use Rattle.memory_model.specs.Memory.{Memory, permission_at}
use Rattle.memory_model.specs.Sizes.{page_size, pages}
use Rattle.space_mem.specs.Held.{HaveOnePermission}
use Rattle.explain_core.specs.declared.pages.Run.{Run}
use Rattle.explain_core.specs.Pages.{each_page, begins_run, in_a_row, run_from, runs_of, run_between}
use Rattle.explain_core.proofs.EachPage.{no_pages, passed, picked}

pub one_page : (m : Memory) (page : ℕ) → HaveOnePermission m page (page + 1)
one_page m page q above below = let same : q ≡ page = omega (arith, above, below) in ap (permission_at m) same

-- more pages of the permission
pub alike_further : (m : Memory) (page end next : ℕ) → HaveOnePermission m page end → permission_at m end ≡ permission_at m page → HaveOnePermission m end next → HaveOnePermission m page next
alike_further m page end next first same second q above below = by_test (nat_lt q end) refl
  where
    by_test : (b : Bool) → nat_lt q end ≡ b → permission_at m q ≡ permission_at m page
    by_test true e = first q above (grind (arith, nat_tests))
    by_test false e = second q (grind (arith, nat_tests)) below ∙ same

-- no run goes on from the page before one
abbrev pub StartsAt : Memory → ℕ → Type 0
StartsAt m page = page < pages → (page ≡ 0) ⊎ (permission_at m (page - 1) ≡ permission_at m page → ⊥)

in_row : (m : Memory) (p page k n : ℕ) → ((q : ℕ) → page ≤ q → q < page + k → permission_at m q ≡ p) → in_a_row m p page (k + n) ≡ k + in_a_row m p (page + k) n
unfolding in_a_row
in_row m p page zero n alike =
    ap (in_a_row m p page) {x = 0 + n} {y = n} (omega arith) ∙ ap (λ q. in_a_row m p q n) {x = page} {y = page + 0} (omega arith)
    ∙ plus (in_a_row m p (page + 0) n)
  where
    plus : (x : ℕ) → x ≡ 0 + x
    plus x = omega arith
in_row m p page (suc k) n alike =
    let is = alike page (omega arith) (omega arith) in
    let test : (permission_at m page == p) ≡ true = grind (arith, nat_tests) in
    let rest = in_row m p (page + 1) k n (λ q above below. alike q (omega (arith, above)) (omega (arith, below))) in
    ap (in_a_row m p page) {x = suc k + n} {y = suc (k + n)} (omega arith)
    ∙ ap (λ b. if b then suc (in_a_row m p (page + 1) (k + n)) else 0) test
    ∙ ap suc (rest ∙ ap (λ q. k + in_a_row m p q n) {x = page + 1 + k} {y = page + suc k} (omega arith))
    ∙ plus k (in_a_row m p (page + suc k) n)
  where
    plus : (k x : ℕ) → suc (k + x) ≡ suc k + x
    plus k x = omega arith

row_ends : (m : Memory) (p page n : ℕ) → (n ≡ 0) ⊎ (permission_at m page ≡ p → ⊥) → in_a_row m p page n ≡ 0
unfolding in_a_row
row_ends m p page zero end = refl
row_ends m p page (suc n) (inl none) = absurd (omega (arith, none))
row_ends m p page (suc n) (inr other) = let test : (permission_at m page == p) ≡ false = grind (arith, nat_tests) in ap (λ b. if b then suc (in_a_row m p (page + 1) n) else 0) test

and_false : (b : Bool) → (b && false) ≡ false
and_false true = refl
and_false false = refl

-- a page without a permission begins no run
bare : (m : Memory) (q : ℕ) → permission_at m q ≡ 0 → begins_run m q ≡ false
bare m q is = let test : (permission_at m q == 0) ≡ true = grind (arith, nat_tests) in ap (λ b. not b && (q == 0 || not (permission_at m (q - 1) == permission_at m q))) test

-- nor does one behind a page with its permission
goes_on : (m : Memory) (q : ℕ) → 0 < q → permission_at m (q - 1) ≡ permission_at m q → begins_run m q ≡ false
goes_on m q some is =
    let first : (q == 0) ≡ false = grind (arith, nat_tests) in
    let same : (permission_at m (q - 1) == permission_at m q) ≡ true = grind (arith, nat_tests) in
    ap₂ (λ a b. not (permission_at m q == 0) && (a || not b)) first same ∙ and_false (not (permission_at m q == 0))

begins : (m : Memory) (page : ℕ) → (permission_at m page ≡ 0 → ⊥) → (page ≡ 0) ⊎ (permission_at m (page - 1) ≡ permission_at m page → ⊥) → begins_run m page ≡ true
begins m page some (inl zeroth) =
    let test : (permission_at m page == 0) ≡ false = grind (arith, nat_tests) in
    let first : (page == 0) ≡ true = grind (arith, nat_tests) in
    ap₂ (λ a b. not a && (b || not (permission_at m (page - 1) == permission_at m page))) test first
begins m page some (inr other) =
    let test : (permission_at m page == 0) ≡ false = grind (arith, nat_tests) in
    let differs : (permission_at m (page - 1) == permission_at m page) ≡ false = grind (arith, nat_tests) in
    ap₂ (λ a b. not a && (page == 0 || not b)) test differs ∙ or_true (page == 0)
  where
    or_true : (b : Bool) → (b || true) ≡ true
    or_true true = refl
    or_true false = refl

-- the runs from a page on
abbrev from : Memory → ℕ → List Run
from m page = each_page (begins_run m) (run_from m) page (pages - page)

-- the run of the pages up to an end, where there is one, and those behind it
one_run : (m : Memory) (page end : ℕ) → page < end → end ≤ pages → HaveOnePermission m page end → (end < pages → permission_at m end ≡ permission_at m page → ⊥) → StartsAt m page
    → from m page ≡ run_between (permission_at m page) page end ++ from m end
one_run m page end some within alike other starts = by_permission (cases_eq (permission_at m page) 0)
  where
    k : ℕ
    k = end - page

    n : ℕ
    n = pages - end

    at : page + k ≡ end
    at = omega (arith, some)

    all : pages - page ≡ k + n
    all = omega (arith, some, within)

    ended : (n ≡ 0) ⊎ (permission_at m end ≡ permission_at m page → ⊥)
    ended = by_end (cases_eq n 0)
      where
        by_end : (n ≡ 0) ⊎ (n ≡ 0 → ⊥) → (n ≡ 0) ⊎ (permission_at m end ≡ permission_at m page → ⊥)
        by_end (inl none) = inl none
        by_end (inr more) = inr (other (omega (arith, more)))

    row : in_a_row m (permission_at m page) page (pages - page) ≡ k
    row = ap (in_a_row m (permission_at m page) page) all
        ∙ in_row m (permission_at m page) page k n (λ q above below. alike q above (omega (arith, below, at)))
        ∙ ap (λ q. k + in_a_row m (permission_at m page) q n) at
        ∙ ap (λ x. k + x) (row_ends m (permission_at m page) end n ended)
        ∙ (omega arith)

    by_permission : (permission_at m page ≡ 0) ⊎ (permission_at m page ≡ 0 → ⊥) → from m page ≡ run_between (permission_at m page) page end ++ from m end
    by_permission (inl none) =
        let test : (permission_at m page == 0) ≡ true = grind (arith, nat_tests) in
        ap (each_page (begins_run m) (run_from m) page) all
        ∙ passed (begins_run m) (run_from m) page k n (λ q above below. bare m q (alike q above (omega (arith, below, at)) ∙ none))
        ∙ ap (λ q. each_page (begins_run m) (run_from m) q n) at
        ∙ sym (ap (λ b. (if b then [] else record { first = page_size * page; last = page_size * end - 1; permission = permission_at m page } ∷ []) ++ from m end) test)
    by_permission (inr has) =
        let test : (permission_at m page == 0) ≡ false = grind (arith, nat_tests) in
        let count : pages - page ≡ suc (k - 1 + n) = omega (arith, some, within) in
        let behind : page + 1 + (k - 1) ≡ end = omega (arith, some) in
        let length : page + in_a_row m (permission_at m page) page (pages - page) ≡ end = ap (λ x. page + x) row ∙ at in
        ap (each_page (begins_run m) (run_from m) page) count
        ∙ picked (begins_run m) (run_from m) page (k - 1 + n) (begins m page has (starts (omega (arith, some, within))))
        ∙ ap₂ (λ r rs. r ∷ rs)
        (ap (λ e. record { first = page_size * page; last = page_size * e - 1; permission = permission_at m page }) length)
        (passed (begins_run m) (run_from m) (page + 1) (k - 1) n (λ q above below. goes_on m q (omega (arith, above)) (alike (q - 1) (omega (arith, above)) (omega (arith, below, behind)) ∙ sym (alike q (omega (arith, above)) (omega (arith, below, behind)))))
        ∙ ap (λ q. each_page (begins_run m) (run_from m) q n) behind)
        ∙ sym (ap (λ b. (if b then [] else record { first = page_size * page; last = page_size * end - 1; permission = permission_at m page } ∷ []) ++ from m end) test)

-- what is known at the start of a run
pub record RunsSoFar (m : Memory) (runs : List Run) (page : ℕ) : Type 0 where
  pub all : runs ++ each_page (begins_run m) (run_from m) page (pages - page) ≡ runs_of m
  pub within : page ≤ pages
  pub starts : StartsAt m page

pub at_first : (m : Memory) → RunsSoFar m [] 0
at_first m = record { all = refl; within = omega arith; starts = λ some. inl refl }

pub one_more : (m : Memory) (runs new : List Run) (page end permission : ℕ) → page < end → end ≤ pages → HaveOnePermission m page end → (end < pages → permission_at m end ≡ permission_at m page → ⊥) → RunsSoFar m runs page
    → permission ≡ permission_at m page → new ≡ runs ++ run_between permission page end → RunsSoFar m new end
one_more m runs new page end permission some within alike other far told is = record {
  all = ap (λ v. v ++ from m end) (is ∙ ap (λ p. runs ++ run_between p page end) told) ∙ append_assoc runs (run_between (permission_at m page) page end) (from m end)
      ∙ ap (λ v. runs ++ v) (sym (one_run m page end some within alike other far.starts)) ∙ far.all;
  within = within;
  starts = λ more. inr (λ e. other more (sym e ∙ alike (end - 1) (omega (arith, some)) (omega (arith, some))));
}

pub at_last : (m : Memory) (runs : List Run) (page : ℕ) → pages ≤ page → RunsSoFar m runs page → runs ≡ runs_of m
at_last m runs page past far =
    let none : pages - page ≡ 0 = omega (arith, past) in
    sym (append-nil runs) ∙ ap (λ v. runs ++ v) (sym (ap (each_page (begins_run m) (run_from m) page) none ∙ no_pages (begins_run m) (run_from m) page)) ∙ far.all
