-- What is shown of each page that a test picks, part by part.
use Rattle.std.proofs.Common.{◌≡◌, ℕ, zero, suc, ◌+◌, ◌<◌, ◌≤◌, Bool, true, false, [], ◌∷◌, refl, ap, ◌∙◌, arith}
use Rattle.std.specs.Prelude.{cond, map}
use Rattle.std.specs.List.{filter, range_with_len}
use Rattle.explain_core.specs.Pages.{each_page}

pub no_pages : {X : Type 0} (test : ℕ → Bool) (shown : ℕ → X) (page : ℕ) → each_page test shown page 0 ≡ []
unfolding each_page
no_pages test shown page = refl

-- the page is picked
pub picked : {X : Type 0} (test : ℕ → Bool) (shown : ℕ → X) (page n : ℕ) → test page ≡ true → each_page test shown page (suc n) ≡ shown page ∷ each_page test shown (page + 1) n
unfolding each_page
picked test shown page n is = ap (λ b. map shown (cond b (page ∷ filter test (range_with_len (page + 1) n)) (filter test (range_with_len (page + 1) n)))) is

left : {X : Type 0} (test : ℕ → Bool) (shown : ℕ → X) (page n : ℕ) → test page ≡ false → each_page test shown page (suc n) ≡ each_page test shown (page + 1) n
unfolding each_page
left test shown page n is = ap (λ b. map shown (cond b (page ∷ filter test (range_with_len (page + 1) n)) (filter test (range_with_len (page + 1) n)))) is

-- the first k pages are not
pub passed : {X : Type 0} (test : ℕ → Bool) (shown : ℕ → X) (page k n : ℕ) → ((q : ℕ) → page ≤ q → q < page + k → test q ≡ false) → each_page test shown page (k + n) ≡ each_page test shown (page + k) n
passed test shown page zero n none = ap (each_page test shown page) {x = 0 + n} {y = n} (omega arith) ∙ ap (λ p. each_page test shown p n) {x = page} {y = page + 0} (omega arith)
passed test shown page (suc k) n none =
    ap (each_page test shown page) {x = suc k + n} {y = suc (k + n)} (omega arith)
    ∙ left test shown page (k + n) (none page (omega arith) (omega arith))
    ∙ passed test shown (page + 1) k n (λ q above below. none q (omega (arith, above)) (omega (arith, below)))
    ∙ ap (λ p. each_page test shown p n) {x = page + 1 + k} {y = page + suc k} (omega arith)
