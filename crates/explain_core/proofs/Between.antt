-- Pages that have changed since a memory, one after the other, of those of which either memory keeps bytes.
use Rattle.std.proofs.Common.{◌≡◌, ℕ, suc, ◌+◌, ◌-◌, ◌<◌, ◌≤◌, List, ◌++◌, append_assoc, sym, ap, ◌∙◌, arith}
use Rattle.std.proofs.lemmas.List.{append-nil}
use Rattle.memory_model.specs.Memory.{Memory}
use Rattle.memory_model.specs.Sizes.{pages}
use Rattle.space_mem.specs.Held.{AllZero, SamePage}
use Rattle.explain_core.specs.Pages.{IsNextKeptIn, each_page, is_changed, page_address, changed_pages, change_at}
use Rattle.explain_core.proofs.Changes.{ChangesSoFar, at_page, unchanged}
use Rattle.explain_core.proofs.EachPage.{no_pages, passed}

-- a page that is 0 in both
zero_page : (m n : Memory) (from end page : ℕ) → from ≤ page → page < end → AllZero m from end → AllZero n from end → SamePage n m page
zero_page m n from end page above below zero others k within = others page k above below within ∙ sym (zero page k above below within)

zero_pages : (m n : Memory) (from k rest : ℕ) → AllZero m from (from + k) → AllZero n from (from + k)
    → each_page (is_changed n m) page_address from (k + rest) ≡ each_page (is_changed n m) page_address (from + k) rest
zero_pages m n from k rest zero others = passed (is_changed n m) page_address from k rest (λ q above below. unchanged n m q (zero_page m n from (from + k) q above below zero others))

pub one_more : (m n : Memory) (changed new : List ℕ) (from page : ℕ) → ChangesSoFar n m changed from → IsNextKeptIn m n from page → new ≡ changed ++ change_at n m page → ChangesSoFar n m new (page + 1)
one_more m n changed new from page far next is =
    let above = next.above in
    let below = next.below in
    let k = page - from in
    let rest = pages - (page + 1) in
    let at : from + k ≡ page = omega (arith, above) in
    let all : pages - from ≡ k + suc rest = omega (arith, above, below) in
    let passed_over = ap (each_page (is_changed n m) page_address from) all
    ∙ zero_pages m n from k (suc rest) (λ q j up down. next.zero q j up (omega (arith, down, at))) (λ q j up down. next.others q j up (omega (arith, down, at)))
    ∙ ap (λ q. each_page (is_changed n m) page_address q (suc rest)) at ∙ at_page n m page rest in
    record {
      all = ap (λ v. v ++ each_page (is_changed n m) page_address (page + 1) rest) is ∙ append_assoc changed (change_at n m page) (each_page (is_changed n m) page_address (page + 1) rest)
          ∙ ap (λ v. changed ++ v) (sym passed_over) ∙ far.all;
      within = omega (arith, below);
    }

pub at_last : (m n : Memory) (changed : List ℕ) (from : ℕ) → ChangesSoFar n m changed from → AllZero m from pages × AllZero n from pages → changed ≡ changed_pages n m
at_last m n changed from far zero =
    let within = far.within in
    let k = pages - from in
    let at : from + k ≡ pages = omega (arith, within) in
    let all : pages - from ≡ k + 0 = omega arith in
    let none = ap (each_page (is_changed n m) page_address from) all
    ∙ zero_pages m n from k 0 (λ q j up down. zero.0 q j up (omega (arith, down, at))) (λ q j up down. zero.1 q j up (omega (arith, down, at)))
    ∙ no_pages (is_changed n m) page_address (from + k) in
    sym (append-nil changed) ∙ ap (λ v. changed ++ v) (sym none) ∙ far.all
