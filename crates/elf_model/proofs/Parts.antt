-- Loads one above the other: the pages that they touch, and the runs of these, load by load from the highest down.
use Rattle.std.proofs.Common.{◌≡◌, ℕ, suc, ◌+◌, ◌-◌, ◌*◌, ◌/◌, ◌^◌, ◌≤◌, ◌<◌, Bool, true, false, ◌&&◌, eqb, ltb, List, [], ◌∷◌, ◌++◌, length, refl, ap, ◌∙◌, arith, inl, inr}
use Rattle.std.specs.Prelude.{bit_or}
use Rattle.std.specs.Int.Bits.{or_zero_r}
use Rattle.std.proofs.lemmas.Bool.{cond_both, cases_order, cases_eq, eqb-true, eqb-false, ltb-true, ltb-false, both_ways, and_from, and_left, and_right, and_parts, or_parts, or_from, le-leb, lt-leb}
use Rattle.std.proofs.lemmas.Nat.{or_lt}
use Rattle.memory_model.specs.Sizes.{page_size, pages, greatest_permission}
use Rattle.elf_model.specs.Loads.{Load, end_of, IsLoad, AreLoads, stack, stack_base}
use Rattle.elf_model.specs.Pages.{Run, AreRuns, RunsOf, touches, is_touched, permission_of, first_page, last_page}
use Rattle.elf_model.specs.Reading.{join, runs_of}
use Rattle.elf_model.specs.Adding.{run, without_page, share, put_before, add}
use Rattle.elf_model.proofs.Runs.{IsPart, join_runs, from_below, from_above, are_found, one_list, alike_from}

-- ---- the pages that loads touch

pub touched_within : (page : ℕ) (l : Load) → first_page l ≤ page → page ≤ last_page l → touches page l ≡ true
touched_within page l low high = and_from _ _ (le-leb _ _ low) (le-leb _ _ high)

pub free_below : (page : ℕ) (l : Load) → page < first_page l → touches page l ≡ false
free_below page l lt = and_left _ _ (lt-leb _ _ lt)

pub free_above : (page : ℕ) (l : Load) → last_page l < page → touches page l ≡ false
free_above page l lt = and_right _ _ (lt-leb _ _ lt)

-- no page below the first of loads is touched
pub none_below : (from end : ℕ) (ls : List Load) → AreLoads from end ls → (page : ℕ) → page < from / page_size → is_touched ls page ≡ false
none_below from end [] h page lt = refl
none_below from end (l ∷ ls) h page lt =
    let order = h.0.order in
    let filled = h.0.filled in
    let here : touches page l ≡ false = free_below page l (omega (arith, order, lt)) in
    let rest : is_touched ls page ≡ false = none_below (end_of l) end ls h.1 page (omega (arith, order, lt)) in
    or_from _ _ here rest

-- and none past the end
pub none_past : (from end : ℕ) (ls : List Load) → AreLoads from end ls → (page : ℕ) → end ≤ page_size * page → is_touched ls page ≡ false
none_past from end [] h page le = refl
none_past from end (l ∷ ls) h page le =
    let range = h.0.range in
    let filled = h.0.filled in
    let here : touches page l ≡ false = free_above page l (omega (arith, range, filled, le)) in
    or_from _ _ here (none_past (end_of l) end ls h.1 page le)

pub no_permission : (ls : List Load) (page : ℕ) → is_touched ls page ≡ false → permission_of ls page ≡ 0
no_permission [] page e = refl
no_permission (l ∷ ls) page e =
    let parts = or_parts (touches page l) (is_touched ls page) e in
    rw (parts.0) (no_permission ls page parts.1)

pub permission_le : (from end : ℕ) (ls : List Load) → AreLoads from end ls → (page : ℕ) → permission_of ls page ≤ greatest_permission
permission_le from end [] h page = omega arith
permission_le from end (l ∷ ls) h page =
    let rest = permission_le (end_of l) end ls h.1 page in
    let mine = h.0.permission in
    let a : l.permission < 2 ^ 3 = omega (arith, mine) in
    let b : permission_of ls page < 2 ^ 3 = omega (arith, rest) in
    let both = or_lt 3 l.permission (permission_of ls page) a b in
    cond_both (touches page l) (bit_or l.permission (permission_of ls page)) (permission_of ls page) (λ p. p ≤ greatest_permission) (λ _. omega (arith, both)) (λ _. rest)

-- ---- one load more, below the others

module _ (l : Load) (ls : List Load) (filled : 0 < l.size) (below : (page : ℕ) → page < last_page l → is_touched ls page ≡ false) where
  ordered : first_page l ≤ last_page l
  ordered = omega (arith, filled)

  -- a page behind it is as it was
  beyond : (page : ℕ) → last_page l < page → (is_touched (l ∷ ls) page ≡ is_touched ls page) × (permission_of (l ∷ ls) page ≡ permission_of ls page)
  beyond page lt = let e : touches page l ≡ false = free_above page l lt in rw e (refl, refl)

  -- a page that it alone touches
  alone : (page : ℕ) → first_page l ≤ page → page ≤ last_page l → is_touched ls page ≡ false → (is_touched (l ∷ ls) page ≡ true) × (permission_of (l ∷ ls) page ≡ l.permission)
  alone page low high free =
      let e : touches page l ≡ true = touched_within page l low high in
      let none : permission_of ls page ≡ 0 = no_permission ls page free in
      rw (e, none) (refl, or_zero_r l.permission)

  -- a page that others touch too
  shared : (page p : ℕ) → first_page l ≤ page → page ≤ last_page l → permission_of ls page ≡ p → (is_touched (l ∷ ls) page ≡ true) × (permission_of (l ∷ ls) page ≡ bit_or l.permission p)
  shared page p low high same =
      let e : touches page l ≡ true = touched_within page l low high in
      rw (e, same) (refl, refl)

  free_before : (page : ℕ) → page < first_page l → is_touched (l ∷ ls) page ≡ false
  free_before page lt = or_from _ _ (free_below page l lt) (below page (omega (arith, ordered)))

  -- its pages up to another one, where none of them is touched by others
  front : (end : ℕ) → first_page l < end → end ≤ last_page l + 1 → ((page : ℕ) → page < end → is_touched ls page ≡ false) → IsPart (is_touched (l ∷ ls)) (permission_of (l ∷ ls)) 0 (run (first_page l) end l.permission)
  front end lt le free = record {
    order = omega arith;
    none_before = λ page _ before. free_before page before;
    filled = omega arith;
    alike = λ page low high. alone page low (omega arith) (free page (omega arith));
  }

  put_before_runs : (rs : List Run) → is_touched ls (last_page l) ≡ false → AreRuns (is_touched ls) (permission_of ls) (last_page l + 1) rs → RunsOf (l ∷ ls) (put_before l rs)
  put_before_runs rs free h =
      let rest = alike_from (is_touched ls) (is_touched (l ∷ ls)) (permission_of ls) (permission_of (l ∷ ls)) (last_page l + 1) rs (λ page ge. beyond page (omega arith)) h in
      join_runs (is_touched (l ∷ ls)) (permission_of (l ∷ ls)) 0 (run (first_page l) (last_page l + 1) l.permission) rs
      (front (last_page l + 1) (omega (arith, ordered)) (omega arith) (λ page lt. elim (cases_eq page (last_page l)) [
        | inl e ↦ rw e free
        | inr other ↦ below page (omega arith)
      ]))
      rest

  without_page_runs : (r : Run) (rs : List Run) → r.first ≡ last_page l → RunsOf ls (r ∷ rs) → AreRuns (is_touched (l ∷ ls)) (permission_of (l ∷ ls)) (last_page l + 1) (without_page r rs)
  without_page_runs r rs meets h =
      let g = h.0 in
      let rest = alike_from (is_touched ls) (is_touched (l ∷ ls)) (permission_of ls) (permission_of (l ∷ ls)) (last_page l + 1) (without_page r rs) (λ page ge. beyond page (omega arith)) in
      let past = h.1 in
      rest (cond_both (eqb (r.first + 1) r.end) rs (run (r.first + 1) r.end r.permission ∷ rs) (AreRuns (is_touched ls) (permission_of ls) (last_page l + 1))
      (λ e. let end : last_page l + 1 ≡ r.end = omega (arith, eqb-true _ _ e, meets) in rw end past)
      (λ e.
      let more = eqb-false _ _ e in
      let some = g.filled in (
        record {
          order = omega (arith, meets);
          none_before = λ page ge lt. absurd (omega (arith, meets));
          filled = omega (arith, more, some);
          alike = λ page ge lt. g.alike page (omega arith) lt;
          maximal = g.maximal;
        },
        past,
      )))

  share_runs : (r : Run) (rs : List Run) → r.first ≡ last_page l → RunsOf ls (r ∷ rs) → RunsOf (l ∷ ls) (share l r rs)
  share_runs r rs meets h =
      let first = h.0.alike (last_page l) (omega (arith, meets)) (omega (arith, meets, h.0.filled)) in
      let one = run (last_page l) (last_page l + 1) (bit_or l.permission r.permission) in
      let tail = without_page_runs r rs meets h in
      let common : AreRuns (is_touched (l ∷ ls)) (permission_of (l ∷ ls)) (last_page l) (join one (without_page r rs)) =
      join_runs (is_touched (l ∷ ls)) (permission_of (l ∷ ls)) (last_page l) one (without_page r rs) (record {
        order = omega arith;
        none_before = λ page ge lt. absurd (omega arith);
        filled = omega arith;
        alike = λ page ge lt. let e : page ≡ last_page l = omega arith in shared page r.permission (omega (arith, ordered)) (omega arith) (ap (permission_of ls) e ∙ first.1);
      }) tail in
      let rest = join one (without_page r rs) in
      cond_both (ltb (first_page l) (last_page l)) (join (run (first_page l) (last_page l) l.permission) rest) rest (RunsOf (l ∷ ls))
      (λ e.
      let lt = ltb-true _ _ e in
      join_runs (is_touched (l ∷ ls)) (permission_of (l ∷ ls)) 0 (run (first_page l) (last_page l) l.permission) rest (front (last_page l) lt (omega arith) below) common)
      (λ e.
      let le = ltb-false _ _ e in
      from_below (is_touched (l ∷ ls)) (permission_of (l ∷ ls)) 0 (last_page l) rest (omega arith) (λ page _ lt. free_before page (omega (arith, le, ordered))) common)

  pub add_runs : (rs : List Run) → RunsOf ls rs → RunsOf (l ∷ ls) (add l rs)
  add_runs [] h = put_before_runs [] (h (last_page l) (omega arith)) (λ page ge. h page (omega arith))
  add_runs (r ∷ rs) h =
      let g = h.0 in
      cond_both (eqb r.first (last_page l)) (share l r rs) (put_before l (r ∷ rs)) (RunsOf (l ∷ ls))
      (λ e. share_runs r rs (eqb-true _ _ e) h)
      (λ e.
      let other = eqb-false _ _ e in
      let above : last_page l < r.first = elim (cases_order r.first (last_page l)) [
        | inl same ↦ absurd (other same)
        | inr (inl lt) ↦ absurd (both_ways _ (below r.first lt) (g.alike r.first (omega arith) (omega (arith, g.filled))).0)
        | inr (inr gt) ↦ gt
      ] in
      put_before_runs (r ∷ rs) (g.none_before (last_page l) (omega arith) above) (from_above (is_touched ls) (permission_of ls) 0 (last_page l + 1) r rs (omega arith) (omega (arith, above)) h))

-- ---- runs load by load

pub runs_are_found : (from : ℕ) (ls : List Load) → AreLoads from (2 ^ 32) ls → RunsOf ls (runs_of ls)
runs_are_found from ls h = are_found (is_touched ls) (permission_of ls) pages 0 (λ q ge. none_past from (2 ^ 32) ls h q (omega (arith, ge)))

pub runs_add : (from : ℕ) (l : Load) (ls : List Load) → AreLoads from (2 ^ 32) (l ∷ ls) → runs_of (l ∷ ls) ≡ add l (runs_of ls)
runs_add from l ls h =
    let filled = h.0.filled in
    one_list (is_touched (l ∷ ls)) (permission_of (l ∷ ls)) 0 (runs_of (l ∷ ls)) (add l (runs_of ls)) (runs_are_found from (l ∷ ls) h)
    (add_runs l ls filled (λ page lt. none_below (end_of l) (2 ^ 32) ls h.1 page (omega (arith, filled))) (runs_of ls) (runs_are_found (end_of l) ls h.1))

pub no_runs : runs_of [] ≡ []
no_runs = one_list (is_touched []) (permission_of []) 0 (runs_of []) [] (runs_are_found 0 [] tt) (λ page _. refl)

-- ---- loads and the stack

pub stack_is_load : IsLoad stack_base (2 ^ 32) stack
stack_is_load = record { order = omega arith; filled = omega arith; sized = omega arith; range = omega arith; permission = omega arith }

pub are_parts : (from : ℕ) (ls : List Load) → from ≤ stack_base → AreLoads from stack_base ls → AreLoads from (2 ^ 32) (ls ++ stack ∷ [])
are_parts from [] le h = (record { order = le; filled = omega arith; sized = omega arith; range = omega arith; permission = omega arith }, tt)
are_parts from (l ∷ ls) le h =
    let g = h.0 in
    let range = g.range in
    (record { order = g.order; filled = g.filled; sized = g.sized; range = omega (arith, range); permission = g.permission }, are_parts (end_of l) ls range h.1)

-- ---- how many runs, and how many pages

length_join : (r : Run) (rs : List Run) → length (join r rs) ≤ suc (length rs)
length_join r [] = omega arith
length_join r (s ∷ ss) = cond_both (eqb s.first r.end && eqb s.permission r.permission) (record { first = r.first; end = s.end; permission = r.permission } ∷ ss) (r ∷ s ∷ ss) (λ rs. length rs ≤ suc (suc (length ss))) (λ _. omega arith) (λ _. omega arith)

length_without : (r : Run) (rs : List Run) → length (without_page r rs) ≤ suc (length rs)
length_without r rs = cond_both (eqb (r.first + 1) r.end) rs (run (r.first + 1) r.end r.permission ∷ rs) (λ x. length x ≤ suc (length rs)) (λ _. omega arith) (λ _. omega arith)

length_share : (l : Load) (r : Run) (rs : List Run) → length (share l r rs) ≤ suc (length rs) + 2
length_share l r rs =
    let one = run (last_page l) (last_page l + 1) (bit_or l.permission r.permission) in
    let rest = join one (without_page r rs) in
    let some : length rest ≤ suc (length (without_page r rs)) = length_join one (without_page r rs) in
    let few = length_without r rs in
    let more = length_join (run (first_page l) (last_page l) l.permission) rest in
    cond_both (ltb (first_page l) (last_page l)) (join (run (first_page l) (last_page l) l.permission) rest) rest (λ x. length x ≤ suc (length rs) + 2) (λ _. omega (arith, some, few, more)) (λ _. omega (arith, some, few))

length_put : (l : Load) (rs : List Run) → length (put_before l rs) ≤ suc (length rs)
length_put l rs = length_join (run (first_page l) (last_page l + 1) l.permission) rs

length_add : (l : Load) (rs : List Run) → length (add l rs) ≤ length rs + 2
length_add l [] = let h = length_put l [] in omega (arith, h)
length_add l (r ∷ rs) =
    let put = length_put l (r ∷ rs) in
    cond_both (eqb r.first (last_page l)) (share l r rs) (put_before l (r ∷ rs)) (λ x. length x ≤ suc (length rs) + 2) (λ _. length_share l r rs) (λ _. omega (arith, put))

pub stack_runs : runs_of (stack ∷ []) ≡ run 1048560 1048576 3 ∷ []
stack_runs = runs_add stack_base stack [] (stack_is_load, tt) ∙ ap (add stack) no_runs

-- the lowest load is one of several, or stands alone before the stack
few_more : (from : ℕ) (l : Load) (ls : List Load) → AreLoads from stack_base (l ∷ ls) → length (runs_of (l ∷ (ls ++ stack ∷ []))) ≤ 2 * suc (length ls)
few_more from l [] h =
    let range = h.0.range in
    let filled = h.0.filled in
    let parts : AreLoads from (2 ^ 32) (l ∷ stack ∷ []) = (record { order = h.0.order; filled = filled; sized = h.0.sized; range = omega (arith, range); permission = h.0.permission }, are_parts (end_of l) [] range tt) in
    let added : runs_of (l ∷ stack ∷ []) ≡ add l (run 1048560 1048576 3 ∷ []) = runs_add from l (stack ∷ []) parts ∙ ap (add l) stack_runs in
    let short = length_put l (run 1048560 1048576 3 ∷ []) in
    rw added (cond_both (eqb 1048560 (last_page l)) (share l (run 1048560 1048576 3) []) (put_before l (run 1048560 1048576 3 ∷ [])) (λ x. length x ≤ 2 * 1) (λ e. absurd (omega (arith, eqb-true _ _ e, range, filled))) (λ _. omega (arith, short)))
few_more from l (m ∷ ls) h =
    let range = h.0.range in
    let parts : AreLoads from (2 ^ 32) (l ∷ m ∷ (ls ++ stack ∷ [])) = (record { order = h.0.order; filled = h.0.filled; sized = h.0.sized; range = omega (arith, range); permission = h.0.permission }, are_parts (end_of l) (m ∷ ls) range h.1) in
    let rest = few_more (end_of l) m ls h.1 in
    let added = length_add l (runs_of (m ∷ (ls ++ stack ∷ []))) in
    rw (runs_add from l (m ∷ (ls ++ stack ∷ [])) parts) (omega (arith, rest, added))

-- 32 loads make at most 64 runs
pub few : (ls : List Load) → AreLoads 0 stack_base ls → length ls ≤ 32 → length (runs_of (ls ++ stack ∷ [])) ≤ 64
few [] h le = rw stack_runs (omega arith)
few (l ∷ ls) h le = let more = few_more 0 l ls h in omega (arith, more)

abbrev pub pages_in : List Run → ℕ
pages_in [] = 0
pages_in (r ∷ rs) = (r.end - r.first) + pages_in rs

pages_join : (r : Run) (rs : List Run) → pages_in (join r rs) ≤ (r.end - r.first) + pages_in rs
pages_join r [] = omega arith
pages_join r (s ∷ ss) = cond_both (eqb s.first r.end && eqb s.permission r.permission) (record { first = r.first; end = s.end; permission = r.permission } ∷ ss) (r ∷ s ∷ ss) (λ rs. pages_in rs ≤ (r.end - r.first) + ((s.end - s.first) + pages_in ss)) (λ e. omega (arith, eqb-true s.first r.end (and_parts (eqb s.first r.end) (eqb s.permission r.permission) e).0)) (λ _. omega arith)

pages_without : (r : Run) (rs : List Run) → r.first < r.end → pages_in (without_page r rs) + 1 ≤ (r.end - r.first) + pages_in rs
pages_without r rs some = cond_both (eqb (r.first + 1) r.end) rs (run (r.first + 1) r.end r.permission ∷ rs) (λ x. pages_in x + 1 ≤ (r.end - r.first) + pages_in rs) (λ e. omega (arith, eqb-true _ _ e)) (λ _. omega arith)

pub pages_add : (t : ℕ → Bool) (p : ℕ → ℕ) (l : Load) (rs : List Run) → 0 < l.size → AreRuns t p 0 rs → pages_in (add l rs) ≤ pages_in rs + (last_page l + 1 - first_page l)
pages_add t p l [] filled h = omega arith
pages_add t p l (r ∷ rs) filled h =
    let some = h.0.filled in
    let one = run (last_page l) (last_page l + 1) (bit_or l.permission r.permission) in
    let rest = join one (without_page r rs) in
    let ordered : first_page l ≤ last_page l = omega (arith, filled) in
    let joined = pages_join one (without_page r rs) in
    let left = pages_without r rs some in
    let fronted = pages_join (run (first_page l) (last_page l) l.permission) rest in
    let put = pages_join (run (first_page l) (last_page l + 1) l.permission) (r ∷ rs) in
    let all = ((r.end - r.first) + pages_in rs) + (last_page l + 1 - first_page l) in
    cond_both (eqb r.first (last_page l)) (share l r rs) (put_before l (r ∷ rs)) (λ x. pages_in x ≤ all)
    (λ _. cond_both (ltb (first_page l) (last_page l)) (join (run (first_page l) (last_page l) l.permission) rest) rest (λ x. pages_in x ≤ all) (λ _. omega (arith, joined, left, fronted, ordered)) (λ _. omega (arith, joined, left, ordered)))
    (λ _. omega (arith, put))
