-- The maximal runs of some pages: there is one list of them, it is found page by page, and with pages before it.
use Rattle.std.proofs.Common.{◌≡◌, ℕ, zero, suc, ◌+◌, ◌≤◌, ◌<◌, Bool, true, false, ◌&&◌, eqb, List, [], ◌∷◌, refl, sym, ◌∙◌, arith, inl, inr}
use Rattle.std.proofs.lemmas.Bool.{cond_both, cases_order, cases_lt, eqb-true, eqb-false, and_parts, and_cases, both_ways}
use Rattle.elf_model.specs.Pages.{Run, IsRun, AreRuns}
use Rattle.elf_model.specs.Reading.{join, runs_from}

pub same_run : (r s : Run) → r.first ≡ s.first → r.end ≡ s.end → r.permission ≡ s.permission → r ≡ s
same_run r s e f g = λ i. record { first = e i; end = f i; permission = g i }

-- a run that may go on
pub record IsPart (t : ℕ → Bool) (p : ℕ → ℕ) (from : ℕ) (r : Run) : Type 0 where
  pub order : from ≤ r.first
  pub none_before : (page : ℕ) → from ≤ page → page < r.first → t page ≡ false
  pub filled : r.first < r.end
  pub alike : (page : ℕ) → r.first ≤ page → page < r.end → (t page ≡ true) × (p page ≡ r.permission)

module _ (t : ℕ → Bool) (p : ℕ → ℕ) where
  -- ---- pages before runs

  merged : (from : ℕ) (r s : Run) (ss : List Run) → IsPart t p from r → IsRun t p r.end s → AreRuns t p s.end ss → s.first ≡ r.end → s.permission ≡ r.permission
      → AreRuns t p from (record { first = r.first; end = s.end; permission = r.permission } ∷ ss)
  merged from r s ss h g rest meets same = (
    record {
      order = h.order;
      none_before = h.none_before;
      filled = omega (arith, h.filled, g.filled, meets);
      alike = λ page low high. elim (cases_lt page r.end) [
        | inl before ↦ h.alike page low before
        | inr after ↦ let a = g.alike page (omega (arith, meets)) high in (a.0, a.1 ∙ same)
      ];
      maximal = rw (← same) g.maximal;
    },
    rest,
  )

  parted : (from : ℕ) (r s : Run) (ss : List Run) → IsPart t p from r → IsRun t p r.end s → AreRuns t p s.end ss → (s.first ≡ r.end → s.permission ≡ r.permission → ⊥)
      → AreRuns t p from (r ∷ s ∷ ss)
  parted from r s ss h g rest apart = (
    record {
      order = h.order;
      none_before = h.none_before;
      filled = h.filled;
      alike = h.alike;
      maximal = λ touched alike. elim (cases_lt r.end s.first) [
        | inl below ↦ both_ways _ (g.none_before r.end (omega arith) below) touched
        | inr meets ↦
            let e : s.first ≡ r.end = omega (arith, meets, g.order) in
            let here = g.alike r.end (omega (arith, e)) (omega (arith, e, g.filled)) in
            apart e (sym here.1 ∙ alike)
      ];
    },
    (g, rest),
  )

  pub join_runs : (from : ℕ) (r : Run) (rs : List Run) → IsPart t p from r → AreRuns t p r.end rs → AreRuns t p from (join r rs)
  join_runs from r [] h none = (record { order = h.order; none_before = h.none_before; filled = h.filled; alike = h.alike; maximal = λ touched _. both_ways _ (none r.end (omega arith)) touched }, none)
  join_runs from r (s ∷ ss) h g =
      cond_both (eqb s.first r.end && eqb s.permission r.permission) (record { first = r.first; end = s.end; permission = r.permission } ∷ ss) (r ∷ s ∷ ss) (AreRuns t p from)
      (λ e. let b = and_parts _ _ e in merged from r s ss h g.0 g.1 (eqb-true _ _ b.0) (eqb-true _ _ b.1))
      (λ e. parted from r s ss h g.0 g.1 (λ x y. elim (and_cases _ _ e) [
        | inl m ↦ eqb-false _ _ m x
        | inr m ↦ eqb-false _ _ m y
      ]))

  -- no page before them is touched
  pub from_below : (low from : ℕ) (rs : List Run) → low ≤ from → ((page : ℕ) → low ≤ page → page < from → t page ≡ false) → AreRuns t p from rs → AreRuns t p low rs
  from_below low from [] le none h = λ page ge. elim (cases_lt page from) [
    | inl lt ↦ none page ge lt
    | inr above ↦ h page above
  ]
  from_below low from (r ∷ rs) le none h =
      let g = h.0 in (
        record {
          order = omega (arith, g.order);
          none_before = λ page ge lt. elim (cases_lt page from) [
            | inl below ↦ none page ge below
            | inr above ↦ g.none_before page above lt
          ];
          filled = g.filled;
          alike = g.alike;
          maximal = g.maximal;
        },
        h.1,
      )

  pub from_above : (from high : ℕ) (r : Run) (rs : List Run) → from ≤ high → high ≤ r.first → AreRuns t p from (r ∷ rs) → AreRuns t p high (r ∷ rs)
  from_above from high r rs le below h =
      let g = h.0 in
      (record { order = below; none_before = λ page ge lt. g.none_before page (omega arith) lt; filled = g.filled; alike = g.alike; maximal = g.maximal }, h.1)

  -- ---- runs page by page

  pub are_found : (n page : ℕ) → ((q : ℕ) → page + n ≤ q → t q ≡ false) → AreRuns t p page (runs_from t p page n)
  unfolding runs_from
  are_found zero page none = λ q ge. none q (omega arith)
  are_found (suc n) page none =
      let rest = are_found n (page + 1) (λ q ge. none q (omega arith)) in
      let one : Run = record { first = page; end = page + 1; permission = p page } in
      cond_both (t page) (join one (runs_from t p (page + 1) n)) (runs_from t p (page + 1) n) (AreRuns t p page)
      (λ touched. join_runs page one (runs_from t p (page + 1) n) (record {
        order = omega arith;
        none_before = λ q ge lt. absurd (omega arith);
        filled = omega arith;
        alike = λ q ge lt. let e : q ≡ page = omega arith in rw e (touched, refl);
      }) rest)
      (λ not. from_below page (page + 1) (runs_from t p (page + 1) n) (omega arith) (λ q ge lt. let e : q ≡ page = omega arith in rw e not) rest)

  -- ---- one list of runs

  first_le : (from : ℕ) (r s : Run) → IsRun t p from r → IsRun t p from s → r.first < s.first → ⊥
  first_le from r s h g lt = both_ways _ (g.none_before r.first h.order lt) (h.alike r.first (omega arith) (omega (arith, h.filled))).0

  same_first : (from : ℕ) (r s : Run) → IsRun t p from r → IsRun t p from s → r.first ≡ s.first
  same_first from r s h g = elim (cases_order r.first s.first) [
    | inl e ↦ e
    | inr (inl lt) ↦ absurd (first_le from r s h g lt)
    | inr (inr gt) ↦ absurd (first_le from s r g h gt)
  ]

  same_permission : (from : ℕ) (r s : Run) → IsRun t p from r → IsRun t p from s → r.permission ≡ s.permission
  same_permission from r s h g =
      let e = same_first from r s h g in
      let a = h.alike r.first (omega arith) (omega (arith, h.filled)) in
      let b = g.alike r.first (omega (arith, e)) (omega (arith, e, g.filled)) in
      sym a.1 ∙ b.1

  end_le : (from : ℕ) (r s : Run) → IsRun t p from r → IsRun t p from s → r.end < s.end → ⊥
  end_le from r s h g lt =
      let e = same_first from r s h g in
      let b = g.alike r.end (omega (arith, e)) (omega (arith, e, lt)) in
      h.maximal b.0 (b.1 ∙ sym (same_permission from r s h g))

  same_end : (from : ℕ) (r s : Run) → IsRun t p from r → IsRun t p from s → r.end ≡ s.end
  same_end from r s h g = elim (cases_order r.end s.end) [
    | inl e ↦ e
    | inr (inl lt) ↦ absurd (end_le from r s h g lt)
    | inr (inr gt) ↦ absurd (end_le from s r g h gt)
  ]

  pub one_list : (from : ℕ) (rs ss : List Run) → AreRuns t p from rs → AreRuns t p from ss → rs ≡ ss
  one_list from [] [] h g = refl
  one_list from [] (s ∷ ss) h g = absurd (both_ways _ (h s.first g.0.order) (g.0.alike s.first (omega arith) (omega (arith, g.0.filled))).0)
  one_list from (r ∷ rs) [] h g = absurd (both_ways _ (g r.first h.0.order) (h.0.alike r.first (omega arith) (omega (arith, h.0.filled))).0)
  one_list from (r ∷ rs) (s ∷ ss) h g =
      let e = same_run r s (same_first from r s h.0 g.0) (same_end from r s h.0 g.0) (same_permission from r s h.0 g.0) in
      let rest : AreRuns t p r.end ss = rw e g.1 in
      let tails = one_list r.end rs ss h.1 rest in
      cc

-- ---- other pages, that are alike from a page on

pub alike_from : (t u : ℕ → Bool) (p q : ℕ → ℕ) (from : ℕ) (rs : List Run) → ((page : ℕ) → from ≤ page → (u page ≡ t page) × (q page ≡ p page)) → AreRuns t p from rs → AreRuns u q from rs
alike_from t u p q from [] same h = λ page ge. (same page ge).0 ∙ h page ge
alike_from t u p q from (r ∷ rs) same h =
    let g = h.0 in
    let beyond = same r.end (omega (arith, g.order)) in (
      record {
        order = g.order;
        none_before = λ page ge lt. (same page ge).0 ∙ g.none_before page ge lt;
        filled = g.filled;
        alike = λ page ge lt. let s = same page (omega (arith, g.order)) in let a = g.alike page ge lt in (s.0 ∙ a.0, s.1 ∙ a.1);
        maximal = λ touched alike. g.maximal (sym beyond.0 ∙ touched) (sym beyond.1 ∙ alike);
      },
      alike_from t u p q r.end rs (λ page ge. same page (omega (arith, g.order, ge))) h.1,
    )
