-- The slots of a board, looked at one by one.
use Rattle.std.proofs.Common.{◌≡◌, ℕ, zero, suc, ◌+◌, ◌==◌, Bool, true, false, cond, [], ◌∷◌, Option, Some, None, refl, sym, ap, ◌∙◌, arith, true≢false}
use Rattle.std.proofs.lemmas.Bool.Decides.{nat_tests}
use Rattle.std.proofs.lemmas.List.Recursion.{is_count_by}
use Rattle.std.specs.Prelude.{is_some, count_by}
use Rattle.board.specs.declared.job.Out.{Out}
use Rattle.board.specs.Jobs.{Slots, out_at, IsNoneOut}
use Rattle.board.specs.Turns.{IsSomeOut}

-- where no slot has a job there are as many jobs as none
pub no_jobs : (out : Slots) → IsNoneOut out → count_by is_some out ≡ 0
no_jobs [] none = refl
no_jobs (None ∷ out) none = no_jobs out (λ slot. none (suc slot))
no_jobs (Some o ∷ out) none = let here : out_at (Some o ∷ out) 0 ≡ None = none 0 in cc

pub none_is_empty : (out : Slots) (b : Bool) → b ≡ (count_by is_some out == 0) → IsNoneOut out → b ≡ true
none_is_empty out b told none = told ∙ ap (λ n. n == 0) (no_jobs out none)

-- how many slots have a job
abbrev jobs_in : Slots → ℕ
jobs_in [] = 0
jobs_in (None ∷ out) = jobs_in out
jobs_in (Some o ∷ out) = 1 + jobs_in out

jobs_counted : (out : Slots) → jobs_in out ≡ count_by is_some out
jobs_counted out = is_count_by jobs_in is_some refl next out
  where
    next : (x : Option Out) (xs : Slots) → jobs_in (x ∷ xs) ≡ cond (is_some x) (1 + jobs_in xs) (jobs_in xs)
    next None xs = refl
    next (Some o) xs = refl

-- and where there are none, no slot has a job
none_counted : (out : Slots) → jobs_in out ≡ 0 → IsNoneOut out
none_counted [] none slot = refl
none_counted (None ∷ out) none zero = refl
none_counted (None ∷ out) none (suc slot) = none_counted out none slot
none_counted (Some o ∷ out) none slot = let one : 1 + jobs_in out ≡ 0 = none in absurd (omega (arith, one))

pub empty_none : (out : Slots) (b : Bool) → b ≡ (count_by is_some out == 0) → b ≡ true → IsNoneOut out
empty_none out b told is_true = none_counted out (jobs_counted out ∙ zero_then (count_by is_some out) (sym told ∙ is_true))
  where
    zero_then : (n : ℕ) → (n == 0) ≡ true → n ≡ 0
    zero_then n is = grind (arith, nat_tests)

-- else some slot has one
some_counted : (out : Slots) → (count_by is_some out == 0) ≡ false → IsSomeOut out
some_counted [] some = absurd (true≢false some)
some_counted (None ∷ out) some = let rest = some_counted out some in (suc rest.0, rest.1, rest.2)
some_counted (Some o ∷ out) some = (0, o, refl)

pub some_there : (out : Slots) (b : Bool) → b ≡ (count_by is_some out == 0) → b ≡ false → IsSomeOut out
some_there out b told is_false = some_counted out (sym told ∙ is_false)

pub none_and_some : (out : Slots) → IsNoneOut out → IsSomeOut out → ⊥
none_and_some out none some =
    let away : out_at out some.0 ≡ None = none some.0 in
    let here : out_at out some.0 ≡ Some some.1 = some.2 in
    cc
