-- A call fails exactly where its number is among those that fail: numbers are counted from 1, whatever the calls answer.
use Rattle.std.proofs.Common.{◌≡◌, ◌≤◌, ℕ, ◌+◌, ◌-◌, ◌^◌, min, List, [], ◌∷◌, length, Bool, true, false, nat_eq, refl, ap, lit≤, ◌∙◌, arith}
use Rattle.std.specs.List.{list_any}
use Rattle.det_host.specs.Held.{Calls, next_count, after, after_calls, no_calls, FailsAt}

step_done : (c : Calls) (is_fault : Bool) → (after c is_fault).done ≡ next_count c.done
step_done c true = refl
step_done c false = refl

step_failing : (c : Calls) (is_fault : Bool) → (after c is_fault).failing ≡ c.failing
step_failing c true = refl
step_failing c false = refl

failing_after : (c : Calls) (before : List Bool) → (after_calls c before).failing ≡ c.failing
failing_after c [] = refl
failing_after c (b ∷ bs) = failing_after (after c b) bs ∙ step_failing c b

done_after : (c : Calls) (before : List Bool) → c.done ≤ 2 ^ 64 - 1 → (after_calls c before).done ≡ min (c.done + length before) (2 ^ 64 - 1)
done_after c [] le = omega arith
done_after c (b ∷ bs) le =
    let step = step_done c b in
    let rest = done_after (after c b) bs (omega (arith, step)) in
    omega (arith, step, rest)

pub fails_at : (numbers : List ℕ) → FailsAt numbers (no_calls numbers)
fails_at numbers before =
    let c = after_calls (no_calls numbers) before in
    let done : c.done ≡ min (length before) (2 ^ 64 - 1) = omega (arith, done_after (no_calls numbers) before (lit≤ tt)) in
    let next : next_count c.done ≡ min (length before + 1) (2 ^ 64 - 1) = omega (arith, done) in
    ap (λ (k : ℕ). list_any (λ n. nat_eq n k) c.failing) next
    ∙ ap (λ (ns : List ℕ). list_any (λ n. nat_eq n (min (length before + 1) (2 ^ 64 - 1))) ns) (failing_after (no_calls numbers) before)
