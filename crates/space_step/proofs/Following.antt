-- Local events one after another.
use Rattle.std.proofs.Common.{◌≡◌, ℕ, zero, suc, ◌+◌, ◌-◌, ◌≤◌, ◌<◌, Option, Some, None, refl, ap, ◌∙◌, subst, arith, add-one, zero-add, suc-add}
use Rattle.std.specs.Prelude.{option_map, IfSome}
use Rattle.memory_model.specs.Memory.{Memory, with_number}
use Rattle.instruction_model.specs.Outcome.{Registers, Outcome, goes, stores, calls, traps, view_of, outcome}
use Rattle.space_model.specs.declared.Status.TheVariants.{Running}
use Rattle.space_model.specs.Space.{Top}
use Rattle.space_model.specs.Stop.{cause_of}
use Rattle.space_model.specs.Change.{stop, after_spending, after_payment}
use Rattle.space_model.specs.Event.{becomes, moves, charge, after_outcome, next, Follows, MayPay}
use Rattle.space_step.specs.Stretch.{Pays, IsDone, Executes}
use Rattle.space_step.proofs.Events.{next_pays}

pub follows_append : (levels n m : ℕ) (t u v : Top) → Follows levels n t u → Follows levels m u v → Follows levels (n + m) t v
follows_append levels zero m t u v f g = rw zero-add (subst (λ (w : Top). Follows levels m w v) f g)
follows_append levels (suc n) m t u v f g = rw suc-add (f.0, f.1, follows_append levels n m f.0 u v f.2 g)

-- one event more
follows_suc : (levels n : ℕ) (t u v : Top) → Follows levels n t u → next levels u ≡ moves v → Follows levels (suc n) t v
follows_suc levels zero t u v f e = (v, subst (λ (w : Top). next levels w ≡ moves v) f e, refl)
follows_suc levels (suc n) t u v f e = (f.0, f.1, follows_suc levels n f.0 u v f.2 e)

pub follows_more : (levels n : ℕ) (t u v : Top) → Follows levels n t u → next levels u ≡ moves v → Follows levels (n + 1) t v
follows_more levels n t u v f e = rw add-one (follows_suc levels n t u v f e)

pub follows_one : (levels : ℕ) (t u : Top) → next levels t ≡ moves u → Follows levels 1 t u
follows_one levels t u e = (u, e, refl)

-- with other registers and memory
abbrev pub reached : Top → Registers → Memory → Top
reached t r m = record t { registers = r; memory = m }

limit_left : (o : Option ℕ) (n k : ℕ) → n < k → IfSome o (λ limit. k ≤ limit) → option_map (λ limit. limit - n) o ≡ Some 0 → ⊥
limit_left None n k h p e = cc
limit_left (Some limit) n k h p e = let z : limit - n ≡ 0 = cc in omega arith

-- after a part of what it can pay for, it may pay
pub may_pay_after : (t : Top) (r : Registers) (m : Memory) (n budget : ℕ) → t.status ≡ Running → n < budget → Pays budget t → MayPay (after_spending n t (reached t r m))
may_pay_after t r m n budget running h p = record { running = running; fuel = omega (arith, p.fuel); limit = limit_left t.limit n budget h p.limit }

pub instruction_done : (levels : ℕ) (u : Top) (r : Registers) (m : Memory) (o : Outcome) → IsDone o u.memory r m → after_outcome levels u o ≡ becomes (reached u r m)
instruction_done levels u r m (goes s) h = let a : r ≡ s = h.0 in let b : m ≡ u.memory = h.1 in cc
instruction_done levels u r m (stores s at width value) h = let a : r ≡ s = h.0 in let b : m ≡ with_number u.memory at width value = h.1 in cc
instruction_done levels u r m calls h = absurd h
instruction_done levels u r m (traps number value) h = absurd h

less_again : (o : Option ℕ) (n : ℕ) → option_map (λ k. k - 1) (option_map (λ k. k - n) o) ≡ option_map (λ k. k - suc n) o
less_again None n = refl
less_again (Some k) n = ap Some (omega arith)

pub one_more : (t : Top) (n : ℕ) (q r : Registers) (k m : Memory) → after_payment (after_spending n t (reached t q k)) (reached (after_spending n t (reached t q k)) r m) ≡ after_spending (suc n) t (reached t r m)
one_more t n q r k m =
    let fuel : t.fuel - n - 1 ≡ t.fuel - suc n = omega arith in
    let used : t.used + n + 1 ≡ t.used + suc n = omega arith in
    let limit = less_again t.limit n in
    cc

limit_for_part : (n whole : ℕ) (o : Option ℕ) → n ≤ whole → IfSome o (λ k. whole ≤ k) → IfSome o (λ k. n ≤ k)
limit_for_part n whole None h p = tt
limit_for_part n whole (Some k) h p = omega arith

pub pays_for_part : (n whole : ℕ) (t : Top) → n ≤ whole → Pays whole t → Pays n t
pays_for_part n whole t h p = record { fuel = omega (arith, p.fuel); limit = limit_for_part n whole t.limit h p.limit }

nothing_less : (o : Option ℕ) → option_map (λ k. k - 0) o ≡ o
nothing_less None = refl
nothing_less (Some k) = ap Some (omega arith)

pub stretch_starts : (t : Top) (r : Registers) (m : Memory) → r ≡ t.registers → m ≡ t.memory → after_spending 0 t (reached t r m) ≡ t
stretch_starts t r m registers memory =
    let fuel : t.fuel - 0 ≡ t.fuel = omega arith in
    let used : t.used + 0 ≡ t.used = omega arith in
    let limit = nothing_less t.limit in
    λ i. record { registers = registers i; memory = memory i; snapshot = t.snapshot; limit = limit i; fuel = fuel i; used = used i; status = t.status; devices = t.devices }

-- a stretch of instructions is so many local events
pub stretch_follows : (levels n : ℕ) (t : Top) (r : Registers) (m : Memory) → t.status ≡ Running → Pays n t → Executes n t.registers t.memory r m → Follows levels n t (after_spending n t (reached t r m))
stretch_follows levels zero t r m running p h = stretch_starts t r m h.0 h.1
stretch_follows levels (suc n) t r m running p h =
    let u = after_spending n t (reached t h.0 h.1) in
    let before : Follows levels n t u = stretch_follows levels n t h.0 h.1 running (pays_for_part n (suc n) t (omega arith) p) h.2 in
    let may : MayPay u = may_pay_after t h.0 h.1 n (suc n) running (omega arith) p in
    let step : next levels u ≡ moves (after_spending (suc n) t (reached t r m)) =
    next_pays levels u may ∙ ap (charge u) (instruction_done levels u r m _ h.3) ∙ ap moves (one_more t n h.0 r h.1 m) in
    follows_suc levels n t u _ before step

-- a trap is a local event
pub trap_happens : (levels number value : ℕ) (t : Top) → MayPay t → outcome (view_of t.memory) t.registers ≡ traps number value
    → next levels t ≡ moves (stop (after_spending 1 t t) (cause_of number) value)
trap_happens levels number value t may is = next_pays levels t may ∙ ap (λ o. charge t (after_outcome levels t o)) is
