-- What a step's answer says of the outcome.
use Rattle.std.proofs.Common.{◌≡◌, ℕ, ◌⊎◌, inl, inr, Bool, true, Ok, Err, refl, sym, ap}
use Rattle.std.specs.declared.alloc.AllocError.{AllocError}
use Rattle.memory_model.specs.declared.Width.{Width}
use Rattle.instruction_model.specs.Outcome.{Registers, Outcome, goes, stores, calls, traps}
use Rattle.rv_exec.specs.declared.stepping.Stepped.TheVariants.{Next, Call, Trap}
use Rattle.rv_exec.specs.Steps.{Steps}

-- the instruction is done: it goes on, or stores
pub after_next : {B : Type 0} (stored : B → ℕ → Width → ℕ → B) (m : Bool) (o : Outcome) (s s' : Registers) (b b' : B)
    → Steps stored m o (Ok Next) s b s' b'
    → ((o ≡ goes s') × (b' ≡ b)) ⊎ ((a : ℕ) × (w : Width) × (v : ℕ) × (o ≡ stores s' a w v) × (b' ≡ stored b a w v))
after_next stored m (goes t) s s' b b' h = inl (ap goes (sym h.0), h.1)
after_next stored m (stores t a w v) s s' b b' h = inr (a, w, v, ap (λ (r : Registers). stores r a w v) (sym h.0), h.1)
after_next stored m calls s s' b b' h = absurd h
after_next stored m (traps c v) s s' b b' h = absurd h

pub after_call : {B : Type 0} (stored : B → ℕ → Width → ℕ → B) (m : Bool) (o : Outcome) (s s' : Registers) (b b' : B)
    → Steps stored m o (Ok Call) s b s' b' → (o ≡ calls) × (s' ≡ s) × (b' ≡ b)
after_call stored m (goes t) s s' b b' h = absurd h
after_call stored m (stores t a w v) s s' b b' h = absurd h
after_call stored m calls s s' b b' h = (refl, h.0, h.1)
after_call stored m (traps c v) s s' b b' h = absurd h

pub after_trap : {B : Type 0} (stored : B → ℕ → Width → ℕ → B) (m : Bool) (o : Outcome) (d u : ℕ) (s s' : Registers) (b b' : B)
    → Steps stored m o (Ok (Trap d u)) s b s' b' → (o ≡ traps d u) × (s' ≡ s) × (b' ≡ b)
after_trap stored m (goes t) d u s s' b b' h = absurd h
after_trap stored m (stores t a w v) d u s s' b b' h = absurd h
after_trap stored m calls d u s s' b b' h = absurd h
after_trap stored m (traps c v) d u s s' b b' h = (cc (h.0, h.1), h.2, h.3)

-- memory was wanted: a store was to be done, and the bus takes memory
pub after_err : {B : Type 0} (stored : B → ℕ → Width → ℕ → B) (m : Bool) (o : Outcome) (e : AllocError) (s s' : Registers) (b b' : B)
    → Steps stored m o (Err e) s b s' b' → (m ≡ true) × (s' ≡ s) × (b' ≡ b)
after_err stored m (goes t) e s s' b b' h = absurd h
after_err stored m (stores t a w v) e s s' b b' h = h
after_err stored m calls e s s' b b' h = absurd h
after_err stored m (traps c v) e s s' b b' h = absurd h
