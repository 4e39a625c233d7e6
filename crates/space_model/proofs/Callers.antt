-- What a call that meets children leaves of its caller's soundness, and what a caller reads that has paid for it.
use Rattle.std.proofs.Common.{◌≡◌, ℕ, ◌+◌, ◌-◌, ◌<◌, Option, Some, None, refl, subst, sym, ap, arith}
use Rattle.std.specs.Prelude.{Result, Ok, Err, OnOk, OnErr}
use Rattle.call_model.specs.declared.Call.{Call}
use Rattle.call_model.specs.Limits.{levels_below}
use Rattle.space_model.specs.Space.{Space, Top}
use Rattle.space_model.specs.Change.{after_payment}
use Rattle.space_model.specs.Beginning.{fresh_top}
use Rattle.space_model.specs.Meeting.{or_fresh}
use Rattle.space_model.specs.Sound.{IsSoundAt}
use Rattle.space_model.specs.Caller.{MayCall, met_by, StaysSound}
use Rattle.space_model.proofs.Sound.{meeting_sound}

-- a caller that has paid reads the same child
pub or_fresh-paid : (t : Top) (o : Option Top) → 0 < t.fuel → or_fresh (after_payment t t) o ≡ or_fresh t o
or_fresh-paid t None h = let same : (t.fuel - 1) + (t.used + 1) ≡ t.fuel + t.used = omega arith in ap fresh_top same
or_fresh-paid t (Some c) h = refl

-- a space that met a child is as sound as it was
pub met_sound : (depth : ℕ) (k : Call) (s u : Space) → MayCall depth k s → u ≡ met_by depth k s → StaysSound depth s u
met_sound depth k s u may met root fuel sound =
    subst (IsSoundAt (levels_below depth) root fuel) (sym met) (meeting_sound (levels_below depth) root fuel k s may.may_meet may.may_pay sound)

-- and so is one that met a child or is as it was
pub stays_sound : {E : Type 0} (r : Result (Unit {0}) E) (depth : ℕ) (k : Call) (s u : Space) → MayCall depth k s → OnOk r (u ≡ met_by depth k s) → OnErr r (u ≡ s) → StaysSound depth s u
stays_sound (Ok done) depth k s u may met same root fuel sound = met_sound depth k s u may met root fuel sound
stays_sound (Err e) depth k s u may met same root fuel sound = subst (IsSoundAt (levels_below depth) root fuel) (sym same) sound
