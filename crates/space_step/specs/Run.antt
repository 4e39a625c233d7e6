-- A run: local events of a space from a start on.
-- Our choice: a restatement for proofs.
use Rattle.std.specs.Prelude.{◌≡◌, ℕ, ◌≤◌, refl}
use Rattle.std.specs.Coded.{Coded, coded_ℕ, coded×, code_by}
use Rattle.call_model.specs.Limits.{greatest_depth, levels_below}
use Rattle.space_model.specs.Space.{Top}
use Rattle.space_model.specs.Encoding.{coded_top}
use Rattle.space_model.specs.Event.{next, Follows, IsNotLocal}

pub record Run : Type 0 where
  pub depth : ℕ
  pub start : Top
  pub top : Top
  pub ran : ℕ

abbrev pub coded_run : Coded Run
coded_run = code_by (ℕ × (Top × (Top × ℕ))) (coded× coded_ℕ (coded× coded_top (coded× coded_top coded_ℕ)))
    (λ r. (r.depth, (r.start, (r.top, r.ran)))) (λ p. record { depth = p.0; start = p.1.0; top = p.1.1.0; ran = p.1.1.1 }) (λ _. refl)

-- so many local events lead from the start to the top; none only where what is next of the start is no local event
pub record IsRun (r : Run) : Type 0 where
  pub depth : r.depth ≤ greatest_depth
  pub follows : Follows (levels_below r.depth) r.ran r.start r.top
  pub none : r.ran ≡ 0 → IsNotLocal (next (levels_below r.depth) r.start)
