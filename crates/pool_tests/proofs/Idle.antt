-- Seats that are worked at by hand.
use Rattle.std.proofs.Common.{◌≡◌, ℕ, Bool, false, true≢false, Option, Some, None, length, refl, sym, ap, ◌∙◌, arith}
use Rattle.atomic_table.specs.Seated.{TableId}
use Rattle.board.specs.declared.done.Done.{Done}
use Rattle.pool_tests.specs.Played.{IsPlayed}
use Rattle.seat_board.specs.Held.{Held}
use Rattle.seat_board.specs.Passes.{known}
use Rattle.seat_board.specs.Seats.{IsDoneOf}
use Rattle.seat_board.specs.Workers.{IsFirst, IsReady, IsSame}
use Rattle.seat_board.specs.declared.pass.Pass.{Pass}
use Rattle.seat_board.proofs.Working.{idle_none}

-- a seat that hands in nothing has no job
pub idle_of : (job : Option Held) → IsDoneOf job None → job ≡ None
idle_of None is = refl
idle_of (Some h) is = absurd is

-- a seat without a job that was told nothing
pub ready_played : (table : TableId) (p : Pass) → IsReady table p → IsPlayed table p None false
ready_played table p ready = record { here = ready.here; owns = idle_none (known p) ready.idle; told = λ e. absurd (true≢false (sym e)) }

pub played_ready : (table : TableId) (p : Pass) (done : Option Done) (over : Bool) → IsPlayed table p done over → (known p).job ≡ None → IsReady table p
played_ready table p done over played idle = record { here = played.here; idle = idle }

-- the first seat behind turns of its own
pub first_again : (table : TableId) (n : ℕ) (p q : Pass) → IsFirst table n p → IsSame (known p) (known q) → q.pass.seat.table_id ≡ table → (known q).job ≡ None → IsFirst table n q
first_again table n p q first same here idle = record {
  ready = record { here = here; idle = idle };
  number = same.number ∙ first.number;
  given = (let a = same.given in let b = ap length same.ended in let c = first.given in omega (arith, a, b, c));
}
