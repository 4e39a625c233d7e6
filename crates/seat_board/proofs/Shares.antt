-- Whose turn each was: what the seats know at the end says it.
use Rattle.std.proofs.Common.{◌≡◌, ℕ, ◌+◌, ◌<◌, ◌==◌, List, ◌∷◌, ◌++◌, append-nil, length, take, drop, sym, ap, ◌∙◌, subst, arith}
use Rattle.std.specs.Prelude.{slice_index}
use Rattle.std.specs.List.{All, count_by}
use Rattle.std.proofs.lemmas.List.{drop_all, take_all}
use Rattle.std.proofs.lemmas.List.Elements.{All-cons}
use Rattle.det_core.specs.declared.entry.Entry.{Entry}
use Rattle.seat_board.specs.declared.known.Known.{Known}
use Rattle.seat_board.specs.declared.seat_turn.SeatTurn.{SeatTurn}
use Rattle.seat_board.specs.Held.{Ended}
use Rattle.seat_board.specs.Desk.{SeatEntry, cut, turns_of}
use Rattle.seat_board.specs.Seats.{EachOnce, numbers}
use Rattle.seat_board.specs.Shares.{AreCounts, HasTurned, HaveEnded, IsOfWorkers}
use Rattle.seat_board.proofs.Logs.{turns_count}

pub are_workers : (workers : ℕ) (c : Known) (log : List SeatEntry) → HaveEnded workers c → c.given ≡ 1 + length c.ended → EachOnce c.given (0 ∷ numbers c.ended) → c.turns ≡ turns_of 0 log → All (λ (e : Ended). e.turns ≡ turns_of e.number log) c.ended → IsOfWorkers workers log
are_workers workers c log ended whole once own others = record {
  seats = record { number = 0; turns = c.turns } ∷ c.ended;
  many = (let g = ended.given in omega (arith, g, whole));
  once = subst (λ n. EachOnce n (0 ∷ numbers c.ended)) ended.given once;
  turns = All-cons (λ (e : Ended). e.turns ≡ turns_of e.number log) (record { number = 0; turns = c.turns }) c.ended own others;
  some = All-cons HasTurned (record { number = 0; turns = c.turns }) c.ended ended.own ended.others;
}

pub are_counts : (workers : ℕ) (h : List Entry) (ts : List SeatTurn) (counts : List ℕ) → length counts ≡ workers → ((n : ℕ) → n < length counts → slice_index counts n ≡ count_by (λ (t : SeatTurn). t.seat == n) ts) → AreCounts workers (cut h ts) counts
are_counts workers h ts counts many each = record { many = many; each = λ n lt. each n lt ∙ sym (turns_count n h ts) }

-- a whole list is written back
pub written_back : {A : Type 0} (n : ℕ) (new old : List A) → length new ≡ n → length old ≡ n → take n (new ++ drop (length new) old) ≡ new
written_back n new old e f = ap (λ l. take n (new ++ l)) (drop_all (length new) old (omega (arith, e, f))) ∙ (ap (take n) (append-nil new) ∙ take_all n new (omega (arith, e)))
