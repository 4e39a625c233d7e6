-- What a turn leaves of what its seat knows, and seat 0 as it takes others in.
use Rattle.std.proofs.Common.{◌≡◌, ℕ, zero, suc, ◌+◌, ◌<◌, ◌||◌, Bool, true, false, true≢false, List, [], ◌∷◌, ◌++◌, length, Option, Some, None, Ok, Err, refl, sym, ap, ◌∙◌, subst, arith, append_assoc, length-append}
use Rattle.std.specs.Prelude.{IfOk, Result, option_map, slice_index_or}
use Rattle.std.specs.List.{All}
use Rattle.std.proofs.lemmas.List.Elements.{All-nil, All-cons, All-head, All-tail, All-append}
use Rattle.std.specs.declared.alloc.AllocError.{AllocError}
use Rattle.worker_pool.specs.declared.shop.Turn.{Turn}
use Rattle.worker_pool.specs.declared.shop.Turn.TheVariants.{Job as Hands, Met, Rest, Over}
use Rattle.board.specs.declared.job.Job.{Job}
use Rattle.board.specs.declared.done.Done.{Done}
use Rattle.board.specs.Turns.{is_over, IsOf}
use Rattle.seat_board.specs.declared.known.Known.{Known}
use Rattle.seat_board.specs.declared.told.Told.{Told}
use Rattle.seat_board.specs.Held.{Held}
use Rattle.seat_board.specs.Desk.{Desk, held_of, told_by}
use Rattle.seat_board.specs.Seats.{added, counted_up, held_in, taken_in, IsDoneOf}
use Rattle.atomic_table.specs.Seated.{TableId}
use Rattle.seat_board.specs.declared.pass.Pass.{Pass}
use Rattle.seat_board.specs.declared.worker.Finished.{Finished}
use Rattle.seat_board.specs.Passes.{HasTurn, known}
use Rattle.seat_board.specs.Workers.{AreServed, Follows, Goes, HasHadTurn, HasServed, HasTakenIn, taken_from, IsFirst, IsOfOneBoard, IsReady, IsSame}
use Rattle.seat_board.specs.Shares.{HasTurned, HaveEnded}
use Rattle.seat_board.proofs.Logs.{added_one}
use Rattle.seat_board.proofs.Turns.{goes_leaves}

pub turn_same : (old : Known) (done : Option Done) (r : Result (Turn Job) AllocError) (found : Option Desk) (new : Known) → HasTurn old done r found new → IsSame old new
turn_same old done r found new has = let is = has.knows in record {
  number = ap (λ (k : Known). k.number) is;
  boot = ap (λ (k : Known). k.boot) is;
  nodes = ap (λ (k : Known). k.nodes) is;
  given = ap (λ (k : Known). k.given) is;
  ended = ap (λ (k : Known). k.ended) is;
}

pub same_trans : (a b c : Known) → IsSame a b → IsSame b c → IsSame a c
same_trans a b c p q = record { number = q.number ∙ p.number; boot = q.boot ∙ p.boot; nodes = q.nodes ∙ p.nodes; given = q.given ∙ p.given; ended = q.ended ∙ p.ended }

pub same_itself : (a : Known) → IsSame a a
same_itself a = record { number = refl; boot = refl; nodes = refl; given = refl; ended = refl }

or_else : (a b : Bool) → b ≡ true → (a || b) ≡ true
or_else true b e = refl
or_else false b e = e

told_over : (t : Turn Job) → is_over t ≡ true → (let told = told_by t in told.over) ≡ true
told_over (Hands job) e = absurd (true≢false (sym e))
told_over Met e = absurd (true≢false (sym e))
told_over Rest e = absurd (true≢false (sym e))
told_over Over e = refl

pub turn_follows : (old : Known) (done : Option Done) (t : Turn Job) (found : Option Desk) (new : Known) → HasTurn old done (Ok t) found new → Follows t new
turn_follows old done t found new has =
    let turn = has.does in
    let left = goes_leaves old.number done turn.between (let given = has.given in given.board) t turn.sound turn.runs turn.goes in
    let told = turn.told in (
      ap (λ (k : Known). k.job) has.knows ∙ (ap (λ (x : Told). held_in (let given = has.given in given.board) x.job) told ∙ left.own),
      λ e. ap (λ (k : Known). k.over) has.knows ∙ or_else old.over (let given = has.given in let x = given.told in x.over) (ap (λ (x : Told). x.over) told ∙ told_over t e),
    )

-- a turn that is had is the last of its seat's turns
pub turn_had : (old : Known) (d : Option Done) (t : Turn Job) (found : Option Desk) (new : Known) → HasTurn old d (Ok t) found new → HasHadTurn new
turn_had old d t found new has =
    let turn = has.does in
    let one : (let given = has.given in let before = has.before in added before.log given.log) ≡ turn.entries ∷ [] = ap (let before = has.before in added before.log) turn.log ∙ added_one (let before = has.before in before.log) (record { seat = old.number; entries = turn.entries }) in
    let all = ap (λ (k : Known). length k.turns) has.knows in
    let many = length-append old.turns (let given = has.given in let before = has.before in added before.log given.log) in
    let more = ap length one in
    omega (arith, all, many, more)

-- what came of the job that a turn handed out is of the seat's job
pub works_at : (job : Job) (d : Done) (held : Option Held) → held ≡ Some (held_of job) → IsOf job d → IsDoneOf held (Some d)
works_at job d held is of =
    let its = of.0 in subst (λ h. IsDoneOf h (Some d)) (sym is) (record { slot = its.slot; ticket = its.ticket; path = its.path; start = its.start })

-- a seat without a job hands in nothing
pub idle_none : (c : Known) → c.job ≡ None → IsDoneOf c.job None
idle_none c idle = subst (λ h. IsDoneOf h None) (sym idle) tt

pub goes_on : (o : Option (Option Finished)) (finished : Option Finished) (c : Known) → o ≡ Some finished → Goes o c → IsDoneOf c.job (option_map (λ (w : Finished). w.done) finished)
goes_on o finished c is goes = subst (λ x. Goes x c) is goes

pub goes_home : (o : Option (Option Finished)) (c : Known) → o ≡ None → Goes o c → (c.job ≡ None) × (c.over ≡ true)
goes_home o c is goes = subst (λ x. Goes x c) is goes

-- seat 0 gives one number more, which has not ended
pub one_more : (table : TableId) (others : ℕ) (p q : Pass) → IsFirst table others p → q.pass.seat.table_id ≡ p.pass.seat.table_id → known q ≡ counted_up (known p) → IsFirst table (others + 1) q
one_more table others p q first here is = record {
  ready = record { here = here ∙ first.ready.here; idle = ap (λ (k : Known). k.job) is ∙ first.ready.idle };
  number = ap (λ (k : Known). k.number) is ∙ first.number;
  given = (let a = ap (λ (k : Known). k.given) is in let b = ap (λ (k : Known). length k.ended) is in let c = first.given in omega (arith, a, b, c));
}

-- and one of them ends
pub one_fewer : (table : TableId) (others : ℕ) (p o q : Pass) → IsFirst table (others + 1) p → q.pass.seat.table_id ≡ p.pass.seat.table_id → known q ≡ taken_in (known p) (known o) → IsFirst table others q
one_fewer table others p o q first here is = record {
  ready = record { here = here ∙ first.ready.here; idle = ap (λ (k : Known). k.job) is ∙ first.ready.idle };
  number = ap (λ (k : Known). k.number) is ∙ first.number;
  given = (let a = ap (λ (k : Known). k.given) is in let b = ap (λ (k : Known). length k.ended) is in let c = first.given in let d = length-append (let k = known p in k.ended) (record { number = (let k = known o in k.number); turns = (let k = known o in k.turns) } ∷ []) in omega (arith, a, b, c, d));
}

-- seat 0 as its worker leaves it
pub first_served : (table : TableId) (others : ℕ) (p q : Pass) → IsFirst table others p → HasServed table (known p) q → IsFirst table others q
first_served table others p q first served = let same = served.same in record {
  ready = served.ready;
  number = same.number ∙ first.number;
  given = (let a = same.given in let b = ap length same.ended in let c = first.given in omega (arith, a, b, c));
}

module _ {A : Type 0} where
  at_last : (xs : List A) (x d : A) → slice_index_or (xs ++ x ∷ []) (length xs) d ≡ x
  at_last [] x d = refl
  at_last (y ∷ ys) x d = at_last ys x d

  at_first : (xs : List A) (x d : A) (k : ℕ) → k < length xs → slice_index_or (xs ++ x ∷ []) k d ≡ slice_index_or xs k d
  at_first [] x d k lt = absurd (omega (arith, lt))
  at_first (y ∷ ys) x d zero lt = refl
  at_first (y ∷ ys) x d (suc k) lt = at_first ys x d k (omega (arith, lt))

ok_too : {E A : Type 0} (P Q : A → Type 0) (r : Result A E) → ((p : A) → P p → Q p) → IfOk r P → IfOk r Q
ok_too P Q (Ok p) f h = f p h
ok_too P Q (Err e) f h = tt

-- what is so of each that served is so of the last
pub served_last : (table : TableId) (ps : List Pass) (first : Pass) (rs rs' : List (Result Pass AllocError)) (r : Result Pass AllocError) (p : Pass) → AreServed table (ps ++ first ∷ []) rs → length rs ≡ length (ps ++ first ∷ []) → rs ≡ rs' ++ r ∷ [] → r ≡ Ok p → HasServed table (known first) p
served_last table ps first rs rs' r p served len split is =
    let many : length rs' ≡ length ps = (let a = length-append ps (first ∷ []) in let b = ap length split in let c = length-append rs' (r ∷ []) in omega (arith, a, b, c, len)) in
    let low : length ps < length (ps ++ first ∷ []) = (let a = length-append ps (first ∷ []) in omega (arith, a)) in
    let here = served (length ps) first r low in
    let place : slice_index_or rs (length ps) r ≡ Ok p = ap (λ l. slice_index_or l (length ps) r) split ∙ (ap (λ n. slice_index_or (rs' ++ r ∷ []) n r) (sym many) ∙ (at_last rs' r r ∙ is)) in
    let it : HasServed table (known (slice_index_or (ps ++ first ∷ []) (length ps) first)) p = subst (λ x. IfOk x (λ q. HasServed table (known (slice_index_or (ps ++ first ∷ []) (length ps) first)) q)) place here in
    subst (λ (x : Pass). HasServed table (known x) p) (at_last ps first first) it

-- seat 0, which stood last among those that served
pub last_served : (table : TableId) (ps : List Pass) (first : Pass) (rs rs' : List (Result Pass AllocError)) (r : Result Pass AllocError) (p : Pass) → AreServed table (ps ++ first ∷ []) rs → length rs ≡ length (ps ++ first ∷ []) → rs ≡ rs' ++ r ∷ [] → r ≡ Ok p → IsFirst table (length ps) first
    → IsFirst table (length rs') p × ((known p).over ≡ true) × IsOfOneBoard p first
last_served table ps first rs rs' r p served len split is whole =
    let many : length rs' ≡ length ps = (let a = length-append ps (first ∷ []) in let b = ap length split in let c = length-append rs' (r ∷ []) in omega (arith, a, b, c, len)) in
    let its = served_last table ps first rs rs' r p served len split is in
    let same = its.same in
    (subst (λ n. IsFirst table n p) (sym many) (first_served table (length ps) first p whole its), its.over, (same.boot, same.nodes))

-- and the others
pub others_served : (table : TableId) (ps : List Pass) (first : Pass) (rs rs' : List (Result Pass AllocError)) (r : Result Pass AllocError) → AreServed table (ps ++ first ∷ []) rs → length rs ≡ length (ps ++ first ∷ []) → rs ≡ rs' ++ r ∷ []
    → All (λ x. IfOk x (IsReady table)) rs'
others_served table ps first rs rs' r served len split k d lt =
    let low : k < length (ps ++ first ∷ []) = (let b = ap length split in let c = length-append rs' (r ∷ []) in omega (arith, b, c, len, lt)) in
    let here = served k first d low in
    let place : slice_index_or rs k d ≡ slice_index_or rs' k d = ap (λ l. slice_index_or l k d) split ∙ at_first rs' r d k lt in
    ok_too (λ q. HasServed table (known (slice_index_or (ps ++ first ∷ []) k first)) q) (IsReady table) (slice_index_or rs' k d) (λ q h. h.ready) (subst (λ x. IfOk x (λ q. HasServed table (known (slice_index_or (ps ++ first ∷ []) k first)) q)) place here)

-- and each of them had a turn
pub others_had : (table : TableId) (ps : List Pass) (first : Pass) (rs rs' : List (Result Pass AllocError)) (r : Result Pass AllocError) → AreServed table (ps ++ first ∷ []) rs → length rs ≡ length (ps ++ first ∷ []) → rs ≡ rs' ++ r ∷ []
    → All (λ x. IfOk x (λ q. HasHadTurn (known q))) rs'
others_had table ps first rs rs' r served len split k d lt =
    let low : k < length (ps ++ first ∷ []) = (let b = ap length split in let c = length-append rs' (r ∷ []) in omega (arith, b, c, len, lt)) in
    let here = served k first d low in
    let place : slice_index_or rs k d ≡ slice_index_or rs' k d = ap (λ l. slice_index_or l k d) split ∙ at_first rs' r d k lt in
    ok_too (λ q. HasServed table (known (slice_index_or (ps ++ first ∷ []) k first)) q) (λ q. HasHadTurn (known q)) (slice_index_or rs' k d) (λ q h. h.had) (subst (λ x. IfOk x (λ q. HasServed table (known (slice_index_or (ps ++ first ∷ []) k first)) q)) place here)

-- the last of others is taken in first
pub taken_last : (rs : List (Result Pass AllocError)) (p : Pass) → taken_from (rs ++ Ok p ∷ []) ≡ record { number = (known p).number; turns = (known p).turns } ∷ taken_from rs
taken_last [] p = refl
taken_last (Ok q ∷ rs) p = ap (λ es. es ++ record { number = (known q).number; turns = (known q).turns } ∷ []) (taken_last rs p)
taken_last (Err e ∷ rs) p = taken_last rs p

-- seat 0 has taken in one of them
pub takes_one : (old c new : Known) (all rs rs' : List (Result Pass AllocError)) (p : Pass) → c.given ≡ old.given → c.turns ≡ old.turns → c.ended ++ taken_from rs ≡ old.ended ++ taken_from all → rs ≡ rs' ++ Ok p ∷ [] → new ≡ taken_in c (known p)
    → (new.given ≡ old.given) × (new.turns ≡ old.turns) × (new.ended ++ taken_from rs' ≡ old.ended ++ taken_from all)
takes_one old c new all rs rs' p given turns ended split is = (
  ap (λ (k : Known). k.given) is ∙ given,
  ap (λ (k : Known). k.turns) is ∙ turns,
  ap (λ (k : Known). k.ended ++ taken_from rs') is
      ∙ (append_assoc c.ended (record { number = (known p).number; turns = (known p).turns } ∷ []) (taken_from rs') ∙ (ap (λ es. c.ended ++ es) (sym (taken_last rs' p)) ∙ (ap (λ l. c.ended ++ taken_from l) (sym split) ∙ ended))),
)

taken_turned : (rs : List (Result Pass AllocError)) → All (λ x. IfOk x (λ q. HasHadTurn (known q))) rs → All HasTurned (taken_from rs)
taken_turned [] all = All-nil HasTurned
taken_turned (Ok p ∷ rs) all =
    let one = All-head (λ x. IfOk x (λ q. HasHadTurn (known q))) (Ok p) rs all in
    All-append HasTurned (taken_from rs) (record { number = (known p).number; turns = (known p).turns } ∷ []) (taken_turned rs (All-tail (λ x. IfOk x (λ q. HasHadTurn (known q))) (Ok p) rs all)) (All-cons HasTurned (record { number = (known p).number; turns = (known p).turns }) [] one (All-nil HasTurned))
taken_turned (Err e ∷ rs) all = taken_turned rs (All-tail (λ x. IfOk x (λ q. HasHadTurn (known q))) (Err e) rs all)

none_of : {A : Type 0} (l : List A) → length l ≡ 0 → l ≡ []
none_of [] e = refl
none_of (x ∷ xs) e = absurd (omega (arith, e))

-- all have ended, once seat 0 has taken in the others
pub all_ended : (table : TableId) (workers : ℕ) (first p : Pass) (rs : List (Result Pass AllocError)) (last : Known) → (known first).given ≡ workers → length (known first).ended ≡ 0 → HasServed table (known first) p → All (λ x. IfOk x (λ q. HasHadTurn (known q))) rs → HasTakenIn (known p) rs last → HaveEnded workers last
all_ended table workers first p rs last given none served had taken =
    let same = served.same in
    let ended : last.ended ≡ taken_from rs = taken.ended ∙ ap (λ es. es ++ taken_from rs) (same.ended ∙ none_of (known first).ended none) in record {
      given = taken.given ∙ (same.given ∙ given);
      own = (let h = served.had in let e = ap length taken.turns in omega (arith, h, e));
      others = subst (All HasTurned) (sym ended) (taken_turned rs had);
    }
