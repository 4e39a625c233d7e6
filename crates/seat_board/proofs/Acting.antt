-- A turn over the parts of a desk is one of the desk.
use Rattle.std.proofs.Common.{◌≡◌, ℕ, ◌-◌, Bool, true, List, [], ◌∷◌, ◌++◌, length, Option, Some, None, Ok, Err, ◌⊎◌, inl, inr, append-nil, append_assoc, get_or, refl, sym, ap, ◌∙◌, subst, arith, length-append}
use Rattle.std.specs.Prelude.{IfSome, IfOk, OnErr, Result, is_some}
use Rattle.std.specs.declared.alloc.AllocError.{AllocError}
use Rattle.det_core.specs.declared.entry.Entry.{Entry}
use Rattle.worker_pool.specs.declared.shop.Turn.{Turn}
use Rattle.board.specs.declared.job.Out.{Out}
use Rattle.board.specs.declared.job.Job.{Job}
use Rattle.board.specs.declared.done.Done.{Done}
use Rattle.worker_pool.specs.declared.shop.Turn.TheVariants.{Met}
use Rattle.space_model.specs.Sound.{IsSound}
use Rattle.board.specs.Listed.{OutsApart, OutsRun}
use Rattle.board.specs.Steps.{IsOfJob, ran}
use Rattle.board.specs.Turns.{IsTurn}
use Rattle.board.specs.Value.{Shown}
use Rattle.seat_board.specs.declared.known.Known.{Known}
use Rattle.seat_board.specs.declared.seat_turn.SeatTurn.{SeatTurn}
use Rattle.seat_board.specs.declared.told.Told.{Told}
use Rattle.seat_board.specs.Held.{Held}
use Rattle.seat_board.specs.Desk.{Desk, Acts, GoesOn, Refuses, IsSeatTurn, IsRefused, TakesIn, counted, cut, nothing_told, told_by, told_of, turns_of}
use Rattle.seat_board.specs.Seats.{IsHeld, IsDoneOf, Fits, after, lives}
use Rattle.seat_board.specs.Passes.{Answers, Finds}
use Rattle.atomic_table.specs.Table.{Me, rest}
use Rattle.ticket_lock.specs.declared.view.View.{View}
use Rattle.ticket_lock.specs.Passes.{IsInTurn}
use Rattle.ticket_lock.specs.Plays.{IsKnown, MayEnd}
use Rattle.seat_board.proofs.Logs.{cut_on, counted_on}
use Rattle.seat_board.proofs.Turns.{goes_leaves}
use Rattle.seat_board.proofs.Changes.{Changes, all_map, changes_fit, own_job, turn_changes, refused_changes}

abbrev desk : Shown → List SeatTurn → Told → Desk
desk b ts told = record { board = b; log = cut b.history ts; told = told }

pub acts_turn : (seat : ℕ) (done : Option Done) (old new : Shown) (ts ts' : List SeatTurn) (t : Turn Job) (before told : Told) → counted ts ≡ length old.history → told ≡ told_by t → Acts seat done old ts t new ts' → IsSeatTurn seat done (desk old ts before) t (desk new ts' told)
acts_turn seat done old new ts ts' t before told whole says acts = record {
  between = acts.between;
  taken = acts.taken;
  apart = acts.apart;
  sound = acts.sound;
  runs = acts.runs;
  goes = acts.goes;
  entries = acts.entries;
  history = acts.history;
  log = ap (λ h. cut h ts') acts.history ∙ (ap (cut (old.history ++ acts.entries)) acts.one ∙ cut_on old.history acts.entries ts (record { seat = seat; entries = length acts.entries }) whole refl);
  told = says;
}

pub acts_whole : (seat : ℕ) (done : Option Done) (old new : Shown) (ts ts' : List SeatTurn) (t : Turn Job) → counted ts ≡ length old.history → Acts seat done old ts t new ts' → counted ts' ≡ length new.history
acts_whole seat done old new ts ts' t whole acts =
    let a = ap counted acts.one in
    let b = counted_on ts (record { seat = seat; entries = length acts.entries }) in
    let c = ap length acts.history in
    let d = length-append old.history acts.entries in
    omega (arith, a, b, c, d, whole)

pub refuses_history : (done : Option Done) (old new : Shown) → Refuses done old new → new.history ≡ old.history
refuses_history None old new same = ap (λ (b : Shown). b.history) same
refuses_history (Some d) old new refused = ap (λ (b : Shown). b.history) refused.1

pub refuses_turn : (done : Option Done) (old new : Shown) (ts ts' : List SeatTurn) (before told : Told) → told ≡ nothing_told → Refuses done old new → ts' ≡ ts → IsRefused done (desk old ts before) (desk new ts' told)
refuses_turn None old new ts ts' before told says same turns = λ k. desk (same k) (turns k) (says k)
refuses_turn (Some d) old new ts ts' before told says refused turns = (refused.0, λ k. record { board = refused.1 k; log = cut (ap (λ (b : Shown). b.history) refused.1 k) (turns k); told = says k })

pub refuses_whole : (done : Option Done) (old new : Shown) (ts ts' : List SeatTurn) → counted ts ≡ length old.history → Refuses done old new → ts' ≡ ts → counted ts' ≡ length new.history
refuses_whole done old new ts ts' whole refused turns = ap counted turns ∙ (whole ∙ sym (ap length (refuses_history done old new refused)))

-- a turn of a desk
pub desk_turn : (seat : ℕ) (done : Option Done) (old new : Shown) (ts ts' : List SeatTurn) (before told : Told) (r : Result (Turn Job) AllocError) → counted ts ≡ length old.history → told ≡ told_of r
    → IfOk r (λ t. Acts seat done old ts t new ts') → OnErr r (Refuses done old new × (ts' ≡ ts))
    → IfOk r (λ t. IsSeatTurn seat done (desk old ts before) t (desk new ts' told)) × OnErr r (IsRefused done (desk old ts before) (desk new ts' told)) × (counted ts' ≡ length new.history)
desk_turn seat done old new ts ts' before told (Ok t) whole says ok err = (acts_turn seat done old new ts ts' t before told whole says ok, tt, acts_whole seat done old new ts ts' t whole ok)
desk_turn seat done old new ts ts' before told (Err e) whole says ok err = (tt, refuses_turn done old new ts ts' before told says err.0 err.1, refuses_whole done old new ts ts' whole err.0 err.1)

taken_entries : Option Done → List Entry
taken_entries None = []
taken_entries (Some d) = ran d ∷ []

taken_history : (done : Option Done) (old new : Shown) → TakesIn done old new → new.history ≡ old.history ++ taken_entries done
unfolding taken_entries
taken_history None old new same = ap (λ (b : Shown). b.history) same ∙ sym (append-nil old.history)
taken_history (Some d) old new taken = ap (λ (b : Shown). b.history) taken.others

-- the parts of a turn are a turn
pub does_act : (seat : ℕ) (done : Option Done) (old between new : Shown) (ts ts' : List SeatTurn) (t : Turn Job) (count : ℕ) → OutsApart old.out → TakesIn done old between → IsSound between.tree → OutsRun between.tree between.out → GoesOn seat done between t new
    → count ≡ length new.history - length old.history → ts' ≡ ts ++ record { seat = seat; entries = count } ∷ [] → Acts seat done old ts t new ts'
does_act seat done old between new ts ts' t count apart taken sound runs goes counts one =
    let left = goes_leaves seat done between new t sound runs goes in
    let es : List Entry = taken_entries done ++ left.entries in
    let history : new.history ≡ old.history ++ es = left.history ∙ (ap (λ h. h ++ left.entries) (taken_history done old between taken) ∙ append_assoc old.history (taken_entries done) left.entries) in
    let many : count ≡ length es = (let a = ap length history in let b = length-append old.history es in omega (arith, a, b, counts)) in
    record { between = between; taken = taken; apart = apart; sound = sound; runs = runs; goes = goes; entries = es; history = history; one = one ∙ ap (λ n. ts ++ record { seat = seat; entries = n } ∷ []) many }

pub goes_from : (seat : ℕ) (done : Option Done) (old new : Shown) (t : Turn Job) (taken : Bool) → taken ≡ is_some done → IsTurn seat old t new ⊎ ((taken ≡ true) × (t ≡ Met) × (new ≡ old)) → GoesOn seat done old t new
goes_from seat done old new t taken is (inl turn) = inl turn
goes_from seat done old new t taken is (inr none) = inr (sym is ∙ none.0, none.1, none.2)

-- what a seat finds as its turn begins
pub finds : (c : Known) (d : Desk) → c.lives ≡ true → IsKnown Fits c d → Finds c d
finds c d live known =
    let cs = known.0 in
    let id = known.1 in
    let at = known.2 in
    let fits = known.3 in record {
      boot = fits.boot id c at live;
      job = λ h is. fits.jobs id c h at is;
      turns = fits.turns id c at live ∙ ap (λ n. turns_of n d.log) (sym (fits.number id c at live));
      ended = all_map (Rattle.seat_board.specs.Seats.IsEnded d cs) (λ (e : Rattle.seat_board.specs.Held.Ended). e.turns ≡ turns_of e.number d.log) (λ e is. is.turns) c.ended (fits.ended id c at);
      over = λ is. fits.over id c at is;
    }

-- what it hands in is of the job that is out in its slot
pub hands_in : (c : Known) (done : Option Done) (d : Desk) → IsDoneOf c.job done → Finds c d → IfSome done (λ x. (o : Out) × IsOfJob d.board x o)
hands_in c done d of found = go c.job done of found.job
  where
    go : (job : Option Held) (done : Option Done) → IsDoneOf job done → ((h : Held) → job ≡ Some h → IsHeld d.board h) → IfSome done (λ x. (o : Out) × IsOfJob d.board x o)
    go job None of held = tt
    go None (Some x) of held = absurd of
    go (Some h) (Some x) of held = (record { ticket = h.ticket; path = h.path }, own_job d.board h x (held h refl) of)

-- the desk that it gives back is as the seats know
pub may_end : (id : ℕ) (c : Known) (done : Option Done) (r : Result (Turn Job) AllocError) (found given : Desk) → c.lives ≡ true → IsDoneOf c.job done → Answers c.number done found r given → MayEnd Fits id c found given (after c found given)
may_end id c done (Ok t) found given live of turn cs fits at =
    changes_fit found given cs id c fits at live (subst (λ n. Changes n c.job found given) (fits.number id c at live) (turn_changes c.number c.job done found t given of (λ h is. fits.jobs id c h at is) turn))
may_end id c done (Err e) found given live of refused cs fits at =
    changes_fit found given cs id c fits at live (refused_changes id c.job done found given of (λ h is. fits.jobs id c h at is) refused)

answers_of : (number : ℕ) (done : Option Done) (r : Result (Turn Job) AllocError) (found given : Desk) → IfOk r (λ t. IsSeatTurn number done found t given) → OnErr r (IsRefused done found given) → Answers number done found r given
answers_of number done (Ok t) found given ok err = ok
answers_of number done (Err e) found given ok err = err

-- what a seat does with the desk that it has
pub acts_on : (number : ℕ) (done : Option Done) (r : Result (Turn Job) AllocError) (found now turned given : Desk) (l : List (ℕ × Desk)) → l ≡ (0, found) ∷ [] → l ≡ (0, now) ∷ rest l → IfOk r (λ t. IsSeatTurn number done now t turned) → OnErr r (IsRefused done now turned) → given ≡ turned
    → (x : Desk) × (◌≡◌ {A = List (ℕ × Desk)} ((0, given) ∷ rest l) ((0, x) ∷ [])) × Answers number done found r x
acts_on number done r found now turned given l it value ok err same =
    let none : rest l ≡ [] = ap rest it in
    let is : found ≡ now = ap (λ (m : List (ℕ × Desk)). (get_or m 0 (0, found)).1) (sym it ∙ value) in
    (given, ap (λ (m : List (ℕ × Desk)). (0, given) ∷ m) none, subst (λ x. Answers number done x r given) (sym is) (subst (λ y. Answers number done now r y) (sym same) (answers_of number done r now turned ok err)))

-- a turn of a seat, from what it found to what it gave back
pub the_turn : (core : Known) (number : ℕ) (done : Option Done) (r : Result (Turn Job) AllocError) (b a : Me Desk (View Desk Known)) (id : ℕ) (found : Desk) → number ≡ core.number → core.lives ≡ true → IsDoneOf core.job done → b.0.core ≡ core → IsInTurn found found b → IsKnown Fits b.0.core found → a.0 ≡ b.0
    → ((x : Desk) → b.1 ≡ (0, x) ∷ [] → (given : Desk) × (a.1 ≡ (0, given) ∷ []) × Answers number done x r given)
    → (given : Desk) × IsInTurn found given a × MayEnd Fits id a.0.core found given (after a.0.core found given) × Answers core.number done found r given × Finds core found
the_turn core number done r b a id found number_is live of core_is turn known same does =
    let done_is = does found turn.it in
    let given = done_is.0 in
    let answers : Answers core.number done found r given = subst (λ n. Answers n done found r given) number_is done_is.2 in
    let core_then : a.0.core ≡ core = ap (λ (v : View Desk Known). v.core) same ∙ core_is in
    let found_is : IsKnown Fits core found = subst (λ k. IsKnown Fits k found) core_is known in (
      given,
      record { has = ap (λ (v : View Desk Known). v.has) same ∙ turn.has; noted = ap (λ (v : View Desk Known). v.noted) same ∙ turn.noted; it = done_is.1 },
      subst (λ k. MayEnd Fits id k found given (after k found given)) (sym core_then) (may_end id core done r found given live of answers),
      answers,
      finds core found live found_is,
    )

-- what a board of seats has when it is closed
pub closes : (c : Known) (d : Desk) → c.number ≡ 0 → c.lives ≡ true → IsKnown Fits c d → Finds c d × (c.turns ≡ turns_of 0 d.log)
closes c d first live known = let f = finds c d live known in (f, f.turns ∙ ap (λ n. turns_of n d.log) first)
