-- A seat's turn leaves the board as its seats know.
use Rattle.std.proofs.Common.{◌≡◌, ◌≢◌, ℕ, ◌+◌, ◌||◌, Bool, true, false, true≢false, List, [], ◌∷◌, ◌++◌, length, set, Option, Some, None, ◌⊎◌, inl, inr, refl, sym, ap, ◌∙◌, subst, arith, append-nil, length-set}
use Rattle.std.specs.Prelude.{slice_index_or}
use Rattle.std.specs.List.{All}
use mathlib.Core.Option.{some}
use lib.ListN.{get_elem?}
use Rattle.atomic_table.proofs.Lists.{at_set, set_here, set_else}
use Rattle.ticket_lock.proofs.Views.{there}
use Rattle.det_laws.specs.Tops.{top_at}
use Rattle.det_core.specs.declared.entry.Entry.{Entry}
use Rattle.worker_pool.specs.declared.shop.Turn.{Turn}
use Rattle.worker_pool.specs.declared.shop.Turn.TheVariants.{Job as Hands, Met, Rest, Over}
use Rattle.board.specs.declared.job.Out.{Out}
use Rattle.board.specs.declared.job.Job.{Job}
use Rattle.board.specs.declared.done.Done.{Done}
use Rattle.board.specs.Jobs.{out_at}
use Rattle.board.specs.Listed.{OutsApart}
use Rattle.board.specs.Steps.{IsOfJob}
use Rattle.board.specs.Turns.{IsFinished}
use Rattle.board.specs.Value.{Shown}
use Rattle.seat_board.specs.declared.known.Known.{Known}
use Rattle.seat_board.specs.Held.{Held, Ended}
use Rattle.seat_board.specs.Desk.{Desk, TakesIn, IsSeatTurn, IsRefused, held_of, job_of, told_by, turns_of}
use Rattle.seat_board.specs.Seats.{IsHeld, held_in, added, after, IsOfHeld, IsDoneOf, IsEnded, IsCount, Fits, numbers, one_if, times}
use Rattle.seat_board.proofs.Logs.{turns_own, turns_other, added_one, added_none}
use Rattle.seat_board.proofs.Turns.{Leaves, goes_leaves, held_taken, is_held}

-- a slot is not that of a seat's job
abbrev pub IsNotIn : Option Held → ℕ → Type 0
IsNotIn job slot = (g : Held) → job ≡ Some g → slot ≢ g.slot

-- What a turn of a seat, which had this job, leaves of the board: all that the other seats know of it.
pub record Changes (number : ℕ) (job : Option Held) (old new : Desk) : Type 0 where
  pub boot : (let b = new.board in b.boot) ≡ (let b = old.board in b.boot)
  pub nodes : (let b = new.board in let places = b.places in places.nodes) ≡ (let b = old.board in let places = b.places in places.nodes)
  pub held : (h : Held) → IsHeld old.board h → IsNotIn job h.slot → IsHeld new.board h × ((slot : ℕ) → (let told = new.told in told.job) ≡ Some slot → h.slot ≢ slot)
  pub outs : (slot : ℕ) (o : Out) → out_at (let b = new.board in b.out) slot ≡ Some o → ((let told = new.told in told.job) ≡ Some slot) ⊎ ((out_at (let b = old.board in b.out) slot ≡ Some o) × IsNotIn job slot)
  pub own : (slot : ℕ) → (let told = new.told in told.job) ≡ Some slot → (h : Held) × (held_in new.board (let told = new.told in told.job) ≡ Some h)
  pub over : (let told = new.told in told.over) ≡ true → IsFinished new.board
  pub finished : IsFinished old.board → IsFinished new.board
  pub log : (new.log ≡ old.log) ⊎ ((es : List Entry) × (new.log ≡ old.log ++ record { seat = number; entries = es } ∷ []))

-- the turns of other seats are as they were
others_turns : (number m : ℕ) (job : Option Held) (old new : Desk) → Changes number job old new → m ≢ number → turns_of m new.log ≡ turns_of m old.log
others_turns number m job old new ch ne = go ch.log
  where
    go : (new.log ≡ old.log) ⊎ ((es : List Entry) × (new.log ≡ old.log ++ record { seat = number; entries = es } ∷ [])) → turns_of m new.log ≡ turns_of m old.log
    go (inl same) = ap (turns_of m) same
    go (inr one) = ap (turns_of m) one.1 ∙ turns_other number m old.log one.0 ne

own_turns : (number : ℕ) (job : Option Held) (old new : Desk) → Changes number job old new → turns_of number old.log ++ added old.log new.log ≡ turns_of number new.log
own_turns number job old new ch = go ch.log
  where
    go : (new.log ≡ old.log) ⊎ ((es : List Entry) × (new.log ≡ old.log ++ record { seat = number; entries = es } ∷ [])) → turns_of number old.log ++ added old.log new.log ≡ turns_of number new.log
    go (inl same) = ap (λ l. turns_of number old.log ++ added old.log l) same ∙ (ap (λ l. turns_of number old.log ++ l) (added_none old.log) ∙ (append-nil (turns_of number old.log) ∙ ap (turns_of number) (sym same)))
    go (inr one) = ap (λ l. turns_of number old.log ++ added old.log l) one.1 ∙ (ap (λ l. turns_of number old.log ++ l) (added_one old.log (record { seat = number; entries = one.0 })) ∙ (sym (turns_own number old.log one.0) ∙ ap (turns_of number) (sym one.1)))

pub or_true : (a b : Bool) → (a || b) ≡ true → (a ≡ true) ⊎ (b ≡ true)
or_true true b e = inl refl
or_true false b e = inr e

pub all_map : {A : Type 0} (P Q : A → Type 0) → ((x : A) → P x → Q x) → (xs : List A) → All P xs → All Q xs
all_map P Q f xs all = λ k d lt. f (slice_index_or xs k d) (all k d lt)

module _ (old new : Desk) (cs : List Known) (id : ℕ) (c : Known) (fits : Fits old cs) (at : get_elem? cs id ≡ some c) (lives : c.lives ≡ true) (ch : Changes id c.job old new) where
  now : Known
  now = after c old new

  all_now : List Known
  all_now = set cs id now

  abbrev Other : ℕ → Known → Type 0
  Other i u = (i ≢ id) × (get_elem? cs i ≡ some u)

  which : (i : ℕ) (u : Known) → get_elem? all_now i ≡ some u → ((i ≡ id) × (now ≡ u)) ⊎ Other i u
  unfolding all_now
  which i u here = at_set cs id i now u here

  -- a job of another seat is in another slot than this one's
  away : (i : ℕ) (u : Known) (h : Held) → Other i u → u.job ≡ Some h → IsNotIn c.job h.slot
  away i u h other is g mine same = other.0 (fits.apart i id u c h g other.1 at is mine same)

  now_held : (h : Held) → held_in new.board (let told = new.told in told.job) ≡ Some h → IsHeld new.board h × ((let told = new.told in told.job) ≡ Some h.slot)
  now_held h is = is_held new.board (let told = new.told in told.job) h is

  fits_boot : (i : ℕ) (u : Known) → get_elem? all_now i ≡ some u → u.lives ≡ true → (u.boot ≡ Some (let b = new.board in b.boot)) × (u.nodes ≡ (let b = new.board in let places = b.places in places.nodes))
  unfolding now
  fits_boot i u here live = go (which i u here)
    where
      go : ((i ≡ id) × (now ≡ u)) ⊎ Other i u → (u.boot ≡ Some (let b = new.board in b.boot)) × (u.nodes ≡ (let b = new.board in let places = b.places in places.nodes))
      go (inl p) = let f = fits.boot id c at lives in (ap (λ (k : Known). k.boot) (sym p.1) ∙ (f.0 ∙ ap Some (sym ch.boot)), ap (λ (k : Known). k.nodes) (sym p.1) ∙ (f.1 ∙ sym ch.nodes))
      go (inr o) = let f = fits.boot i u o.1 live in (f.0 ∙ ap Some (sym ch.boot), f.1 ∙ sym ch.nodes)

  fits_jobs : (i : ℕ) (u : Known) (h : Held) → get_elem? all_now i ≡ some u → u.job ≡ Some h → IsHeld new.board h
  unfolding now
  fits_jobs i u h here is = go (which i u here)
    where
      go : ((i ≡ id) × (now ≡ u)) ⊎ Other i u → IsHeld new.board h
      go (inl p) = (now_held h (ap (λ (k : Known). k.job) p.1 ∙ is)).0
      go (inr o) = (ch.held h (fits.jobs i u h o.1 is) (away i u h o is)).0

  fits_apart : (i j : ℕ) (u w : Known) (g h : Held) → get_elem? all_now i ≡ some u → get_elem? all_now j ≡ some w → u.job ≡ Some g → w.job ≡ Some h → g.slot ≡ h.slot → i ≡ j
  unfolding now
  fits_apart i j u w g h hi hj is js same = go (which i u hi) (which j w hj)
    where
      clash : (k : ℕ) (v : Known) (f m : Held) → Other k v → v.job ≡ Some f → held_in new.board (let told = new.told in told.job) ≡ Some m → f.slot ≡ m.slot → ⊥
      clash k v f m o has mine e = (ch.held f (fits.jobs k v f o.1 has) (away k v f o has)).1 m.slot (now_held m mine).1 e

      go : ((i ≡ id) × (now ≡ u)) ⊎ Other i u → ((j ≡ id) × (now ≡ w)) ⊎ Other j w → i ≡ j
      go (inl p) (inl q) = p.0 ∙ sym q.0
      go (inl p) (inr o) = absurd (clash j w h g o js (ap (λ (k : Known). k.job) p.1 ∙ is) (sym same))
      go (inr o) (inl q) = absurd (clash i u g h o is (ap (λ (k : Known). k.job) q.1 ∙ js) same)
      go (inr o) (inr q) = fits.apart i j u w g h o.1 q.1 is js same

  fits_all : (slot : ℕ) (o : Out) → out_at (let b = new.board in b.out) slot ≡ Some o → (i : ℕ) × (u : Known) × (h : Held) × (get_elem? all_now i ≡ some u) × (u.job ≡ Some h) × (h.slot ≡ slot)
  unfolding all_now now
  fits_all slot o is = go (ch.outs slot o is)
    where
      go : ((let told = new.told in told.job) ≡ Some slot) ⊎ ((out_at (let b = old.board in b.out) slot ≡ Some o) × IsNotIn c.job slot)
          → (i : ℕ) × (u : Known) × (h : Held) × (get_elem? (set cs id (after c old new)) i ≡ some u) × (u.job ≡ Some h) × (h.slot ≡ slot)
      go (inl told) =
          let own = ch.own slot told in
          let its : Some own.0.slot ≡ Some slot = sym (now_held own.0 own.1).1 ∙ told in
          (id, after c old new, own.0, set_here cs id (after c old new) (there cs id c at), own.1, (let e : own.0.slot ≡ slot = cc in e))
      go (inr was) =
          let f = fits.all slot o was.0 in
          let ne : f.0 ≢ id = λ e. (let both : some f.1 ≡ some c = sym f.3 ∙ (ap (get_elem? cs) e ∙ at) in let same : f.1 ≡ c = cc in was.1 f.2 (ap (λ (k : Known). k.job) (sym same) ∙ f.4) (sym f.5)) in
          (f.0, f.1, f.2, set_else cs id f.0 (after c old new) ne ∙ f.3, f.4, f.5)

  number_is : c.number ≡ id
  number_is = fits.number id c at lives

  fits_turns : (i : ℕ) (u : Known) → get_elem? all_now i ≡ some u → u.lives ≡ true → u.turns ≡ turns_of i new.log
  unfolding now
  fits_turns i u here live = go (which i u here)
    where
      go : ((i ≡ id) × (now ≡ u)) ⊎ Other i u → u.turns ≡ turns_of i new.log
      go (inl p) = ap (λ (k : Known). k.turns) (sym p.1) ∙ (ap (λ l. l ++ added old.log new.log) (fits.turns id c at lives) ∙ (own_turns id c.job old new ch ∙ ap (λ n. turns_of n new.log) (sym p.0)))
      go (inr o) = fits.turns i u o.1 live ∙ sym (others_turns id i c.job old new ch o.0)

  still_ended : (e : Ended) → IsEnded old cs e → IsEnded new all_now e
  unfolding all_now
  still_ended e is =
      let ne : e.number ≢ id = λ same. true≢false (sym lives ∙ is.gone c (ap (get_elem? cs) same ∙ at)) in record {
        turns = is.turns ∙ sym (others_turns id e.number c.job old new ch ne);
        there = (let n = length-set cs id now in let k = is.there in omega (arith, n, k));
        gone = λ w here. is.gone w (sym (set_else cs id e.number now ne) ∙ here);
      }

  fits_ended : (i : ℕ) (u : Known) → get_elem? all_now i ≡ some u → All (IsEnded new all_now) u.ended
  unfolding now
  fits_ended i u here = go (which i u here)
    where
      go : ((i ≡ id) × (now ≡ u)) ⊎ Other i u → All (IsEnded new all_now) u.ended
      go (inl p) = subst (λ (k : Known). All (IsEnded new all_now) k.ended) p.1 (all_map (IsEnded old cs) (IsEnded new all_now) still_ended c.ended (fits.ended id c at))
      go (inr o) = all_map (IsEnded old cs) (IsEnded new all_now) still_ended u.ended (fits.ended i u o.1)

  fits_over : (i : ℕ) (u : Known) → get_elem? all_now i ≡ some u → u.over ≡ true → IsFinished new.board
  unfolding now
  fits_over i u here is = go (which i u here)
    where
      own : (c.over ≡ true) ⊎ ((let told = new.told in told.over) ≡ true) → IsFinished new.board
      own (inl e) = ch.finished (fits.over id c at e)
      own (inr e) = ch.over e

      go : ((i ≡ id) × (now ≡ u)) ⊎ Other i u → IsFinished new.board
      go (inl p) = own (or_true c.over (let told = new.told in told.over) (ap (λ (k : Known). k.over) p.1 ∙ is))
      go (inr o) = ch.finished (fits.over i u o.1 is)

  fits_number : (i : ℕ) (u : Known) → get_elem? all_now i ≡ some u → u.lives ≡ true → u.number ≡ i
  unfolding now
  fits_number i u here live = go (which i u here)
    where
      go : ((i ≡ id) × (now ≡ u)) ⊎ Other i u → u.number ≡ i
      go (inl p) = ap (λ (k : Known). k.number) (sym p.1) ∙ (number_is ∙ sym p.0)
      go (inr o) = fits.number i u o.1 live

  fits_count : (u : Known) → get_elem? all_now 0 ≡ some u → IsCount all_now u
  unfolding all_now now
  fits_count u here = go (at_set cs id 0 (after c old new) u here)
    where
      len : length (set cs id (after c old new)) ≡ length cs
      len = length-set cs id (after c old new)

      each : (k : Known) → IsCount cs k → k.ended ≡ u.ended → (n : ℕ) (w : Known) → ((n ≡ id) × (after c old new ≡ w)) ⊎ ((n ≢ id) × (get_elem? cs n ≡ some w)) → one_if w.lives + times n (numbers u.ended) ≡ 1
      each k count ended n w (inl p) =
          let o = count.once n c (ap (get_elem? cs) p.0 ∙ at) in
          let l : one_if c.lives ≡ one_if w.lives = ap (λ (v : Known). one_if v.lives) p.1 in
          let e = ap (λ es. times n (numbers es)) ended in
          omega (arith, o, l, e)
      each k count ended n w (inr p) = let o = count.once n w p.1 in let e = ap (λ es. times n (numbers es)) ended in omega (arith, o, e)

      kept : (k : Known) → IsCount cs k → k.given ≡ u.given → k.ended ≡ u.ended → IsCount (set cs id (after c old new)) u
      kept k count given ended = record {
        given = sym given ∙ (count.given ∙ sym len);
        once = λ n w here. each k count ended n w (at_set cs id n (after c old new) w here);
      }

      go : ((0 ≡ id) × (after c old new ≡ u)) ⊎ ((0 ≢ id) × (get_elem? cs 0 ≡ some u)) → IsCount (set cs id (after c old new)) u
      go (inl p) = kept c (fits.count c (ap (get_elem? cs) p.0 ∙ at)) (ap (λ (k : Known). k.given) p.1) (ap (λ (k : Known). k.ended) p.1)
      go (inr o) = kept u (fits.count u o.1) refl refl

  -- the board is as its seats know
  pub changes_fit : Fits new (set cs id (after c old new))
  unfolding all_now now
  changes_fit = record {
    few = (let n = length-set cs id (after c old new) in let k = fits.few in omega (arith, n, k));
    number = fits_number;
    count = fits_count;
    boot = fits_boot;
    jobs = fits_jobs;
    apart = fits_apart;
    all = fits_all;
    turns = fits_turns;
    ended = fits_ended;
    fresh = λ n le. (let len = length-set cs id (after c old new) in let low = there cs id c at in others_turns id n c.job old new ch (λ e. omega (arith, len, low, le, e)) ∙ fits.fresh n (omega (arith, len, le)));
    over = fits_over;
  }

-- what a seat has handed in is of the job that is out in its slot
pub own_job : (b : Shown) (h : Held) (d : Done) → IsHeld b h → IsOfHeld h d → IsOfJob b d (record { ticket = h.ticket; path = h.path })
own_job b h d is of = record {
  out = ap (out_at b.out) of.slot ∙ is.0;
  ticket = sym of.ticket;
  start = record { path = ap (λ (p : Rattle.arrayvec.specs.ArrayVec.ArrayVec ℕ). p.items) (sym of.path); start = ap (λ (p : Rattle.arrayvec.specs.ArrayVec.ArrayVec ℕ). top_at p.items b.tree) of.path ∙ (is.1 ∙ ap Some (sym of.start)) };
}

-- what is left of a board once a result is taken in, where there was one
pub record TakenIn (job : Option Held) (old new : Shown) : Type 0 where
  pub boot : new.boot ≡ old.boot
  pub nodes : (let places = new.places in places.nodes) ≡ (let places = old.places in places.nodes)
  pub held : (h : Held) → IsHeld old h → IsNotIn job h.slot → IsHeld new h
  pub outs : (slot : ℕ) (o : Out) → out_at new.out slot ≡ Some o → (out_at old.out slot ≡ Some o) × IsNotIn job slot
  pub finished : IsFinished old → IsFinished new

takes_in : (job : Option Held) (done : Option Done) (old new : Shown) → IsDoneOf job done → ((h : Held) → job ≡ Some h → IsHeld old h) → OutsApart old.out → TakesIn done old new → TakenIn job old new
takes_in None None old new of held apart same = record {
  boot = ap (λ (b : Shown). b.boot) same;
  nodes = ap (λ (b : Shown). (let places = b.places in places.nodes)) same;
  held = λ h is away. subst (λ (b : Shown). IsHeld b h) (sym same) is;
  outs = λ slot o is. (ap (λ (b : Shown). out_at b.out slot) (sym same) ∙ is, λ g e. absurd (let x : None ≡ Some g = e in cc));
  finished = λ f. subst IsFinished (sym same) f;
}
takes_in None (Some d) old new of held apart taken = absurd of
takes_in (Some h) None old new of held apart same = absurd of
takes_in (Some h) (Some d) old new of held apart taken = record {
  boot = ap (λ (b : Shown). b.boot) taken.others;
  nodes = ap (λ (b : Shown). (let places = b.places in places.nodes)) taken.others;
  held = λ k is away. held_taken old new d k apart taken is (λ e. away h refl (e ∙ of.slot));
  outs = λ slot o is. (let ne : slot ≢ d.slot = λ e. (let a : out_at new.out d.slot ≡ None = taken.out.here in let b : out_at new.out d.slot ≡ Some o = ap (out_at new.out) (sym e) ∙ is in cc) in (sym (taken.out.others slot ne) ∙ is, λ g e s. ne (s ∙ ((let same : h ≡ g = cc in ap (λ (k : Held). k.slot) (sym same)) ∙ sym of.slot))));
  finished = λ f. absurd (let here = held h refl in let a : out_at old.out h.slot ≡ None = f.0 h.slot in let b = here.0 in cc);
}

-- what a turn of a seat leaves
pub turn_changes : (number : ℕ) (job : Option Held) (done : Option Done) (old : Desk) (t : Turn Job) (new : Desk) → IsDoneOf job done → ((h : Held) → job ≡ Some h → IsHeld old.board h) → IsSeatTurn number done old t new → Changes number job old new
turn_changes number job done old t new of held turn =
    let taken = takes_in job done old.board turn.between of held turn.apart turn.taken in
    let left = goes_leaves number done turn.between new.board t turn.sound turn.runs turn.goes in
    let told : (let told = new.told in told.job) ≡ (let told = told_by t in told.job) = ap (λ (x : Rattle.seat_board.specs.declared.told.Told.Told). x.job) turn.told in
    record {
      boot = left.boot ∙ taken.boot;
      nodes = left.nodes ∙ taken.nodes;
      held = λ h is away. (let there = left.held h (taken.held h is away) in (there.0, λ slot e. there.1 slot (sym told ∙ e)));
      outs = λ slot o is. outs left taken told slot (left.outs slot o is);
      own = λ slot e. own left told slot e;
      over = λ e. left.over (ap (λ (x : Rattle.seat_board.specs.declared.told.Told.Told). x.over) (sym turn.told) ∙ e);
      finished = λ f. left.finished (taken.finished f);
      log = inr (turn.entries, turn.log);
    }
  where
    outs : Leaves turn.between t new.board → TakenIn job old.board turn.between → (let told = new.told in told.job) ≡ (let told = told_by t in told.job) → (slot : ℕ) {o : Out} → ((let told = told_by t in told.job) ≡ Some slot) ⊎ (out_at (let b = turn.between in b.out) slot ≡ Some o)
        → ((let told = new.told in told.job) ≡ Some slot) ⊎ ((out_at (let b = old.board in b.out) slot ≡ Some o) × IsNotIn job slot)
    outs left taken told slot {o} (inl e) = inl (told ∙ e)
    outs left taken told slot {o} (inr is) = inr (taken.outs slot o is)

    some_job : (u : Turn Job) (slot : ℕ) → (let told = told_by u in told.job) ≡ Some slot → (h : Held) × (job_of u ≡ Some h)
    some_job (Hands j) slot e = (held_of j, refl)
    some_job Met slot e = absurd (let a : None ≡ Some slot = e in cc)
    some_job Rest slot e = absurd (let a : None ≡ Some slot = e in cc)
    some_job Over slot e = absurd (let a : None ≡ Some slot = e in cc)

    own : Leaves turn.between t new.board → (let told = new.told in told.job) ≡ (let told = told_by t in told.job) → (slot : ℕ) → (let told = new.told in told.job) ≡ Some slot → (h : Held) × (held_in new.board (let told = new.told in told.job) ≡ Some h)
    own left told slot e = let its = some_job t slot (sym told ∙ e) in (its.0, ap (held_in new.board) told ∙ (left.own ∙ its.1))

-- and what one leaves that is refused for want of memory
pub refused_changes : (number : ℕ) (job : Option Held) (done : Option Done) (old new : Desk) → IsDoneOf job done → ((h : Held) → job ≡ Some h → IsHeld old.board h) → IsRefused done old new → Changes number job old new
refused_changes number None None old new of held same = record {
  boot = ap (λ (d : Desk). (let b = d.board in b.boot)) same;
  nodes = ap (λ (d : Desk). (let b = d.board in let places = b.places in places.nodes)) same;
  held = λ h is away. (subst (λ (d : Desk). IsHeld d.board h) (sym same) is, λ slot e. absurd (let a : None ≡ Some slot = ap (λ (d : Desk). (let told = d.told in told.job)) (sym same) ∙ e in cc));
  outs = λ slot o is. inr (ap (λ (d : Desk). out_at (let b = d.board in b.out) slot) (sym same) ∙ is, λ g e. absurd (let x : None ≡ Some g = e in cc));
  own = λ slot e. absurd (let a : None ≡ Some slot = ap (λ (d : Desk). (let told = d.told in told.job)) (sym same) ∙ e in cc);
  over = λ e. absurd (true≢false (sym e ∙ ap (λ (d : Desk). (let told = d.told in told.over)) same));
  finished = λ f. subst (λ (d : Desk). IsFinished d.board) (sym same) f;
  log = inl (ap (λ (d : Desk). d.log) same);
}
refused_changes number None (Some d) old new of held refused = absurd of
refused_changes number (Some h) None old new of held refused = absurd of
refused_changes number (Some h) (Some d) old new of held refused =
    let same = refused.1 in
    let sets = refused.0 in record {
      boot = ap (λ (x : Desk). (let b = x.board in b.boot)) same;
      nodes = ap (λ (x : Desk). (let b = x.board in let places = b.places in places.nodes)) same;
      held = λ k is away. (
        (sets.others k.slot (λ e. away h refl (e ∙ of.slot)) ∙ is.0, ap (λ (x : Desk). top_at k.path.items (let b = x.board in b.tree)) same ∙ is.1),
        λ slot e. absurd (let a : None ≡ Some slot = ap (λ (x : Desk). (let told = x.told in told.job)) (sym same) ∙ e in cc),
      );
      outs = λ slot o is. inr (
          let ne : slot ≢ d.slot = λ e. (let a : out_at (let b = new.board in b.out) d.slot ≡ None = sets.here in let b : out_at (let b = new.board in b.out) d.slot ≡ Some o = ap (out_at (let b = new.board in b.out)) (sym e) ∙ is in cc) in
          (sym (sets.others slot ne) ∙ is, λ g e s. ne (s ∙ ((let its : h ≡ g = cc in ap (λ (k : Held). k.slot) (sym its)) ∙ sym of.slot)))
          );
      own = λ slot e. absurd (let a : None ≡ Some slot = ap (λ (x : Desk). (let told = x.told in told.job)) (sym same) ∙ e in cc);
      over = λ e. absurd (true≢false (sym e ∙ ap (λ (x : Desk). (let told = x.told in told.over)) same));
      finished = λ f. absurd (let here = held h refl in let a : out_at (let b = old.board in b.out) h.slot ≡ None = f.0 h.slot in let b = here.0 in cc);
      log = inl (ap (λ (x : Desk). x.log) same);
    }
