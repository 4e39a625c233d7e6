-- A tree goes on turn by turn, and notes tell of every path in the schedule so far.
use Rattle.std.proofs.Common.{◌≡◌, ℕ, suc, ◌+◌, ◌≤◌, Bool, true, false, List, [], ◌∷◌, ◌++◌, length, length-append, take, Option, Some, None, IfSome, if◌then◌else◌, refl, sym, ap, ◌∙◌, subst, arith, inl, inr, ◌⊎◌}
use Rattle.std.proofs.lemmas.List.{append-nil, take_all}
use Rattle.std.specs.Prelude.{◌&&◌, ◌^◌, nat_lt, slice_index}
use Rattle.call_model.specs.Limits.{greatest_depth}
use Rattle.space_model.specs.Space.{Space}
use Rattle.space_model.specs.Sound.{IsSound}
use Rattle.run_model.specs.Replay.{replay}
use Rattle.det_laws.specs.Tree.{NoneMayHappen, after_all}
use Rattle.event_laws.specs.OwnEvents.{OwnEvent, own_events}
use Rattle.event_laws.proofs.Histories.{all_alike}
use Rattle.explain_core.specs.declared.lineage.Link.{Link}
use Rattle.explain_core.specs.declared.watching.Moment.{Moment}
use Rattle.explain_core.specs.declared.watching.Watched.{Watched}
use Rattle.explain_core.specs.declared.watching.Watched.TheVariants.{Byte, Register}
use Rattle.explain_core.specs.Beside.{all}
use Rattle.explain_core.specs.Going.{WayStopped, own_below}
use Rattle.explain_core.specs.Joins.{child_path, is_join}
use Rattle.explain_core.specs.Lineage.{HasLast, HeldBehind, Tells, TellsLinks, changed_by, count_of, counted, joined_by}
use Rattle.explain_core.specs.Notes.{Follows, GoesOnTelling, IsKept, JoinsAlone, KeepsTurn, Notes, Puts, TellsAll, links_after, note_at, through}
use Rattle.explain_core.specs.Reached.{HasSoMany, TellsMoment}
use Rattle.explain_core.specs.TurnsAt.{HasLastFrom, TurnsAt}
use Rattle.explain_core.specs.Watch.{NoneChanges, moment_at, told}
use Rattle.explain_core.proofs.EventsBefore.{ended, own_both, still_sound}
use Rattle.explain_core.proofs.LastChange.{in_every}
use Rattle.explain_core.proofs.LinksTell.{joined_now, own_then, tells_changed, tells_count, tells_counted, tells_links, tells_on, within}
use Rattle.explain_core.proofs.Schedules.{replay_parts, whole}
use Rattle.explain_core.proofs.Stopped.{none_own}
use Rattle.explain_core.proofs.TurnsAt.{cases_path}

-- ---- at first

pub none_yet : (root : Space) (f : List ℕ → Watched) (ns : Notes) → ns ≡ [] → TellsAll root f ns root
none_yet root f ns none = record { schedule = []; leads = refl; each = λ q. subst (λ xs. Tells root (f q) q [] (note_at xs q)) (sym none) refl }

-- ---- a child is not the space itself

longer : (p : List ℕ) (n : ℕ) → p ++ n ∷ [] ≡ p → ⊥
longer p n e = let long = sym (length-append p (n ∷ [])) ∙ ap length e in absurd (omega (arith, long))

not_itself : (p q : List ℕ) (w : Watched) (o : Option Moment) → joined_by p w o ≡ Some q → q ≡ p → ⊥
not_itself p q w None is = cc
not_itself p q w (Some m) is = by_test (is_join w (told p m)) is
  where
    child : (n : ℕ) (b : Bool) → (if b then Some (p ++ n ∷ []) else None) ≡ Some q → q ≡ p → ⊥
    child n true is e = let same : p ++ n ∷ [] ≡ q = cc in longer p n (same ∙ e)
    child n false is e = cc

    by_test : (b : Bool) → (if b then child_path p (slice_index m.found.registers.x 11) else None) ≡ Some q → q ≡ p → ⊥
    by_test true is e = let n = slice_index m.found.registers.x 11 in child n (nat_lt n (2 ^ 16) && nat_lt (length p) greatest_depth) is e
    by_test false is e = cc

-- what is watched at a path is watched at the path of a child that it joined
joined_alike : (f : List ℕ → Watched) → Follows f → (p q : List ℕ) (w : Watched) (m : Moment) → f p ≡ w → joined_by p w (Some m) ≡ Some q → f q ≡ w
joined_alike f follows p q (Register r) m here is = cc
joined_alike f follows p q (Byte a) m here is = by_test (is_join (Byte a) (told p m)) is
  where
    child : (n : ℕ) (b : Bool) → (if b then Some (p ++ n ∷ []) else None) ≡ Some q → f q ≡ Byte a
    child n true is = let same : p ++ n ∷ [] ≡ q = cc in subst (λ x. f x ≡ Byte a) same (follows p n a here)
    child n false is = cc

    by_test : (b : Bool) → (if b then child_path p (slice_index m.found.registers.x 11) else None) ≡ Some q → f q ≡ Byte a
    by_test true is = let n = slice_index m.found.registers.x 11 in child n (nat_lt n (2 ^ 16) && nat_lt (length p) greatest_depth) is
    by_test false is = cc

-- ---- a turn

numbered : (w : Watched) (n : ℕ) (e : OwnEvent) → (let x = moment_at w n e in x.number) ≡ n
unfolding moment_at
numbered w n e = refl

turned_links : (root s now : Space) (f : List ℕ → Watched) → Follows f → (w : Watched) (p : List ℕ) → f p ≡ w → (ns : Notes) (count : ℕ) (last : Option Moment) (a : TellsAll root f ns s) (t : TurnsAt 8 w p (count_of (note_at ns p)) count last s now)
    → JoinsAlone p w count last → Tells root w p (a.schedule ++ t.schedule) (links_after ns w p count last)
turned_links root s now f follows w p here ns count last a t alone = go last t.told alone
  where
    ps : List (List ℕ)
    ps = a.schedule

    more : List (List ℕ)
    more = t.schedule

    so_far : Tells root w p ps (note_at ns p)
    so_far = subst (λ v. Tells root v p ps (note_at ns p)) here (a.each p)

    own : own_events p (ps ++ more) root ≡ own_events p ps root ++ t.own
    own = own_then root p ps more ∙ ap (λ xs. own_events p ps root ++ xs) (ap (own_events p more) a.leads ∙ sym (whole p more s) ∙ t.events)

    go : (o : Option Moment) → HasLastFrom w (count_of (note_at ns p)) t.own o → JoinsAlone p w count o → Tells root w p (ps ++ more) (links_after ns w p count o)
    go None none alone = subst (λ n. Tells root w p (ps ++ more) (counted n (note_at ns p))) t.long (tells_counted root w p ps more t.own (note_at ns p) own none so_far)
    go (Some m) (k, e, is_last, is) alone =
        subst (λ n. Tells root w p (ps ++ more) (changed_by n m (note_at ns p) (through ns (joined_by p w (Some m))))) t.long
        (tells_changed root w p ps more t.own k e m (note_at ns p) (through ns (joined_by p w (Some m))) own is_last is so_far joins)
      where
        number : m.number ≡ suc (count_of (note_at ns p) + k)
        number = ap (λ (x : Moment). x.number) is ∙ numbered w (suc (count_of (note_at ns p) + k)) e

        joins : (q : List ℕ) → joined_by p w (Some m) ≡ Some q → HeldBehind root p (ps ++ more) m.number (λ qs. Tells root w q qs (through ns (joined_by p w (Some m))))
        joins q to =
            let one = alone q to in
            let long = t.long in
            let near = within t.own k e is_last.event in
            let before = tells_count root w p ps (note_at ns p) so_far in
            let both = ap length own ∙ length-append (own_events p ps root) t.own in
            let others = sym (whole q more s) ∙ t.others q (not_itself p q w (Some m) to) in
            subst (λ o. HeldBehind root p (ps ++ more) m.number (λ qs. Tells root w q qs (through ns o))) (sym to)
            (joined_now root s w p q ps more m.number (note_at ns q) a.leads others (omega (arith, both, before, long, one, near, number)) (subst (λ v. Tells root v q ps (note_at ns q)) (joined_alike f follows p q w m here to) (a.each q)))

pub turned : (root s now : Space) (f : List ℕ → Watched) → Follows f → (w : Watched) (p : List ℕ) → f p ≡ w → (old new : Notes) (count : ℕ) (last : Option Moment) (links : List Link) → TellsAll root f old s
    → TurnsAt 8 w p (count_of (note_at old p)) count last s now → JoinsAlone p w count last → links ≡ links_after old w p count last → Puts p links old new → TellsAll root f new now
turned root s now f follows w p here old new count last links a t alone is puts = record {
  schedule = a.schedule ++ t.schedule;
  leads = replay_parts a.schedule t.schedule 8 root ∙ ap (replay t.schedule 8) a.leads ∙ t.leads;
  each = λ q. go q (cases_path q p);
}
  where
    go : (q : List ℕ) → (q ≡ p) ⊎ (q ≡ p → ⊥) → Tells root (f q) q (a.schedule ++ t.schedule) (note_at new q)
    go q (inl e) =
        subst (λ x. Tells root (f x) x (a.schedule ++ t.schedule) (note_at new x)) (sym e)
        (subst (λ v. Tells root v p (a.schedule ++ t.schedule) (note_at new p)) (sym here)
        (subst (Tells root w p (a.schedule ++ t.schedule)) (sym (puts.here ∙ is)) (turned_links root s now f follows w p here old count last a t alone)))
    go q (inr away) =
        subst (Tells root (f q) q (a.schedule ++ t.schedule)) (sym (puts.others q away))
        (tells_on root s (f q) q a.schedule t.schedule (note_at old q) a.leads (sym (whole q t.schedule s) ∙ t.others q away) (a.each q))

-- a turn that is kept
pub turn_kept : (s now : Space) (w : Watched) (p : List ℕ) (old new : Notes) (before count : ℕ) (last : Option Moment) → before ≡ count_of (note_at old p) → TurnsAt 8 w p before count last s now → KeepsTurn p w count last old new → GoesOnTelling p w old new s now
turn_kept s now w p old new before count last is t keeps root f follows here a =
    turned root s now f follows w p here old new count last (links_after old w p count last) a (subst (λ n. TurnsAt 8 w p n count last s now) is t) keeps.alone refl keeps.puts

pub kept_by : (p : List ℕ) (w : Watched) (count : ℕ) (last : Option Moment) (old new : Notes) (links : List Link) → JoinsAlone p w count last → links ≡ links_after old w p count last → Puts p links old new → KeepsTurn p w count last old new
kept_by p w count last old new links alone is puts = record { alone = alone; puts = subst (λ ls. Puts p ls old new) is puts }

-- a turn without an event
none_here : (xs : List OwnEvent) → length xs ≡ 0 → xs ≡ []
none_here [] none = refl
none_here (x ∷ xs) none = absurd (omega (arith, none))

pub turn_of_none : (root s now : Space) (f : List ℕ → Watched) (w : Watched) (p : List ℕ) (ns : Notes) (before count : ℕ) (last : Option Moment) → TurnsAt 8 w p before count last s now → count ≡ 0 → TellsAll root f ns s → TellsAll root f ns now
turn_of_none root s now f w p ns before count last t none a = record {
  schedule = a.schedule ++ t.schedule;
  leads = replay_parts a.schedule t.schedule 8 root ∙ ap (replay t.schedule 8) a.leads ∙ t.leads;
  each = λ q. tells_on root s (f q) q a.schedule t.schedule (note_at ns q) a.leads (sym (whole q t.schedule s) ∙ go q (cases_path q p)) (a.each q);
}
  where
    go : (q : List ℕ) → (q ≡ p) ⊎ (q ≡ p → ⊥) → own_below 8 q t.schedule s ≡ []
    go q (inl e) = ap (λ r. own_below 8 r t.schedule s) e ∙ t.events ∙ none_here t.own (t.long ∙ none)
    go q (inr away) = t.others q away

-- a turn, which is kept where it had events
pub turn_told : (s now : Space) (w : Watched) (p : List ℕ) (old new : Notes) (before count : ℕ) (last : Option Moment) (o : Option Bool) → before ≡ count_of (note_at old p) → TurnsAt 8 w p before count last s now → IsKept p w count last old new o
    → IfSome o (λ _. GoesOnTelling p w old new s now)
turn_told s now w p old new before count last None is t kept = tt
turn_told s now w p old new before count last (Some true) is t kept = turn_kept s now w p old new before count last is t kept
turn_told s now w p old new before count last (Some false) is t kept = λ root f follows here a. subst (λ ns. TellsAll root f ns now) (sym kept.1) (turn_of_none root s now f w p old before count last t kept.0 a)

-- ---- the end

-- where all on the way to a path have stopped, its own events so far are those of each schedule that has ended
pub all_so_far : (root now : Space) (p : List ℕ) (ps : List (List ℕ)) → IsSound root → after_all ps root ≡ now → WayStopped p now → (full : List (List ℕ)) → NoneMayHappen (after_all full root) → own_events p full root ≡ own_events p ps root
all_so_far root now p ps sound leads still full none =
    let rest = ended now (still_sound root now ps sound leads) in
    let over : NoneMayHappen (after_all (ps ++ rest.0) root) = subst NoneMayHappen (sym (replay_parts ps rest.0 8 root ∙ ap (replay rest.0 8) leads)) rest.1 in
    all_alike full (ps ++ rest.0) p root none over
    ∙ own_both p ps rest.0 root now leads
    ∙ ap (λ xs. own_events p ps root ++ xs) (sym (whole p rest.0 now) ∙ none_own rest.0 p 8 now still)
    ∙ append-nil (own_events p ps root)

all_moment : (root now : Space) (w : Watched) (p : List ℕ) (ps : List (List ℕ)) (o : Option Moment) → IsSound root → after_all ps root ≡ now → WayStopped p now → length (own_events p ps root) ≤ all → HasLast w (own_events p ps root) o → TellsMoment root p all w o
all_moment root now w p ps o sound leads still few has = go o has
  where
    same : (full : List (List ℕ)) → NoneMayHappen (after_all full root) → take all (own_events p full root) ≡ own_events p ps root
    same full none = ap (take all) (all_so_far root now p ps sound leads still full none) ∙ take_all all (own_events p ps root) few

    go : (o : Option Moment) → HasLast w (own_events p ps root) o → TellsMoment root p all w o
    go None h = in_every root p all w (own_events p ps root) None same h
    go (Some m) h = in_every root p all w (own_events p ps root) (Some m) same h

-- the lineage of all own events of a path
pub links_of_all : (root now : Space) (f : List ℕ → Watched) (w : Watched) (p : List ℕ) (ns : Notes) → f p ≡ w → IsSound root → TellsAll root f ns now → WayStopped p now → count_of (note_at ns p) ≤ all → TellsLinks root w p all (note_at ns p)
links_of_all root now f w p ns here sound a still few = go (note_at ns p) (subst (λ v. Tells root v p a.schedule (note_at ns p)) here (a.each p)) few
  where
    go : (ls : List Link) → Tells root w p a.schedule ls → count_of ls ≤ all → TellsLinks root w p all ls
    go [] tells few = all_moment root now w p a.schedule None sound a.leads still (let n = ap length tells in omega (arith, n)) (subst (NoneChanges w) (sym tells) (λ k e is. cc))
    go (l ∷ ls) tells few = (
      all_moment root now w p a.schedule l.last sound a.leads still (let n = tells.count in omega (arith, n, few)) tells.last,
      (tells_links root w p a.schedule (l ∷ ls) tells).1,
    )

-- and how many there are
pub count_of_all : (root now : Space) (f : List ℕ → Watched) (p : List ℕ) (ns : Notes) → IsSound root → TellsAll root f ns now → WayStopped p now → count_of (note_at ns p) ≤ all → HasSoMany root p (count_of (note_at ns p))
count_of_all root now f p ns sound a still few full none =
    let same = ap length (all_so_far root now p a.schedule sound a.leads still full none) in
    let count = tells_count root (f p) p a.schedule (note_at ns p) (a.each p) in omega (arith, same, count, few)
