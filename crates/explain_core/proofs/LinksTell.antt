-- What links tell of a path in a schedule stays under later events of others, counts later events that change nothing, and takes a later one that does.
use Rattle.std.proofs.Common.{◌≡◌, ℕ, zero, suc, ◌+◌, ◌-◌, ◌<◌, ◌≤◌, false, List, [], ◌∷◌, ◌++◌, append_assoc, length, length-append, Option, Some, None, refl, sym, ap, ap₂, ◌∙◌, subst, arith, inl, inr, ◌⊎◌}
use Rattle.std.proofs.lemmas.List.{append-nil}
use Rattle.std.specs.List.{slice_get}
use Rattle.std.specs.Prelude.{option_map}
use Rattle.space_model.specs.Space.{Space}
use Rattle.run_model.specs.Replay.{replay}
use Rattle.det_laws.specs.Tree.{after_all}
use Rattle.event_laws.specs.OwnEvents.{OwnEvent, own_events}
use Rattle.explain_core.specs.declared.lineage.Link.{Link}
use Rattle.explain_core.specs.declared.watching.Moment.{Moment}
use Rattle.explain_core.specs.declared.watching.Watched.{Watched}
use Rattle.explain_core.specs.Lineage.{HasLast, HeldBehind, Tells, TellsLineage, TellsLinks, at_child, changed_by, child_joined, count_of, counted, events_told, joined_by, number_of, number_told, told_links}
use Rattle.explain_core.specs.Reached.{HasBefore, NeverChanges, TellsMoment}
use Rattle.explain_core.specs.Watch.{IsLastChange, NoneChanges, changes, moment_at, told}
use Rattle.explain_core.proofs.Coming.{first_own}
use Rattle.explain_core.proofs.LastChange.{in_every, last_told}
use Rattle.explain_core.proofs.LastChange.{Tells as KeptTells}
use Rattle.explain_core.proofs.Schedules.{own_parts, whole}

-- ---- a schedule that goes on

-- its own events are those so far, and then those of what comes
pub own_then : (root : Space) (p : List ℕ) (ps more : List (List ℕ)) → own_events p (ps ++ more) root ≡ own_events p ps root ++ own_events p more (after_all ps root)
own_then root p ps more = sym (whole p (ps ++ more) root) ∙ own_parts 8 p ps more root ∙ ap₂ (λ xs ys. xs ++ ys) (whole p ps root) (whole p more (replay ps 8 root))

pub own_stays : (root now : Space) (p : List ℕ) (ps more : List (List ℕ)) → after_all ps root ≡ now → own_events p more now ≡ [] → own_events p (ps ++ more) root ≡ own_events p ps root
own_stays root now p ps more leads none = own_then root p ps more ∙ ap (λ xs. own_events p ps root ++ xs) (ap (own_events p more) leads ∙ none) ∙ append-nil (own_events p ps root)

-- what holds behind an event of it holds there still
pub held_longer : (root : Space) (p : List ℕ) (ps more : List (List ℕ)) (number : ℕ) (tells : List (List ℕ) → Type 0) → HeldBehind root p ps number tells → HeldBehind root p (ps ++ more) number tells
held_longer root p ps more number tells h = record {
  earlier = h.earlier;
  later = h.later ++ more;
  parts = ap (λ x. x ++ more) h.parts ∙ append_assoc h.earlier h.later more;
  events = h.events;
  below = h.below;
}

-- ---- later events of others alone

pub tells_still : (root : Space) (w : Watched) (p : List ℕ) (ps more : List (List ℕ)) (ls : List Link) → own_events p (ps ++ more) root ≡ own_events p ps root → Tells root w p ps ls → Tells root w p (ps ++ more) ls
tells_still root w p ps more [] same tells = same ∙ tells
tells_still root w p ps more (l ∷ ls) same tells = record {
  count = ap length same ∙ tells.count;
  last = subst (λ es. HasLast w es l.last) (sym same) tells.last;
  joined = λ q is. held_longer root p ps more (number_of l.last) (λ qs. Tells root w q qs ls) (tells.joined q is);
}

pub tells_on : (root now : Space) (w : Watched) (p : List ℕ) (ps more : List (List ℕ)) (ls : List Link) → after_all ps root ≡ now → own_events p more now ≡ [] → Tells root w p ps ls → Tells root w p (ps ++ more) ls
tells_on root now w p ps more ls leads none tells = tells_still root w p ps more ls (own_stays root now p ps more leads none) tells

-- ---- events one behind the other

-- what stands in two lists, one behind the other
in_parts : (xs ys : List OwnEvent) (k : ℕ) (e : OwnEvent) → slice_get (xs ++ ys) k ≡ Some e → (slice_get xs k ≡ Some e) ⊎ ((length xs ≤ k) × (slice_get ys (k - length xs) ≡ Some e))
in_parts [] ys k e is = let same : k - 0 ≡ k = omega arith in inr (omega arith, ap (slice_get ys) same ∙ is)
in_parts (x ∷ xs) ys zero e is = inl is
in_parts (x ∷ xs) ys (suc k) e is = go (in_parts xs ys k e is)
  where
    go : (slice_get xs k ≡ Some e) ⊎ ((length xs ≤ k) × (slice_get ys (k - length xs) ≡ Some e)) → (slice_get xs k ≡ Some e) ⊎ ((suc (length xs) ≤ suc k) × (slice_get ys (suc k - suc (length xs)) ≡ Some e))
    go (inl h) = inl h
    go (inr h) = let far = h.0 in let same : suc k - suc (length xs) ≡ k - length xs = omega arith in inr (omega (arith, far), ap (slice_get ys) same ∙ h.1)

in_first : (xs ys : List OwnEvent) (k : ℕ) (e : OwnEvent) → slice_get xs k ≡ Some e → slice_get (xs ++ ys) k ≡ Some e
in_first [] ys k e is = cc
in_first (x ∷ xs) ys zero e is = is
in_first (x ∷ xs) ys (suc k) e is = in_first xs ys k e is

in_second : (xs ys : List OwnEvent) (k : ℕ) (e : OwnEvent) → slice_get ys k ≡ Some e → slice_get (xs ++ ys) (length xs + k) ≡ Some e
in_second [] ys k e is = let same : 0 + k ≡ k = omega arith in ap (slice_get ys) same ∙ is
in_second (x ∷ xs) ys k e is = let next : suc (length xs) + k ≡ suc (length xs + k) = omega arith in ap (slice_get (x ∷ (xs ++ ys))) next ∙ in_second xs ys k e is

pub none_then : (w : Watched) (xs ys : List OwnEvent) → NoneChanges w xs → NoneChanges w ys → NoneChanges w (xs ++ ys)
none_then w xs ys first second k e is = go (in_parts xs ys k e is)
  where
    go : (slice_get xs k ≡ Some e) ⊎ ((length xs ≤ k) × (slice_get ys (k - length xs) ≡ Some e)) → changes w e ≡ false
    go (inl h) = first k e h
    go (inr h) = second (k - length xs) e h.1

pub last_still : (w : Watched) (xs ys : List OwnEvent) (k : ℕ) (e : OwnEvent) → IsLastChange w xs k e → NoneChanges w ys → IsLastChange w (xs ++ ys) k e
last_still w xs ys k e h none = record { event = in_first xs ys k e h.event; changed = h.changed; last = λ j f past is. go j f past (in_parts xs ys j f is) }
  where
    go : (j : ℕ) (f : OwnEvent) → k < j → (slice_get xs j ≡ Some f) ⊎ ((length xs ≤ j) × (slice_get ys (j - length xs) ≡ Some f)) → changes w f ≡ false
    go j f past (inl is) = h.last j f past is
    go j f past (inr is) = none (j - length xs) f is.1

pub within : (xs : List OwnEvent) (k : ℕ) (e : OwnEvent) → slice_get xs k ≡ Some e → k < length xs
within [] k e is = cc
within (x ∷ xs) zero e is = omega arith
within (x ∷ xs) (suc k) e is = let h = within xs k e is in omega (arith, h)

pub last_then : (w : Watched) (xs ys : List OwnEvent) (k : ℕ) (e : OwnEvent) → IsLastChange w ys k e → IsLastChange w (xs ++ ys) (length xs + k) e
last_then w xs ys k e h = record { event = in_second xs ys k e h.event; changed = h.changed; last = λ j f past is. go j f past (in_parts xs ys j f is) }
  where
    go : (j : ℕ) (f : OwnEvent) → length xs + k < j → (slice_get xs j ≡ Some f) ⊎ ((length xs ≤ j) × (slice_get ys (j - length xs) ≡ Some f)) → changes w f ≡ false
    go j f past (inl is) = let near = within xs j f is in absurd (omega (arith, past, near))
    go j f past (inr is) = h.last (j - length xs) f (omega (arith, past)) is.1

-- ---- later events that change nothing

has_last_still : (w : Watched) (xs ys : List OwnEvent) (o : Option Moment) → HasLast w xs o → NoneChanges w ys → HasLast w (xs ++ ys) o
has_last_still w xs ys None has none = none_then w xs ys has none
has_last_still w xs ys (Some m) (k, e, last, is) none = (k, e, last_still w xs ys k e last none, is)

pub tells_counted : (root : Space) (w : Watched) (p : List ℕ) (ps more : List (List ℕ)) (xs : List OwnEvent) (ls : List Link) → own_events p (ps ++ more) root ≡ own_events p ps root ++ xs → NoneChanges w xs → Tells root w p ps ls
    → Tells root w p (ps ++ more) (counted (length xs) ls)
tells_counted root w p ps more xs [] own none tells = record {
  count = ap length (own ∙ ap (λ es. es ++ xs) tells);
  last = subst (NoneChanges w) (sym (own ∙ ap (λ es. es ++ xs) tells)) none;
  joined = λ q is. cc;
}
tells_counted root w p ps more xs (l ∷ ls) own none tells = record {
  count = ap length own ∙ length-append (own_events p ps root) xs ∙ ap (λ n. n + length xs) tells.count;
  last = subst (λ es. HasLast w es l.last) (sym own) (has_last_still w (own_events p ps root) xs l.last tells.last none);
  joined = λ q is. held_longer root p ps more (number_of l.last) (λ qs. Tells root w q qs ls) (tells.joined q is);
}

-- ---- and a later one that does

pub tells_count : (root : Space) (w : Watched) (p : List ℕ) (ps : List (List ℕ)) (ls : List Link) → Tells root w p ps ls → length (own_events p ps root) ≡ count_of ls
tells_count root w p ps [] tells = ap length tells
tells_count root w p ps (l ∷ ls) tells = tells.count

pub tells_changed : (root : Space) (w : Watched) (p : List ℕ) (ps more : List (List ℕ)) (xs : List OwnEvent) (k : ℕ) (e : OwnEvent) (m : Moment) (ls below : List Link) → own_events p (ps ++ more) root ≡ own_events p ps root ++ xs → IsLastChange w xs k e
    → m ≡ moment_at w (suc (count_of ls + k)) e → Tells root w p ps ls
    → ((q : List ℕ) → joined_by p w (Some m) ≡ Some q → HeldBehind root p (ps ++ more) m.number (λ qs. Tells root w q qs below)) → Tells root w p (ps ++ more) (changed_by (length xs) m ls below)
tells_changed root w p ps more xs k e m ls below own last is tells joins =
    let before = tells_count root w p ps ls tells in
    record {
      count = ap length own ∙ length-append (own_events p ps root) xs ∙ ap (λ n. n + length xs) before;
      last = (
        length (own_events p ps root) + k,
        e,
        subst (λ es. IsLastChange w es (length (own_events p ps root) + k) e) (sym own) (last_then w (own_events p ps root) xs k e last),
        is ∙ ap (λ n. moment_at w (suc (n + k)) e) (sym before),
      );
      joined = joins;
    }

-- the child that it joined had no event then: what was told of it is told of it just behind the join
pub joined_now : (root now : Space) (w : Watched) (p q : List ℕ) (ps more : List (List ℕ)) (number : ℕ) (below : List Link) → after_all ps root ≡ now → own_events q more now ≡ [] → length (own_events p (ps ++ more) root) ≡ number → Tells root w q ps below
    → HeldBehind root p (ps ++ more) number (λ qs. Tells root w q qs below)
joined_now root now w p q ps more number below leads none events tells = record { earlier = ps ++ more; later = []; parts = sym (append-nil (ps ++ more)); events = events; below = tells_on root now w q ps more below leads none tells }

-- ---- what is told in the end

-- of the own events of a path in a schedule, whatever comes behind it
pub tells_moment : (root : Space) (w : Watched) (p : List ℕ) (ps : List (List ℕ)) (o : Option Moment) → HasLast w (own_events p ps root) o → TellsMoment root p (length (own_events p ps root)) w o
tells_moment root w p ps o has =
    in_every root p (length (own_events p ps root)) w (own_events p ps root) o (first_own root (after_all ps root) p (own_events p ps root) (record { schedule = ps; leads = refl; events = whole p ps root })) (in_its_words o has)
  where
    in_its_words : (o : Option Moment) → HasLast w (own_events p ps root) o → KeptTells w (own_events p ps root) o
    in_its_words None h = h
    in_its_words (Some m) h = h

never_of_none : (root : Space) (w : Watched) (p : List ℕ) (ps : List (List ℕ)) → own_events p ps root ≡ [] → NeverChanges root p 0 w
never_of_none root w p ps none = subst (λ n. NeverChanges root p n w) (ap length none) (tells_moment root w p ps None (subst (NoneChanges w) (sym none) (λ k e is. cc)))

pub tells_links : (root : Space) (w : Watched) (p : List ℕ) (ps : List (List ℕ)) (ls : List Link) → Tells root w p ps ls → TellsLinks root w p (count_of ls) ls
tells_links root w p ps [] tells = never_of_none root w p ps tells
tells_links root w p ps (l ∷ ls) tells = (subst (λ n. TellsMoment root p n w l.last) tells.count (tells_moment root w p ps l.last tells.last), λ q is. joined (λ q qs. tells_links root w q qs ls) q (tells.joined q is))
  where
    joined : ((q : List ℕ) (qs : List (List ℕ)) → Tells root w q qs ls → TellsLinks root w q (count_of ls) ls) → (q : List ℕ) → HeldBehind root p ps (number_of l.last) (λ qs. Tells root w q qs ls)
        → HasBefore root p (number_of l.last) q (count_of ls) × TellsLinks root w q (count_of ls) ls
    joined each q h = (record { schedule = h.earlier; events = h.events; before = tells_count root w q h.earlier ls h.below }, each q h.earlier h.below)

-- ---- and what is told of it

joins_alike : (p : List ℕ) (w : Watched) (o : Option Moment) → child_joined p w (option_map (told p) o) ≡ joined_by p w o
joins_alike p w None = refl
joins_alike p w (Some m) = refl

number_alike : (p : List ℕ) (o : Option Moment) → number_told (option_map (told p) o) ≡ number_of o
number_alike p None = refl
number_alike p (Some m) = refl

pub count_alike : (p : List ℕ) (w : Watched) (ls : List Link) → events_told (told_links p w ls) ≡ count_of ls
count_alike p w [] = refl
count_alike p w (l ∷ ls) = refl

pub told_lineage : (root : Space) (w : Watched) (p : List ℕ) (to : ℕ) (ls : List Link) → TellsLinks root w p to ls → TellsLineage root w p to (told_links p w ls)
told_lineage root w p to [] tells = tells
told_lineage root w p to (l ∷ ls) tells = (last_told root p to w l.last (option_map (told p) l.last) tells.0 refl, λ q is. below (λ q to. told_lineage root w q to ls) q (sym (joins_alike p w l.last) ∙ is))
  where
    below : ((q : List ℕ) (to : ℕ) → TellsLinks root w q to ls → TellsLineage root w q to (told_links q w ls)) → (q : List ℕ) → joined_by p w l.last ≡ Some q
        → (let told_below = at_child (joined_by p w l.last) (λ r. told_links r w ls) in
        HasBefore root p (number_told (option_map (told p) l.last)) q (events_told told_below) × TellsLineage root w q (events_told told_below) told_below)
    below each q is =
        let h = tells.1 q is in
        subst (λ o. HasBefore root p (number_told (option_map (told p) l.last)) q (events_told (at_child o (λ r. told_links r w ls))) × TellsLineage root w q (events_told (at_child o (λ r. told_links r w ls))) (at_child o (λ r. told_links r w ls))) (sym is)
        (subst (λ n. HasBefore root p n q (events_told (told_links q w ls)) × TellsLineage root w q (events_told (told_links q w ls)) (told_links q w ls)) (sym (number_alike p l.last))
        (subst (λ n. HasBefore root p (number_of l.last) q n × TellsLineage root w q n (told_links q w ls)) (sym (count_alike q w ls)) (h.0, each q (count_of ls) h.1)))
