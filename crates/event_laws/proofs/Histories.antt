-- The own events at a path in two schedules: whichever event one of them begins with can be brought to the front of the other, or may still happen at its
-- end, and neither changes the own events at any path.
use Rattle.std.proofs.Common.{◌≡◌, ℕ, zero, suc, pred, ◌≢◌, ◌+◌, Bool, true, false, List, [], ◌∷◌, ◌++◌, length, Option, Some, None, refl, sym, ◌∙◌, ap, ap₂, arith, inl, inr, ◌⊎◌, subst, true≢false}
use Rattle.std.proofs.lemmas.Bool.Decides.{nat_tests}
use Rattle.std.proofs.lemmas.Bool.{cases_eq}
use Rattle.std.specs.Prelude.{option_map, option_and_then, if◌then◌else◌}
use Rattle.std.specs.List.{slice_get}
use Rattle.space_model.specs.Space.{Space, space, top_of, children_of, find, over}
use Rattle.space_model.specs.Path.{at}
use Rattle.space_model.specs.Event.{next}
use Rattle.space_model.proofs.Children.{find-over_same, find-over_other}
use Rattle.run_model.specs.Schedule.{may_happen, event, on_child, is_enabled, step, try_step}
use Rattle.det_laws.specs.Near.{IsOnWay}
use Rattle.det_laws.specs.Tops.{top_at}
use Rattle.det_laws.specs.Tree.{NoneMayHappen, after_all}
use Rattle.det_laws.proofs.Commutes.{child_there, pass_one_another}
use Rattle.event_laws.specs.OwnEvents.{OwnEvent, seen_by, own_event_at, is_same_path, and_others, own_events, IsEntry}
use Rattle.event_laws.proofs.Alike.{same_behind}

same_itself : (p : List ℕ) → is_same_path p p ≡ true
same_itself [] = refl
same_itself (n ∷ p) = grind (arith, nat_tests, same_itself p)

same_path : (p q : List ℕ) → is_same_path p q ≡ true → p ≡ q
same_path [] [] h = refl
same_path [] (m ∷ q) h = cc
same_path (n ∷ p) [] h = cc
same_path (n ∷ p) (m ∷ q) h = ap₂ (λ i is. i ∷ is) (grind (arith, nat_tests)) (same_path p q (grind (arith, nat_tests)))

other_path : (p q : List ℕ) → p ≢ q → is_same_path p q ≡ false
other_path p q ne = go (is_same_path p q) refl
  where
    go : (b : Bool) → is_same_path p q ≡ b → b ≡ false
    go false is = refl
    go true is = absurd (ne (same_path p q is))

-- two paths are one or differ
cases_path : (p q : List ℕ) → (p ≡ q) ⊎ (p ≡ q → ⊥)
cases_path p q = go (is_same_path p q) refl
  where
    go : (b : Bool) → is_same_path p q ≡ b → (p ≡ q) ⊎ (p ≡ q → ⊥)
    go true is = inl (same_path p q is)
    go false is = inr (λ e. true≢false (sym (same_itself p) ∙ ap (is_same_path p) e ∙ is))

-- where no event may happen there is no own event
pub no_event : (p : List ℕ) (levels : ℕ) (s : Space) → is_enabled p levels s ≡ false → own_event_at p levels s ≡ None
no_event [] levels s un = rw un refl
no_event (n ∷ p) levels s un = go (find n (children_of s)) un (λ c. no_event p (pred levels) c)
  where
    go : (o : Option Space) → on_child (is_enabled p (pred levels)) o ≡ false → ((c : Space) → is_enabled p (pred levels) c ≡ false → own_event_at p (pred levels) c ≡ None)
        → option_and_then (own_event_at p (pred levels)) o ≡ None
    go None un below = refl
    go (Some c) un below = below c un

idle : (p r : List ℕ) (rs : List (List ℕ)) (s : Space) → is_enabled r 8 s ≡ false → own_events p (r ∷ rs) s ≡ own_events p rs s
idle p r rs s un = go (is_same_path p r) refl
  where
    go : (b : Bool) → is_same_path p r ≡ b → own_events p (r ∷ rs) s ≡ own_events p rs s
    go false is = rw (is, un) refl
    go true is =
        let none : own_event_at p 8 s ≡ None = ap (λ q. own_event_at q 8 s) (same_path p r is) ∙ no_event r 8 s un in
        rw (is, none, un) refl

elsewhere : (p r : List ℕ) (rs : List (List ℕ)) (s : Space) → p ≢ r → is_enabled r 8 s ≡ true → own_events p (r ∷ rs) s ≡ own_events p rs (step r 8 s)
elsewhere p r rs s ne may = rw (other_path p r ne, may) refl

here : (p : List ℕ) (rs : List (List ℕ)) (s : Space) → is_enabled p 8 s ≡ true → own_events p (p ∷ rs) s ≡ and_others (own_event_at p 8 s) (own_events p rs (step p 8 s))
here p rs s may = rw (same_itself p, may) refl

after_one : (r : List ℕ) (rs : List (List ℕ)) (s : Space) → is_enabled r 8 s ≡ true → after_all (r ∷ rs) s ≡ after_all rs (step r 8 s)
after_one r rs s may = rw may refl

after_none : (r : List ℕ) (rs : List (List ℕ)) (s : Space) → is_enabled r 8 s ≡ false → after_all (r ∷ rs) s ≡ after_all rs s
after_none r rs s un = rw un refl

-- the event at q happens in ps, and ps without it leads from behind it to the same end
abbrev Happens : List ℕ → List (List ℕ) → List (List ℕ) → Space → Type 0
Happens q ps rest s = (own_events q ps s ≡ and_others (own_event_at q 8 s) (own_events q rest (step q 8 s))) × (after_all rest (step q 8 s) ≡ after_all ps s)

-- no event at q happens in ps, and one may happen behind it
abbrev StillMay : List ℕ → List (List ℕ) → Space → Type 0
StillMay q ps s = (own_events q ps s ≡ []) × (is_enabled q 8 (after_all ps s) ≡ true)

-- the own events at other paths are the same with the event at q at the front
abbrev OthersStay : List ℕ → List (List ℕ) → List (List ℕ) → Space → Type 0
OthersStay q ps rest s = (p : List ℕ) → p ≢ q → own_events p ps s ≡ own_events p rest (step q 8 s)

abbrev Brought : List ℕ → List (List ℕ) → Space → Type 0
Brought q ps s = (rest : List (List ℕ)) × OthersStay q ps rest s × (Happens q ps rest s ⊎ StillMay q ps s)

bring : (q : List ℕ) (ps : List (List ℕ)) (s : Space) → is_enabled q 8 s ≡ true → Brought q ps s
bring q [] s may = ([], (λ p ne. refl), inr (refl, may))
bring q (r ∷ rs) s may = go (is_enabled r 8 s) refl (cases_path q r) (bring q rs s may) (bring q rs (step r 8 s))
  where
    skip : is_enabled r 8 s ≡ false → Brought q rs s → Brought q (r ∷ rs) s
    skip un b = (b.0, (λ p ne. idle p r rs s un ∙ b.1 p ne), ends b.2)
      where
        ends : Happens q rs b.0 s ⊎ StillMay q rs s → Happens q (r ∷ rs) b.0 s ⊎ StillMay q (r ∷ rs) s
        ends (inl h) = inl (idle q r rs s un ∙ h.0, h.1 ∙ sym (after_none r rs s un))
        ends (inr h) = inr (idle q r rs s un ∙ h.0, ap (is_enabled q 8) (after_none r rs s un) ∙ h.1)

    first : is_enabled r 8 s ≡ true → q ≡ r → Brought q (r ∷ rs) s
    first may' e = subst (λ x. Brought q (x ∷ rs) s) e (rs, (λ p ne. elsewhere p q rs s ne may), inl (here q rs s may, sym (after_one q rs s may)))

    later : is_enabled r 8 s ≡ true → q ≢ r → (is_enabled q 8 (step r 8 s) ≡ true → Brought q rs (step r 8 s)) → Brought q (r ∷ rs) s
    later may' ne rec =
        let d = pass_one_another q r 8 s ne may may' in
        let b = rec d.0 in
        let ne' : r ≢ q = λ e. ne (sym e) in
        (r ∷ b.0, others d.1 d.2 ne' b.0 b.1, ends d.0 d.1 d.2 b.0 b.2)
      where
        others : is_enabled r 8 (step q 8 s) ≡ true → step q 8 (step r 8 s) ≡ step r 8 (step q 8 s) → r ≢ q → (rest : List (List ℕ)) → OthersStay q rs rest (step r 8 s)
            → OthersStay q (r ∷ rs) (r ∷ rest) s
        others still one ne' rest stay p apart = by_path (cases_path p r)
          where
            by_path : (p ≡ r) ⊎ (p ≡ r → ⊥) → own_events p (r ∷ rs) s ≡ own_events p (r ∷ rest) (step q 8 s)
            by_path (inl e) = subst (λ x. own_events x (r ∷ rs) s ≡ own_events x (r ∷ rest) (step q 8 s)) (sym e) (
                here r rs s may'
                ∙ ap₂ and_others (sym (same_behind r q 8 s ne' may' may)) (stay r ne' ∙ ap (own_events r rest) one)
                ∙ sym (here r rest (step q 8 s) still))
            by_path (inr away) = elsewhere p r rs s away may' ∙ stay p apart ∙ ap (own_events p rest) one ∙ sym (elsewhere p r rest (step q 8 s) away still)

        ends : is_enabled q 8 (step r 8 s) ≡ true → is_enabled r 8 (step q 8 s) ≡ true → step q 8 (step r 8 s) ≡ step r 8 (step q 8 s) → (rest : List (List ℕ))
            → Happens q rs rest (step r 8 s) ⊎ StillMay q rs (step r 8 s) → Happens q (r ∷ rs) (r ∷ rest) s ⊎ StillMay q (r ∷ rs) s
        ends goes still one rest (inl h) = inl (
          elsewhere q r rs s ne may'
              ∙ h.0
              ∙ ap₂ and_others (same_behind q r 8 s ne may may') (ap (own_events q rest) one ∙ sym (elsewhere q r rest (step q 8 s) ne still)),
          after_one r rest (step q 8 s) still ∙ ap (after_all rest) (sym one) ∙ h.1 ∙ sym (after_one r rs s may'),
        )
        ends goes still one rest (inr h) = inr (elsewhere q r rs s ne may' ∙ h.0, ap (is_enabled q 8) (after_one r rs s may') ∙ h.1)

    go : (b : Bool) → is_enabled r 8 s ≡ b → (q ≡ r) ⊎ (q ≡ r → ⊥) → Brought q rs s → (is_enabled q 8 (step r 8 s) ≡ true → Brought q rs (step r 8 s)) → Brought q (r ∷ rs) s
    go false un eq same rec = skip un same
    go true may' (inl e) same rec = first may' e
    go true may' (inr ne) same rec = later may' ne rec

-- where two lists have an item of one number, it is the same
abbrev Agree : List OwnEvent → List OwnEvent → Type 0
Agree xs ys = (k : ℕ) (a b : OwnEvent) → slice_get xs k ≡ Some a → slice_get ys k ≡ Some b → a ≡ b

agree_later : (o : Option OwnEvent) (xs ys : List OwnEvent) → Agree xs ys → Agree (and_others o xs) (and_others o ys)
agree_later None xs ys same k a b is also = same k a b is also
agree_later (Some e) xs ys same zero a b is also = cc
agree_later (Some e) xs ys same (suc k) a b is also = same k a b is also

none_agrees : (ys : List OwnEvent) → Agree [] ys
none_agrees ys k a b is also = cc

agrees_none : (xs : List OwnEvent) → Agree xs []
agrees_none xs k a b is also = cc

pub one_meaning : (qs ps : List (List ℕ)) (p : List ℕ) (s : Space) → Agree (own_events p ps s) (own_events p qs s)
one_meaning [] ps p s = agrees_none (own_events p ps s)
one_meaning (q ∷ qs) ps p s = go (is_enabled q 8 s) refl (one_meaning qs ps p s) (λ rest. one_meaning qs rest p (step q 8 s))
  where
    ends : (rest : List (List ℕ)) → p ≡ q → is_enabled q 8 s ≡ true → Agree (own_events q rest (step q 8 s)) (own_events q qs (step q 8 s)) → Happens q ps rest s ⊎ StillMay q ps s
        → Agree (own_events q ps s) (own_events q (q ∷ qs) s)
    ends rest e may later (inl h) =
        subst (λ xs. Agree xs (own_events q (q ∷ qs) s)) (sym h.0)
        (subst (Agree (and_others (own_event_at q 8 s) (own_events q rest (step q 8 s)))) (sym (here q qs s may))
        (agree_later (own_event_at q 8 s) (own_events q rest (step q 8 s)) (own_events q qs (step q 8 s)) later))
    ends rest e may later (inr h) = subst (λ xs. Agree xs (own_events q (q ∷ qs) s)) (sym h.0) (none_agrees (own_events q (q ∷ qs) s))

    by_path : is_enabled q 8 s ≡ true → (rest : List (List ℕ)) → OthersStay q ps rest s → Happens q ps rest s ⊎ StillMay q ps s → Agree (own_events p rest (step q 8 s)) (own_events p qs (step q 8 s))
        → (p ≡ q) ⊎ (p ≡ q → ⊥) → Agree (own_events p ps s) (own_events p (q ∷ qs) s)
    by_path may rest others end later (inl e) =
        let later' = subst (λ x. Agree (own_events x rest (step q 8 s)) (own_events x qs (step q 8 s))) e later in
        subst (λ x. Agree (own_events x ps s) (own_events x (q ∷ qs) s)) (sym e) (ends rest e may later' end)
    by_path may rest others end later (inr ne) =
        subst (λ xs. Agree xs (own_events p (q ∷ qs) s)) (sym (others p ne)) (subst (Agree (own_events p rest (step q 8 s))) (sym (elsewhere p q qs s ne may)) later)

    go : (b : Bool) → is_enabled q 8 s ≡ b → Agree (own_events p ps s) (own_events p qs s) → ((rest : List (List ℕ)) → Agree (own_events p rest (step q 8 s)) (own_events p qs (step q 8 s)))
        → Agree (own_events p ps s) (own_events p (q ∷ qs) s)
    go false un same rec = subst (Agree (own_events p ps s)) (sym (idle p q qs s un)) same
    go true may same rec = let b = bring q ps s may in by_path may b.0 b.1 b.2 (rec b.0) (cases_path p q)

-- what the second list has at a number, the first has there as well
abbrev HasAll : List OwnEvent → List OwnEvent → Type 0
HasAll xs ys = (k : ℕ) (e : OwnEvent) → slice_get ys k ≡ Some e → slice_get xs k ≡ Some e

all_later : (o : Option OwnEvent) (xs ys : List OwnEvent) → HasAll xs ys → HasAll (and_others o xs) (and_others o ys)
all_later None xs ys all k e is = all k e is
all_later (Some a) xs ys all zero e is = is
all_later (Some a) xs ys all (suc k) e is = all k e is

all_of_none : (xs : List OwnEvent) → HasAll xs []
all_of_none xs k e is = cc

-- a schedule that has ended has all own events of each other one
pub has_all : (qs ps : List (List ℕ)) (p : List ℕ) (s : Space) → NoneMayHappen (after_all ps s) → HasAll (own_events p ps s) (own_events p qs s)
has_all [] ps p s ended = all_of_none (own_events p ps s)
has_all (q ∷ qs) ps p s ended = go (is_enabled q 8 s) refl (has_all qs ps p s ended) (λ rest. has_all qs rest p (step q 8 s))
  where
    happened : (rest : List (List ℕ)) → Happens q ps rest s ⊎ StillMay q ps s → Happens q ps rest s
    happened rest (inl h) = h
    happened rest (inr h) = absurd (ended q h.1)

    by_path : is_enabled q 8 s ≡ true → (rest : List (List ℕ)) → OthersStay q ps rest s → Happens q ps rest s → HasAll (own_events p rest (step q 8 s)) (own_events p qs (step q 8 s))
        → (p ≡ q) ⊎ (p ≡ q → ⊥) → HasAll (own_events p ps s) (own_events p (q ∷ qs) s)
    by_path may rest others h later (inl e) =
        let later' = subst (λ x. HasAll (own_events x rest (step q 8 s)) (own_events x qs (step q 8 s))) e later in
        subst (λ x. HasAll (own_events x ps s) (own_events x (q ∷ qs) s)) (sym e)
        (subst (λ xs. HasAll xs (own_events q (q ∷ qs) s)) (sym h.0)
        (subst (HasAll (and_others (own_event_at q 8 s) (own_events q rest (step q 8 s)))) (sym (here q qs s may))
        (all_later (own_event_at q 8 s) (own_events q rest (step q 8 s)) (own_events q qs (step q 8 s)) later')))
    by_path may rest others h later (inr ne) =
        subst (λ xs. HasAll xs (own_events p (q ∷ qs) s)) (sym (others p ne)) (subst (HasAll (own_events p rest (step q 8 s))) (sym (elsewhere p q qs s ne may)) later)

    go : (b : Bool) → is_enabled q 8 s ≡ b → HasAll (own_events p ps s) (own_events p qs s)
        → ((rest : List (List ℕ)) → NoneMayHappen (after_all rest (step q 8 s)) → HasAll (own_events p rest (step q 8 s)) (own_events p qs (step q 8 s)))
        → HasAll (own_events p ps s) (own_events p (q ∷ qs) s)
    go false un same rec = subst (HasAll (own_events p ps s)) (sym (idle p q qs s un)) same
    go true may same rec =
        let b = bring q ps s may in
        let h = happened b.0 b.2 in
        by_path may b.0 b.1 h (rec b.0 (subst NoneMayHappen (sym h.1) ended)) (cases_path p q)

one_list : (xs ys : List OwnEvent) → HasAll xs ys → HasAll ys xs → xs ≡ ys
one_list [] [] a b = refl
one_list [] (y ∷ ys) a b = let e = a 0 y refl in cc
one_list (x ∷ xs) [] a b = let e = b 0 x refl in cc
one_list (x ∷ xs) (y ∷ ys) a b =
    let e : Some x ≡ Some y = a 0 y refl in
    let e' : x ≡ y = cc in
    ap₂ (λ z zs. z ∷ zs) e' (one_list xs ys (λ k. a (suc k)) (λ k. b (suc k)))

pub all_alike : (ps qs : List (List ℕ)) (p : List ℕ) (s : Space) → NoneMayHappen (after_all ps s) → NoneMayHappen (after_all qs s) → own_events p ps s ≡ own_events p qs s
all_alike ps qs p s ended also = one_list (own_events p ps s) (own_events p qs s) (has_all qs ps p s ended) (has_all ps qs p s also)

-- where there is an own event it may happen, and its tops are those before and after it
abbrev pub IsThere : List ℕ → ℕ → Space → OwnEvent → Type 0
IsThere p levels s e = (is_enabled p levels s ≡ true) × (top_at p s ≡ Some e.before) × (top_at p (step p levels s) ≡ Some e.after)

pub event_there : (p : List ℕ) (levels : ℕ) (s : Space) (e : OwnEvent) → own_event_at p levels s ≡ Some e → IsThere p levels s e
event_there [] levels s e is = go (may_happen (next levels (top_of s)) (children_of s)) refl is
  where
    go : (b : Bool) → may_happen (next levels (top_of s)) (children_of s) ≡ b
        → (if b then Some (record { before = top_of s; sees = seen_by (next levels (top_of s)) (children_of s); after = top_of (event levels (next levels (top_of s)) s) }) else None) ≡ Some e
        → IsThere [] levels s e
    go true may is = (may, (let first : top_of s ≡ e.before = cc in ap Some first), (let last : top_of (event levels (next levels (top_of s)) s) ≡ e.after = cc in ap Some last))
    go false may is = cc
event_there (n ∷ p) levels (space t cs) e is = go (find n cs) refl is (λ c. event_there p (pred levels) c e)
  where
    go : (o : Option Space) → find n cs ≡ o → option_and_then (own_event_at p (pred levels)) o ≡ Some e → ((c : Space) → own_event_at p (pred levels) c ≡ Some e → IsThere p (pred levels) c e)
        → IsThere (n ∷ p) levels (space t cs) e
    go None found is below = cc
    go (Some c) found is below =
        let h = below c is in
        let stepped : find n (over n (step p (pred levels)) cs) ≡ Some (step p (pred levels) c) = find-over_same n (step p (pred levels)) cs ∙ ap (option_map (step p (pred levels))) found in (
          ap (on_child (is_enabled p (pred levels))) found ∙ h.0,
          ap (λ o. option_map top_of (option_and_then (at p) o)) found ∙ h.1,
          ap (λ o. option_map top_of (option_and_then (at p) o)) stepped ∙ h.2,
        )

-- an entry behind others
put_before : (q : List ℕ) (ps : List (List ℕ)) (s : Space) (p : List ℕ) (k n : ℕ) (e : OwnEvent) (i : IsEntry ps (try_step q 8 s) p k e)
    → length (own_events p (q ∷ i.earlier) s) ≡ n → IsEntry (q ∷ ps) s p n e
put_before q ps s p k n e i count = record { earlier = q ∷ i.earlier; later = i.later; entry = ap (λ l. q ∷ l) i.entry; number = count; may = i.may; before = i.before; after = i.after }

pub entry_of : (ps : List (List ℕ)) (s : Space) (p : List ℕ) (k : ℕ) (e : OwnEvent) → slice_get (own_events p ps s) k ≡ Some e → IsEntry ps s p k e
entry_of [] s p k e is = cc
entry_of (q ∷ qs) s p k e is = by_path (is_same_path p q) refl is (λ j. entry_of qs (try_step q 8 s) p j e)
  where
    behind : (o : Option OwnEvent) → (if is_same_path p q then own_event_at p 8 s else None) ≡ o → (j : ℕ) → k ≡ length (and_others o []) + j
        → IsEntry qs (try_step q 8 s) p j e → IsEntry (q ∷ qs) s p k e
    behind o first j count i = put_before q qs s p j k e i (ap (λ r. length (and_others r (own_events p i.earlier (try_step q 8 s)))) first ∙ counted o ∙ ap (λ x. length (and_others o []) + x) i.number ∙ sym count)
      where
        counted : (r : Option OwnEvent) → length (and_others r (own_events p i.earlier (try_step q 8 s))) ≡ length (and_others r []) + length (own_events p i.earlier (try_step q 8 s))
        counted None = omega arith
        counted (Some x) = omega arith

    this : is_same_path p q ≡ true → own_event_at p 8 s ≡ Some e → k ≡ 0 → IsEntry (q ∷ qs) s p k e
    this same found zeroth =
        let h = event_there p 8 s e found in
        record { earlier = []; later = qs; entry = ap (λ x. x ∷ qs) (sym (same_path p q same)); number = sym zeroth; may = h.0; before = h.1; after = h.2 }

    by_number : is_same_path p q ≡ true → (o : Option OwnEvent) → own_event_at p 8 s ≡ o → (j : ℕ) → k ≡ j → slice_get (and_others o (own_events p qs (try_step q 8 s))) j ≡ Some e
        → ((i : ℕ) → slice_get (own_events p qs (try_step q 8 s)) i ≡ Some e → IsEntry qs (try_step q 8 s) p i e) → IsEntry (q ∷ qs) s p k e
    by_number same None found j count is rest = behind None (rw same found) j (omega (arith, count)) (rest j is)
    by_number same (Some x) found zero count is rest = let one : Some x ≡ Some e = is in this same (found ∙ one) count
    by_number same (Some x) found (suc j) count is rest = behind (Some x) (rw same found) j (omega (arith, count)) (rest j is)

    by_path : (b : Bool) → is_same_path p q ≡ b → slice_get (and_others (if b then own_event_at p 8 s else None) (own_events p qs (try_step q 8 s))) k ≡ Some e
        → ((j : ℕ) → slice_get (own_events p qs (try_step q 8 s)) j ≡ Some e → IsEntry qs (try_step q 8 s) p j e) → IsEntry (q ∷ qs) s p k e
    by_path true same is rest = by_number same (own_event_at p 8 s) refl k refl is rest
    by_path false away is rest = behind None (rw away refl) k (omega arith) (rest k is)

-- where an event may happen there is an own event
event_here : (p : List ℕ) (levels : ℕ) (s : Space) → is_enabled p levels s ≡ true → (e : OwnEvent) × (own_event_at p levels s ≡ Some e)
event_here [] levels s may = (record { before = top_of s; sees = seen_by (next levels (top_of s)) (children_of s); after = top_of (event levels (next levels (top_of s)) s) }, rw may refl)
event_here (n ∷ p) levels s may =
    let c = child_there (is_enabled p (pred levels)) (find n (children_of s)) may in
    let e = event_here p (pred levels) c.0 c.2 in
    (e.0, ap (option_and_then (own_event_at p (pred levels))) c.1 ∙ e.1)

at_front : (o : Option OwnEvent) (e : OwnEvent) (later : List OwnEvent) → o ≡ Some e → slice_get (and_others o later) 0 ≡ Some e
at_front None e later is = cc
at_front (Some x) e later is = is

one_later : (o : Option OwnEvent) (xs ys : List OwnEvent) (e : OwnEvent) → slice_get ys (length xs) ≡ Some e → slice_get (and_others o ys) (length (and_others o xs)) ≡ Some e
one_later None xs ys e is = is
one_later (Some x) xs ys e is = is

pub is_own : (earlier later : List (List ℕ)) (p : List ℕ) (s : Space) → is_enabled p 8 (after_all earlier s) ≡ true
    → (e : OwnEvent) × (slice_get (own_events p (earlier ++ p ∷ later) s) (length (own_events p earlier s)) ≡ Some e)
is_own [] later p s may =
    let e = event_here p 8 s may in
    let first : own_events p (p ∷ later) s ≡ and_others (own_event_at p 8 s) (own_events p later (step p 8 s)) = here p later s may in
    (e.0, ap (λ xs. slice_get xs 0) first ∙ at_front (own_event_at p 8 s) e.0 (own_events p later (step p 8 s)) e.1)
is_own (q ∷ qs) later p s may =
    let e = is_own qs later p (try_step q 8 s) may in
    (e.0, one_later (if is_same_path p q then own_event_at p 8 s else None) (own_events p qs (try_step q 8 s)) (own_events p (qs ++ p ∷ later) (try_step q 8 s)) e.0 e.1)

-- an event leaves the tops of all spaces that do not stand at its path or below it
pub others_stay : (p q : List ℕ) (levels : ℕ) (s : Space) → (IsOnWay q p → ⊥) → top_at p (step q levels s) ≡ top_at p s
others_stay p [] levels s away = absurd (away tt)
others_stay [] (m ∷ q) levels (space t cs) away = refl
others_stay (n ∷ p) (m ∷ q) levels (space t cs) away = go (cases_eq n m) (λ c apart. others_stay p q (pred levels) c apart)
  where
    f : Space → Space
    f = step q (pred levels)

    below : ((c : Space) → top_at p (f c) ≡ top_at p c) → (o : Option Space) → option_map top_of (option_and_then (at p) (option_map f o)) ≡ option_map top_of (option_and_then (at p) o)
    below each None = refl
    below each (Some c) = each c

    go : (n ≡ m) ⊎ (n ≡ m → ⊥) → ((c : Space) → (IsOnWay q p → ⊥) → top_at p (f c) ≡ top_at p c) → top_at (n ∷ p) (space t (over m f cs)) ≡ top_at (n ∷ p) (space t cs)
    go (inl e) each =
        let found : find n (over m f cs) ≡ option_map f (find n cs) = ap (λ i. find i (over m f cs)) e ∙ find-over_same m f cs ∙ ap (λ i. option_map f (find i cs)) (sym e) in
        ap (λ o. option_map top_of (option_and_then (at p) o)) found ∙ below (λ c. each c (λ w. away (sym e, w))) (find n cs)
    go (inr apart) each = ap (λ o. option_map top_of (option_and_then (at p) o)) (find-over_other n m f cs apart)
