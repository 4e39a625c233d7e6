-- The paths of a sound tree, in the order in which the report goes through it: they rise, a space stands at each and at no other, and
-- the report has the line of each.
use Rattle.std.proofs.Common.{◌≡◌, ℕ, zero, suc, ◌≤◌, inl, inr, Bool, true, false, cond, List, [], ◌∷◌, ◌++◌, map, Some, refl, sym, ap, ap₂, ◌∙◌, subst, append_assoc, arith}
use Rattle.std.proofs.lemmas.Bool.Decides.{nat_tests}
use Rattle.std.proofs.lemmas.Grind.{flat_map-append}
use Rattle.std.proofs.lemmas.List.{append-nil, length-map, get_or-map}
use Rattle.std.proofs.lemmas.List.Folds.{flat_map-map}
use Rattle.std.proofs.lemmas.List.Elements.{All-nil, All-cons, All-head, All-tail, All-append, All-map, All-weaker, All-contains, All-contains_itself, Contains-append_left, Contains-append_right}
use Rattle.std.specs.Prelude.{option_and_then, ◌==◌}
use Rattle.std.specs.List.{All, Contains, flat_map}
use Rattle.space_model.specs.Space.{Top, Space, space, Children, none, child, find}
use Rattle.space_model.specs.Path.{at}
use Rattle.space_model.specs.PathOrder.{IsBefore, IsRising, StandsAt, ArePaths}
use Rattle.space_model.specs.Sound.{IsSoundAt, AreSound}
use Rattle.report_model.specs.Report.{line, report_of, reports_of, report}
use Rattle.det_laws.specs.Tree.{line_of, line_at}

abbrev mutual
  pub paths_of : Space → List (List ℕ)
  paths_of (space t cs) = [] ∷ paths_below cs

  pub paths_below : Children → List (List ℕ)
  paths_below none = []
  paths_below (child n s rest) = map (λ p. n ∷ p) (paths_of s) ++ paths_below rest

-- a path that leads to a child whose number is at least this
abbrev LeadsFrom : ℕ → List ℕ → Type 0
LeadsFrom least [] = ⊥
LeadsFrom least (n ∷ p) = least ≤ n

all_of : {X : Type 0} (P : X → Type 0) → ((x : X) → P x) → (xs : List X) → All P xs
all_of P f [] = All-nil P
all_of P f (x ∷ xs) = All-cons P x xs (f x) (all_of P f xs)

leads_weaker : (least n : ℕ) (p : List ℕ) → least ≤ n → LeadsFrom n p → LeadsFrom least p
leads_weaker least n [] h l = l
leads_weaker least n (m ∷ p) h l = omega arith

-- every path below leads to a child
lead_from : (levels fuel least : ℕ) (cs : Children) → AreSound levels fuel least cs → All (LeadsFrom least) (paths_below cs)
lead_from levels fuel least none ok = All-nil (LeadsFrom least)
lead_from zero fuel least (child n s rest) ok = absurd ok
lead_from (suc levels) fuel least (child n s rest) ok =
    All-append (LeadsFrom least) (map (λ p. n ∷ p) (paths_of s)) (paths_below rest)
    (All-map (LeadsFrom least) (λ p. n ∷ p) (paths_of s) (all_of (λ p. LeadsFrom least (n ∷ p)) (λ p. ok.0) (paths_of s)))
    (All-weaker (LeadsFrom (suc n)) (LeadsFrom least) (λ p. leads_weaker least (suc n) p (let h = ok.0 in omega (arith, h))) (paths_below rest)
    (lead_from (suc levels) fuel (suc n) rest ok.3))

-- the paths of a child rise as its own do
rising-map : (n : ℕ) (ps : List (List ℕ)) → IsRising ps → IsRising (map (λ p. n ∷ p) ps)
rising-map n [] r = tt
rising-map n (p ∷ ps) r = (
  All-map (IsBefore (n ∷ p)) (λ q. n ∷ q) ps (All-weaker (IsBefore p) (λ q. IsBefore (n ∷ p) (n ∷ q)) (λ q b. inr (refl, b)) ps r.0),
  rising-map n ps r.1,
)

rising-append : (ps qs : List (List ℕ)) → IsRising ps → IsRising qs → All (λ p. All (IsBefore p) qs) ps → IsRising (ps ++ qs)
rising-append [] qs a b each = b
rising-append (p ∷ ps) qs a b each =
    let P : List ℕ → Type 0 = λ x. All (IsBefore x) qs in
    (All-append (IsBefore p) ps qs a.0 (All-head P p ps each), rising-append ps qs a.1 b (All-tail P p ps each))

before_lead : (n : ℕ) (p q : List ℕ) → LeadsFrom (suc n) q → IsBefore (n ∷ p) q
before_lead n p [] h = h
before_lead n p (m ∷ q) h = inl (omega arith)

before_below : (n : ℕ) (q : List ℕ) → LeadsFrom n q → IsBefore [] q
before_below n [] h = h
before_below n (m ∷ q) h = tt

mutual
  rise : (levels : ℕ) (root : Bool) (fuel : ℕ) (s : Space) → IsSoundAt levels root fuel s → IsRising (paths_of s)
  rise levels root fuel (space t cs) ok = (
    All-weaker (LeadsFrom 0) (IsBefore []) (before_below 0) (paths_below cs) (lead_from levels fuel 0 cs ok.1),
    rise_below levels fuel 0 cs ok.1,
  )

  rise_below : (levels fuel least : ℕ) (cs : Children) → AreSound levels fuel least cs → IsRising (paths_below cs)
  rise_below levels fuel least none ok = tt
  rise_below zero fuel least (child n s rest) ok = absurd ok
  rise_below (suc levels) fuel least (child n s rest) ok =
      let P : List ℕ → Type 0 = λ p. All (IsBefore p) (paths_below rest) in
      rising-append (map (λ p. n ∷ p) (paths_of s)) (paths_below rest)
      (rising-map n (paths_of s) (rise levels false fuel s ok.2))
      (rise_below (suc levels) fuel (suc n) rest ok.3)
      (All-map P (λ p. n ∷ p) (paths_of s) (all_of (λ p. P (n ∷ p))
      (λ p. All-weaker (LeadsFrom (suc n)) (IsBefore (n ∷ p)) (before_lead n p) (paths_below rest) (lead_from (suc levels) fuel (suc n) rest ok.3))
      (paths_of s)))

-- what stands at a path below the first child, and at one below the others
at_first : (n : ℕ) (p : List ℕ) (t : Top) (s : Space) (rest : Children) → at (n ∷ p) (space t (child n s rest)) ≡ at p s
at_first n p t s rest = let e : (n == n) ≡ true = grind (arith, nat_tests) in rw e refl

at_later : (n : ℕ) (q : List ℕ) (t : Top) (s : Space) (rest : Children) → LeadsFrom (suc n) q → at q (space t (child n s rest)) ≡ at q (space t rest)
at_later n [] t s rest h = absurd h
at_later n (m ∷ q) t s rest h = let e : (m == n) ≡ false = grind (arith, nat_tests) in rw e refl

mutual
  stand : (levels : ℕ) (root : Bool) (fuel : ℕ) (s : Space) → IsSoundAt levels root fuel s → All (λ p. StandsAt p s) (paths_of s)
  stand levels root fuel (space t cs) ok =
      All-cons (λ p. StandsAt p (space t cs)) [] (paths_below cs) (space t cs, refl) (stand_below levels fuel 0 t cs ok.1)

  stand_below : (levels fuel least : ℕ) (t : Top) (cs : Children) → AreSound levels fuel least cs → All (λ p. StandsAt p (space t cs)) (paths_below cs)
  stand_below levels fuel least t none ok = All-nil (λ p. StandsAt p (space t none))
  stand_below zero fuel least t (child n s rest) ok = absurd ok
  stand_below (suc levels) fuel least t (child n s rest) ok =
      let P : List ℕ → Type 0 = λ p. StandsAt p (space t (child n s rest)) in
      let lead = lead_from (suc levels) fuel (suc n) rest ok.3 in
      let later = stand_below (suc levels) fuel (suc n) t rest ok.3 in
      All-append P (map (λ p. n ∷ p) (paths_of s)) (paths_below rest)
      (All-map P (λ p. n ∷ p) (paths_of s) (All-weaker (λ p. StandsAt p s) (λ p. P (n ∷ p)) (λ p h. (h.0, at_first n p t s rest ∙ h.1)) (paths_of s)
      (stand levels false fuel s ok.2)))
      (All-weaker (Contains (paths_below rest)) P (λ p c.
      let h = All-contains (λ q. StandsAt q (space t rest)) (paths_below rest) p later c in
      (h.0, at_later n p t s rest (All-contains (LeadsFrom (suc n)) (paths_below rest) p lead c) ∙ h.1)) (paths_below rest)
      (All-contains_itself (paths_below rest)))

contains-map : (n : ℕ) (ps : List (List ℕ)) (p : List ℕ) → Contains ps p → Contains (map (λ q. n ∷ q) ps) (n ∷ p)
contains-map n ps p c = (
  c.0,
  (let e = length-map ps (λ q. n ∷ q) in let h = c.1 in omega (arith, e, h)),
  get_or-map (λ q. n ∷ q) ps c.0 p (n ∷ p) c.1 ∙ ap (λ q. n ∷ q) c.2,
)

mutual
  listed : (s : Space) (p : List ℕ) (c : Space) → at p s ≡ Some c → Contains (paths_of s) p
  listed (space t cs) [] c is = Contains-append_left ([] ∷ []) (paths_below cs) [] (0, omega arith, refl)
  listed (space t cs) (m ∷ p) c is = Contains-append_right ([] ∷ []) (paths_below cs) (m ∷ p) (listed_below cs m p c is)

  listed_below : (cs : Children) (m : ℕ) (p : List ℕ) (c : Space) → option_and_then (at p) (find m cs) ≡ Some c → Contains (paths_below cs) (m ∷ p)
  listed_below none m p c is = cc
  listed_below (child n s rest) m p c is = go (m == n) refl is (listed s p c) (listed_below rest m p c)
    where
      go : (b : Bool) → (m == n) ≡ b → option_and_then (at p) (cond b (Some s) (find m rest)) ≡ Some c → (at p s ≡ Some c → Contains (paths_of s) p)
          → (option_and_then (at p) (find m rest) ≡ Some c → Contains (paths_below rest) (m ∷ p)) → Contains (map (λ q. n ∷ q) (paths_of s) ++ paths_below rest) (m ∷ p)
      go true e is first later =
          let number : n ≡ m = grind (arith, nat_tests) in
          Contains-append_left (map (λ q. n ∷ q) (paths_of s)) (paths_below rest) (m ∷ p)
          (subst (λ k. Contains (map (λ q. n ∷ q) (paths_of s)) (k ∷ p)) number (contains-map n (paths_of s) p (first is)))
      go false e is first later = Contains-append_right (map (λ q. n ∷ q) (paths_of s)) (paths_below rest) (m ∷ p) (later is)

pub are_paths : (levels : ℕ) (root : Bool) (fuel : ℕ) (s : Space) → IsSoundAt levels root fuel s → ArePaths (paths_of s) s
are_paths levels root fuel s ok = record {
  rising = rise levels root fuel s ok;
  all = λ p. (λ c. All-contains (λ q. StandsAt q s) (paths_of s) p (stand levels root fuel s ok) c, λ h. listed s p h.0 h.1);
}

flat_map_same : (f g : List ℕ → List ℕ) (ps : List (List ℕ)) → All (λ p. f p ≡ g p) ps → flat_map f ps ≡ flat_map g ps
flat_map_same f g [] all = refl
flat_map_same f g (p ∷ ps) all =
    let P : List ℕ → Type 0 = λ q. f q ≡ g q in
    ap₂ (λ x y. x ++ y) (All-head P p ps all) (flat_map_same f g ps (All-tail P p ps all))

-- the line of a path in a report of what stands below another one
abbrev line_below : Bool → List ℕ → Space → List ℕ → List ℕ
line_below digest before s p = line_of digest (before ++ p) (at p s)

mutual
  unfolding report_of reports_of

  lines : (digest : Bool) (levels : ℕ) (root : Bool) (fuel : ℕ) (before : List ℕ) (s : Space) → IsSoundAt levels root fuel s
      → report_of digest before s ≡ flat_map (line_below digest before s) (paths_of s)
  lines digest levels root fuel before (space t cs) ok =
      ap₂ (λ p x. line digest p t ++ x) (sym (append-nil before)) (lines_below digest levels fuel 0 before t cs ok.1)

  lines_below : (digest : Bool) (levels fuel least : ℕ) (before : List ℕ) (t : Top) (cs : Children) → AreSound levels fuel least cs
      → reports_of digest before cs ≡ flat_map (line_below digest before (space t cs)) (paths_below cs)
  lines_below digest levels fuel least before t none ok = refl
  lines_below digest zero fuel least before t (child n s rest) ok = absurd ok
  lines_below digest (suc levels) fuel least before t (child n s rest) ok =
      let f = line_below digest before (space t (child n s rest)) in
      let first : report_of digest (before ++ n ∷ []) s ≡ flat_map f (map (λ p. n ∷ p) (paths_of s)) =
      lines digest levels false fuel (before ++ n ∷ []) s ok.2
      ∙ flat_map_same (line_below digest (before ++ n ∷ []) s) (λ p. f (n ∷ p)) (paths_of s)
      (all_of (λ p. line_below digest (before ++ n ∷ []) s p ≡ f (n ∷ p))
      (λ p. ap₂ (line_of digest) (append_assoc before (n ∷ []) p) (sym (at_first n p t s rest))) (paths_of s))
      ∙ sym (flat_map-map f (λ p. n ∷ p) (paths_of s)) in
      let later : reports_of digest before rest ≡ flat_map f (paths_below rest) =
      lines_below digest (suc levels) fuel (suc n) before t rest ok.3
      ∙ flat_map_same (line_below digest before (space t rest)) f (paths_below rest)
      (All-weaker (LeadsFrom (suc n)) (λ p. line_below digest before (space t rest) p ≡ f p)
      (λ p h. ap (line_of digest (before ++ p)) (sym (at_later n p t s rest h))) (paths_below rest) (lead_from (suc levels) fuel (suc n) rest ok.3)) in
      ap₂ (λ x y. x ++ y) first later ∙ sym (flat_map-append f (map (λ p. n ∷ p) (paths_of s)) (paths_below rest))

pub report_lines : (digest : Bool) (levels : ℕ) (root : Bool) (fuel : ℕ) (s : Space) → IsSoundAt levels root fuel s
    → report digest s ≡ flat_map (line_at digest s) (paths_of s)
report_lines digest levels root fuel s ok = lines digest levels root fuel [] s ok
