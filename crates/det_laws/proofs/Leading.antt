-- Lists of paths each of which may go on in its turn: one that may go on at first can be brought to the front, and all that lead to a settled
-- tree lead to one tree, and are as long as one another.
use Rattle.std.proofs.Common.{◌≡◌, ℕ, suc, pred, ◌+◌, true, List, [], ◌∷◌, ◌++◌, map, length, length-append, Some, refl, sym, ◌∙◌, ap, ap₂, arith, inl, inr, ◌⊎◌, subst}
use Rattle.std.proofs.lemmas.Bool.{cases_eq}
use Rattle.std.specs.Prelude.{option_map}
use Rattle.space_model.specs.Space.{Top, Space, space, Children, find, over, is_settled}
use Rattle.space_model.proofs.Children.{find-over_same, over-over_same, over_itself}
use Rattle.run_model.specs.Schedule.{on_child, is_enabled, step}
use Rattle.det_laws.specs.Leads.{Leads, Reaches}
use Rattle.det_laws.proofs.Commutes.{pass_one_another, settled_rests}

cases_path : (p q : List ℕ) → (p ≡ q) ⊎ (p ≡ q → ⊥)
cases_path [] [] = inl refl
cases_path [] (n ∷ q) = inr (λ e. cc)
cases_path (n ∷ p) [] = inr (λ e. cc)
cases_path (n ∷ p) (m ∷ q) = both (cases_eq n m) (cases_path p q)
  where
    both : (n ≡ m) ⊎ (n ≡ m → ⊥) → (p ≡ q) ⊎ (p ≡ q → ⊥) → ((n ∷ p) ≡ (m ∷ q)) ⊎ ((n ∷ p) ≡ (m ∷ q) → ⊥)
    both (inl a) (inl b) = inl (ap₂ (λ i is. i ∷ is) a b)
    both (inr ne) b = inr (λ e. ne cc)
    both (inl a) (inr ne) = inr (λ e. ne cc)

leads-append : (levels : ℕ) (ps qs : List (List ℕ)) (s t u : Space) → Leads levels ps s t → Leads levels qs t u → Leads levels (ps ++ qs) s u
leads-append levels [] qs s t u a b = rw a b
leads-append levels (p ∷ ps) qs s t u a b = (a.0, leads-append levels ps qs (step p levels s) t u a.1 b)

pub stays : (levels : ℕ) (s : Space) → Reaches levels s 0 s
stays levels s = ([], refl, refl)

pub goes_on : (levels : ℕ) (s t u : Space) (m n : ℕ) → Reaches levels s m t → Reaches levels t n u → Reaches levels s (m + n) u
goes_on levels s t u m n a b = (a.0 ++ b.0, length-append a.0 b.0 ∙ ap₂ (λ x y. x + y) a.1 b.1, leads-append levels a.0 b.0 s t u a.2 b.2)

-- an event of the space itself, and then others
pub begins : (levels : ℕ) (s t u : Space) (n : ℕ) → is_enabled [] levels s ≡ true → step [] levels s ≡ t → Reaches levels t n u → Reaches levels s (1 + n) u
begins levels s t u n may is r = ([] ∷ r.0, (let e = r.1 in omega (arith, e)), (may, subst (λ x. Leads levels r.0 x u) (sym is) r.2))

-- what leads a child on leads its parent on
lift : (levels k : ℕ) (ps : List (List ℕ)) (t : Top) (cs : Children) (c d : Space) → find k cs ≡ Some c → Leads (pred levels) ps c d
    → Leads levels (map (λ p. k ∷ p) ps) (space t cs) (space t (over k (λ x. d) cs))
lift levels k [] t cs c d is a = ap (space t) (sym (over_itself k d cs (is ∙ ap Some a)))
lift levels k (p ∷ ps) t cs c d is a = (
  ap (on_child (is_enabled p (pred levels))) is ∙ a.0,
  subst (λ r. Leads levels (map (λ q. k ∷ q) ps) (space t (over k (step p (pred levels)) cs)) (space t r)) (over-over_same k (λ x. d) (step p (pred levels)) cs)
      (lift levels k ps t (over k (step p (pred levels)) cs) (step p (pred levels) c) d (find-over_same k (step p (pred levels)) cs ∙ ap (option_map (step p (pred levels))) is) a.1),
)

length-map : (k : ℕ) (ps : List (List ℕ)) → length (map (λ p. k ∷ p) ps) ≡ length ps
length-map k [] = refl
length-map k (p ∷ ps) = ap suc (length-map k ps)

pub child_reaches : (levels k : ℕ) (t : Top) (cs : Children) (c d : Space) (n : ℕ) → find k cs ≡ Some c → Reaches (pred levels) c n d
    → Reaches levels (space t cs) n (space t (over k (λ x. d) cs))
child_reaches levels k t cs c d n is a = (map (λ p. k ∷ p) a.0, length-map k a.0 ∙ a.1, lift levels k a.0 t cs c d is a.2)

-- a settled tree leads to itself alone
pub settled_stays : (levels : ℕ) (ps : List (List ℕ)) (s t : Space) → is_settled s ≡ true → Leads levels ps s t → s ≡ t
settled_stays levels [] s t still a = a
settled_stays levels (p ∷ ps) s t still a = absurd (settled_rests p levels s still a.0)

-- a list that is shorter by one leads to the same tree from behind the event at p
abbrev BroughtForward : ℕ → List (List ℕ) → List ℕ → Space → Space → Type 0
BroughtForward levels ps p s t = (qs : List (List ℕ)) × (length ps ≡ suc (length qs)) × Leads levels qs (step p levels s) t

pub bring_forward : (levels : ℕ) (ps : List (List ℕ)) (p : List ℕ) (s t : Space) → Leads levels ps s t → is_settled t ≡ true
    → is_enabled p levels s ≡ true → BroughtForward levels ps p s t
bring_forward levels [] p s t a still may = absurd (settled_rests p levels t still (subst (λ x. is_enabled p levels x ≡ true) a may))
bring_forward levels (q ∷ ps) p s t a still may = go (cases_path p q) (λ e. bring_forward levels ps p (step q levels s) t a.1 still e)
  where
    go : (p ≡ q) ⊎ (p ≡ q → ⊥) → (is_enabled p levels (step q levels s) ≡ true → BroughtForward levels ps p (step q levels s) t)
        → BroughtForward levels (q ∷ ps) p s t
    go (inl e) later = (ps, refl, subst (λ x. Leads levels ps (step x levels s) t) (sym e) a.1)
    go (inr ne) later =
        let d = pass_one_another p q levels s ne may a.0 in
        let r = later d.0 in
        (q ∷ r.0, ap suc r.1, (d.1, subst (λ x. Leads levels r.0 x t) d.2 r.2))

pub one_end : (levels : ℕ) (qs ps : List (List ℕ)) (s t u : Space) → Leads levels ps s t → is_settled t ≡ true → Leads levels qs s u
    → is_settled u ≡ true → (t ≡ u) × (length ps ≡ length qs)
one_end levels [] [] s t u a st b su = (sym a ∙ b, refl)
one_end levels [] (p ∷ ps) s t u a st b su = absurd (settled_rests p levels u su (subst (λ x. is_enabled p levels x ≡ true) b a.0))
one_end levels (q ∷ qs) ps s t u a st b su =
    let f = bring_forward levels ps q s t a st b.0 in
    let r = one_end levels qs f.0 (step q levels s) t u f.2 st b.1 su in
    (r.0, f.1 ∙ ap suc r.1)
