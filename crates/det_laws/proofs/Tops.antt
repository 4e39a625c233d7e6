-- Tops put at paths: what stands at other paths, and how two of them pass one another.
use Rattle.std.proofs.Common.{◌≡◌, ℕ, ◌≢◌, List, [], ◌∷◌, Option, Some, None, refl, sym, ◌∙◌, ap, ap₂, inl, inr, ◌⊎◌, subst}
use Rattle.std.proofs.lemmas.Bool.{cases_eq}
use Rattle.std.specs.Prelude.{option_map, option_and_then}
use Rattle.space_model.specs.Space.{Top, Space, space, Children, top_of, find, over}
use Rattle.space_model.specs.Path.{at, replace_top, with_top}
use Rattle.space_model.proofs.Children.{find-over_same, find-over_other, over-over_same, over-over_other, over-at, over_itself, over_missing}
use Rattle.det_laws.specs.Tops.{top_at}

-- only what f does to each space counts
over_alike : (n : ℕ) (f g : Space → Space) (cs : Children) → ((c : Space) → f c ≡ g c) → over n f cs ≡ over n g cs
over_alike n f g cs same = go (find n cs) refl
  where
    go : (o : Option Space) → find n cs ≡ o → over n f cs ≡ over n g cs
    go None is = over_missing n f cs is ∙ sym (over_missing n g cs is)
    go (Some c) is = over-at n f g c cs is (same c)

-- a space stays at a path where another top is put
pub stands_still : (p : List ℕ) (q : List ℕ) (t : Top) (s c : Space) → at p s ≡ Some c → (d : Space) × (at p (with_top q t s) ≡ Some d)
stands_still [] q t s c is = (with_top q t s, refl)
stands_still (n ∷ p) [] t (space u cs) c is = (c, is)
stands_still (n ∷ p) (m ∷ q) t (space u cs) c is = go (λ b. stands_still p q t b c) (cases_eq n m) (find n cs) refl is
  where
    go : ((b : Space) → at p b ≡ Some c → (d : Space) × (at p (with_top q t b) ≡ Some d)) → (n ≡ m) ⊎ (n ≡ m → ⊥) → (o : Option Space) → find n cs ≡ o → option_and_then (at p) o ≡ Some c
        → (d : Space) × (option_and_then (at p) (find n (over m (with_top q t) cs)) ≡ Some d)
    go below eq None found is = cc
    go below (inl e) (Some b) found is =
        let inner = below b is in
        let here = ap (λ i. find i (over m (with_top q t) cs)) e ∙ find-over_same m (with_top q t) cs ∙ ap (option_map (with_top q t)) (ap (λ i. find i cs) (sym e) ∙ found) in
        (inner.0, ap (option_and_then (at p)) here ∙ inner.1)
    go below (inr ne) (Some b) found is = (c, ap (option_and_then (at p)) (find-over_other n m (with_top q t) cs ne ∙ found) ∙ is)

-- the top at another path stays
pub top_other : (p q : List ℕ) (t : Top) (s : Space) → p ≢ q → top_at p (with_top q t s) ≡ top_at p s
top_other [] [] t s ne = absurd (ne refl)
top_other [] (m ∷ q) t (space u cs) ne = refl
top_other (n ∷ p) [] t (space u cs) ne = refl
top_other (n ∷ p) (m ∷ q) t (space u cs) ne = go (λ c apart. top_other p q t c apart) (cases_eq n m)
  where
    below : ((c : Space) → p ≢ q → top_at p (with_top q t c) ≡ top_at p c) → p ≢ q → (o : Option Space)
        → option_map top_of (option_and_then (at p) (option_map (with_top q t) o)) ≡ option_map top_of (option_and_then (at p) o)
    below each apart None = refl
    below each apart (Some c) = each c apart

    go : ((c : Space) → p ≢ q → top_at p (with_top q t c) ≡ top_at p c) → (n ≡ m) ⊎ (n ≡ m → ⊥) → top_at (n ∷ p) (space u (over m (with_top q t) cs)) ≡ top_at (n ∷ p) (space u cs)
    go each (inl e) =
        let apart : p ≢ q = λ x. ne (ap₂ (λ i is. i ∷ is) e x) in
        let here = ap (λ i. find i (over m (with_top q t) cs)) e ∙ find-over_same m (with_top q t) cs ∙ ap (λ i. option_map (with_top q t) (find i cs)) (sym e) in
        ap (λ o. option_map top_of (option_and_then (at p) o)) here ∙ below each apart (find n cs)
    go each (inr apart) = ap (λ o. option_map top_of (option_and_then (at p) o)) (find-over_other n m (with_top q t) cs apart)

-- at its own path stands the top that was put
pub stands_there : (p : List ℕ) (t : Top) (s c : Space) → at p s ≡ Some c → at p (with_top p t s) ≡ Some (replace_top t c)
stands_there [] t s c is = ap (λ x. Some (replace_top t x)) (some_same is)
  where
    some_same : Some s ≡ Some c → s ≡ c
    some_same e = cc
stands_there (n ∷ p) t (space u cs) c is = go (λ b. stands_there p t b c) (find n cs) refl is
  where
    go : ((b : Space) → at p b ≡ Some c → at p (with_top p t b) ≡ Some (replace_top t c)) → (o : Option Space) → find n cs ≡ o → option_and_then (at p) o ≡ Some c → option_and_then (at p) (find n (over n (with_top p t) cs)) ≡ Some (replace_top t c)
    go below None found is = cc
    go below (Some b) found is =
        ap (option_and_then (at p)) (find-over_same n (with_top p t) cs ∙ ap (option_map (with_top p t)) found) ∙ below b is

-- of two tops at one path the last stays
pub last_stays : (p : List ℕ) (t u : Top) (s : Space) → with_top p t (with_top p u s) ≡ with_top p t s
last_stays [] t u (space v cs) = refl
last_stays (n ∷ p) t u (space v cs) =
    ap (space v) (over-over_same n (with_top p t) (with_top p u) cs ∙ over_alike n (λ c. with_top p t (with_top p u c)) (with_top p t) cs (λ c. last_stays p t u c))

-- tops at two paths pass one another
pub tops_pass : (p q : List ℕ) (t u : Top) (s : Space) → p ≢ q → with_top p t (with_top q u s) ≡ with_top q u (with_top p t s)
tops_pass [] [] t u s ne = absurd (ne refl)
tops_pass [] (m ∷ q) t u (space v cs) ne = refl
tops_pass (n ∷ p) [] t u (space v cs) ne = refl
tops_pass (n ∷ p) (m ∷ q) t u (space v cs) ne = go (λ c apart. tops_pass p q t u c apart) (cases_eq n m)
  where
    both : ((c : Space) → p ≢ q → with_top p t (with_top q u c) ≡ with_top q u (with_top p t c)) → p ≢ q → over m (with_top p t) (over m (with_top q u) cs) ≡ over m (with_top q u) (over m (with_top p t) cs)
    both each apart =
        over-over_same m (with_top p t) (with_top q u) cs
        ∙ over_alike m (λ c. with_top p t (with_top q u c)) (λ c. with_top q u (with_top p t c)) cs (λ c. each c apart)
        ∙ sym (over-over_same m (with_top q u) (with_top p t) cs)

    go : ((c : Space) → p ≢ q → with_top p t (with_top q u c) ≡ with_top q u (with_top p t c)) → (n ≡ m) ⊎ (n ≡ m → ⊥) → space v (over n (with_top p t) (over m (with_top q u) cs)) ≡ space v (over m (with_top q u) (over n (with_top p t) cs))
    go each (inl e) =
        let apart : p ≢ q = λ x. ne (ap₂ (λ i is. i ∷ is) e x) in
        subst (λ i. space v (over i (with_top p t) (over m (with_top q u) cs)) ≡ space v (over m (with_top q u) (over i (with_top p t) cs))) (sym e) (ap (space v) (both each apart))
    go each (inr apart) = ap (space v) (over-over_other n m (with_top p t) (with_top q u) cs apart)

-- the top that stands at a path, put there, changes nothing
pub puts_itself : (p : List ℕ) (t : Top) (s : Space) → top_at p s ≡ Some t → with_top p t s ≡ s
puts_itself [] t (space u cs) is = ap (λ x. space x cs) (sym (some_same is))
  where
    some_same : Some u ≡ Some t → u ≡ t
    some_same e = cc
puts_itself (n ∷ p) t (space u cs) is = go (λ c. puts_itself p t c) (find n cs) refl is
  where
    go : ((c : Space) → top_at p c ≡ Some t → with_top p t c ≡ c) → (o : Option Space) → find n cs ≡ o → option_map top_of (option_and_then (at p) o) ≡ Some t → space u (over n (with_top p t) cs) ≡ space u cs
    go below None found is = cc
    go below (Some c) found is = ap (space u) (over-at n (with_top p t) (λ d. c) c cs found (below c is) ∙ over_itself n c cs found)
