-- Where what is told of the files decides, that is what a command makes, or the files were not read so far.
use Rattle.std.proofs.Common.{◌≡◌, ◌≤◌, ◌<◌, ◌+◌, ◌⊎◌, ℕ, zero, suc, List, [], ◌∷◌, ◌++◌, length, take, Option, Some, None, inl, inr, refl, sym, ap, subst, length-append, arith}
use Rattle.std.proofs.lemmas.List.{length-take}
use Rattle.det_cli.specs.declared.end.End.{End}
use Rattle.det_cli.specs.Files.{Expectation, Step, Input, Agrees, AsTold, ReadFiles, requests_of, refusal_at, refusal_or, judge, told_from, told_files}

-- a file that is told is the one that was loaded
told_first : (t : Option (List ℕ)) (s : Step) (ss : List Step) (whole : List (List ℕ) → Option Expectation) (f : List ℕ) (rest : List (List ℕ)) (j : ℕ) (e : Expectation) → Agrees t f
    → judge (s ∷ ss) whole (take (suc j) (told_from t rest)) ≡ Some e → refusal_or (refusal_at s f) (judge ss (λ fs. whole (f ∷ fs)) (take j rest)) ≡ Some e
told_first None s ss whole f rest j e a p = cc
told_first (Some b) s ss whole f rest j e a p = subst (λ (x : List ℕ). refusal_or (refusal_at s x) (judge ss (λ fs. whole (x ∷ fs)) (take j rest)) ≡ Some e) (sym a) p

told_here : (t : Option (List ℕ)) (s : Step) (ss : List Step) (whole : List (List ℕ) → Option Expectation) (f : List ℕ) (rest : List (List ℕ)) (e : Expectation) → Agrees t f
    → judge (s ∷ ss) whole (told_from t rest) ≡ Some e → refusal_or (refusal_at s f) (judge ss (λ fs. whole (f ∷ fs)) rest) ≡ Some e
told_here None s ss whole f rest e a p = cc
told_here (Some b) s ss whole f rest e a p = subst (λ (x : List ℕ). refusal_or (refusal_at s x) (judge ss (λ fs. whole (x ∷ fs)) rest) ≡ Some e) (sym a) p

first_decides : (r : Option End) (x y : Option Expectation) (e : Expectation) → refusal_or r x ≡ Some e → (x ≡ Some e → (y ≡ None) ⊎ (y ≡ Some e)) → (refusal_or r y ≡ None) ⊎ (refusal_or r y ≡ Some e)
first_decides None x y e p k = k p
first_decides (Some z) x y e p k = inr p

behind_kept : (A B C : Type 0) → (A → B) → A ⊎ C → B ⊎ C
behind_kept A B C later (inl a) = inl (later a)
behind_kept A B C later (inr c) = inr c

-- behind the first file
behind : (r : Option End) (x y : Option Expectation) (e : Expectation) (A B : Type 0) → refusal_or r x ≡ Some e → (A → B) → (x ≡ Some e → A ⊎ (y ≡ Some e)) → B ⊎ (refusal_or r y ≡ Some e)
behind None x y e A B p later k = behind_kept A B (y ≡ Some e) later (k p)
behind (Some z) x y e A B p later k = inr p

-- the first j files that are told decide: they were read and decide so, or fewer files were read
pub decides : (ss : List Step) (whole : List (List ℕ) → Option Expectation) (told : List ℕ → Option (List ℕ)) (contents : List (List ℕ)) (j : ℕ) (e : Expectation) → AsTold ss told contents
    → judge ss whole (take j (told_files ss told)) ≡ Some e → (length contents < j) ⊎ (judge ss whole (take j contents) ≡ Some e)
decides [] whole told [] j e h p = inr p
decides [] whole told (f ∷ fs) j e h p = absurd h
decides (s ∷ ss) whole told contents zero e h p = cc
decides (s ∷ ss) whole told [] (suc j) e h p = inl (omega arith)
decides (s ∷ ss) whole told (f ∷ fs) (suc j) e h p =
    behind (refusal_at s f) (judge ss (λ rest. whole (f ∷ rest)) (take j (told_files ss told))) (judge ss (λ rest. whole (f ∷ rest)) (take j fs)) e
    (length fs < j) (length (f ∷ fs) < suc j)
    (told_first (told s.name) s ss whole f (told_files ss told) j e h.0 p) (λ lt. omega (arith, lt))
    (λ q. decides ss (λ rest. whole (f ∷ rest)) told fs j e h.1 q)

no_less : (j k : ℕ) → (j < k → ⊥) → k ≤ j
no_less j zero h = omega arith
no_less zero (suc k) h = absurd (h (omega arith))
no_less (suc j) (suc k) h = let le : k ≤ j = no_less j k (λ lt. h (omega (arith, lt))) in omega (arith, le)

-- no more names are asked for than those of the files that, as told, decide
pub count_most : (ss : List Step) (whole : List (List ℕ) → Option Expectation) (contents : List (List ℕ)) (i : Input) (j : ℕ) (e : Expectation) → (h : ReadFiles ss whole contents i)
    → judge ss whole (take j (told_files ss i.told)) ≡ Some e → h.count ≤ j
count_most ss whole contents i j e h p = no_less j h.count (λ lt.
    elim (decides ss whole i.told contents j e h.as_told p) [
      | inl less ↦ absurd (omega (arith, less, lt, h.most))
      | inr so ↦ let open_still = h.in_order j lt in cc
    ])

pub asked_most : (ss : List Step) (whole : List (List ℕ) → Option Expectation) (contents : List (List ℕ)) (i : Input) (j : ℕ) (e : Expectation) → ReadFiles ss whole contents i
    → judge ss whole (take j (told_files ss i.told)) ≡ Some e → length i.asked_after ≤ length i.asked_before + j
asked_most ss whole contents i j e h p =
    let few = count_most ss whole contents i j e h p in
    let same : length i.asked_after ≡ length (i.asked_before ++ take h.count (requests_of ss)) = ap length h.asked in
    omega (arith, few, same, length-append i.asked_before (take h.count (requests_of ss)), length-take h.count (requests_of ss))

-- what all files that are told decide
pub decides_all : (ss : List Step) (whole : List (List ℕ) → Option Expectation) (told : List ℕ → Option (List ℕ)) (contents : List (List ℕ)) (e : Expectation) → AsTold ss told contents
    → judge ss whole (told_files ss told) ≡ Some e → (judge ss whole contents ≡ None) ⊎ (judge ss whole contents ≡ Some e)
decides_all [] whole told [] e h p = inr p
decides_all [] whole told (f ∷ fs) e h p = absurd h
decides_all (s ∷ ss) whole told [] e h p = inl refl
decides_all (s ∷ ss) whole told (f ∷ fs) e h p =
    first_decides (refusal_at s f) (judge ss (λ rest. whole (f ∷ rest)) (told_files ss told)) (judge ss (λ rest. whole (f ∷ rest)) fs) e
    (told_here (told s.name) s ss whole f (told_files ss told) e h.0 p)
    (λ q. decides_all ss (λ rest. whole (f ∷ rest)) told fs e h.1 q)
