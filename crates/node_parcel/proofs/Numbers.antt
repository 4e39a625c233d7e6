-- The map of numbers, as the list of resident pages grows.
use Rattle.std.proofs.Common.{◌≡◌, ℕ, zero, suc, ◌+◌, ◌<◌, Bool, true, false, cond, List, [], ◌∷◌, ◌++◌, length, Option, Some, None, refl, sym, ap, ◌∙◌, arith, inl, inr}
use Rattle.std.specs.Prelude.{nat_eq, is_some}
use Rattle.std.specs.List.{position_from}
use Rattle.std.specs.BTreeMap.{BTreeMap, get}
use Rattle.std.specs.Cmp.{tied_itself}
use Rattle.std.specs.Cmp.Lexicographic.{pointwise, slice_cmp, same_text, other_text, nat_list_cmp_total}
use Rattle.std.specs.Ordering.{nat_cmp, eq_by_cmp, is_eq}
use Rattle.std.specs.declared.cmp.Ordering.{Ordering}
use Rattle.std.specs.declared.cmp.Ordering.TheVariants.{Less, Equal, Greater}
use Rattle.std.proofs.lemmas.Bool.{cases_lt}
use Rattle.std.proofs.lemmas.List.{get_or_append_left, get_or_at, length-append}
use Rattle.std.proofs.lemmas.Map.Lookups.{exact_bytes}
use Rattle.parcel_model.specs.Parcel.{page_in}
use Rattle.parcel_model.specs.Packing.{number_of}
use Rattle.parcel_model.specs.Residents.{most_residents, AreResidents}
use Rattle.parcel_model.proofs.Packed.{found}
use Rattle.node_parcel.specs.Numbers.{AreNumbers}

-- the first, where there is one
or_then : Option ℕ → Option ℕ → Option ℕ
or_then (Some n) o = Some n
or_then None o = o

cond_then : (b : Bool) (n : ℕ) (o p : Option ℕ) → or_then (cond b (Some n) o) p ≡ cond b (Some n) (or_then o p)
unfolding or_then
cond_then true n o p = refl
cond_then false n o p = refl

position-push : (t : List ℕ → Bool) (i : ℕ) (known : List (List ℕ)) (page : List ℕ) → position_from t i (known ++ page ∷ []) ≡ or_then (position_from t i known) (cond (t page) (Some (i + length known)) None)
unfolding or_then
position-push t i [] page = let e : i ≡ i + 0 = omega arith in ap (λ (n : ℕ). cond (t page) (Some n) None) e
position-push t i (p ∷ known) page =
    let e : i + 1 + length known ≡ i + suc (length known) = omega arith in
    ap (λ (o : Option ℕ). cond (t p) (Some i) o) (position-push t (i + 1) known page ∙ ap (λ (n : ℕ). or_then (position_from t (i + 1) known) (cond (t page) (Some n) None)) e)
    ∙ sym (cond_then (t p) i (position_from t (i + 1) known) (cond (t page) (Some (i + suc (length known))) None))

-- ---- two tests of equal bytes

equal_is : (o : Ordering) → is_eq o ≡ true → o ≡ Equal
equal_is Less e = absurd cc
equal_is Equal e = refl
equal_is Greater e = absurd cc

tied : (a b : List ℕ) → eq_by_cmp (slice_cmp nat_cmp) a b ≡ true → a ≡ b
tied a b e = exact_bytes a b (equal_is (slice_cmp nat_cmp a b) e)

ties_itself : (a b : List ℕ) → a ≡ b → eq_by_cmp (slice_cmp nat_cmp) a b ≡ true
ties_itself a b e = ap (λ (c : List ℕ). is_eq (slice_cmp nat_cmp a c)) (sym e) ∙ ap is_eq (tied_itself nat_list_cmp_total a)

tests_agree : (a b : List ℕ) (r p : Bool) → eq_by_cmp (slice_cmp nat_cmp) a b ≡ r → pointwise nat_eq a b ≡ p → p ≡ r
tests_agree a b true true e f = refl
tests_agree a b true false e f = absurd (other_text a b (sym f) (tied a b e))
tests_agree a b false true e f = let t = ties_itself a b (same_text a b (sym f)) in absurd cc
tests_agree a b false false e f = refl

-- ---- one page more

absent_by : (b : Bool) (i j : ℕ) (p : List ℕ) (known : List (List ℕ)) (page : List ℕ) (o : Option ℕ) → pointwise nat_eq p page ≡ b → cond b (Some i) o ≡ None → j < suc (length known) → page_in (p ∷ known) j ≡ page
    → (o ≡ None → (k : ℕ) → k < length known → page_in known k ≡ page → ⊥) → ⊥
absent_by true i j p known page o is e lt same later = cc
absent_by false i zero p known page o is e lt same later = other_text p page (sym is) same
absent_by false i (suc j) p known page o is e lt same later = later e j (omega (arith, lt)) same

absent_from : (i : ℕ) (known : List (List ℕ)) (page : List ℕ) → position_from (λ p. pointwise nat_eq p page) i known ≡ None → (j : ℕ) → j < length known → page_in known j ≡ page → ⊥
absent_from i [] page e j lt same = omega (arith, lt)
absent_from i (p ∷ known) page e j lt same = absent_by (pointwise nat_eq p page) i j p known page (position_from (λ p. pointwise nat_eq p page) (i + 1) known) refl e lt same (absent_from (i + 1) known page)

pub absent : (known : List (List ℕ)) (page : List ℕ) (j : ℕ) → number_of known page ≡ None → j < length known → page_in known j ≡ page → ⊥
unfolding number_of
absent known page j e lt same = absent_from 0 known page e j lt same

or_none : (o : Option ℕ) → or_then o None ≡ o
unfolding or_then
or_none (Some n) = refl
or_none None = refl

number-push : (known : List (List ℕ)) (page q : List ℕ) (r : Bool) → eq_by_cmp (slice_cmp nat_cmp) page q ≡ r → number_of known page ≡ None → cond r (Some (length known)) (number_of known q) ≡ number_of (known ++ page ∷ []) q
unfolding number_of or_then
number-push known page q true e none =
    let same : page ≡ q = tied page q e in
    let test : pointwise nat_eq page q ≡ true = tests_agree page q true (pointwise nat_eq page q) e refl in
    let gone : position_from (λ p. pointwise nat_eq p q) 0 known ≡ None = ap (λ (b : List ℕ). number_of known b) (sym same) ∙ none in
    let zeros : 0 + length known ≡ length known = omega arith in
    sym (position-push (λ p. pointwise nat_eq p q) 0 known page ∙ rw (gone, test) (ap (λ (n : ℕ). Some n) zeros))
number-push known page q false e none =
    let test : pointwise nat_eq page q ≡ false = tests_agree page q false (pointwise nat_eq page q) e refl in
    sym (position-push (λ p. pointwise nat_eq p q) 0 known page ∙ rw test (or_none (position_from (λ p. pointwise nat_eq p q) 0 known)))

residents-push : (known : List (List ℕ)) (page : List ℕ) → AreResidents known → length known < most_residents → number_of known page ≡ None → AreResidents (known ++ page ∷ [])
residents-push known page h lt none = record {
  few = omega (arith, length-append known (page ∷ []), lt);
  distinct = λ i j less below same. elim (cases_lt j (length known)) [
    | inl inside ↦ h.distinct i j less inside (sym (get_or_append_left known (page ∷ []) [] i (omega arith)) ∙ same ∙ get_or_append_left known (page ∷ []) [] j inside)
    | inr last ↦
        let is : length known ≡ j = omega (arith, length-append known (page ∷ [])) in
        absent known page i none (omega arith) (sym (get_or_append_left known (page ∷ []) [] i (omega arith)) ∙ same ∙ get_or_at known page [] [] j is)
  ];
}

pub numbers_push : (old new : BTreeMap (List ℕ) ℕ) (known : List (List ℕ)) (page : List ℕ) (number : ℕ) → AreNumbers old known → length known < most_residents → number_of known page ≡ None → number ≡ length known
    → ((q : List ℕ) → get (slice_cmp nat_cmp) new q ≡ cond (eq_by_cmp (slice_cmp nat_cmp) page q) (Some number) (get (slice_cmp nat_cmp) old q)) → AreNumbers new (known ++ page ∷ [])
numbers_push old new known page number h lt none is updated = record {
  sound = residents-push known page h.sound lt none;
  found = λ q. updated q ∙ ap (λ (n : ℕ). cond (eq_by_cmp (slice_cmp nat_cmp) page q) (Some n) (get (slice_cmp nat_cmp) old q)) is ∙ ap (λ (o : Option ℕ). cond (eq_by_cmp (slice_cmp nat_cmp) page q) (Some (length known)) o) (h.found q) ∙ number-push known page q (eq_by_cmp (slice_cmp nat_cmp) page q) refl none;
}

-- ---- one page less

residents-front : (known : List (List ℕ)) (page : List ℕ) → AreResidents (known ++ page ∷ []) → AreResidents known
residents-front known page h = record {
  few = omega (arith, length-append known (page ∷ []), h.few);
  distinct = λ i j less below same. h.distinct i j less (omega (arith, length-append known (page ∷ []))) (get_or_append_left known (page ∷ []) [] i (omega arith) ∙ same ∙ sym (get_or_append_left known (page ∷ []) [] j below));
}

last_absent_by : (known : List (List ℕ)) (page : List ℕ) (o : Option ℕ) → number_of known page ≡ o → AreResidents (known ++ page ∷ []) → o ≡ None
last_absent_by known page None e h = refl
last_absent_by known page (Some n) e h =
    let f = found known n page e in
    let here : page_in (known ++ page ∷ []) n ≡ page = get_or_append_left known (page ∷ []) [] n f.0 ∙ f.1 in
    let last : page_in (known ++ page ∷ []) (length known) ≡ page = get_or_at known page [] [] (length known) refl in
    absurd (h.distinct n (length known) f.0 (omega (arith, length-append known (page ∷ []))) (here ∙ sym last))

last_absent : (known : List (List ℕ)) (page : List ℕ) → AreResidents (known ++ page ∷ []) → number_of known page ≡ None
last_absent known page h = last_absent_by known page (number_of known page) refl h

number-front : (known : List (List ℕ)) (page q : List ℕ) (r : Bool) → eq_by_cmp (slice_cmp nat_cmp) page q ≡ r → number_of known page ≡ None → cond r None (number_of (known ++ page ∷ []) q) ≡ number_of known q
number-front known page q true e none = sym none ∙ ap (number_of known) (tied page q e)
number-front known page q false e none = sym (number-push known page q false e none)

pub numbers_pop : (old new : BTreeMap (List ℕ) ℕ) (known : List (List ℕ)) (page : List ℕ) → AreNumbers old (known ++ page ∷ [])
    → ((q : List ℕ) → get (slice_cmp nat_cmp) new q ≡ cond (eq_by_cmp (slice_cmp nat_cmp) page q) None (get (slice_cmp nat_cmp) old q)) → AreNumbers new known
numbers_pop old new known page h updated = record {
  sound = residents-front known page h.sound;
  found = λ q. updated q ∙ ap (λ (o : Option ℕ). cond (eq_by_cmp (slice_cmp nat_cmp) page q) None o) (h.found q) ∙ number-front known page q (eq_by_cmp (slice_cmp nat_cmp) page q) refl (last_absent known page h.sound);
}

nothing : (m : BTreeMap (List ℕ) ℕ) (q : List ℕ) → m.entries ≡ [] → get (slice_cmp nat_cmp) m q ≡ number_of [] q
unfolding number_of
nothing m q none = rw none refl

pub no_numbers : (m : BTreeMap (List ℕ) ℕ) → m.entries ≡ [] → AreNumbers m []
no_numbers m none = record {
  sound = record { few = omega arith; distinct = λ i j less below same. omega (arith, below) };
  found = λ q. nothing m q none;
}

pub not_some : (o : Option ℕ) (b : Bool) → b ≡ is_some o → b ≡ false → o ≡ None
not_some (Some n) b e f = absurd cc
not_some None b e f = refl
