-- The first need that is not met is found, or all are met.
use Rattle.std.proofs.Common.{◌≡◌, true, false, cond, List, [], ◌∷◌, ◌++◌, Option, Some, None, refl, sym, ap, ◌∙◌}
use Rattle.std.proofs.lemmas.List.Elements.{All-nil, All-cons, All-head, All-tail}
use Rattle.elf_model.specs.declared.error.ElfError.{ElfError}
use Rattle.elf_model.specs.Needs.{Need, AreMet, IsFirstFault, fault_of}
use Rattle.elf_model.specs.Reading.{first_fault}

abbrev pub none_yet : Option ElfError
none_yet = None

pub both_none : (xs ys : List Need) → first_fault (xs ++ ys) ≡ none_yet → (first_fault xs ≡ none_yet) × (first_fault ys ≡ none_yet)
both_none [] ys e = (refl, e)
both_none (x ∷ xs) ys e =
    elim x.met as (λ b. cond b (first_fault (xs ++ ys)) (Some (fault_of x)) ≡ none_yet → (cond b (first_fault xs) (Some (fault_of x)) ≡ none_yet) × (first_fault ys ≡ none_yet)) [
      | true ↦ λ h. both_none xs ys h
      | false ↦ λ h. absurd cc
    ] e

pub first_append : (xs ys : List Need) → first_fault xs ≡ none_yet → first_fault (xs ++ ys) ≡ first_fault ys
first_append [] ys e = refl
first_append (x ∷ xs) ys e =
    elim x.met as (λ b. cond b (first_fault xs) (Some (fault_of x)) ≡ none_yet → cond b (first_fault (xs ++ ys)) (Some (fault_of x)) ≡ first_fault ys) [
      | true ↦ λ h. first_append xs ys h
      | false ↦ λ h. absurd cc
    ] e

pub first_stops : (xs ys : List Need) (f : ElfError) → first_fault xs ≡ Some f → first_fault (xs ++ ys) ≡ Some f
first_stops [] ys f e = absurd cc
first_stops (x ∷ xs) ys f e =
    elim x.met as (λ b. cond b (first_fault xs) (Some (fault_of x)) ≡ Some f → cond b (first_fault (xs ++ ys)) (Some (fault_of x)) ≡ Some f) [
      | true ↦ λ h. first_stops xs ys f h
      | false ↦ λ h. h
    ] e

-- the first need of some that all are met, and the others
pub met_first : (x : Need) (xs : List Need) → first_fault (x ∷ xs) ≡ none_yet → (x.met ≡ true) × (first_fault xs ≡ none_yet)
met_first x xs e =
    elim x.met as (λ b. cond b (first_fault xs) (Some (fault_of x)) ≡ none_yet → (b ≡ true) × (first_fault xs ≡ none_yet)) [
      | true ↦ λ h. (refl, h)
      | false ↦ λ h. absurd cc
    ] e

abbrev IsMet : Need → Type 0
IsMet n = n.met ≡ true

pub are_met : (ns : List Need) → first_fault ns ≡ none_yet → AreMet ns
are_met [] e = All-nil IsMet
are_met (n ∷ ns) e = let h = met_first n ns e in All-cons IsMet n ns h.0 (are_met ns h.1)

pub none_missed : (ns : List Need) → AreMet ns → first_fault ns ≡ none_yet
none_missed [] h = refl
none_missed (n ∷ ns) h =
    let head : n.met ≡ true = All-head IsMet n ns h in
    rw head (none_missed ns (All-tail IsMet n ns h))

pub fault_found : (before : List Need) (n : Need) (after : List Need) → AreMet before → n.met ≡ false → first_fault (before ++ n ∷ after) ≡ Some (fault_of n)
fault_found [] n after h e = rw e refl
fault_found (b ∷ before) n after h e =
    let head : b.met ≡ true = All-head IsMet b before h in
    rw head (fault_found before n after (All-tail IsMet b before h) e)

pub is_found : (ns : List Need) (f : ElfError) → IsFirstFault ns f → first_fault ns ≡ Some f
is_found ns f h = ap first_fault h.parts ∙ fault_found h.before h.missed h.after h.met_before h.not_met ∙ ap (λ (g : ElfError). Some g) (sym h.fault)

later : (n : Need) (ns : List Need) (f : ElfError) → n.met ≡ true → IsFirstFault ns f → IsFirstFault (n ∷ ns) f
later n ns f e h = record {
  before = n ∷ h.before;
  missed = h.missed;
  after = h.after;
  parts = ap (λ (xs : List Need). n ∷ xs) h.parts;
  met_before = All-cons IsMet n h.before e h.met_before;
  not_met = h.not_met;
  fault = h.fault;
}

here : (n : Need) (ns : List Need) (f : ElfError) → n.met ≡ false → fault_of n ≡ f → IsFirstFault (n ∷ ns) f
here n ns f e same = record { before = []; missed = n; after = ns; parts = refl; met_before = All-nil IsMet; not_met = e; fault = sym same }

some_is : (f g : ElfError) → ◌≡◌ {A = Option ElfError} (Some f) (Some g) → f ≡ g
some_is f g e = cc

pub is_first : (ns : List Need) (f : ElfError) → first_fault ns ≡ Some f → IsFirstFault ns f
is_first [] f e = absurd cc
is_first (n ∷ ns) f e =
    elim n.met as (λ b. n.met ≡ b → cond b (first_fault ns) (Some (fault_of n)) ≡ Some f → IsFirstFault (n ∷ ns) f) [
      | true ↦ λ m h. later n ns f m (is_first ns f h)
      | false ↦ λ m h. here n ns f m (some_is _ _ h)
    ] refl e
