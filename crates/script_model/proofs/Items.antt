-- What is read of a line is what the line says, and what a line says is read.
use Rattle.std.proofs.Common.{◌≡◌, ℕ, ◌<◌, Bool, true, false, cond, List, [], ◌∷◌, ◌++◌, length, refl, sym, ap, subst, ◌∙◌, inl, inr, arith}
use Rattle.std.specs.Prelude.{◌==◌, Option, Some, None, option_map, codes}
use Rattle.std.specs.Str.{bytes_eq}
use Rattle.std.proofs.lemmas.Bool.{eqb-true}
use Rattle.std.proofs.lemmas.Slice.Eq.{bytes_eq-Decides}
use Rattle.text_lines.specs.Reading.{number_of}
use Rattle.text_lines.proofs.Digits.{number_takes, number_again}
use Rattle.text_lines.proofs.Items.{Reads}
use Rattle.script_model.specs.Script.{Item, Nothing, Input, Clock, Random, ArePairs, Says, most_digits, greatest_number}
use Rattle.script_model.specs.Reading.{after, bytes_of, raw_of, short_of, or_else, item_of}
use Rattle.script_model.proofs.Words.{is_after, pairs_take, pairs_again}

-- ---- what is said is read

raw_again : (digits bytes : List ℕ) → 0 < length bytes → ArePairs digits bytes → raw_of digits ≡ Some (Input bytes)
raw_again [] [] some h = absurd (omega (arith, some))
raw_again [] (b ∷ bytes) some h = absurd h
raw_again (d ∷ digits) bytes some h = ap (option_map (λ bs. Input bs)) (pairs_again (d ∷ digits) bytes h)

pub item_again : (line : List ℕ) (i : Item) → Says line i → item_of line ≡ Some i
unfolding item_of after
item_again line Nothing (inl e) = ap item_of e
item_again line Nothing (inr h) = ap item_of h.1
item_again line (Input bytes) (inl (inl h)) = ap item_of h.0 ∙ ap (λ bs. Some (Input bs)) (sym h.1)
item_again line (Input bytes) (inl (inr h)) = ap item_of h.1 ∙ ap (λ bs. Some (Input bs)) (sym h.2)
item_again line (Input bytes) (inr h) = ap item_of h.1 ∙ raw_again h.0 bytes h.2 h.3
item_again line (Clock n) h = ap item_of h.1 ∙ ap (option_map (λ n. Clock n)) (number_again most_digits greatest_number h.0 n h.2)
item_again line (Random n) h = ap item_of h.1 ∙ ap (option_map (λ n. Random n)) (number_again most_digits greatest_number h.0 n h.2)

-- ---- what is read is said

abbrev some_item : Item → Option Item
some_item i = Some i

said_is : (line : List ℕ) (i j : Item) → Says line i → some_item i ≡ Some j → Says line j
said_is line i j h e = let same : i ≡ j = cc in subst (Says line) same h

short_byte : (b : ℕ) (bs : List ℕ) (i : Item) (t : Bool) → (b == 35) ≡ t → (u : Bool) → bytes_eq (b ∷ bs) (codes "in") ≡ u → cond t (some_item Nothing) (cond u (some_item (Input (10 ∷ []))) None) ≡ Some i → Says (b ∷ bs) i
short_byte b bs i true e u f h = let first = eqb-true b 35 e in said_is (b ∷ bs) Nothing i (inr (bs, cc)) h
short_byte b bs i false e true f h = said_is (b ∷ bs) (Input (10 ∷ [])) i (inl (inl ((bytes_eq-Decides (b ∷ bs) (codes "in")).0 f, refl))) h
short_byte b bs i false e false f h = absurd cc

short_takes : (line : List ℕ) (i : Item) → short_of line ≡ Some i → Says line i
short_takes [] i h = said_is [] Nothing i (inl refl) h
short_takes (b ∷ bs) i h = short_byte b bs i (b == 35) refl (bytes_eq (b ∷ bs) (codes "in")) refl h

raw_takes : (line : List ℕ) (i : Item) (digits : List ℕ) → line ≡ codes "raw " ++ digits → (o : Option (List ℕ)) → bytes_of digits ≡ o → 0 < length digits → option_map (λ bs. Input bs) o ≡ Some i → Says line i
raw_takes line i digits e None read some h = absurd cc
raw_takes line i [] e (Some bytes) read some h = absurd (omega (arith, some))
raw_takes line i (d ∷ digits) e (Some []) read some h = absurd (none_from d digits (pairs_take (d ∷ digits) [] read))
  where
    none_from : (d : ℕ) (digits : List ℕ) → ArePairs (d ∷ digits) [] → ⊥
    none_from d [] h = h
    none_from d (e ∷ digits) h = h
raw_takes line i (d ∷ digits) e (Some (b ∷ bytes)) read some h = said_is line (Input (b ∷ bytes)) i (inr (d ∷ digits, e, omega arith, pairs_take (d ∷ digits) (b ∷ bytes) read)) h

pairs_said : (line : List ℕ) (i : Item) (digits : List ℕ) → line ≡ codes "raw " ++ digits → raw_of digits ≡ Some i → Says line i
pairs_said line i [] e h = absurd cc
pairs_said line i (d ∷ digits) e h = raw_takes line i (d ∷ digits) e (bytes_of (d ∷ digits)) refl (omega arith) h

clock_takes : (line : List ℕ) (i : Item) (digits : List ℕ) → line ≡ codes "clock " ++ digits → (o : Option ℕ) → number_of most_digits greatest_number digits ≡ o → option_map (λ n. Clock n) o ≡ Some i → Says line i
clock_takes line i digits e None read h = absurd cc
clock_takes line i digits e (Some n) read h = said_is line (Clock n) i (digits, e, number_takes most_digits greatest_number digits n read) h

random_takes : (line : List ℕ) (i : Item) (digits : List ℕ) → line ≡ codes "rand " ++ digits → (o : Option ℕ) → number_of most_digits greatest_number digits ≡ o → option_map (λ n. Random n) o ≡ Some i → Says line i
random_takes line i digits e None read h = absurd cc
random_takes line i digits e (Some n) read h = said_is line (Random n) i (digits, e, number_takes most_digits greatest_number digits n read) h

-- what either says, the rest behind a word or else the other
chosen : (line : List ℕ) (i : Item) (word : List ℕ) (said : List ℕ → Option Item) (other : Option Item) → ((rest : List ℕ) → line ≡ word ++ rest → said rest ≡ Some i → Says line i) → (other ≡ Some i → Says line i)
    → (o : Option (List ℕ)) → after word line ≡ o → or_else o said other ≡ Some i → Says line i
chosen line i word said other here there (Some rest) e h = here rest (is_after word line rest e) h
chosen line i word said other here there None e h = there h

pub item_takes : (line : List ℕ) (i : Item) → item_of line ≡ Some i → Says line i
unfolding item_of
item_takes line i =
    chosen line i (codes "in ") _ _ (λ text e h. said_is line (Input (text ++ 10 ∷ [])) i (inl (inr (text, e, refl))) h)
    (chosen line i (codes "raw ") _ _ (pairs_said line i)
    (chosen line i (codes "clock ") _ _ (λ digits e h. clock_takes line i digits e (number_of most_digits greatest_number digits) refl h)
    (chosen line i (codes "rand ") _ _ (λ digits e h. random_takes line i digits e (number_of most_digits greatest_number digits) refl h) (short_takes line i) (after (codes "rand ") line) refl)
    (after (codes "clock ") line) refl)
    (after (codes "raw ") line) refl)
    (after (codes "in ") line) refl

pub reads : Reads Says item_of
reads = record { takes = item_takes; again = item_again }
