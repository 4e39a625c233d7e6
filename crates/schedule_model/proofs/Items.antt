-- What is read of a line is what the line says, and what a line says is read.
use Rattle.std.proofs.Common.{◌≡◌, ℕ, Bool, true, false, cond, List, [], ◌∷◌, refl, sym, ap, subst, ◌∙◌, inl, inr}
use Rattle.std.specs.Prelude.{◌==◌, Option, Some, None, option_map}
use Rattle.std.proofs.lemmas.Bool.{eqb-true}
use Rattle.text_lines.proofs.Items.{Reads}
use Rattle.schedule_model.specs.Schedule.{Item, Nothing, Next, Says}
use Rattle.schedule_model.specs.Reading.{path_of, item_of}
use Rattle.schedule_model.proofs.Paths.{path_takes, long_again}

-- ---- what is said is read

abbrev next_item : Option (List ℕ) → Option Item
next_item o = option_map (λ path. Next path) o

pub item_again : (line : List ℕ) (i : Item) → Says line i → item_of line ≡ Some i
unfolding item_of path_of
item_again line Nothing (inl e) = ap item_of e
item_again line Nothing (inr h) = ap item_of h.1
item_again line (Next []) h = ap item_of h
item_again line (Next (n ∷ path)) (short, [], text, are) = absurd are
item_again line (Next (n ∷ path)) (short, digits ∷ others, text, are) = ap item_of text ∙ ap next_item (long_again digits others n path are.0 are.1 short)

-- ---- what is read is said

said_is : (line : List ℕ) (i j : Item) → Says line i → Some i ≡ Some j → Says line j
said_is line i j h e = let same : i ≡ j = cc in subst (Says line) same h

next_takes : (bs : List ℕ) (i : Item) (o : Option (List ℕ)) → path_of bs ≡ o → next_item o ≡ Some i → Says (47 ∷ bs) i
next_takes bs i None read e = absurd cc
next_takes bs i (Some path) read e = said_is (47 ∷ bs) (Next path) i (path_takes bs path read) e

first_takes : (b : ℕ) (bs : List ℕ) (i : Item) (t : Bool) → (b == 35) ≡ t → (u : Bool) → (b == 47) ≡ u → cond t (Some Nothing) (cond u (next_item (path_of bs)) None) ≡ Some i → Says (b ∷ bs) i
first_takes b bs i true comment u slash e = let first = eqb-true b 35 comment in said_is (b ∷ bs) Nothing i (inr (bs, cc)) e
first_takes b bs i false comment true slash e = subst (λ (c : ℕ). Says (c ∷ bs) i) (sym (eqb-true b 47 slash)) (next_takes bs i (path_of bs) refl e)
first_takes b bs i false comment false slash e = absurd cc

pub item_takes : (line : List ℕ) (i : Item) → item_of line ≡ Some i → Says line i
unfolding item_of
item_takes [] i e = said_is [] Nothing i (inl refl) e
item_takes (b ∷ bs) i e = first_takes b bs i (b == 35) refl (b == 47) refl e

pub reads : Reads Says item_of
reads = record { takes = item_takes; again = item_again }
