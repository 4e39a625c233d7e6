-- States and children that are equal, part by part.
use Rattle.std.proofs.Common.{◌≡◌, ℕ, List, [], ◌∷◌, sym, ap, ◌∙◌}
use Rattle.std.specs.declared.boxed.Box.{Box}
use Rattle.std.specs.declared.alloc.Global.{Global}
use Rattle.space_model.specs.Space.{Top, Space, Children, none, child}
use Rattle.space_tree.specs.Kept.{children_in}

abbrev Entries : Type 0
Entries = List (ℕ × Box Space Global)

-- states are equal where all of their parts are
pub same_tops : (t u : Top) → t.registers ≡ u.registers → t.memory ≡ u.memory → t.snapshot ≡ u.snapshot → t.limit ≡ u.limit → t.fuel ≡ u.fuel → t.used ≡ u.used → t.status ≡ u.status → t.devices ≡ u.devices → t ≡ u
same_tops t u registers memory snapshot limit fuel used status devices =
    λ i. record { registers = registers i; memory = memory i; snapshot = snapshot i; limit = limit i; fuel = fuel i; used = used i; status = status i; devices = devices i }

-- what is told of children so far: all are equal exactly where those that are left are
pub record AreAlike (a b xs ys : Children) : Type 0 where
  pub all : xs ≡ ys → a ≡ b
  pub rest : a ≡ b → xs ≡ ys

pub first_is : (xs us : Entries) (e : ℕ × Box Space Global) → xs ≡ e ∷ us → children_in xs ≡ child e.0 e.1.value (children_in us)
first_is xs us e is = ap children_in is

number_of : (n m : ℕ) (s t : Space) (cs ds : Children) → child n s cs ≡ child m t ds → n ≡ m
number_of n m s t cs ds e = cc

space_of : (n m : ℕ) (s t : Space) (cs ds : Children) → child n s cs ≡ child m t ds → s ≡ t
space_of n m s t cs ds e = cc

rest_of : (n m : ℕ) (s t : Space) (cs ds : Children) → child n s cs ≡ child m t ds → cs ≡ ds
rest_of n m s t cs ds e = cc

-- one child more is equal
pub alike_more : (a b : Children) (xs ys us vs : Entries) (e f : ℕ × Box Space Global) → AreAlike a b (children_in xs) (children_in ys) → xs ≡ e ∷ us → ys ≡ f ∷ vs → e.0 ≡ f.0 → e.1.value ≡ f.1.value → AreAlike a b (children_in us) (children_in vs)
alike_more a b xs ys us vs e f h left right number value = record {
  all = λ same. h.all (first_is xs us e left ∙ (λ i. child (number i) (value i) (same i)) ∙ sym (first_is ys vs f right));
  rest = λ same. rest_of _ _ _ _ _ _ (sym (first_is xs us e left) ∙ h.rest same ∙ first_is ys vs f right);
}

-- a child of another number, or an unequal one
pub other_number : (a b : Children) (xs ys us vs : Entries) (e f : ℕ × Box Space Global) → AreAlike a b (children_in xs) (children_in ys) → xs ≡ e ∷ us → ys ≡ f ∷ vs → a ≡ b → e.0 ≡ f.0
other_number a b xs ys us vs e f h left right same = number_of _ _ _ _ _ _ (sym (first_is xs us e left) ∙ h.rest same ∙ first_is ys vs f right)

pub other_space : (a b : Children) (xs ys us vs : Entries) (e f : ℕ × Box Space Global) → AreAlike a b (children_in xs) (children_in ys) → xs ≡ e ∷ us → ys ≡ f ∷ vs → a ≡ b → e.1.value ≡ f.1.value
other_space a b xs ys us vs e f h left right same = space_of _ _ _ _ _ _ (sym (first_is xs us e left) ∙ h.rest same ∙ first_is ys vs f right)

child_none : (n : ℕ) (s : Space) (cs : Children) → child n s cs ≡ none → ⊥
child_none n s cs e = cc

-- children that are left on one side alone
pub left_alone : (a b : Children) (xs ys us : Entries) (e : ℕ × Box Space Global) → AreAlike a b (children_in xs) (children_in ys) → xs ≡ e ∷ us → ys ≡ [] → a ≡ b → ⊥
left_alone a b xs ys us e h left right same = child_none _ _ _ (sym (first_is xs us e left) ∙ h.rest same ∙ ap children_in right)

pub right_alone : (a b : Children) (xs ys vs : Entries) (f : ℕ × Box Space Global) → AreAlike a b (children_in xs) (children_in ys) → xs ≡ [] → ys ≡ f ∷ vs → a ≡ b → ⊥
right_alone a b xs ys vs f h left right same = child_none _ _ _ (sym (sym (ap children_in left) ∙ h.rest same ∙ first_is ys vs f right))

-- none is left on either side
pub none_left : (a b : Children) (xs ys : Entries) → AreAlike a b (children_in xs) (children_in ys) → xs ≡ [] → ys ≡ [] → a ≡ b
none_left a b xs ys h left right = h.all (ap children_in left ∙ sym (ap children_in right))
