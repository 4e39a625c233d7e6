-- A child and the space above it go on together, and their own events are counted.
-- Our choice: a restatement for proofs.
use Rattle.std.specs.Prelude.{◌≡◌, ℕ, ◌-◌, ◌≤◌, ◌^◌, List, [], ◌∷◌, ◌++◌, ◌⊎◌}
use Rattle.space_model.specs.Space.{Space}
use Rattle.explain_core.specs.declared.beside.BothAsked.{BothAsked}
use Rattle.explain_core.specs.declared.beside.Side.{Side}
use Rattle.explain_core.specs.declared.beside.Sides.{Sides}
use Rattle.explain_core.specs.declared.watching.Asked.{Asked}
use Rattle.explain_core.specs.declared.watching.Noticing.TheVariants.{Change}
use Rattle.explain_core.specs.declared.watching.Watched.{Watched}
use Rattle.explain_core.specs.Going.{HasCome, HasComeBelow, SoFar}
use Rattle.explain_core.specs.Watch.{kept_of, nothing_kept}

-- so many are left, of those that are asked for
pub record IsLeft (a : Asked) (s : Side) : Type 0 where
  pub some : 1 ≤ s.left
  pub within : s.left ≤ a.to

pub record IsAskedFor (a : BothAsked) (s : Sides) : Type 0 where
  pub below : IsLeft a.below s.below
  pub above : IsLeft a.above s.above

-- of own events of a path so many are left, and of those between each that is asked for is noticed
abbrev pub ComesSo : ℕ → List ℕ → Asked → Side → Side → Space → Space → Type 0
ComesSo levels p a old new s now = HasCome levels p a old.left new.left (kept_of old.kept) (kept_of new.kept) s now

abbrev pub ComesSoBelow : ℕ → List ℕ → Asked → Side → Side → Space → Space → Type 0
ComesSoBelow levels p a old new s now = HasComeBelow levels p a old.left new.left (kept_of old.kept) (kept_of new.kept) s now

-- of own events of a path some have happened, so many are left, and of those between each that is asked for is noticed
abbrev pub GoesSo : ℕ → List ℕ → Asked → Side → Side → Space → Space → Type 0
GoesSo levels p a old new s now = SoFar levels p a old.left new.left (kept_of old.kept) (kept_of new.kept) s now

-- the path of a child
abbrev pub child_of : List ℕ → ℕ → List ℕ
child_of p number = p ++ number ∷ []

-- of the space at a path and its child some are left, so both and all on the way have stopped
pub record ComeBoth (levels : ℕ) (p : List ℕ) (number : ℕ) (a : BothAsked) (old new : Sides) (s now : Space) : Type 0 where
  pub below : ComesSo levels (child_of p number) a.below old.below new.below s now
  pub above : ComesSo levels p a.above old.above new.above s now
  pub left : IsAskedFor a new

-- the same of a path below a space that has not gone on itself
pub record ComeBothBelow (levels : ℕ) (p : List ℕ) (number : ℕ) (a : BothAsked) (old new : Sides) (s now : Space) : Type 0 where
  pub below : ComesSoBelow levels (child_of p number) a.below old.below new.below s now
  pub above : ComesSoBelow levels p a.above old.above new.above s now
  pub left : IsAskedFor a new

-- of a child of the space at a path none are left
pub record EndsBelow (levels : ℕ) (p : List ℕ) (number : ℕ) (a : BothAsked) (old new : Sides) (s now : Space) : Type 0 where
  pub below : ComesSo levels (child_of p number) a.below old.below new.below s now
  pub none : new.below.left ≡ 0

-- of the space's own none are left, and the child has had some of its own, and others are left
pub record EndsAbove (levels : ℕ) (p : List ℕ) (number : ℕ) (a : BothAsked) (old new : Sides) (s now : Space) : Type 0 where
  pub above : ComesSo levels p a.above old.above new.above s now
  pub none : new.above.left ≡ 0
  pub below : GoesSo levels (child_of p number) a.below old.below new.below s now
  pub left : IsLeft a.below new.below

-- of one of the two none are left
abbrev pub OneEnds : ℕ → List ℕ → ℕ → BothAsked → Sides → Sides → Space → Space → Type 0
OneEnds levels p number a old new s now = EndsBelow levels p number a old new s now ⊎ EndsAbove levels p number a old new s now

-- all own events of a path, as far as a number of 64 bits can count them
abbrev pub all : ℕ
all = 2 ^ 64 - 1

-- nothing is kept of a space yet, and all are left
pub record IsAtFirst (s : Side) : Type 0 where
  pub kept : kept_of s.kept ≡ nothing_kept
  pub left : s.left ≡ all

abbrev pub AreAtFirst : Sides → Type 0
AreAtFirst s = IsAtFirst s.below × IsAtFirst s.above

-- all are asked for
pub record IsAll (p : List ℕ) (w : Watched) (a : Asked) : Type 0 where
  pub path : a.path.items ≡ p
  pub from : a.from ≡ 1
  pub to : a.to ≡ all
  pub noticing : a.noticing ≡ Change w
