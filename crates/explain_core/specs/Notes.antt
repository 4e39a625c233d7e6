-- Notes of the spaces of a tree that goes on turn by turn.
-- Our choice: a restatement for proofs. Notes are the entries of a map; of a path without one there are no links.
use Rattle.std.specs.Prelude.{◌≡◌, ℕ, Bool, true, false, List, [], ◌∷◌, ◌++◌, Option, Some, None, Vec, if◌then◌else◌}
use Rattle.std.specs.declared.alloc.Global.{Global}
use Rattle.arrayvec.specs.ArrayVec.{ArrayVec}
use Rattle.space_model.specs.Space.{Space}
use Rattle.det_laws.specs.Tree.{after_all}
use Rattle.event_laws.specs.OwnEvents.{is_same_path}
use Rattle.explain_core.specs.declared.lineage.Link.{Link}
use Rattle.explain_core.specs.declared.watching.Moment.{Moment}
use Rattle.explain_core.specs.declared.watching.Watched.{Watched}
use Rattle.explain_core.specs.declared.watching.Watched.TheVariants.{Byte}
use Rattle.explain_core.specs.Lineage.{Tells, changed_by, counted, joined_by}

abbrev pub Notes : Type 0
Notes = List (ArrayVec ℕ × Vec Link Global)

-- the links of a path
abbrev pub note_at : Notes → List ℕ → List Link
note_at [] q = []
note_at (n ∷ ns) q = if is_same_path q n.0.items then n.1.items else note_at ns q

-- those of the child that was joined, if any
abbrev pub through : Notes → Option (List ℕ) → List Link
through ns None = []
through ns (Some q) = note_at ns q

-- those of a path behind a turn of so many own events there, by the last that changed what is watched
abbrev pub links_after : Notes → Watched → List ℕ → ℕ → Option Moment → List Link
links_after ns w p count None = counted count (note_at ns p)
links_after ns w p count (Some m) = changed_by count m (note_at ns p) (through ns (joined_by p w (Some m)))

-- a turn whose last change joined a child has no other event
abbrev pub JoinsAlone : List ℕ → Watched → ℕ → Option Moment → Type 0
JoinsAlone p w count last = (q : List ℕ) → joined_by p w last ≡ Some q → count ≡ 1

-- notes with other links of one path
pub record Puts (p : List ℕ) (links : List Link) (old new : Notes) : Type 0 where
  pub here : note_at new p ≡ links
  pub others : (q : List ℕ) → (q ≡ p → ⊥) → note_at new q ≡ note_at old q

-- a turn at a path is kept in its note
pub record KeepsTurn (p : List ℕ) (w : Watched) (count : ℕ) (last : Option Moment) (old new : Notes) : Type 0 where
  pub alone : JoinsAlone p w count last
  pub puts : Puts p (links_after old w p count last) old new

-- a turn, by whether it had events: it is kept, or there is nothing to keep; none where it is not kept, and then nothing is said
abbrev pub IsKept : List ℕ → Watched → ℕ → Option Moment → Notes → Notes → Option Bool → Type 0
IsKept p w count last old new None = Unit {0}
IsKept p w count last old new (Some true) = KeepsTurn p w count last old new
IsKept p w count last old new (Some false) = (count ≡ 0) × (new ≡ old)

-- what is watched at each path: a byte that is watched at one is watched at its children's, too
abbrev pub Follows : (List ℕ → Watched) → Type 0
Follows f = (p : List ℕ) (n a : ℕ) → f p ≡ Byte a → f (p ++ n ∷ []) ≡ Byte a

-- a tree has come by a schedule in which the notes tell of every path, each by what is watched there
pub record TellsAll (root : Space) (f : List ℕ → Watched) (ns : Notes) (now : Space) : Type 0 where
  pub schedule : List (List ℕ)
  pub leads : after_all schedule root ≡ now
  pub each : (q : List ℕ) → Tells root (f q) q schedule (note_at ns q)

-- notes that told of every path tell of every path still, behind a turn of one at which this is watched
abbrev pub GoesOnTelling : List ℕ → Watched → Notes → Notes → Space → Space → Type 0
GoesOnTelling p w old new s now = (root : Space) (f : List ℕ → Watched) → Follows f → f p ≡ w → TellsAll root f old s → TellsAll root f new now
