-- The lists of spaces that may run, by nodes, as paths are put into them.
use Rattle.std.proofs.Common.{◌≡◌, ◌≢◌, ℕ, zero, suc, ◌<◌, List, [], ◌∷◌, length, ◌⊎◌, inl, inr, refl, sym, ap, subst, arith}
use Rattle.std.proofs.lemmas.Bool.{cases_eq}
use Rattle.std.specs.Prelude.{slice_index_or, slice_set}
use Rattle.node_places.specs.Places.{place_of, home}
use Rattle.path_set.specs.Paths.{Paths, Has}
use Rattle.board.specs.Runs.{Runs, HasRun, HasAllLists, HasAtHome, list_on}

-- what was listed where its space stands is still, where no space has gone elsewhere
pub still_run : (old new : Runs) → new.places ≡ old.places → HasAllLists new old → (p : List ℕ) → HasRun old p → HasRun new p
still_run old new same all p has = subst (λ ps. Has (list_on new (place_of ps p)) p) (sym same) (all (place_of old.places p) p has)

-- and what was listed for its home is
pub still_home : (old new : Runs) → new.places ≡ old.places → HasAllLists new old → (p : List ℕ) → HasAtHome old p → HasAtHome new p
still_home old new same all p has = subst (λ ps. Has (list_on new (home (let places = ps in places.nodes) p)) p) (sym same) (all (home (let places = old.places in places.nodes) p) p has)

-- the list of one node has changed, and no other
pub set_here : (lists : List Paths) (node : ℕ) (ps : Paths) → node < length lists → slice_index_or (slice_set lists node ps) node [] ≡ ps
set_here [] node ps within = absurd (omega (arith, within))
set_here (l ∷ lists) zero ps within = refl
set_here (l ∷ lists) (suc node) ps within = set_here lists node ps (omega (arith, within))

pub set_there : (lists : List Paths) (node other : ℕ) (ps : Paths) → other ≢ node → slice_index_or (slice_set lists node ps) other [] ≡ slice_index_or lists other []
set_there [] node other ps ne = refl
set_there (l ∷ lists) zero zero ps ne = absurd (ne refl)
set_there (l ∷ lists) zero (suc other) ps ne = refl
set_there (l ∷ lists) (suc node) zero ps ne = refl
set_there (l ∷ lists) (suc node) (suc other) ps ne = set_there lists node other ps (λ e. ne (ap suc e))

-- a list has more than it had
pub put_all : (lists : List Paths) (node : ℕ) (ps : Paths) → node < length lists → ((p : List ℕ) → Has (slice_index_or lists node []) p → Has ps p)
    → (other : ℕ) (p : List ℕ) → Has (slice_index_or lists other []) p → Has (slice_index_or (slice_set lists node ps) other []) p
put_all lists node ps within more other p has = go (cases_eq other node)
  where
    go : (other ≡ node) ⊎ (other ≡ node → ⊥) → Has (slice_index_or (slice_set lists node ps) other []) p
    go (inl e) = subst (λ n. Has (slice_index_or (slice_set lists node ps) n []) p) (sym e) (subst (λ xs. Has xs p) (sym (set_here lists node ps within)) (more p (subst (λ n. Has (slice_index_or lists n []) p) e has)))
    go (inr ne) = subst (λ xs. Has xs p) (sym (set_there lists node other ps ne)) has

-- all but one path are still in the list of their node
pub taken_out : (lists : List Paths) (node : ℕ) (ps : Paths) (q : List ℕ) → node < length lists → ((p : List ℕ) → p ≢ q → Has (slice_index_or lists node []) p → Has ps p)
    → (other : ℕ) (p : List ℕ) → p ≢ q → Has (slice_index_or lists other []) p → Has (slice_index_or (slice_set lists node ps) other []) p
taken_out lists node ps q within more other p ne has = go (cases_eq other node)
  where
    go : (other ≡ node) ⊎ (other ≡ node → ⊥) → Has (slice_index_or (slice_set lists node ps) other []) p
    go (inl e) = subst (λ n. Has (slice_index_or (slice_set lists node ps) n []) p) (sym e) (subst (λ xs. Has xs p) (sym (set_here lists node ps within)) (more p ne (subst (λ n. Has (slice_index_or lists n []) p) e has)))
    go (inr away) = subst (λ xs. Has xs p) (sym (set_there lists node other ps away)) has
