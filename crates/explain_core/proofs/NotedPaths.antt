-- Notes as a map of the library keeps them, in the order of paths.
use Rattle.std.proofs.Common.{◌≡◌, ℕ, ◌==◌, Bool, true, false, cond, if◌then◌else◌, List, [], ◌∷◌, Option, Some, None, refl, sym, ap, ◌∙◌}
use Rattle.std.specs.Ordering.{is_eq, nat_cmp}
use Rattle.std.specs.Cmp.{both_tied, unsigned_ties}
use Rattle.std.specs.Cmp.Lexicographic.{slice_cmp}
use Rattle.std.specs.declared.cmp.Ordering.{Ordering}
use Rattle.std.specs.Prelude.{Vec}
use Rattle.std.specs.declared.alloc.Global.{Global}
use Rattle.std.specs.BTreeMap.{BTreeMap, UpdatesBy, is_at}
use Rattle.std.specs.Map.{lookup}
use Rattle.arrayvec.specs.ArrayVec.{ArrayVec}
use Rattle.event_laws.specs.OwnEvents.{is_same_path}
use Rattle.explain_core.specs.declared.lineage.Link.{Link}
use Rattle.explain_core.specs.Notes.{Notes, Puts, note_at}
use Rattle.explain_core.proofs.TurnsAt.{other_path}

abbrev pub path_cmp : ArrayVec ℕ → ArrayVec ℕ → Ordering
path_cmp p q = slice_cmp nat_cmp p.items q.items

-- the test of paths is that of the order
pub path_test : (p q : List ℕ) → is_same_path p q ≡ is_eq (slice_cmp nat_cmp p q)
path_test [] [] = refl
path_test [] (m ∷ q) = refl
path_test (n ∷ p) [] = refl
path_test (n ∷ p) (m ∷ q) = both_tied (n == m) (is_same_path p q) (nat_cmp n m) (slice_cmp nat_cmp p q) (unsigned_ties n m) (path_test p q)

abbrev pub links_in : Option (Vec Link Global) → List Link
links_in None = []
links_in (Some v) = v.items

-- what a map has at a path
note_is : (ns : Notes) (k : ArrayVec ℕ) → note_at ns k.items ≡ links_in (lookup (is_at (path_cmp k)) ns)
note_is [] k = refl
note_is (n ∷ ns) k = ap (λ b. if b then n.1.items else note_at ns k.items) (path_test k.items n.0.items) ∙ go (is_eq (path_cmp k n.0)) (note_is ns k)
  where
    go : (b : Bool) → note_at ns k.items ≡ links_in (lookup (is_at (path_cmp k)) ns) → (if b then n.1.items else note_at ns k.items) ≡ links_in (cond b (Some n.1) (lookup (is_at (path_cmp k)) ns))
    go true rest = refl
    go false rest = rest

pub links_there : (ns : Notes) (k : ArrayVec ℕ) (o : Option (Vec Link Global)) → o ≡ lookup (is_at (path_cmp k)) ns → links_in o ≡ note_at ns k.items
links_there ns k o is = ap links_in is ∙ sym (note_is ns k)

-- a map that changed at one path alone
module _ (m n : BTreeMap (ArrayVec ℕ) (Vec Link Global)) (k : ArrayVec ℕ) (v : Vec Link Global) (updates : UpdatesBy path_cmp (path_cmp k) m n (Some v)) where
  pub puts : Puts k.items v.items m.entries n.entries
  puts = record {
    here = note_is n.entries k ∙ ap links_in updates.1;
    others = λ q away.
        let key : ArrayVec ℕ = record { items = q } in
        note_is n.entries key ∙ ap links_in (updates.2 key (sym (path_test k.items q) ∙ other_path k.items q (λ e. away (sym e)))) ∙ sym (note_is m.entries key);
  }
