-- What a map has at a path, and what a list watches there.
use Rattle.std.proofs.Common.{◌≡◌, ℕ, Bool, true, false, cond, if◌then◌else◌, List, [], ◌∷◌, ◌++◌, Option, Some, None, refl, sym, ap, ◌∙◌}
use Rattle.std.specs.Ordering.{is_eq}
use Rattle.std.specs.BTreeMap.{BTreeMap, UpdatesBy, is_at}
use Rattle.std.specs.Map.{lookup}
use Rattle.std.specs.Prelude.{IfSome}
use Rattle.arrayvec.specs.ArrayVec.{ArrayVec}
use Rattle.space_model.specs.Space.{Space}
use Rattle.explain_core.specs.declared.watching.Watched.{Watched}
use Rattle.explain_core.specs.declared.watching.Watched.TheVariants.{Byte, Register}
use Rattle.explain_core.specs.Notes.{Follows, GoesOnTelling, Notes, TellsAll}
use Rattle.explain_core.specs.WatchList.{Wanted, entry_at, from_above, itself, watched_at, watched_from}
use Rattle.explain_core.proofs.NotedPaths.{path_cmp, path_test}
use Rattle.explain_core.proofs.TurnsAt.{other_path}

module _ {V : Type 0} where
  -- what a map has at a path
  entry_is : (ns : List (ArrayVec ℕ × V)) (k : ArrayVec ℕ) → entry_at ns k.items ≡ lookup (is_at (path_cmp k)) ns
  entry_is [] k = refl
  entry_is (n ∷ ns) k = ap (λ b. if b then Some n.1 else entry_at ns k.items) (path_test k.items n.0.items) ∙ go (is_eq (path_cmp k n.0)) (entry_is ns k)
    where
      go : (b : Bool) → entry_at ns k.items ≡ lookup (is_at (path_cmp k)) ns → (if b then Some n.1 else entry_at ns k.items) ≡ cond b (Some n.1) (lookup (is_at (path_cmp k)) ns)
      go true rest = refl
      go false rest = rest

  pub entry_there : (ns : List (ArrayVec ℕ × V)) (k : ArrayVec ℕ) (o : Option V) → o ≡ lookup (is_at (path_cmp k)) ns → o ≡ entry_at ns k.items
  entry_there ns k o is = is ∙ sym (entry_is ns k)

  -- a map that changed at one path alone
  module _ (m n : BTreeMap (ArrayVec ℕ) V) (k : ArrayVec ℕ) (v : V) (updates : UpdatesBy path_cmp (path_cmp k) m n (Some v)) where
    pub entry_here : entry_at n.entries k.items ≡ Some v
    entry_here = entry_is n.entries k ∙ updates.1

    pub entry_elsewhere : (q : List ℕ) → (q ≡ k.items → ⊥) → entry_at n.entries q ≡ entry_at m.entries q
    entry_elsewhere q away =
        let key : ArrayVec ℕ = record { items = q } in
        entry_is n.entries key ∙ updates.2 key (sym (path_test k.items q) ∙ other_path k.items q (λ e. away (sym e))) ∙ sym (entry_is m.entries key)

-- ---- what is watched below a byte that is

byte_below : (ws : Wanted) (rest p : List ℕ) (n a : ℕ) → watched_from ws p rest ≡ Byte a → watched_from ws p (rest ++ n ∷ []) ≡ Byte a
byte_below ws [] p n a is = by_entry (entry_at ws p) is
  where
    by_entry : (o : Option Watched) → itself o ≡ Byte a → from_above o (watched_from ws (p ++ n ∷ []) []) ≡ Byte a
    by_entry None is = cc
    by_entry (Some (Byte b)) is = is
    by_entry (Some (Register r)) is = cc
byte_below ws (m ∷ rest) p n a is = by_entry (entry_at ws p) (byte_below ws rest (p ++ m ∷ []) n a) is
  where
    by_entry : (o : Option Watched) → (watched_from ws (p ++ m ∷ []) rest ≡ Byte a → watched_from ws (p ++ m ∷ []) (rest ++ n ∷ []) ≡ Byte a) → from_above o (watched_from ws (p ++ m ∷ []) rest) ≡ Byte a
        → from_above o (watched_from ws (p ++ m ∷ []) (rest ++ n ∷ [])) ≡ Byte a
    by_entry None below is = below is
    by_entry (Some (Byte b)) below is = is
    by_entry (Some (Register r)) below is = below is

pub follows : (ws : Wanted) → Follows (watched_at ws)
follows ws p n a is = byte_below ws p [] n a is

-- a turn at a path tells on of every path, by what the list watches
pub goes_on_listed : (o : Option Bool) (ws : Wanted) (p : List ℕ) (w : Watched) (old new : Notes) (s now : Space) → w ≡ watched_at ws p → IfSome o (λ _. GoesOnTelling p w old new s now)
    → IfSome o (λ _. (root : Space) → TellsAll root (watched_at ws) old s → TellsAll root (watched_at ws) new now)
goes_on_listed None ws p w old new s now is goes = tt
goes_on_listed (Some b) ws p w old new s now is goes = λ root a. goes root (watched_at ws) (follows ws) (sym is) a
