-- Where spaces stand once one has gone, come home or left.
use Rattle.std.proofs.Common.{◌≤◌, ◌/◌, ◌≡◌, ◌≢◌, ℕ, ◌==◌, ◌<◌, Bool, true, false, if◌then◌else◌, List, [], ◌∷◌, length, refl, sym, ap, ◌∙◌, arith, subst, true≢false}
use native.Mathlib.Nat.{mod-lt}
use Rattle.std.proofs.lemmas.Bool.Decides.{nat_tests}
use Rattle.std.specs.Prelude.{Option, Some, None, slice_get, IsSome, is_some, IfSome}
use Rattle.std.specs.Ordering.{is_eq, nat_cmp, match_ordering}
use Rattle.std.specs.Cmp.Lexicographic.{slice_cmp}
use Rattle.std.specs.declared.cmp.Ordering.{Ordering}
use Rattle.std.specs.declared.cmp.Ordering.TheVariants.{Less, Equal, Greater}
use Rattle.std.specs.BTreeMap.{BTreeMap, UpdatesBy, get}
use Rattle.std.specs.BTreeMap.Range.{IsRangeOf, IsEntryInRange, IsLeBy}
use Rattle.std.specs.declared.ops.Bound.TheVariants.{Included, Unbounded}
use Rattle.arrayvec.specs.ArrayVec.{ArrayVec}
use Rattle.node_places.specs.Places.{Places, place_of, AreNodes, HasGone, IsAbove, StandsAlike, away_in, away_then, gone_to, home, is_path, listed, or_home, put, rewritten, without}
use Rattle.node_places.proofs.Paths.{Entries, path_cmp, path_test, path_is, is_itself, apart, listed_is, above_before, between_below}

abbrev pub Map : Type 0
Map = BTreeMap (ArrayVec ℕ) ℕ

abbrev pub key : List ℕ → ArrayVec ℕ
key p = record { items = p }

abbrev pub seen : ℕ → Map → Places
seen nodes m = record { nodes = nodes; away = away_in m.entries }

-- a map that changed at one path alone
module _ (m n : Map) (k : ArrayVec ℕ) (w : Option ℕ) (updates : UpdatesBy path_cmp (path_cmp k) m n w) where
  pub listed_here : listed (away_in n.entries) k.items ≡ w
  listed_here = listed_is n.entries k ∙ updates.1

  pub listed_there : (q : List ℕ) → q ≢ k.items → listed (away_in n.entries) q ≡ listed (away_in m.entries) q
  listed_there q other =
      listed_is n.entries (key q) ∙ updates.2 (key q) (sym (path_test k.items q) ∙ apart k.items q (λ e. other (sym e))) ∙ sym (listed_is m.entries (key q))

  pub gone : (nodes : ℕ) → HasGone k.items (or_home w (home nodes k.items)) (seen nodes m) (seen nodes n)
  gone nodes = record {
    here = ap (λ o. or_home o (home nodes k.items)) listed_here;
    others = λ q other. ap (λ o. or_home o (home nodes q)) (listed_there q other);
    nodes = refl;
  }

  pub still_nodes : (nodes : ℕ) → ((node : ℕ) → w ≡ Some node → node < nodes) → AreNodes (seen nodes m) → AreNodes (seen nodes n)
  still_nodes nodes fits are = record { some = are.some; below = λ p node is. by_path (is_path p k.items) p refl node is }
    where
      by_path : (b : Bool) (p : List ℕ) → is_path p k.items ≡ b → (node : ℕ) → listed (away_in n.entries) p ≡ Some node → node < nodes
      by_path true p here node is = fits node (sym listed_here ∙ ap (listed (away_in n.entries)) (sym (path_is p k.items here)) ∙ is)
      by_path false p there node is =
          are.below p node (sym (listed_there p (λ e. true≢false (sym (is_itself k.items) ∙ ap (λ r. is_path r k.items) (sym e) ∙ there))) ∙ is)

-- a path that is not listed: writing or taking out changes nothing
pub unlisted_rewritten : (xs : List (List ℕ × ℕ)) (p : List ℕ) (node : ℕ) → listed xs p ≡ None → rewritten xs p node ≡ xs
unlisted_rewritten [] p node h = refl
unlisted_rewritten (x ∷ xs) p node h = go (is_path p x.0) h (λ rest. unlisted_rewritten xs p node rest)
  where
    go : (b : Bool) → (if b then Some x.1 else listed xs p) ≡ None → (listed xs p ≡ None → rewritten xs p node ≡ xs) → (if b then (x.0, node) ∷ xs else x ∷ rewritten xs p node) ≡ x ∷ xs
    go true h rec = cc
    go false h rec = ap (λ ys. x ∷ ys) (rec h)

unlisted_without : (xs : List (List ℕ × ℕ)) (p : List ℕ) → listed xs p ≡ None → without xs p ≡ xs
unlisted_without [] p h = refl
unlisted_without (x ∷ xs) p h = go (is_path p x.0) h (λ rest. unlisted_without xs p rest)
  where
    go : (b : Bool) → (if b then Some x.1 else listed xs p) ≡ None → (listed xs p ≡ None → without xs p ≡ xs) → (if b then xs else x ∷ without xs p) ≡ x ∷ xs
    go true h rec = cc
    go false h rec = ap (λ ys. x ∷ ys) (rec h)

-- what was listed, written back, is there again
listed_again : (xs : List (List ℕ × ℕ)) (p : List ℕ) (node before : ℕ) → listed xs p ≡ Some before → rewritten (rewritten xs p node) p before ≡ xs
listed_again [] p node before h = cc
listed_again (x ∷ xs) p node before h = go (is_path p x.0) refl h (λ rest. listed_again xs p node before rest)
  where
    go : (b : Bool) → is_path p x.0 ≡ b → (if b then Some x.1 else listed xs p) ≡ Some before → (listed xs p ≡ Some before → rewritten (rewritten xs p node) p before ≡ xs)
        → rewritten (if b then (x.0, node) ∷ xs else x ∷ rewritten xs p node) p before ≡ x ∷ xs
    go true is h rec = let same : x.1 ≡ before = cc in ap (λ b. if b then (x.0, before) ∷ xs else (x.0, node) ∷ rewritten xs p before) is ∙ ap (λ n. (x.0, n) ∷ xs) (sym same)
    go false is h rec = ap (λ b. if b then (x.0, before) ∷ rewritten xs p node else x ∷ rewritten (rewritten xs p node) p before) is ∙ ap (λ ys. x ∷ ys) (rec h)

-- and what was put in, taken out
put_without : (xs : List (List ℕ × ℕ)) (p : List ℕ) (node : ℕ) → listed xs p ≡ None → without (put xs p node) p ≡ xs
put_without [] p node h = ap (λ b. if b then [] else (p, node) ∷ []) (is_itself p)
put_without (x ∷ xs) p node h = go (slice_cmp nat_cmp p x.0) refl (is_path p x.0) refl (path_test p x.0) h (λ rest. put_without xs p node rest)
  where
    go : (o : Ordering) → slice_cmp nat_cmp p x.0 ≡ o → (b : Bool) → is_path p x.0 ≡ b → is_path p x.0 ≡ is_eq (slice_cmp nat_cmp p x.0) → (if b then Some x.1 else listed xs p) ≡ None
        → (listed xs p ≡ None → without (put xs p node) p ≡ xs) → without (match_ordering o ((p, node) ∷ x ∷ xs) ((x.0, node) ∷ xs) (x ∷ put xs p node)) p ≡ x ∷ xs
    go o is true it test h rec = cc
    go Less is false it test h rec = ap (λ b. if b then x ∷ xs else (p, node) ∷ without (x ∷ xs) p) (is_itself p)
    go Equal is false it test h rec = absurd (true≢false (sym (ap is_eq is) ∙ sym test ∙ it))
    go Greater is false it test h rec = ap (λ b. if b then put xs p node else x ∷ without (put xs p node) p) it ∙ ap (λ ys. x ∷ ys) (rec h)

-- a `go` undone, by what was listed before it
pub undone_listed : (first : Places) (p : List ℕ) (node before : ℕ) → listed first.away p ≡ Some before → rewritten (gone_to first p node).away p before ≡ first.away
undone_listed first p node before h = ap (λ o. rewritten (away_then o first p node) p before) h ∙ listed_again first.away p node before h

pub undone_unlisted : (first : Places) (p : List ℕ) (node : ℕ) → listed first.away p ≡ None → without (gone_to first p node).away p ≡ first.away
undone_unlisted first p node h = ap (λ o. without (away_then o first p node) p) h ∙ go (node == home first.nodes p)
  where
    go : (b : Bool) → without (if b then first.away else put first.away p node) p ≡ first.away
    go true = unlisted_without first.away p h
    go false = put_without first.away p node h

abbrev pub listing : Places → List (List ℕ × ℕ) → Places
listing s xs = record { nodes = s.nodes; away = xs }

-- what `go` leaves of a path that was not listed and leaves its home
pub to_away : (s : Places) (p : List ℕ) (node : ℕ) → listed s.away p ≡ None → node ≢ home s.nodes p → listing s (put s.away p node) ≡ gone_to s p node
to_away s p node h other =
    let elsewhere : (node == home s.nodes p) ≡ false = grind (arith, nat_tests) in
    ap (λ b. listing s (if b then s.away else put s.away p node)) (sym elsewhere) ∙ ap (λ o. listing s (away_then o s p node)) (sym h)

-- the list is shorter without a path that is listed
pub without_less : (xs : List (List ℕ × ℕ)) (p : List ℕ) → IsSome (listed xs p) → length (without xs p) < length xs
without_less [] p h = absurd (true≢false (sym h))
without_less (x ∷ xs) p h = go (is_path p x.0) h (λ rest. without_less xs p rest)
  where
    go : (b : Bool) → IsSome (if b then Some x.1 else listed xs p) → (IsSome (listed xs p) → length (without xs p) < length xs) → length (if b then xs else x ∷ without xs p) < length (x ∷ xs)
    go true h rec = omega arith
    go false h rec = let less = rec h in omega arith

-- what is listed is a node
pub listed_below : (s : Places) (p : List ℕ) (o : Option ℕ) → AreNodes s → o ≡ listed s.away p → IfSome o (λ node. node < s.nodes)
listed_below s p None are is = tt
listed_below s p (Some node) are is = are.below p node (sym is)

-- one that has gone has gone, wherever the list is settled after it
pub gone_settled : (p : List ℕ) (node : ℕ) (old new last : Places) → HasGone p node old new → StandsAlike new last → HasGone p node old last
gone_settled p node old new last has alike = record {
  here = alike.places p ∙ has.here;
  others = λ q other. alike.places q ∙ has.others q other;
  nodes = alike.nodes ∙ has.nodes;
}

-- what the first entry of a map at a path or behind it says of those below the path
module _ (m : Map) (p : ArrayVec ℕ) (r : Entries) (range : IsRangeOf path_cmp (Included p) Unbounded m r) where
  pub first_listed : (k : ArrayVec ℕ) (node : ℕ) (others : Entries) → r ≡ (k, node) ∷ others → IsSome (listed (away_in m.entries) k.items)
  first_listed k node others is =
      let first = subst (λ es. IfSome (slice_get es 0) (IsEntryInRange path_cmp (Included p) Unbounded m)) is range.1 in
      ap is_some (listed_is m.entries k ∙ first.1)

  pub none_below : (k : ArrayVec ℕ) (node : ℕ) (others : Entries) → r ≡ (k, node) ∷ others → (IsAbove p.items k.items → ⊥) → (q : List ℕ) → IsAbove p.items q → listed (away_in m.entries) q ≡ None
  none_below k node others is not q above =
      let first = subst (λ es. IfSome (slice_get es 0) (IsEntryInRange path_cmp (Included p) Unbounded m)) is range.1 in
      go (get path_cmp m (key q)) refl first.0.0 (λ some. subst (λ es. IfSome (slice_get es 0) (λ e. IsLeBy path_cmp e.0 (key q))) is (range.2 (key q) (above_before p.items q above, tt) some))
    where
      go : (o : Option ℕ) → get path_cmp m (key q) ≡ o → IsLeBy path_cmp p k → (IsSome (get path_cmp m (key q)) → IsLeBy path_cmp k (key q)) → listed (away_in m.entries) q ≡ None
      go None e from upto = listed_is m.entries (key q) ∙ e
      go (Some v) e from upto = absurd (not (between_below p.items k.items q from (upto (ap is_some e)) above))

  pub none_behind : r ≡ [] → (q : List ℕ) → IsAbove p.items q → listed (away_in m.entries) q ≡ None
  none_behind is q above = listed_is m.entries (key q) ∙ range.5 is (key q) (above_before p.items q above, tt)

-- a path without an entry
pub none_some : {X : Type 0} (o : Option ℕ) → o ≡ None → IsSome o → X
none_some None is some = absurd (true≢false (sym some))
none_some (Some n) is some = absurd (true≢false (sym some ∙ ap is_some is))

pub none_of : (o : Option ℕ) → is_some o ≡ false → o ≡ None
none_of None h = refl
none_of (Some n) h = absurd (true≢false h)

-- the home of a space is one of the nodes
home_below : (nodes : ℕ) (p : List ℕ) → 1 ≤ nodes → home nodes p < nodes
home_below nodes [] some = omega (arith, some)
home_below nodes (n ∷ []) some = mod-lt (n / 256) some
home_below nodes (n ∷ m ∷ p) some = home_below nodes (m ∷ p) some

-- and so is the node on which it stands
pub place_below : (s : Places) (p : List ℕ) → AreNodes s → place_of s p < s.nodes
place_below s p are = go (listed s.away p) refl
  where
    go : (o : Option ℕ) → listed s.away p ≡ o → or_home o (home s.nodes p) < s.nodes
    go None is = home_below s.nodes p are.some
    go (Some node) is = are.below p node is
