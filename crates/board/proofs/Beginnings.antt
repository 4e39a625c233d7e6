-- The first lists of a board: all paths of a tree at which an event may happen, child by child.
use Rattle.std.proofs.Common.{◌≡◌, ℕ, suc, zero, pred, ◌+◌, ◌-◌, ◌==◌, ◌≤◌, true, false, cond, List, [], ◌∷◌, ◌++◌, length, take, Some, None, ◌⊎◌, inl, inr, refl, sym, ap, ◌∙◌, subst, arith}
use Rattle.std.proofs.lemmas.Bool.Decides.{nat_tests}
use Rattle.std.proofs.lemmas.Bool.{cases_eq}
use Rattle.std.specs.Prelude.{slice_get}
use Rattle.std.proofs.lemmas.Option.{slice_get_within, get_or_from_slice_get}
use Rattle.std.proofs.lemmas.List.{take_all, take_more}
use Rattle.space_model.specs.Space.{Space, space, Children, none, child, children_of, find}
use Rattle.space_model.specs.Sound.{IsSoundAt}
use Rattle.space_model.proofs.Sound.{no_child, found_sound}
use Rattle.run_model.specs.Schedule.{on_child, is_enabled}
use Rattle.space_tree.specs.Kept.{numbers_of}
use Rattle.det_laws.proofs.Commutes.{child_there}
use Rattle.path_set.specs.Paths.{Paths, Has}
use Rattle.space_model.specs.Space.{Top}
use Rattle.run_model.proofs.Calls.{call_enabled}
use Rattle.det_laws.proofs.Near.{local_enabled}
use Rattle.board.specs.declared.job.Out.{Out}
use Rattle.board.specs.Jobs.{Slots, out_at}
use Rattle.board.specs.Runs.{Runs, HasRun}
use Rattle.board.specs.Listed.{IsListed, HasAll, IsSoundSomewhere, HasEnabled, HasEnabledBelow}

-- a number is one of these
abbrev pub IsIn : List ℕ → ℕ → Type 0
IsIn [] n = ⊥
IsIn (m ∷ ms) n = (n ≡ m) ⊎ IsIn ms n

split_in : (ms : List ℕ) (m n : ℕ) → IsIn (ms ++ m ∷ []) n → IsIn ms n ⊎ (n ≡ m)
split_in [] m n (inl e) = inr e
split_in [] m n (inr has) = absurd has
split_in (k ∷ ms) m n (inl e) = inl (inl e)
split_in (k ∷ ms) m n (inr later) = go (split_in ms m n later)
  where
    go : IsIn ms n ⊎ (n ≡ m) → IsIn (k ∷ ms) n ⊎ (n ≡ m)
    go (inl has) = inl (inr has)
    go (inr e) = inr e

-- each child has its number among those of all
found_in : (n : ℕ) (cs : Children) (c : Space) → find n cs ≡ Some c → IsIn (numbers_of cs) n
found_in n none c is = cc
found_in n (child m d rest) c is = go (cases_eq n m) (λ later. found_in n rest c later)
  where
    go : (n ≡ m) ⊎ (n ≡ m → ⊥) → (find n rest ≡ Some c → IsIn (numbers_of rest) n) → IsIn (numbers_of (child m d rest)) n
    go (inl e) rec = inl e
    go (inr ne) rec =
        let other : (n == m) ≡ false = grind (arith, nat_tests) in
        inr (rec (sym (ap (λ b. cond b (Some d) (find n rest)) other) ∙ is))

-- one more child was gone through
pub one_more_child : (run calls more_run more_calls : List ℕ → Type 0) (q : List ℕ) (levels : ℕ) (s : Space) (ms : List ℕ) (m : ℕ)
    → ((n : ℕ) → IsIn ms n → HasEnabledBelow run q levels n s × HasEnabledBelow calls q levels n s) → HasAll more_run run → HasAll more_calls calls
    → HasEnabledBelow more_run q levels m s × HasEnabledBelow more_calls q levels m s
    → (n : ℕ) → IsIn (ms ++ m ∷ []) n → HasEnabledBelow more_run q levels n s × HasEnabledBelow more_calls q levels n s
one_more_child run calls more_run more_calls q levels s ms m so_far all_run all_calls here n in' = go (split_in ms m n in')
  where
    go : IsIn ms n ⊎ (n ≡ m) → HasEnabledBelow more_run q levels n s × HasEnabledBelow more_calls q levels n s
    go (inl has) = (λ p may. all_run (q ++ n ∷ p) ((so_far n has).0 p may), λ p may. all_calls (q ++ n ∷ p) ((so_far n has).1 p may))
    go (inr e) = subst (λ k. HasEnabledBelow more_run q levels k s × HasEnabledBelow more_calls q levels k s) (sym e) here

pub next_child : (run calls more_run more_calls : List ℕ → Type 0) (q : List ℕ) (levels : ℕ) (s : Space) (ms : List ℕ) (i m : ℕ) → slice_get ms i ≡ Some m
    → ((n : ℕ) → IsIn (take i ms) n → HasEnabledBelow run q levels n s × HasEnabledBelow calls q levels n s) → HasAll more_run run → HasAll more_calls calls
    → HasEnabledBelow more_run q levels m s × HasEnabledBelow more_calls q levels m s
    → (n : ℕ) → IsIn (take (i + 1) ms) n → HasEnabledBelow more_run q levels n s × HasEnabledBelow more_calls q levels n s
next_child run calls more_run more_calls q levels s ms i m is so_far all_run all_calls here n in' =
    let within = slice_get_within ms i m is in
    let next : take (i + 1) ms ≡ take i ms ++ m ∷ [] = take_more ms i m within ∙ ap (λ x. take i ms ++ x ∷ []) (get_or_from_slice_get ms i m m is) in
    one_more_child run calls more_run more_calls q levels s (take i ms) m so_far all_run all_calls here n (subst (λ xs. IsIn xs n) next in')

-- all children were gone through
pub all_children : (ps : List ℕ → Type 0) (q : List ℕ) (levels : ℕ) (s : Space) → ps q → ((n : ℕ) → IsIn (numbers_of (children_of s)) n → HasEnabledBelow ps q levels n s) → HasEnabled ps q levels s
all_children ps q levels s own each [] may = subst ps (append-nil_of q) own
  where
    append-nil_of : (q : List ℕ) → q ≡ q ++ []
    append-nil_of [] = refl
    append-nil_of (n ∷ q) = ap (λ x. n ∷ x) (append-nil_of q)
all_children ps q levels s own each (n ∷ p) may =
    let c = child_there (is_enabled p (pred levels)) (find n (children_of s)) may in
    each n (found_in n (children_of s) c.0 c.1) p may

-- a missing child has none
pub missing_child : (ps : List ℕ → Type 0) (q : List ℕ) (levels n : ℕ) (s : Space) → find n (children_of s) ≡ None → HasEnabledBelow ps q levels n s
missing_child ps q levels n s away p may =
    let c = child_there (is_enabled p (pred levels)) (find n (children_of s)) may in
    let there = c.1 in
    cc

one_less : (n : ℕ) → pred (suc n) ≡ suc n - 1
one_less n = omega arith

-- a child has one level fewer, and is as sound
pub child_levels : (levels n : ℕ) (s c : Space) → IsSoundSomewhere levels s → find n (children_of s) ≡ Some c → (1 ≤ levels) × IsSoundSomewhere (levels - 1) c
child_levels zero n (space t cs) c sound is = let away = no_child sound.1 0 n cs sound.2.1 in cc
child_levels (suc levels) n (space t cs) c sound is = (omega arith, (false, sound.1, subst (λ k. IsSoundAt k false sound.1 c) (one_less levels) (found_sound (suc levels) sound.1 n cs sound.2.1 c is)))

pub below_child : (ps : List ℕ → Type 0) (q below : List ℕ) (levels lower n : ℕ) (s c : Space) → find n (children_of s) ≡ Some c → below ≡ q ++ n ∷ [] → lower ≡ pred levels → HasEnabled ps below lower c → HasEnabledBelow ps q levels n s
below_child ps q below levels lower n s c found is fewer all p may =
    let inner : is_enabled p (pred levels) c ≡ true = sym (ap (on_child (is_enabled p (pred levels))) found) ∙ may in
    let here : ps (below ++ p) = all p (subst (λ k. is_enabled p k c ≡ true) (sym fewer) inner) in
    subst ps (ap (λ x. x ++ p) is ∙ shift q n p) here
  where
    shift : (q : List ℕ) (n : ℕ) (p : List ℕ) → (q ++ n ∷ []) ++ p ≡ q ++ n ∷ p
    shift [] n p = refl
    shift (m ∷ q) n p = ap (λ x. m ∷ x) (shift q n p)

pub both_lists : (run calls : List ℕ → Type 0) (q : List ℕ) (levels : ℕ) (s : Space) (cs : Children) (t : Top) (numbers : List ℕ) (i : ℕ) → length numbers ≤ i → space t cs ≡ s → numbers ≡ numbers_of cs → run q × calls q
    → ((n : ℕ) → IsIn (take i numbers) n → HasEnabledBelow run q levels n s × HasEnabledBelow calls q levels n s) → HasEnabled run q levels s × HasEnabled calls q levels s
both_lists run calls q levels s cs t numbers i past view told own each =
    let all : take i numbers ≡ numbers_of (children_of s) = take_all i numbers past ∙ told ∙ ap (λ x. numbers_of (children_of x)) view in
    let at = λ (n : ℕ) (in' : IsIn (numbers_of (children_of s)) n). each n (subst (λ xs. IsIn xs n) (sym all) in') in
    (all_children run q levels s own.0 (λ n in'. (at n in').0), all_children calls q levels s own.1 (λ n in'. (at n in').1))

-- a board that begins has listed what its tree has
pub begun_listed : (tree : Space) (run : Runs) (calls news : Paths) (out : Slots) (q : List ℕ) → q ≡ [] → HasEnabled (HasRun run) q 8 tree × HasEnabled (Has calls) q 8 tree → news ≡ [] → out ≡ [] → IsListed tree run calls news out
begun_listed tree run calls news out q start all no_news no_jobs = record {
  running = λ p goes. inl (subst (λ x. HasRun run (x ++ p)) start (all.0 p (local_enabled p 8 tree goes)));
  meeting = λ p k may. inl (subst (λ x. Has calls (x ++ p)) start (all.1 p (call_enabled p 8 tree k may)));
  goes = λ p is_out. absurd (none_at is_out.0 is_out.1.0 is_out.1.1);
  apart = λ i j o r at_i at_j same. absurd (none_at i o at_i);
}
  where
    none_at : (slot : ℕ) (o : Out) → out_at out slot ≡ Some o → ⊥
    none_at slot o is = let empty : out_at [] slot ≡ Some o = ap (λ xs. out_at xs slot) (sym no_jobs) ∙ is in nothing slot o empty
      where
        nothing : (slot : ℕ) (o : Out) → out_at [] slot ≡ Some o → ⊥
        nothing slot o is = cc
