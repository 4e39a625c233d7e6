-- Children that settle one after another, by their numbers.
use Rattle.std.proofs.Common.{◌≡◌, ℕ, zero, suc, pred, ◌+◌, ◌≤◌, ◌<◌, Bool, false, List, [], ◌∷◌, map, length, get_or, drop, refl, sym, ap, ◌∙◌, subst, drop-cons, add-one}
use Rattle.std.proofs.lemmas.List.{drop_all}
use Rattle.std.specs.declared.boxed.Box.{Box}
use Rattle.std.specs.declared.alloc.Global.{Global}
use Rattle.space_model.specs.Space.{Space, space, Top, Children, none, child, top_of, children_of, over}
use Rattle.space_model.specs.Sound.{IsSoundAt, AreSound}
use Rattle.space_model.specs.Path.{under}
use Rattle.space_model.specs.declared.Reach.TheVariants.{Whole}
use Rattle.space_model.proofs.Sound.{over_sound, no_children}
use Rattle.run_model.specs.Demand.{Meaning, wait_for, everyone, settle, run, meaning, no_events, of_children}
use Rattle.run_model.proofs.Run.{wait_for-first}
use Rattle.run_model.proofs.Sound.{run_sound, settle_sound}
use Rattle.space_tree.specs.Kept.{children_in}
use Rattle.demand_eval.specs.Turns.{IsSoundBelow, numbers_of, with_everyone}

-- the children of these numbers become f of them, one after another
abbrev pub over_all : (Space → Space) → List ℕ → Space → Space
over_all f [] s = s
over_all f (n ∷ ns) s = over_all f ns (under (over n f) s)

-- one more is done
pub over_all-more : (f : Space → Space) (ns : List ℕ) (i : ℕ) (s r : Space) → i < length ns → r ≡ under (over (get_or ns i 0) f) s → over_all f (drop (i + 1) ns) r ≡ over_all f (drop i ns) s
over_all-more f ns i s r h is = rw (is, add-one, drop-cons ns i 0) refl

-- and at the end all are
pub over_all-done : (f : Space → Space) (ns : List ℕ) (i : ℕ) (s : Space) → length ns ≤ i → over_all f (drop i ns) s ≡ s
over_all-done f ns i s h = let none : drop i ns ≡ [] = drop_all i ns h in rw none refl

-- as a map tells them
pub numbers_in : (es : List (ℕ × Box Space Global)) (ns : List ℕ) (cs : Children) → children_in es ≡ cs → ns ≡ map (λ e. e.0) es → ns ≡ numbers_of cs
numbers_in es ns cs is told = told ∙ sym (told_by es) ∙ ap numbers_of is
  where
    told_by : (fs : List (ℕ × Box Space Global)) → numbers_of (children_in fs) ≡ map (λ e. e.0) fs
    told_by [] = refl
    told_by (e ∷ fs) = ap (λ xs. e.0 ∷ xs) (told_by fs)

-- to wait for everyone is to wait for each by its number
wait_all : (f : Meaning) (t : Top) (cs ds : Children) → space t (wait_for f (everyone cs) ds).children ≡ over_all (λ c. (f Whole c).space) (numbers_of cs) (space t ds)
wait_all f t none ds = refl
wait_all f t (child n s rest) ds =
    ap (space t) (wait_for-first f (record { number = n; reach = Whole }) (everyone rest) ds) ∙ wait_all f t rest (over n (λ c. (f Whole c).space) ds)

-- the children of sound spaces, each of which settles
settles_at : (levels : ℕ) (root : Bool) (fuel : ℕ) (t : Top) (cs : Children) → IsSoundAt levels root fuel (space t cs)
    → over_all (λ c. (of_children levels Whole c).space) (numbers_of cs) (space t cs) ≡ over_all (settle (pred levels)) (numbers_of cs) (space t cs)
settles_at zero root fuel t cs ok = let empty : cs ≡ none = no_children fuel 0 cs ok.1 in rw empty refl
settles_at (suc levels) root fuel t cs ok = refl

everyone_settles : (levels : ℕ) (t : Top) (cs : Children) (ns : List ℕ) → IsSoundBelow levels (space t cs) → ns ≡ numbers_of cs → over_all (settle (pred levels)) ns (space t cs) ≡ with_everyone levels (space t cs)
everyone_settles levels t cs ns ok is =
    ap (λ xs. over_all (settle (pred levels)) xs (space t cs)) is ∙ sym (settles_at levels ok.root ok.fuel t cs ok.sound) ∙ sym (wait_all (of_children levels) t cs cs)

-- each child by its number
pub settled_all : (levels : ℕ) (t : Top) (s : Space) (cs : Children) (ns : List ℕ) → IsSoundBelow levels s → space t cs ≡ s → ns ≡ numbers_of cs → over_all (settle (pred levels)) ns s ≡ with_everyone levels s
settled_all levels t s cs ns ok is numbers =
    let here : IsSoundBelow levels (space t cs) = subst (IsSoundBelow levels) (sym is) ok in
    subst (λ x. over_all (settle (pred levels)) ns x ≡ with_everyone levels x) is (everyone_settles levels t cs ns here numbers)

-- a child that settles leaves its parent sound
pub one_settled : (levels n : ℕ) (s r : Space) → IsSoundBelow levels s → r ≡ under (over n (settle (pred levels))) s → IsSoundBelow levels r
one_settled levels n (space t cs) r ok is =
    let kept : AreSound levels ok.fuel 0 (over n (settle (pred levels)) cs) = over_sound levels ok.fuel 0 n (settle (pred levels)) cs ok.sound.1 (λ c at h. settle_sound (pred levels) false ok.fuel c h) in
    rw is (record { root = ok.root; fuel = ok.fuel; sound = (ok.sound.0, kept) })

everyone_after : (f : Meaning) (r : Space) → under (λ cs. (wait_for f (everyone cs) cs).children) r ≡ space (top_of r) (wait_for f (everyone (children_of r)) (children_of r)).children
everyone_after f (space t cs) = refl

-- a space that has run, and whose children have settled, has settled
pub run_then : (levels : ℕ) (s r q : Space) → r ≡ run levels s → q ≡ with_everyone levels r → q ≡ settle levels s
unfolding meaning
run_then zero s r q ran all = all ∙ ap (with_everyone zero) ran ∙ everyone_after no_events (run zero s)
run_then (suc levels) s r q ran all = all ∙ ap (with_everyone (suc levels)) ran ∙ everyone_after (meaning levels) (run (suc levels) s)

pub ran_sound : (levels : ℕ) (s r : Space) → IsSoundBelow levels s → r ≡ run levels s → IsSoundBelow levels r
ran_sound levels s r ok is = rw is (record { root = ok.root; fuel = ok.fuel; sound = run_sound levels ok.root ok.fuel s ok.sound })
