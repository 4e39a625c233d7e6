-- Which child a space in conflict has joined, and which child an event joins.
use Rattle.std.proofs.Common.{◌≡◌, ℕ, ◌^◌, ◌-◌, ◌<◌, Bool, true, false, List, [], ◌∷◌, ◌++◌, length, length-append, codes, Some, None, refl, sym, ap, ◌∙◌, subst, arith, inl}
use Rattle.std.proofs.lemmas.Bool.Decides.{nat_tests}
use Rattle.std.specs.Prelude.{nat_lt, slice_index}
use Rattle.call_model.specs.Limits.{greatest_depth}
use Rattle.memory_model.specs.Memory.{Memory, byte_at}
use Rattle.space_model.specs.Space.{Space, Top}
use Rattle.explain_core.specs.Beside.{child_of}
use Rattle.explain_core.specs.declared.watching.Watched.{Watched}
use Rattle.explain_core.specs.declared.watching.Watched.TheVariants.{Byte}
use Rattle.explain_core.specs.Watch.{Noted}
use Rattle.explain_core.specs.Joins.{child_path, is_join, joined_path}
use Rattle.explain_why.specs.Origin.{TellsOrigin}
use Rattle.explain_why.specs.Texts.{bytes_text, conflict_text}
use Rattle.explain_why.specs.Why.{ExplainsConflict, StandsAt, TellsConflict, all_events}
use Rattle.explain_why.proofs.Parts.{four_parts}

-- the child at q was joined
pub joined : (root end : Space) (p q : List ℕ) (parent same child : Top) (snapshot : Memory) (n address : ℕ) (text : List ℕ) → n ≡ slice_index parent.registers.x 11 → Some q ≡ child_path p n → same ≡ parent → StandsAt end q child snapshot
    → TellsConflict root p q same child snapshot address text → ExplainsConflict root end p parent address text
joined root end p q parent same child snapshot n address text number named is there tells =
    inl (q, child, snapshot, (sym (named ∙ ap (child_path p) number), there), subst (λ t. TellsConflict root p q t child snapshot address text) is tells)

-- all of it
pub conflict_told : (root : Space) (p q : List ℕ) (parent child : Top) (snapshot : Memory) (call address : ℕ) (head bytes child_side parent_side first second third text : List ℕ) → call ≡ slice_index parent.registers.x 17 → head ≡ conflict_text p call q address
    → bytes ≡ bytes_text (byte_at snapshot address) (byte_at child.memory address) (byte_at parent.memory address)
    → TellsOrigin root (Byte address) q all_events (byte_at child.memory address) (codes "child changed by") child_side → TellsOrigin root (Byte address) p all_events (byte_at parent.memory address) (codes "parent changed by") parent_side
    → first ≡ head → second ≡ first ++ bytes → third ≡ second ++ child_side → text ≡ third ++ parent_side → TellsConflict root p q parent child snapshot address text
conflict_told root p q parent child snapshot call address head bytes child_side parent_side first second third text number line row by_child by_parent a b c d = record {
  child_side = child_side;
  parent_side = parent_side;
  child_origin = by_child;
  parent_origin = by_parent;
  lines =
      four_parts first second third text (conflict_text p (slice_index parent.registers.x 17) q address) (bytes_text (byte_at snapshot address) (byte_at child.memory address) (byte_at parent.memory address)) child_side parent_side
      (a ∙ line ∙ ap (λ n. conflict_text p n q address) number) (b ∙ ap (λ v. first ++ v) row) c d;
}

-- its path by the number, which is one of a child, where a space can stand
child_numbered : (p q : List ℕ) (n : ℕ) → Some q ≡ child_path p n → (q ≡ child_of p n) × (n < 2 ^ 16) × (length p < greatest_depth)
child_numbered p q n named = by_tests (nat_lt n (2 ^ 16)) (nat_lt (length p) greatest_depth) refl refl
  where
    one : (x y : List ℕ) → Some x ≡ Some y → x ≡ y
    one x y e = cc

    by_tests : (b c : Bool) → nat_lt n (2 ^ 16) ≡ b → nat_lt (length p) greatest_depth ≡ c → (q ≡ child_of p n) × (n < 2 ^ 16) × (length p < greatest_depth)
    by_tests true true small deep = (one q (child_of p n) (named ∙ rw (small, deep) refl), grind (arith, nat_tests, small), grind (arith, nat_tests, deep))
    by_tests true false small deep = let none : Some q ≡ None = named ∙ rw (small, deep) refl in cc
    by_tests false c large deep = let none : Some q ≡ None = named ∙ rw large refl in cc

pub child_named : (p q : List ℕ) (n : ℕ) → Some q ≡ child_path p n → q ≡ child_of p n
child_named p q n named = (child_numbered p q n named).0

-- the child that an event joins: a1 is its number
pub joined_child : (p q : List ℕ) (w : Watched) (c : Noted) → joined_path p w c ≡ Some q → (q ≡ child_of p (slice_index c.registers.x 11)) × (slice_index c.registers.x 11 < 2 ^ 16) × (length p < greatest_depth)
joined_child p q w c is = child_numbered p q (slice_index c.registers.x 11) (by_test (is_join w c) refl)
  where
    by_test : (b : Bool) → is_join w c ≡ b → Some q ≡ child_path p (slice_index c.registers.x 11)
    by_test true joins = let here : joined_path p w c ≡ child_path p (slice_index c.registers.x 11) = rw joins refl in sym is ∙ here
    by_test false other = let none : joined_path p w c ≡ None = rw other refl in cc

-- it stands one level deeper
pub one_deeper : (p q : List ℕ) (w : Watched) (c : Noted) → joined_path p w c ≡ Some q → 8 - length q < 8 - length p
one_deeper p q w c is =
    let child = joined_child p q w c is in
    let n = slice_index c.registers.x 11 in
    let long = ap length child.0 ∙ length-append p (n ∷ []) in
    let deep = child.2 in
    omega (arith, long, deep)
