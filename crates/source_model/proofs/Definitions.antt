-- A label's definition is its first one.
use Rattle.std.proofs.Common.{◌≡◌, ℕ, ◌+◌, Bool, true, false, List, [], ◌∷◌, ◌++◌, length, Some, refl, sym, ap, arith}
use Rattle.std.specs.Prelude.{if◌then◌else◌}
use Rattle.source_model.specs.declared.statement.Definition.{Definition}
use Rattle.source_model.specs.declared.statement.Layout.{Layout}
use Rattle.source_model.specs.Line.{defines}
use Rattle.source_model.specs.Layout.{address_in, next, definition_in}
use Rattle.source_model.specs.Definitions.{layout_after, NoneDefines, IsFirstDefinition}

first-step : (number : ℕ) (here : Layout) (l : List ℕ) (ls : List (List ℕ)) (name : List ℕ) (d : Definition) (t : Bool) → defines name l ≡ t
    → (definition_in (number + 1) (next here l) ls name ≡ Some d → IsFirstDefinition (number + 1) (next here l) ls name d)
    → (if t then Some (record { line = number; value = address_in here.reached }) else definition_in (number + 1) (next here l) ls name) ≡ Some d → IsFirstDefinition number here (l ∷ ls) name d
first-step number here l ls name d true e others h =
    let made : Definition = record { line = number; value = address_in here.reached } in
    let same : made ≡ d = cc in
    let at : number ≡ d.line = ap (λ (x : Definition). x.line) same in
    record { before = []; line = l; others = ls; split = refl; none = tt; defined = e; place = omega arith; value = sym (ap (λ (x : Definition). x.value) same) }
first-step number here l ls name d false e others h =
    let o = others h in
    let at : d.line ≡ number + 1 + length o.before = o.place in
    record { before = l ∷ o.before; line = o.line; others = o.others; split = ap (λ (x : List (List ℕ)). l ∷ x) o.split; none = (e, o.none); defined = o.defined; place = omega arith; value = o.value }

pub is-first : (number : ℕ) (here : Layout) (lines : List (List ℕ)) (name : List ℕ) (d : Definition) → definition_in number here lines name ≡ Some d → IsFirstDefinition number here lines name d
unfolding definition_in
is-first number here [] name d h = cc
is-first number here (l ∷ ls) name d h = first-step number here l ls name d (defines name l) refl (λ g. is-first (number + 1) (next here l) ls name d g) h

same-definition : (d : Definition) (n v : ℕ) → d.line ≡ n → d.value ≡ v → Some (record { line = n; value = v }) ≡ Some d
same-definition d n v e f = rw (← e, ← f) refl

found-at : (number : ℕ) (here : Layout) (before : List (List ℕ)) (line : List ℕ) (others : List (List ℕ)) (name : List ℕ) (d : Definition) → NoneDefines name before → defines name line ≡ true → d.line ≡ number + length before → d.value ≡ address_in (layout_after here before).reached
    → definition_in number here (before ++ line ∷ others) name ≡ Some d
unfolding definition_in
found-at number here [] line others name d none defined place value =
    let at : d.line ≡ number = omega arith in
    rw defined (same-definition d number (address_in here.reached) at value)
found-at number here (l ∷ ls) line others name d none defined place value =
    let at : d.line ≡ number + 1 + length ls = omega arith in
    let not_here : defines name l ≡ false = none.0 in
    rw not_here (found-at (number + 1) (next here l) ls line others name d none.1 defined at value)

pub first-is : (number : ℕ) (here : Layout) (lines : List (List ℕ)) (name : List ℕ) (d : Definition) → IsFirstDefinition number here lines name d → definition_in number here lines name ≡ Some d
first-is number here lines name d f = rw f.split (found-at number here f.before f.line f.others name d f.none f.defined f.place f.value)
