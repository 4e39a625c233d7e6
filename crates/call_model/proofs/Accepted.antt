-- A call of registers that fail no test keeps what the tests ask, and is of the kind, with the children and levels, that its row tells.
use Rattle.std.proofs.Common.{◌≡◌, ℕ, zero, suc, ◌==◌, Bool, true, false, ◌&&◌, ◌||◌, List, [], ◌∷◌, Option, Some, None, if◌then◌else◌, refl, sym, subst, arith, ◌+◌, ◌-◌, ◌≤◌, nat_lt}
use Rattle.std.proofs.lemmas.Bool.Decides.{nat_tests}
use Rattle.call_model.specs.declared.Kind.{Kind}
use Rattle.call_model.specs.declared.Kind.TheVariants.{Put, Get, Qstart, Qcommit}
use Rattle.call_model.specs.declared.Call.{Call}
use Rattle.call_model.specs.declared.Row.{Row}
use Rattle.call_model.specs.declared.Children.{Children}
use Rattle.call_model.specs.declared.Children.TheVariants as children
use Rattle.call_model.specs.declared.Ranges.{Ranges}
use Rattle.call_model.specs.declared.Ranges.TheVariants as ranges
use Rattle.call_model.specs.Calls.{row, wrong_options, wrong_row, wrong_quantum, wrong_child, wrong_children, wrong_ranges, wrong_place, wrong_lengths, wrong_depth, wrong_block, argument, new_levels, first_of, tests, first_failing, call_of, kind_in, numbers_from, children_in, levels_in}
use Rattle.call_model.specs.Options.{has, tree, has_two_changes, has_clash, wrong_put_options, wrong_get_options, passes_end}
use Rattle.call_model.specs.Limits.{greatest_child, longest_row, greatest_length, greatest_depth, IsChild, AreChildren}
use Rattle.call_model.specs.Accepted.{IsAccepted, IsSpan, IsRow}

-- a call of this row fails no test
pub record Passes (r : Row) (x : List ℕ) (root : Bool) (depth : ℕ) : Type 0 where
  pub options : wrong_options r.options x ≡ false
  pub children : wrong_children r.children x ≡ false
  pub ranges : wrong_ranges r.ranges x ≡ false
  pub place : wrong_place r.device root ≡ false
  pub lengths : wrong_lengths r.ranges x ≡ false
  pub levels : wrong_depth r x depth ≡ false
  pub block : wrong_block r.options x ≡ false

later : (c : Bool) (n : ℕ) (o : Option ℕ) → (if c then Some n else o) ≡ None → (c ≡ false) × (o ≡ None)
later true n o h = cc
later false n o h = (refl, h)

pub passes : (r : Row) (x : List ℕ) (root : Bool) (depth : ℕ) → first_of tests r x root depth ≡ None → Passes r x root depth
passes r x root depth h =
    let h2 = later (wrong_options r.options x) 2 _ h in
    let h3 = later (wrong_children r.children x) 3 _ h2.1 in
    let h4 = later (wrong_ranges r.ranges x) 4 _ h3.1 in
    let h6 = later (wrong_place r.device root) 6 _ h4.1 in
    let h7 = later (wrong_lengths r.ranges x) 7 _ h6.1 in
    let h8 = later (wrong_depth r x depth) 8 _ h7.1 in
    let h9 = later (wrong_block r.options x) 9 _ h8.1 in
    record { options = h2.0; children = h3.0; ranges = h4.0; place = h6.0; lengths = h7.0; levels = h8.0; block = h9.0 }

not_past : (a b : ℕ) → nat_lt a b ≡ false → b ≤ a
not_past a b h = grind (arith, nat_tests)

-- of a call by whether Tree is among its options
by_tree : (P : Call → Type 0) (asked : Bool) (k l : Call) → P k → P l → P (if asked then k else l)
by_tree P true k l first second = first
by_tree P false k l first second = second

neither : (a b : Bool) → (a || b) ≡ false → (a ≡ false) × (b ≡ false)
neither true b h = cc
neither false b h = (refl, h)

-- options that do not clash ask for one change of a range at most
one_change : (options : ℕ) → has_clash options ≡ false → has_two_changes options ≡ false
one_change options h = (neither _ _ (neither _ _ h).1).0

put_change : (options : ℕ) → wrong_put_options options ≡ false → has_two_changes options ≡ false
unfolding wrong_put_options
put_change options h = one_change options (neither _ _ (neither _ _ h).1).0

get_change : (options : ℕ) → wrong_get_options options ≡ false → has_two_changes options ≡ false
unfolding wrong_get_options
get_change options h = one_change options (neither _ _ (neither _ _ h).1).0

-- what the tests keep of bytes that a call names
abbrev AreSpans : Ranges → List ℕ → Type 0
AreSpans ranges.One x = IsSpan (argument x 1) (argument x 2)
AreSpans ranges.Two x = IsSpan (argument x 1) (argument x 2) × IsSpan (argument x 3) (argument x 4)
AreSpans r x = Unit {0}

is_span : (addr len : ℕ) → passes_end addr len ≡ false → nat_lt greatest_length len ≡ false → IsSpan addr len
is_span addr len end long = record { within = not_past _ _ end; short = not_past _ _ long }

are_spans : (r : Ranges) (x : List ℕ) → wrong_ranges r x ≡ false → wrong_lengths r x ≡ false → AreSpans r x
unfolding wrong_ranges wrong_lengths
are_spans ranges.One x ends long = is_span (argument x 1) (argument x 2) ends long
are_spans ranges.Two x ends long =
    let e = neither _ _ ends in
    let l = neither _ _ long in
    (is_span (argument x 1) (argument x 2) e.0 l.0, is_span (argument x 3) (argument x 4) e.1 l.1)
are_spans r x ends long = tt

not_zero : (n : ℕ) → (n == 0) ≡ false → 1 ≤ n
not_zero n h = grind (arith, nat_tests)

is_row : (first count : ℕ) → wrong_row count ≡ false → (wrong_child first || nat_lt (greatest_child + 1) (first + count)) ≡ false → IsRow first count
is_row first count long past =
    let l = neither (count == 0) (nat_lt longest_row count) long in
    let p = neither (wrong_child first) (nat_lt (greatest_child + 1) (first + count)) past in
    record { some = not_zero count l.0; few = not_past longest_row count l.1; within = not_past (greatest_child + 1) (first + count) p.1 }

named_kept : (kind : Kind) (x : List ℕ) (root : Bool) (depth : ℕ) → Passes (row kind) x root depth → IsAccepted (call_of kind x)
unfolding wrong_options wrong_children wrong_ranges wrong_block
named_kept Put x root depth p = by_tree IsAccepted (has tree (argument x 0)) _ _ tt (p.options, record { changes = put_change (argument x 0) p.options; ranges = p.ranges; block = p.block })
named_kept Get x root depth p = by_tree IsAccepted (has tree (argument x 0)) _ _ tt (p.options, record { changes = get_change (argument x 0) p.options; ranges = p.ranges; block = p.block })
named_kept Qstart x root depth p =
    let o = neither (wrong_row (argument x 2)) (wrong_quantum (argument x 3)) p.options in
    (is_row (argument x 1) (argument x 2) o.0 p.children, not_zero (argument x 3) o.1)
named_kept Qcommit x root depth p = is_row (argument x 1) (argument x 2) p.options p.children
named_kept kind x root depth p = are_spans (row kind).ranges x p.ranges p.lengths

-- registers that fail no test name a call that keeps what the tests ask
pub named_accepted : (kind : Kind) (x : List ℕ) (root : Bool) (depth : ℕ) → first_failing kind x root depth ≡ None → IsAccepted (call_of kind x)
named_accepted kind x root depth h = named_kept kind x root depth (passes (row kind) x root depth h)

-- whose options stand
pub named_options : (kind : Kind) (x : List ℕ) (root : Bool) (depth : ℕ) → first_failing kind x root depth ≡ None → wrong_options (row kind).options x ≡ false
named_options kind x root depth h = (passes (row kind) x root depth h).options

-- and whose children have numbers that fit
pub named_child : (kind : Kind) (x : List ℕ) (root : Bool) (depth : ℕ) → first_failing kind x root depth ≡ None → wrong_children (row kind).children x ≡ false
named_child kind x root depth h = (passes (row kind) x root depth h).children

-- it is of this kind
pub kind_of_call : (kind : Kind) (x : List ℕ) → kind_in (call_of kind x) ≡ kind
kind_of_call Put x = by_tree (λ k. kind_in k ≡ Put) (has tree (argument x 0)) _ _ refl refl
kind_of_call Get x = by_tree (λ k. kind_in k ≡ Get) (has tree (argument x 0)) _ _ refl refl
kind_of_call kind x = refl

-- a call that makes no deeper a space with Tree than without it
same_levels : (asked : Bool) (n : ℕ) → (if asked then n else n) ≡ n
same_levels true n = refl
same_levels false n = refl

put_levels : (asked : Bool) (k l : Call) → levels_in k ≡ 2 → levels_in l ≡ 1 → levels_in (if asked then k else l) ≡ (if asked then 2 else 1)
put_levels true k l two one = two
put_levels false k l two one = one

get_levels : (asked : Bool) (k l : Call) → levels_in k ≡ 0 → levels_in l ≡ 0 → levels_in (if asked then k else l) ≡ (if asked then 0 else 0)
get_levels true k l two one = two
get_levels false k l two one = one

-- at the levels that its row tells
pub levels_of_call : (kind : Kind) (x : List ℕ) → levels_in (call_of kind x) ≡ new_levels (row kind) x
levels_of_call Put x = put_levels (has tree (argument x 0)) _ _ refl refl
levels_of_call Get x = get_levels (has tree (argument x 0)) _ _ refl refl
levels_of_call kind x = sym (same_levels (has tree (argument x 0)) _)

-- the numbers of children in these registers
abbrev children_named : Children → List ℕ → List ℕ
children_named children.One x = argument x 1 ∷ []
children_named children.Tree x = if has tree (argument x 0) then argument x 1 ∷ argument x 3 ∷ argument x 4 ∷ [] else argument x 1 ∷ []
children_named children.Row x = numbers_from (argument x 1) (argument x 2)
children_named children.Nobody x = []

fits : (n : ℕ) → wrong_child n ≡ false → IsChild n
fits n h = grind (arith, nat_tests)

tree_fits : (asked : Bool) (a b c : ℕ) → (wrong_child a || (asked && (wrong_child b || wrong_child c))) ≡ false → AreChildren (if asked then a ∷ b ∷ c ∷ [] else a ∷ [])
tree_fits true a b c h =
    let first = neither (wrong_child a) _ h in
    let rest = neither (wrong_child b) (wrong_child c) first.1 in
    (fits a first.0, (fits b rest.0, (fits c rest.1, tt)))
tree_fits false a b c h = (fits a (neither (wrong_child a) false h).0, tt)

row_fits : (first count : ℕ) → first + count ≤ greatest_child + 1 → AreChildren (numbers_from first count)
row_fits first zero h = tt
row_fits first (suc count) h = (omega (arith, h), row_fits (first + 1) count (omega (arith, h)))

children_fit : (c : Children) (x : List ℕ) → wrong_children c x ≡ false → AreChildren (children_named c x)
unfolding wrong_children
children_fit children.One x h = (fits (argument x 1) h, tt)
children_fit children.Tree x h = tree_fits (has tree (argument x 0)) (argument x 1) (argument x 3) (argument x 4) h
children_fit children.Row x h =
    let last : argument x 1 + argument x 2 ≤ greatest_child + 1 = not_past (greatest_child + 1) (argument x 1 + argument x 2) (neither (wrong_child (argument x 1)) _ h).1 in
    row_fits (argument x 1) (argument x 2) last
children_fit children.Nobody x h = tt

named_by_tree : (asked : Bool) (k l : Call) (ns ms : List ℕ) → children_in k ≡ ns → children_in l ≡ ms → children_in (if asked then k else l) ≡ (if asked then ns else ms)
named_by_tree true k l ns ms first second = first
named_by_tree false k l ns ms first second = second

-- it names the children that its row tells
children_of_call : (kind : Kind) (x : List ℕ) → children_in (call_of kind x) ≡ children_named (row kind).children x
children_of_call Put x = named_by_tree (has tree (argument x 0)) _ _ _ _ refl refl
children_of_call Get x = named_by_tree (has tree (argument x 0)) _ _ _ _ refl refl
children_of_call kind x = refl

-- all of which have numbers that fit
pub children_accepted : (kind : Kind) (x : List ℕ) → wrong_children (row kind).children x ≡ false → AreChildren (children_in (call_of kind x))
children_accepted kind x h = subst AreChildren (sym (children_of_call kind x)) (children_fit (row kind).children x h)

-- and makes no space that is too deep
pub levels_accepted : (kind : Kind) (x : List ℕ) (levels : ℕ) → wrong_depth (row kind) x (greatest_depth - levels) ≡ false → levels_in (call_of kind x) ≤ levels
unfolding wrong_depth
levels_accepted kind x levels h = let same = levels_of_call kind x in let low = not_past greatest_depth (greatest_depth - levels + new_levels (row kind) x) h in omega arith
