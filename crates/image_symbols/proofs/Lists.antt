-- A map of labels, as a list of symbols.
use Rattle.std.proofs.Common.{◌≡◌, ℕ, Ordering, Less, Bool, true, false, cond, List, [], ◌∷◌, ◌++◌, map, Option, Some, refl, sym, ◌∙◌}
use Rattle.std.specs.Prelude.{option_map}
use Rattle.std.specs.BTreeMap.{BTreeMap, IsOrdered, is_at}
use Rattle.std.specs.Cmp.Lexicographic.{slice_cmp}
use Rattle.std.specs.List.{AllByRecursion, find}
use Rattle.std.specs.List.Sorted.{IsStrictlySortedBy}
use Rattle.std.specs.Map.{keys_of, lookup}
use Rattle.std.specs.Ordering.{nat_cmp}
use Rattle.std.specs.Str.{bytes_eq}
use Rattle.std.proofs.lemmas.List.{append-nil}
use Rattle.std.proofs.lemmas.Map.Text.{is_eq-slice_cmp}
use denote.Ref.{Bor}
use Rattle.source_model.specs.declared.statement.Definition.{Definition}
use Rattle.rv_asm.specs.View.{labels_in}
use Rattle.symbols.specs.Symbols.{Symbol}
use Rattle.image_symbols.specs.Labels.{IsListOf}

abbrev pub Entry : Type 0
Entry = Bor (List ℕ) × Definition

abbrev pub symbol_from : Entry → Symbol
symbol_from e = record { address = e.1.value; name = e.0.now }

abbrev pub by_name : Bor (List ℕ) → Bor (List ℕ) → Ordering
by_name x y = slice_cmp nat_cmp x.now y.now

above : (name : Bor (List ℕ)) (es : List Entry) → AllByRecursion (λ y. by_name name y ≡ Less) (keys_of es) → AllByRecursion (λ y. slice_cmp nat_cmp name.now y ≡ Less) (map (λ s. s.name) (map symbol_from es))
above name [] h = tt
above name (e ∷ es) h = (h.0, above name es h.1)

in_order : (es : List Entry) → IsStrictlySortedBy by_name (keys_of es) → IsStrictlySortedBy (slice_cmp nat_cmp) (map (λ s. s.name) (map symbol_from es))
unfolding IsStrictlySortedBy
in_order [] h = tt
in_order (e ∷ es) h = (above e.0 es h.0, in_order es h.1)

one_more : (b : Bool) (e : Entry) (s : Option Symbol) (d : Option Definition) → option_map (λ x. x.address) s ≡ option_map (λ x. x.value) d
    → option_map (λ x. x.address) (cond b (Some (symbol_from e)) s) ≡ option_map (λ x. x.value) (cond b (Some e.1) d)
one_more true e s d h = refl
one_more false e s d h = h

found : (name : List ℕ) (es : List Entry) → option_map (λ s. s.address) (find (λ s. bytes_eq name s.name) (map symbol_from es)) ≡ option_map (λ d. d.value) (lookup (is_at (λ k. slice_cmp nat_cmp name k.now)) es)
found name [] = refl
found name (e ∷ es) = rw is_eq-slice_cmp (one_more (bytes_eq name e.0.now) e (find (λ s. bytes_eq name s.name) (map symbol_from es)) (lookup (is_at (λ k. slice_cmp nat_cmp name k.now)) es) (found name es))

pub list_is : (m : BTreeMap (Bor (List ℕ)) Definition) → IsOrdered by_name m → IsListOf (labels_in m) (map symbol_from m.entries)
unfolding labels_in
list_is m ordered = record { in_order = in_order m.entries ordered; found = λ name. found name m.entries }

-- where no entry is left
pub all_listed : (m : BTreeMap (Bor (List ℕ)) Definition) (list : List Symbol) (left : List Entry) → left ≡ [] → list ++ map symbol_from left ≡ map symbol_from m.entries → IsOrdered by_name m → IsListOf (labels_in m) list
all_listed m list left none so_far ordered =
    let whole : list ≡ map symbol_from m.entries = sym (append-nil list) ∙ (rw none at so_far) in
    rw whole (list_is m ordered)
