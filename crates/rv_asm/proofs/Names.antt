-- Labels: a name's first definition holds, whatever follows.
use Rattle.std.proofs.Common.{◌≡◌, ℕ, ◌+◌, Bool, true, false, cond, List, [], ◌∷◌, length, Option, Some, None, refl, sym, ◌∙◌, ap, subst, arith}
use Rattle.std.specs.Prelude.{is_some, if◌then◌else◌}
use Rattle.std.specs.Str.{bytes_eq}
use mathlib.Core.Path.{fun_ext}
use Rattle.std.proofs.lemmas.Slice.Eq.{bytes_eq-Decides}
use Rattle.std.specs.BTreeMap.{BTreeMap}
use denote.Ref.{Bor}
use Rattle.rv_asm.specs.View.{labels_in}
use Rattle.source_model.specs.declared.statement.Definition.{Definition}
use Rattle.source_model.specs.declared.statement.Layout.{Layout}
use Rattle.source_model.specs.Layout.{start, address_in, definition_in, definitions, next}
use Rattle.source_model.specs.Line.{defines}
use Rattle.source_model.specs.Mnemonic.{or_else}
use Rattle.source_model.specs.Reading.{Labels}
use Rattle.source_model.specs.Bytes.{lines_of, same_text}

or-none : (o : Option Definition) → o ≡ or_else o None
or-none None = refl
or-none (Some d) = refl

or-kept : (o : Option Definition) (other : Option Definition) → is_some o ≡ true → o ≡ or_else o other
or-kept None other h = cc
or-kept (Some d) other h = refl

new-step : (f : Labels) (n q : List ℕ) (d : Definition) (x : Option Definition) (t : Bool) → bytes_eq n q ≡ t → f n ≡ None → x ≡ cond (bytes_eq n q) (Some d) (f q) → x ≡ or_else (f q) (if same_text n q then Some d else None)
unfolding same_text
new-step f n q d x true e absent h =
    let same : n ≡ q = (bytes_eq-Decides n q).0 e in
    let none : f q ≡ None = sym (ap f same) ∙ absent in
    rw (none, e) (h ∙ rw e refl)
new-step f n q d x false e absent h = rw e ((h ∙ rw e refl) ∙ or-none (f q))

-- a name that had no definition has one
pub is-defined : (f : Labels) (n q : List ℕ) (d : Definition) (x : Option Definition) → f n ≡ None → x ≡ cond (bytes_eq n q) (Some d) (f q) → x ≡ or_else (f q) (if same_text n q then Some d else None)
is-defined f n q d x absent h = new-step f n q d x (bytes_eq n q) refl absent h

old-step : (f : Labels) (n q : List ℕ) (d : Definition) (t : Bool) → bytes_eq n q ≡ t → is_some (f n) ≡ true → f q ≡ or_else (f q) (if same_text n q then Some d else None)
unfolding same_text
old-step f n q d true e present =
    let same : n ≡ q = (bytes_eq-Decides n q).0 e in
    or-kept (f q) (if bytes_eq n q then Some d else None) (subst (λ (m : List ℕ). is_some (f m) ≡ true) same present)
old-step f n q d false e present = rw e (or-none (f q))

-- a name that had a definition keeps it
pub is-kept : (f : Labels) (n q : List ℕ) (d : Definition) → is_some (f n) ≡ true → f q ≡ or_else (f q) (if same_text n q then Some d else None)
is-kept f n q d present = old-step f n q d (bytes_eq n q) refl present

regroup : (old : Option Definition) (t : Bool) (d : Definition) (tail : Option Definition) → or_else (or_else old (if t then Some d else None)) tail ≡ or_else old (if t then Some d else tail)
regroup None true d tail = refl
regroup None false d tail = refl
regroup (Some x) t d tail = refl

-- a line more
pub goes-on : (q : List ℕ) (number : ℕ) (here : Layout) (text line after : List ℕ) (old new total : Option Definition) → lines_of text ≡ line ∷ lines_of after
    → new ≡ or_else old (if defines q line then Some (record { line = number; value = address_in here.reached }) else None)
    → or_else old (definition_in number here (lines_of text) q) ≡ total → or_else new (definition_in (number + 1) (next here line) (lines_of after) q) ≡ total
unfolding definition_in
goes-on q number here text line after old new total first is h =
    let d : Definition = record { line = number; value = address_in here.reached } in
    let tail = definition_in (number + 1) (next here line) (lines_of after) q in
    let one : or_else old (definition_in number here (lines_of text) q) ≡ or_else old (if defines q line then Some d else tail) = rw first refl in
    rw is (regroup old (defines q line) d tail ∙ (sym one ∙ h))

-- no more lines
pub is-done : (text source : List ℕ) (number : ℕ) (here : Layout) (f : Labels) → length text ≡ 0 → ((q : List ℕ) → or_else (f q) (definition_in number here (lines_of text) q) ≡ definition_in 1 start (lines_of source) q) → f ≡ definitions source
unfolding definition_in lines_of definitions
is-done [] source number here f none h = fun_ext (λ q. or-none (f q) ∙ h q)
is-done (b ∷ bs) source number here f none h = absurd (omega (arith, none))

pub none-from : (o : Option Definition) → is_some o ≡ false → o ≡ None
none-from None h = refl
none-from (Some d) h = cc

-- an empty map defines nothing
pub none-in-empty : (m : BTreeMap (Bor (List ℕ)) Definition) (q : List ℕ) → m.entries ≡ [] → labels_in m q ≡ None
unfolding labels_in
none-in-empty m q h = rw h refl
