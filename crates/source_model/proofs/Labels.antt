-- What labels are worth as they are read, and as the lines say.
use Rattle.std.proofs.Common.{◌≡◌, ℕ, suc, ◌+◌, ◌<◌, ◌≤◌, Bool, true, false, cond, not, List, [], ◌∷◌, ◌++◌, length, Option, Some, None, Ok, Err, refl, sym, ◌∙◌, ap, arith}
use Rattle.std.specs.Prelude.{map, fold, take_while, is_some, option_map, option_and_then, option_to_list, ◌||◌}
use Rattle.std.specs.List.{list_any, prefix_len}
use Rattle.std.specs.Str.{bytes_eq}
use borrow.Author.Tests.{lt-ltb}
use Rattle.std.proofs.lemmas.Bool.{le-ltb}
use Rattle.source_model.specs.declared.statement.Definition.{Definition}
use Rattle.source_model.specs.declared.statement.Layout.{Layout}
use Rattle.source_model.specs.Layout as layouts
use Rattle.source_model.specs.Layout.{definition_in, definitions, start}
use Rattle.source_model.specs.Line as texts
use Rattle.source_model.specs.Line.{label_of, statement_in, is_named}
use Rattle.source_model.specs.Statement as old
use Rattle.source_model.specs.Bytes.{same_text, lines_of}
use Rattle.source_model.specs.Meaning.{Statement, Read, Line, Labels, Draft, address_after, effect_of, is_out_of_place, with_effect, with_read, blank, draft_of, defines, label_in}
use Rattle.source_model.specs.Reading.{is_earlier, is_defined_before}
use Rattle.source_model.proofs.Segments.{layout_in, address-same}
use Rattle.source_model.proofs.Alike.{Alike}
use Rattle.source_model.proofs.Lines.{line_in, statement-same}

-- ---- the layout after lines

in-place : (labels : Labels) (d : Draft) (x : old.Read) (s : Statement) (t : Bool) (before : Layout) (after : Layout) → is_out_of_place d (effect_of labels (address_after d) s) ≡ t
    → before ≡ layout_in d → (t ≡ false → after ≡ layout_in (with_effect d (effect_of labels (address_after d) s))) → cond t before after ≡ layout_in (cond t d (with_effect d (effect_of labels (address_after d) s)))
in-place labels d x s true before after e f g = f
in-place labels d x s false before after e f g = g refl

-- the layout after a line, whatever labels are worth
pub layout-with : (labels : Labels) (d : Draft) (r : old.Read) (q : Read) → Alike r q → layouts.with_read (layout_in d) r ≡ layout_in (with_read labels d q)
layout-with labels d (Ok x) (Ok s) same =
    rw (same.place labels d) (in-place labels d (Ok x) s (is_out_of_place d (effect_of labels (address_after d) s)) (layout_in d) (layouts.after (layout_in d) x.0) refl refl (λ h. same.layout labels d h))
layout-with labels d (Err k) (Err j) same = refl
layout-with labels d (Ok x) (Err j) same = absurd same
layout-with labels d (Err k) (Ok s) same = absurd same

abbrev no_labels : Labels
no_labels n = None

abbrev with_line : Draft → Line → Draft
with_line d l = with_read no_labels d l.statement

next-same : (d : Draft) (l : List ℕ) → layouts.next (layout_in d) l ≡ layout_in (with_line d (line_in l))
unfolding layouts.next
next-same d l = layout-with no_labels d (statement_in l) (line_in l).statement (statement-same l)

-- ---- values

or-false : (b : Bool) → b ≡ (b || false)
or-false true = refl
or-false false = refl

name-same : (name : List ℕ) (o : Option (List ℕ)) → is_named name o ≡ list_any (λ n. bytes_eq n name) (option_to_list o)
unfolding same_text
name-same name None = refl
name-same name (Some n) = or-false (bytes_eq n name)

defines-same : (name l : List ℕ) → texts.defines name l ≡ defines name (line_in l)
unfolding texts.defines line_in
defines-same name l = name-same name (label_of l)

-- what a label is worth behind a draft
abbrev worth_behind : Draft → List Line → List ℕ → Option ℕ
worth_behind d lines name = cond (list_any (defines name) lines) (Some (address_after (fold with_line d (take_while (λ l. not (defines name l)) lines)))) None

first-line : (d : Draft) (l : Line) (ls : List Line) (name : List ℕ) → defines name l ≡ true → worth_behind d (l ∷ ls) name ≡ Some (address_after d)
first-line d l ls name e = rw e refl

later-line : (d : Draft) (l : Line) (ls : List Line) (name : List ℕ) → defines name l ≡ false → worth_behind d (l ∷ ls) name ≡ worth_behind (with_line d l) ls name
later-line d l ls name e =
    let k : ℕ = prefix_len (λ l. not (defines name l)) ls in
    let more : 1 + k ≡ suc k = omega arith in
    rw (e, more) refl

value-step : (t : Bool) (f : Definition) (o : Option Definition) (d : Draft) (l : Line) (ls : List Line) (name : List ℕ) → defines name l ≡ t → f.value ≡ address_after d → option_map (λ d. d.value) o ≡ worth_behind (with_line d l) ls name
    → option_map (λ d. d.value) (cond t (Some f) o) ≡ worth_behind d (l ∷ ls) name
value-step true f o d l ls name e g h = ap (λ (n : ℕ). Some n) g ∙ sym (first-line d l ls name e)
value-step false f o d l ls name e g h = h ∙ sym (later-line d l ls name e)

value-same : (at : ℕ) (d : Draft) (texts : List (List ℕ)) (name : List ℕ) → option_map (λ d. d.value) (definition_in at (layout_in d) texts name) ≡ worth_behind d (map line_in texts) name
unfolding definition_in
value-same at d [] name = refl
value-same at d (l ∷ ls) name =
    rw (defines-same name l, next-same d l)
    (value-step (defines name (line_in l)) (record { line = at; value = layouts.address_in (layout_in d).reached }) (definition_in (at + 1) (layout_in (with_line d (line_in l))) ls name)
    d (line_in l) (map line_in ls) name refl (address-same d) (value-same (at + 1) (with_line d (line_in l)) ls name))

pub worth-of : (text : List ℕ) (name : List ℕ) → option_map (λ d. d.value) (definitions text name) ≡ label_in (map line_in (lines_of text)) name
unfolding definitions label_in draft_of
worth-of text name = value-same 1 blank (lines_of text) name

-- ---- definitions in earlier lines

later-step : (t : Bool) (m at v : ℕ) (o : Option Definition) → m ≤ at → is_earlier m o ≡ false → is_earlier m (cond t (Some (record { line = at; value = v })) o) ≡ false
later-step true m at v o le h = le-ltb at m le
later-step false m at v o le h = h

later : (m at : ℕ) (here : Layout) (lines : List (List ℕ)) (name : List ℕ) → m ≤ at → is_earlier m (definition_in at here lines name) ≡ false
unfolding definition_in
later m at here [] name le = refl
later m at here (l ∷ ls) name le = later-step (texts.defines name l) m at (layouts.address_in here.reached) (definition_in (at + 1) (layouts.next here l) ls name) le (later m (at + 1) (layouts.next here l) ls name (omega arith))

earlier-step : (t : Bool) (m at v : ℕ) (o : Option Definition) (b : Bool) → at < m → is_earlier m o ≡ b → is_earlier m (cond t (Some (record { line = at; value = v })) o) ≡ (t || b)
earlier-step true m at v o b lt h = lt-ltb at m lt
earlier-step false m at v o b lt h = h

earlier : (m at : ℕ) (here : Layout) (before rest : List (List ℕ)) (name : List ℕ) → m ≡ at + length before → is_earlier m (definition_in at here (before ++ rest) name) ≡ list_any (defines name) (map line_in before)
unfolding definition_in
earlier m at here [] rest name e = later m at here rest name (omega (arith, e))
earlier m at here (l ∷ ls) rest name e =
    rw (defines-same name l)
    (earlier-step (defines name (line_in l)) m at (layouts.address_in here.reached) (definition_in (at + 1) (layouts.next here l) (ls ++ rest) name) (list_any (defines name) (map line_in ls))
    (omega (arith, e)) (earlier m (at + 1) (layouts.next here l) ls rest name (omega (arith, e))))

some-if : (t : Bool) (n : ℕ) → t ≡ is_some (cond t (Some n) None)
some-if true n = refl
some-if false n = refl

-- the label of the line behind these lines has a worth among them
pub earlier-same : (at : ℕ) (text : List ℕ) (before rest : List (List ℕ)) (name : Option (List ℕ)) → lines_of text ≡ before ++ rest → at ≡ length before + 1 → is_defined_before (definitions text) at name ≡ is_some (option_and_then (label_in (map line_in before)) name)
unfolding definitions label_in
earlier-same at text before rest None split e = refl
earlier-same at text before rest (Some name) split e = rw split (earlier at 1 start before rest name (omega (arith, e)) ∙ some-if (list_any (defines name) (map line_in before)) _)
