-- A line that is read from left to right is the one that the grammar names.
use Rattle.std.proofs.Common.{◌≡◌, ℕ, Bool, true, false, cond, not, ◌&&◌, List, [], ◌∷◌, ◌++◌, Option, Some, None, Ok, Err, refl, sym, ◌∙◌, ap, subst, inl, inr}
use Rattle.std.specs.Prelude.{◌||◌, ◌==◌, drop, is_some, find, map, codes, if◌then◌else◌}
use Rattle.std.specs.Str.{bytes_eq}
use Rattle.std.specs.List.{list_all, list_any}
use borrow.Author.Tests.{eqb-true}
use Rattle.source_model.specs.declared.error.AsmErrorKind.TheVariants as kinds
use Rattle.memory_model.specs.declared.Width.TheVariants as widths
use Rattle.instruction_model.specs.declared.Comparison.TheVariants as comparisons
use Rattle.instruction_model.specs.declared.LoadKind.TheVariants as loads
use Rattle.instruction_model.specs.declared.Operation.TheVariants as operations
use Rattle.instruction_model.specs.declared.Instruction.TheVariants as instructions_of
use Rattle.source_model.specs.declared.mnemonic.Mnemonic.{Mnemonic}
use Rattle.source_model.specs.declared.mnemonic.Mnemonic.TheVariants as words
use Rattle.source_model.specs.declared.statement.Class.TheVariants.{Solid, Outside, Blank, Comment, Foreign}
use Rattle.source_model.specs.declared.statement.Statement.TheVariants as statements
use Rattle.source_model.specs.Bytes.{is_blank, is_letter, is_digit, is_foreign, is_empty, begins, same_text, without_return}
use Rattle.source_model.specs.Text.{◌>>=◌, contains, before, from, code_of, has_first_letter, label_at}
use Rattle.source_model.specs.Field.{or_fault}
use Rattle.source_model.specs.Mnemonic.{or_else, operation_of, immediate_of, memory_of, branch_of, other_of, directive_of, mnemonic_of}
use Rattle.source_model.specs.Statement as old
use Rattle.source_model.specs.Line.{name_in, rest_in, label_of, body_of, statement_in}
use Rattle.source_model.specs.Meaning.{Line, Read, bytes}
use Rattle.source_model.specs.Operand.{Operands, is_label, Form, instructions, directives}
use Rattle.source_model.specs.Grammar.{HasLabel, Asks, IsStatement, IsBody, IsRead, IsLine}
use Rattle.source_model.proofs.Below.{both}
use Rattle.source_model.proofs.Cuts.{AreBlanks, ends, parts, inside, before-is, from-is, skip, stays, gap-blank, start-solid, and-both, mark-text, blank-stops, cut-given, cut-found, word-given, word-found, not-empty, start-blank, blank-start}
use Rattle.source_model.proofs.Words.{words_of, AreSolid, MayBeOperands, may-be, may-be-one}
use Rattle.source_model.proofs.Alike.{Alike, with_values, nothing-same}
use Rattle.source_model.proofs.Statements.{shape, shape-solid, effect, read_by, operands-same}

-- ---- first words, with what they ask for

abbrev Names : Type 0
Names = List (List ℕ × Mnemonic)

abbrev operation_names : Names
operation_names =
    (codes "add", words.Operate operations.Add) ∷ (codes "sub", words.Operate operations.Sub) ∷ (codes "sll", words.Operate operations.Sll)
    ∷ (codes "slt", words.Operate operations.Slt) ∷ (codes "sltu", words.Operate operations.Sltu) ∷ (codes "xor", words.Operate operations.Xor)
    ∷ (codes "srl", words.Operate operations.Srl) ∷ (codes "sra", words.Operate operations.Sra) ∷ (codes "or", words.Operate operations.Or)
    ∷ (codes "and", words.Operate operations.And) ∷ []

abbrev immediate_names : Names
immediate_names =
    (codes "addi", words.OperateImmediate operations.Add) ∷ (codes "slti", words.OperateImmediate operations.Slt)
    ∷ (codes "sltiu", words.OperateImmediate operations.Sltu) ∷ (codes "xori", words.OperateImmediate operations.Xor)
    ∷ (codes "ori", words.OperateImmediate operations.Or) ∷ (codes "andi", words.OperateImmediate operations.And)
    ∷ (codes "slli", words.ShiftImmediate operations.Sll) ∷ (codes "srli", words.ShiftImmediate operations.Srl)
    ∷ (codes "srai", words.ShiftImmediate operations.Sra) ∷ []

abbrev memory_names : Names
memory_names =
    (codes "lb", words.Load loads.Lb) ∷ (codes "lh", words.Load loads.Lh) ∷ (codes "lw", words.Load loads.Lw) ∷ (codes "lbu", words.Load loads.Lbu)
    ∷ (codes "lhu", words.Load loads.Lhu) ∷ (codes "sb", words.Store widths.One) ∷ (codes "sh", words.Store widths.Two) ∷ (codes "sw", words.Store widths.Four) ∷ []

abbrev branch_names : Names
branch_names =
    (codes "beq", words.Branch comparisons.Beq) ∷ (codes "bne", words.Branch comparisons.Bne) ∷ (codes "blt", words.Branch comparisons.Blt)
    ∷ (codes "bge", words.Branch comparisons.Bge) ∷ (codes "bltu", words.Branch comparisons.Bltu) ∷ (codes "bgeu", words.Branch comparisons.Bgeu) ∷ []

abbrev other_names : Names
other_names =
    (codes "jalr", words.Jalr) ∷ (codes "jal", words.Jal) ∷ (codes "lui", words.Lui) ∷ (codes "auipc", words.Auipc)
    ∷ (codes "fence", words.Alone instructions_of.Fence) ∷ (codes "ecall", words.Alone instructions_of.Ecall) ∷ (codes "ebreak", words.Alone instructions_of.Ebreak) ∷ []

abbrev directive_names : Names
directive_names =
    (codes "li", words.LoadImmediate) ∷ (codes ".segment", words.Segment) ∷ (codes ".dti2", words.Dti2) ∷ (codes ".entry", words.Entry) ∷ (codes ".stack", words.Stack)
    ∷ (codes ".word", words.Word) ∷ (codes ".byte", words.Byte) ∷ (codes ".zero", words.Zero) ∷ []

abbrev mnemonic_in : Names → List ℕ → Option Mnemonic
mnemonic_in [] w = None
mnemonic_in (e ∷ es) w = if bytes_eq w e.0 then Some e.1 else mnemonic_in es w

abbrev mnemonic_for : List ℕ → Option Mnemonic
mnemonic_for w = mnemonic_in (operation_names ++ (immediate_names ++ (memory_names ++ (branch_names ++ (other_names ++ directive_names))))) w

else-step : (t : Bool) (m a b : Option Mnemonic) (x : Mnemonic) → a ≡ or_else m b → cond t (Some x) a ≡ or_else (cond t (Some x) m) b
else-step true m a b x e = refl
else-step false m a b x e = e

in-both : (a b : Names) (w : List ℕ) → mnemonic_in (a ++ b) w ≡ or_else (mnemonic_in a w) (mnemonic_in b w)
in-both [] b w = refl
in-both (e ∷ es) b w = else-step _ (mnemonic_in es w) (mnemonic_in (es ++ b) w) (mnemonic_in b w) e.1 (in-both es b w)

named-same : (w : List ℕ) → mnemonic_of w ≡ or_fault kinds.Word (mnemonic_for w)
unfolding mnemonic_of operation_of immediate_of memory_of branch_of other_of directive_of same_text
named-same w = ap (or_fault kinds.Word) (sym (
    in-both operation_names (immediate_names ++ (memory_names ++ (branch_names ++ (other_names ++ directive_names)))) w
    ∙ ap (or_else (mnemonic_in operation_names w)) (in-both immediate_names (memory_names ++ (branch_names ++ (other_names ++ directive_names))) w
    ∙ ap (or_else (mnemonic_in immediate_names w)) (in-both memory_names (branch_names ++ (other_names ++ directive_names)) w
    ∙ ap (or_else (mnemonic_in memory_names w)) (in-both branch_names (other_names ++ directive_names) w
    ∙ ap (or_else (mnemonic_in branch_names w)) (in-both other_names directive_names w))))))

-- ---- forms

abbrev form : List ℕ × Mnemonic → Form
form e = record { name = e.0; parts = shape e.1; effect = effect e.1 }

abbrev all_names : Names
all_names = operation_names ++ (immediate_names ++ (memory_names ++ (branch_names ++ (other_names ++ directive_names))))

forms-same : instructions ++ directives ≡ map form all_names
forms-same = refl

abbrev read_form : Option Form → List ℕ → Read
read_form None text = Err kinds.Word
read_form (Some f) text = read_by f.effect (words_of f.parts text)

abbrev found : List Form → List ℕ → Option Form
found fs w = find (λ f. bytes_eq w f.name) fs

pick : (t : Bool) (m : Mnemonic) (o : Option Mnemonic) (f : Form) (q : Option Form) (text : List ℕ) → Alike (old.operands m text) (read_by f.effect (words_of f.parts text)) → Alike (or_fault kinds.Word o >>= λ m. old.operands m text) (read_form q text)
    → Alike (or_fault kinds.Word (cond t (Some m) o) >>= λ m. old.operands m text) (read_form (cond t (Some f) q) text)
pick true m o f q text a b = a
pick false m o f q text a b = b

lookup-same : (es : Names) (w text : List ℕ) → Alike (or_fault kinds.Word (mnemonic_in es w) >>= λ m. old.operands m text) (read_form (found (map form es) w) text)
lookup-same [] w text = refl
lookup-same (e ∷ es) w text = pick (bytes_eq w e.0) e.1 (mnemonic_in es w) (form e) (found (map form es) w) text (operands-same e.1 text) (lookup-same es w text)

-- every form that is found has marks that are no blanks
abbrev Sound : Option Form → Type 0
Sound None = Unit {0}
Sound (Some f) = AreSolid f.parts

sound-step : (t : Bool) (f : Form) (q : Option Form) → AreSolid f.parts → Sound q → Sound (cond t (Some f) q)
sound-step true f q a b = a
sound-step false f q a b = b

sound-in : (es : Names) (w : List ℕ) → Sound (found (map form es) w)
sound-in [] w = tt
sound-in (e ∷ es) w = sound-step (bytes_eq w e.0) (form e) (found (map form es) w) (shape-solid e.1) (sound-in es w)

sound : (w : List ℕ) → Sound (found (instructions ++ directives) w)
sound w = subst (λ (fs : List Form). Sound (found fs w)) (sym forms-same) (sound-in all_names w)

-- ---- statements

abbrev nothing : Read
nothing = Ok (with_values [] (λ v. bytes []))

abbrev pub read_statement : List ℕ → Read
read_statement text = cond (is_empty (from Solid text)) nothing (read_form (found (instructions ++ directives) (before Blank (from Solid text))) (from Blank (from Solid text)))

read_statement-step : (t : Bool) (r : old.Read) (q : Read) → Alike r q → Alike (cond t (Ok (statements.Nothing, [])) r) (cond t nothing q)
read_statement-step true r q h = nothing-same
read_statement-step false r q h = h

read_statement-same : (text : List ℕ) → Alike (old.statement_of text) (read_statement text)
unfolding old.statement_of
read_statement-same text =
    let start = from Solid text in
    let w : List ℕ = before Blank start in
    let rest : List ℕ = from Blank start in
    rw named-same (read_statement-step (is_empty start) (or_fault kinds.Word (mnemonic_for w) >>= λ m. old.operands m rest) (read_form (found (instructions ++ directives) w) rest)
    (subst (λ (fs : List Form). Alike (or_fault kinds.Word (mnemonic_for w) >>= λ m. old.operands m rest) (read_form (found fs w) rest)) (sym forms-same) (lookup-same all_names w rest)))

operands-given : (f : Form) (text : List ℕ) (o : Option Operands) → MayBeOperands f.parts text o → Asks (Some f) text (read_by f.effect o)
operands-given f text None h = inr (h, refl)
operands-given f text (Some os) h = inl (os, h, refl)

asks-given : (o : Option Form) (text : List ℕ) → Sound o → Asks o text (read_form o text)
asks-given None text solid = refl
asks-given (Some f) text solid = operands-given f text (words_of f.parts text) (may-be f.parts text solid)

asks-one : (o : Option Form) (text : List ℕ) (r : Read) → Sound o → Asks o text r → r ≡ read_form o text
asks-one None text r solid h = h
asks-one (Some f) text r solid (inl h) = h.2 ∙ ap (read_by f.effect) (may-be-one f.parts text (Some h.0) solid h.1)
asks-one (Some f) text r solid (inr h) = h.1 ∙ ap (read_by f.effect) (may-be-one f.parts text None solid h.0)

nonempty-step : (text start : List ℕ) → from Solid text ≡ start → is_empty start ≡ false → is_empty (before Blank start) ≡ false
unfolding before
nonempty-step text [] e f = cc
nonempty-step text (b ∷ bs) e f =
    let solid : is_blank b ≡ false = start-solid text b bs e in
    rw solid refl

nil-is : (t : List ℕ) → is_empty t ≡ true → t ≡ []
nil-is [] h = refl
nil-is (b ∷ bs) h = cc

given-step : (body : List ℕ) (t : Bool) → is_empty (from Solid body) ≡ t → IsStatement body (cond t nothing (read_form (found (instructions ++ directives) (before Blank (from Solid body))) (from Blank (from Solid body))))
given-step body true e = inl (start-blank body (nil-is (from Solid body) e), refl)
given-step body false e =
    let w : List ℕ = before Blank (from Solid body) in
    let rest : List ℕ = from Blank (from Solid body) in
    inr (w, rest, word-given Blank body (nonempty-step body (from Solid body) refl e), asks-given (found (instructions ++ directives) w) rest (sound w))

read_statement-given : (body : List ℕ) → IsStatement body (read_statement body)
read_statement-given body = given-step body (is_empty (from Solid body)) refl

still-filled : (w rest : List ℕ) → is_empty w ≡ false → is_empty (w ++ rest) ≡ false
still-filled [] rest h = cc
still-filled (b ∷ bs) rest h = refl

read_statement-one : (body : List ℕ) (r : Read) → IsStatement body r → r ≡ read_statement body
read_statement-one body r (inl h) =
    let nil : from Solid body ≡ [] = blank-start body h.0 in
    rw nil h.1
read_statement-one body r (inr h) =
    let found_at = word-found Blank blank-stops body h.0 h.1 h.2 in
    let front : before Blank (from Solid body) ≡ h.0 = found_at.0 in
    let back : from Blank (from Solid body) ≡ h.1 = found_at.1 in
    let start : from Solid body ≡ h.0 ++ h.1 = parts Blank (from Solid body) ∙ (ap (λ (l : List ℕ). l ++ from Blank (from Solid body)) front ∙ ap (λ (l : List ℕ). h.0 ++ l) back) in
    let word = h.2 in
    let nonempty : is_empty (from Solid body) ≡ false = ap is_empty start ∙ still-filled h.0 h.1 (not-empty h.0 word.3) in
    rw (nonempty, front, back) (asks-one (found (instructions ++ directives) h.0) h.1 r (sound h.0) h.3)

-- ---- labels

or-cases : (b : ℕ) (t u : Bool) → (b == 32) ≡ t → (b == 9) ≡ u → is_letter b ≡ true → (t || u) ≡ false
or-cases b true u e f h = let same : b ≡ 32 = eqb-true b 32 e in let no : is_letter 32 ≡ true = subst (λ (n : ℕ). is_letter n ≡ true) same h in cc
or-cases b false true e f h = let same : b ≡ 9 = eqb-true b 9 f in let no : is_letter 9 ≡ true = subst (λ (n : ℕ). is_letter n ≡ true) same h in cc
or-cases b false false e f h = refl

letter-solid : (b : ℕ) → is_letter b ≡ true → is_blank b ≡ false
letter-solid b h = or-cases b (b == 32) (b == 9) refl refl h

outside-cases : (b : ℕ) (t u : Bool) → (b == 32) ≡ t → (b == 9) ≡ u → (t || u) ≡ true → not (is_letter b || is_digit b) ≡ true
outside-cases b true u e f h = let same : b ≡ 32 = eqb-true b 32 e in subst (λ (n : ℕ). not (is_letter n || is_digit n) ≡ true) (sym same) refl
outside-cases b false true e f h = let same : b ≡ 9 = eqb-true b 9 f in subst (λ (n : ℕ). not (is_letter n || is_digit n) ≡ true) (sym same) refl
outside-cases b false false e f h = cc

blank-outside : (b : ℕ) → is_blank b ≡ true → not (is_letter b || is_digit b) ≡ true
blank-outside b h = outside-cases b (b == 32) (b == 9) refl refl h

twice : (x : Bool) → not (not x) ≡ x
twice true = refl
twice false = refl

abbrev of_label : ℕ → Bool
of_label c = is_letter c || is_digit c

inside-same : (w : List ℕ) → list_all (λ c. not (contains Outside c)) w ≡ list_all of_label w
inside-same [] = refl
inside-same (b ∷ bs) = rw (twice (of_label b), inside-same bs) refl

or-left : (x y : Bool) → x ≡ true → (x || y) ≡ true
or-left true y h = refl
or-left false y h = cc

label-inside : (w : List ℕ) → is_label w ≡ true → list_all of_label w ≡ true
label-inside [] h = cc
label-inside (b ∷ bs) h =
    let h2 = both (is_letter b) (list_all of_label bs) h in
    and-both (of_label b) (list_all of_label bs) (or-left (is_letter b) (is_digit b) h2.0) h2.1

label-first : (w : List ℕ) → is_label w ≡ true → has_first_letter w ≡ true
label-first [] h = cc
label-first (b ∷ bs) h = (both (is_letter b) (list_all of_label bs) h).0

label-made : (w : List ℕ) → has_first_letter w ≡ true → list_all of_label w ≡ true → is_label w ≡ true
label-made [] h f = cc
label-made (b ∷ bs) h f = and-both (is_letter b) (list_all of_label bs) h (both (of_label b) (list_all of_label bs) f).1

space-ends : (space rest : List ℕ) → AreBlanks space → ends (contains Outside) (space ++ 58 ∷ rest) ≡ true
space-ends [] rest h = refl
space-ends (b ∷ bs) rest h = blank-outside b (both (is_blank b) (list_all is_blank bs) h).0

name-stays : (w rest : List ℕ) → is_label w ≡ true → from Solid (w ++ rest) ≡ w ++ rest
name-stays [] rest h = cc
name-stays (b ∷ bs) rest h = stays b (bs ++ rest) (letter-solid b (both (is_letter b) (list_all of_label bs) h).0)

abbrev pair_if : Bool → List ℕ → List ℕ → Option (List ℕ × List ℕ)
pair_if true name rest = Some (name, rest)
pair_if false name rest = None

pair-same : (t : Bool) (p : List ℕ × List ℕ) → cond t (Some p) None ≡ pair_if t p.0 p.1
pair-same true p = refl
pair-same false p = refl

found-label : (name rest : List ℕ) → is_label name ≡ true → pair_if (has_first_letter name && begins 58 (58 ∷ rest)) name rest ≡ Some (name, rest)
found-label name rest h =
    let first : has_first_letter name ≡ true = label-first name h in
    rw first refl

label-found : (text name rest : List ℕ) → HasLabel text name rest → label_at text ≡ Some (name, rest)
unfolding label_at
label-found text name rest h =
    let gap = h.2 in
    let space = h.3 in
    let after : h.0 ≡ space.0 ++ 58 ∷ rest = space.2 in
    let start : from Solid text ≡ name ++ h.0 = ap (from Solid) gap.2 ∙ (skip gap.0 (name ++ h.0) gap.1 ∙ name-stays name h.0 h.1) in
    let all : list_all (λ c. not (contains Outside c)) name ≡ true = inside-same name ∙ label-inside name h.1 in
    let ending : ends (contains Outside) h.0 ≡ true = ap (ends (contains Outside)) after ∙ space-ends space.0 rest space.1 in
    let front : before Outside (from Solid text) ≡ name = ap (before Outside) start ∙ before-is Outside name h.0 all ending in
    let back : from Solid (from Outside (from Solid text)) ≡ 58 ∷ rest = ap (λ (l : List ℕ). from Solid (from Outside l)) start ∙ (ap (from Solid) (from-is Outside name h.0 all ending) ∙ (ap (from Solid) after ∙ (skip space.0 (58 ∷ rest) space.1 ∙ stays 58 rest refl))) in
    let p : List ℕ × List ℕ = (before Outside (from Solid text), drop 1 (from Solid (from Outside (from Solid text)))) in
    pair-same (has_first_letter (before Outside (from Solid text)) && begins 58 (from Solid (from Outside (from Solid text)))) p ∙ rw (front, back) (found-label name rest h.1)

label-made-of : (text : List ℕ) → (has_first_letter (before Outside (from Solid text)) && begins 58 (from Solid (from Outside (from Solid text)))) ≡ true → HasLabel text (before Outside (from Solid text)) (drop 1 (from Solid (from Outside (from Solid text))))
label-made-of text e =
    let start = from Solid text in
    let after = from Outside start in
    let ok = both (has_first_letter (before Outside start)) (begins 58 (from Solid after)) e in
    let colon : from Solid after ≡ 58 ∷ drop 1 (from Solid after) = mark-text 58 (from Solid after) ok.1 in (
      after,
      label-made (before Outside start) ok.0 (sym (inside-same (before Outside start)) ∙ inside Outside start),
      (before Solid text, gap-blank text, parts Solid text ∙ ap (λ (l : List ℕ). before Solid text ++ l) (parts Outside start)),
      (before Solid after, gap-blank after, parts Solid after ∙ ap (λ (l : List ℕ). before Solid after ++ l) colon),
    )

pair-is : (t : Bool) (a b name rest : List ℕ) → pair_if t a b ≡ Some (name, rest) → (t ≡ true) × (a ≡ name) × (b ≡ rest)
pair-is true a b name rest h =
    let p : List ℕ × List ℕ = (a, b) in
    let q : List ℕ × List ℕ = (name, rest) in
    let e : Some p ≡ Some q = h in
    let same : p ≡ q = cc in
    (refl, ap (λ (x : List ℕ × List ℕ). x.0) same, ap (λ (x : List ℕ × List ℕ). x.1) same)
pair-is false a b name rest h = cc

label-given : (text name rest : List ℕ) → label_at text ≡ Some (name, rest) → HasLabel text name rest
unfolding label_at
label-given text name rest h =
    let p : List ℕ × List ℕ = (before Outside (from Solid text), drop 1 (from Solid (from Outside (from Solid text)))) in
    let t : Bool = has_first_letter (before Outside (from Solid text)) && begins 58 (from Solid (from Outside (from Solid text))) in
    let is = pair-is t p.0 p.1 name rest (sym (pair-same t p) ∙ h) in
    subst (λ (r : List ℕ). HasLabel text name r) is.2 (subst (λ (n : List ℕ). HasLabel text n p.1) is.1 (label-made-of text is.0))

none-some : (x : List ℕ × List ℕ) (o : Option (List ℕ × List ℕ)) → o ≡ None → o ≡ Some x → ⊥
none-some x o e f = cc

abbrev Lacks : List ℕ → Type 0
Lacks text = (name rest : List ℕ) → HasLabel text name rest → ⊥

lacks-from : (text : List ℕ) → label_at text ≡ None → Lacks text
lacks-from text e = λ name rest h. let p : List ℕ × List ℕ = (name, rest) in none-some p (label_at text) e (label-found text name rest h)

-- ---- the body behind a label

body-at : (code : List ℕ) (q : Option (List ℕ × List ℕ)) → label_at code ≡ q → IsBody code (name_in q) (rest_in code q)
body-at code None e = (lacks-from code e, refl)
body-at code (Some p) e = label-given code p.0 p.1 e

record SameBody (code : List ℕ) (q : Option (List ℕ × List ℕ)) (o : Option (List ℕ)) (body : List ℕ) : Type 0 where
  of_name : o ≡ name_in q
  of_body : body ≡ rest_in code q

body-one : (code : List ℕ) (q : Option (List ℕ × List ℕ)) (o : Option (List ℕ)) (body : List ℕ) → label_at code ≡ q → IsBody code o body → SameBody code q o body
body-one code None None body e h = record { of_name = refl; of_body = h.1 }
body-one code None (Some name) body e h = absurd (lacks-from code e name body h)
body-one code (Some p) None body e h = absurd (h.0 p.0 p.1 (label-given code p.0 p.1 e))
body-one code (Some p) (Some name) body e h =
    let it : List ℕ × List ℕ = (name, body) in
    let same : Some p ≡ Some it = sym e ∙ label-found code name body h in
    let at : p ≡ it = cc in
    record { of_name = ap (λ (x : List ℕ × List ℕ). Some x.0) (sym at); of_body = ap (λ (x : List ℕ × List ℕ). x.1) (sym at) }

-- ---- what is read beside a label

-- what a line is read as, whether it has a byte that is not ASCII, and what stands behind its label
abbrev pub read_behind : Bool → List ℕ → Read
read_behind foreign body = cond foreign (Err kinds.Word) (cond (is_some (label_at body)) (Err kinds.Word) (read_statement body))

abbrev read_rest : List ℕ → Option (List ℕ × List ℕ) → Bool → Read
read_rest body q foreign = cond (foreign || is_some (name_in q)) (Err kinds.Word) (read_statement (rest_in body q))

rest-same : (body : List ℕ) (q : Option (List ℕ × List ℕ)) (foreign : Bool) → read_rest body q foreign ≡ cond foreign (Err kinds.Word) (cond (is_some q) (Err kinds.Word) (read_statement body))
rest-same body q true = refl
rest-same body None false = refl
rest-same body (Some p) false = refl

read-step : (t : Bool) (rest : List ℕ) → IsRead t rest (cond t (Err kinds.Word) (read_statement rest))
read-step true rest = refl
read-step false rest = read_statement-given rest

read-given : (foreign : Bool) (body : List ℕ) → IsRead (foreign || is_some (name_in (label_at body))) (rest_in body (label_at body)) (read_behind foreign body)
read-given foreign body = subst (λ (r : Read). IsRead (foreign || is_some (name_in (label_at body))) (rest_in body (label_at body)) r) (rest-same body (label_at body) foreign) (read-step (foreign || is_some (name_in (label_at body))) (rest_in body (label_at body)))

one-step : (t : Bool) (rest : List ℕ) (r : Read) → IsRead t rest r → r ≡ cond t (Err kinds.Word) (read_statement rest)
one-step true rest r h = h
one-step false rest r h = read_statement-one rest r h

read-one : (foreign : Bool) (body : List ℕ) (second : Option (List ℕ)) (rest : List ℕ) (r : Read) → IsBody body second rest → IsRead (foreign || is_some second) rest r → r ≡ read_behind foreign body
read-one foreign body second rest r other h =
    let same = body-one body (label_at body) second rest refl other in
    one-step (foreign || is_some second) rest r h
    ∙ (ap (λ (o : Option (List ℕ)). cond (foreign || is_some o) (Err kinds.Word) (read_statement rest)) same.of_name
    ∙ (ap (λ (l : List ℕ). cond (foreign || is_some (name_in (label_at body))) (Err kinds.Word) (read_statement l)) same.of_body ∙ rest-same body (label_at body) foreign))

-- ---- lines

unfoldable pub line_in : List ℕ → Line
line_in text = record { name = label_of text; statement = read_behind (list_any is_foreign text) (body_of text) }

pub line-given : (text : List ℕ) → IsLine text (line_in text)
unfolding line_in label_of body_of code_of without_return
line-given text = record {
  code = code_of text;
  comment = from Comment (without_return text);
  body = body_of text;
  second = name_in (label_at (body_of text));
  rest = rest_in (body_of text) (label_at (body_of text));
  cut = cut-given Comment (without_return text);
  label = body-at (code_of text) (label_at (code_of text)) refl;
  other = body-at (body_of text) (label_at (body_of text)) refl;
  statement = read-given (list_any is_foreign text) (body_of text);
}

abbrev line_at : Option (List ℕ) → Read → Line
line_at name r = record { name = name; statement = r }

same-line : (a b : Option (List ℕ)) (r s : Read) → a ≡ b → r ≡ s → line_at a r ≡ line_at b s
same-line a b r s e f = rw (e, f) refl

pub line-one : (text : List ℕ) (line : Line) → IsLine text line → line ≡ line_in text
unfolding line_in label_of body_of code_of without_return
line-one text line h =
    let code : code_of text ≡ h.code = (cut-found Comment (without_return text) h.code h.comment h.cut).0 in
    let is : IsBody (code_of text) line.name h.body = subst (λ (c : List ℕ). IsBody c line.name h.body) (sym code) h.label in
    let same = body-one (code_of text) (label_at (code_of text)) line.name h.body refl is in
    let r : line.statement ≡ read_behind (list_any is_foreign text) h.body = read-one (list_any is_foreign text) h.body h.second h.rest line.statement h.other h.statement in
    same-line line.name (label_of text) line.statement (read_behind (list_any is_foreign text) (body_of text)) same.of_name (r ∙ ap (read_behind (list_any is_foreign text)) same.of_body)

-- ---- what is read is that line

foreign-step : (t u : Bool) (b : ℕ) (bs x : List ℕ) → not (is_empty x) ≡ u → not (is_empty (cond t (b ∷ bs) x)) ≡ (t || u)
foreign-step true u b bs x e = refl
foreign-step false u b bs x e = e

foreign-same : (text : List ℕ) → not (is_empty (from Foreign text)) ≡ list_any is_foreign text
unfolding from
foreign-same [] = refl
foreign-same (b ∷ bs) = foreign-step (is_foreign b) (list_any is_foreign bs) b bs (from Foreign bs) (foreign-same bs)

alike-step : (t u : Bool) (r : old.Read) (s : Read) → Alike r s → Alike (cond t (Err kinds.Word) (cond u (Err kinds.Word) r)) (cond t (Err kinds.Word) (cond u (Err kinds.Word) s))
alike-step true u r s e = refl
alike-step false true r s e = refl
alike-step false false r s e = e

pub statement-same : (text : List ℕ) → Alike (statement_in text) (line_in text).statement
unfolding statement_in line_in
statement-same text = rw foreign-same (alike-step (list_any is_foreign text) (is_some (label_at (body_of text))) (old.statement_of (body_of text)) (read_statement (body_of text)) (read_statement-same (body_of text)))

pub name-same : (text : List ℕ) → label_of text ≡ (line_in text).name
unfolding line_in
name-same text = refl
