-- A statement that is read from left to right is the one that its operands ask for.
use Rattle.std.proofs.Common.{◌≡◌, ℕ, ◌+◌, ◌^◌, ◌*◌, Bool, true, false, cond, not, ◌&&◌, List, [], ◌∷◌, Option, Some, None, Result, Ok, Err, refl, sym, ◌∙◌, ap, subst, arith}
use Rattle.std.specs.Prelude.{min, ◌||◌, ◌-◌, ◌==◌, option_map, option_and_then, replicate}
use Rattle.std.specs.List.{list_all}
use Rattle.std.specs.Int.{w32, to_le_bytes}
use Rattle.memory_model.specs.Sizes.{greatest_permission}
use Rattle.image_model.specs.declared.format.Format.TheVariants as formats
use Rattle.instruction_model.specs.declared.Comparison.{Comparison}
use Rattle.instruction_model.specs.declared.Instruction.{Instruction}
use Rattle.instruction_model.specs.declared.Instruction.TheVariants as instructions
use Rattle.source_model.specs.declared.error.AsmErrorKind.{AsmErrorKind}
use Rattle.source_model.specs.declared.error.AsmErrorKind.TheVariants as kinds
use Rattle.source_model.specs.declared.mnemonic.Mnemonic.{Mnemonic}
use Rattle.source_model.specs.declared.mnemonic.Mnemonic.TheVariants as words
use Rattle.source_model.specs.declared.mnemonic.Number.{Number}
use Rattle.source_model.specs.declared.mnemonic.Number.TheVariants.{Plus, Minus}
use Rattle.source_model.specs.declared.statement.Class.TheVariants.{Solid, Outside}
use Rattle.source_model.specs.declared.statement.Statement as read
use Rattle.source_model.specs.declared.statement.Statement.TheVariants as statements
use Rattle.source_model.specs.declared.statement.Value as values
use Rattle.source_model.specs.declared.statement.Value.TheVariants as value_forms
use Rattle.source_model.specs.Bytes.{is_empty, is_letter, is_digit}
use Rattle.source_model.specs.Text as texts
use Rattle.source_model.specs.Text.{◌>>=◌, contains, from, one_word, two_apart, two_words, three_words, word_and_address}
use Rattle.source_model.specs.Number as numbers
use Rattle.source_model.specs.Numeral.{number_in, natural_in}
use Rattle.source_model.specs.Field.{or_fault, field, up_to, count, value_of, register_of}
use Rattle.source_model.specs.Register as registers
use Rattle.source_model.specs.RegisterNames.{register_in}
use Rattle.source_model.specs.Statement.{Read, operate, operate_immediate, shift_immediate, address_of, load, jump_to_register, store, branch, jump, upper, load_upper, add_upper, alone, load_immediate, segment, dti2, entry, stack, word, byte, zeros, operands}
use Rattle.source_model.specs.Statement as old
use Rattle.source_model.specs.Meaning as model
use Rattle.source_model.specs.Meaning.{Value, number, label, distance, Effect, bytes, Labels, effect_of, worth_of, is_too_far}
use Rattle.source_model.specs.Operand as parts
use Rattle.source_model.specs.Operand.{Part, mark, comma, left, right, register, natural, value, target, is_label, value_in, Operands, statement_of, instruction}
use Rattle.source_model.proofs.Numerals.{in-range-same, natural-same}
use Rattle.source_model.proofs.Registers.{register-same}
use Rattle.source_model.proofs.Words.{Word, words_of, AreSolid}
use Rattle.source_model.proofs.Shapes.{Agree, one, two, three, one-agrees, two-agrees, three-agrees, apart-agrees, address-agrees}
use Rattle.source_model.proofs.Alike.{value_view, Same, Alike, with_values, plain, byte-same, loading, load-same, word-same, entry-same, stack-same, branch-same, jump-same, segment-same, dti2-same, zeros-same}

-- ---- forms, by what their first words ask for

abbrev pub shape : Mnemonic → List Part
shape (words.Operate o) = register ∷ comma ∷ register ∷ comma ∷ register ∷ []
shape (words.OperateImmediate o) = register ∷ comma ∷ register ∷ comma ∷ parts.field 2048 2047 ∷ []
shape (words.ShiftImmediate o) = register ∷ comma ∷ register ∷ comma ∷ parts.field 0 31 ∷ []
shape (words.Load k) = register ∷ comma ∷ parts.field 2048 2047 ∷ left ∷ register ∷ right ∷ []
shape (words.Store width) = register ∷ comma ∷ parts.field 2048 2047 ∷ left ∷ register ∷ right ∷ []
shape words.Jalr = register ∷ comma ∷ parts.field 2048 2047 ∷ left ∷ register ∷ right ∷ []
shape (words.Branch c) = register ∷ comma ∷ register ∷ comma ∷ target (2 ^ 12) ∷ []
shape words.Jal = register ∷ comma ∷ target (2 ^ 20) ∷ []
shape words.LoadImmediate = register ∷ comma ∷ value ∷ []
shape words.Lui = register ∷ comma ∷ parts.field 0 (2 ^ 20 - 1) ∷ []
shape words.Auipc = register ∷ comma ∷ parts.field 0 (2 ^ 20 - 1) ∷ []
shape (words.Alone i) = []
shape words.Segment = parts.field 0 (2 ^ 32 - 1) ∷ natural ∷ []
shape words.Dti2 = []
shape words.Entry = value ∷ []
shape words.Stack = value ∷ []
shape words.Word = value ∷ []
shape words.Byte = parts.field 0 255 ∷ []
shape words.Zero = natural ∷ []

pub shape-solid : (m : Mnemonic) → AreSolid (shape m)
shape-solid (words.Operate o) = (refl, (refl, tt))
shape-solid (words.OperateImmediate o) = (refl, (refl, tt))
shape-solid (words.ShiftImmediate o) = (refl, (refl, tt))
shape-solid (words.Load k) = (refl, (refl, (refl, tt)))
shape-solid (words.Store width) = (refl, (refl, (refl, tt)))
shape-solid words.Jalr = (refl, (refl, (refl, tt)))
shape-solid (words.Branch c) = (refl, (refl, tt))
shape-solid words.Jal = (refl, tt)
shape-solid words.LoadImmediate = (refl, tt)
shape-solid words.Lui = (refl, tt)
shape-solid words.Auipc = (refl, tt)
shape-solid (words.Alone i) = tt
shape-solid words.Segment = tt
shape-solid words.Dti2 = tt
shape-solid words.Entry = tt
shape-solid words.Stack = tt
shape-solid words.Word = tt
shape-solid words.Byte = tt
shape-solid words.Zero = tt

abbrev pub effect : Mnemonic → (ℕ → ℕ) → Effect
effect (words.Operate o) v = instruction (instructions.Operate o (v 0) (v 1) (v 2))
effect (words.OperateImmediate o) v = instruction (instructions.OperateImmediate o (v 0) (v 1) (v 2))
effect (words.ShiftImmediate o) v = instruction (instructions.OperateImmediate o (v 0) (v 1) (v 2))
effect (words.Load k) v = instruction (instructions.Load k (v 0) (v 2) (v 1))
effect (words.Store width) v = instruction (instructions.Store width (v 2) (v 0) (v 1))
effect words.Jalr v = instruction (instructions.Jalr (v 0) (v 2) (v 1))
effect (words.Branch c) v = instruction (instructions.Branch c (v 0) (v 1) (v 2))
effect words.Jal v = instruction (instructions.Jal (v 0) (v 1))
effect words.LoadImmediate v = bytes (loading (v 0) (v 1))
effect words.Lui v = instruction (instructions.Lui (v 0) (4096 * v 1))
effect words.Auipc v = instruction (instructions.Auipc (v 0) (4096 * v 1))
effect (words.Alone i) v = instruction i
effect words.Segment v = model.segment (v 0) (v 1)
effect words.Dti2 v = model.format formats.Dti2
effect words.Entry v = model.entry (v 0)
effect words.Stack v = model.stack (v 0)
effect words.Word v = bytes (to_le_bytes w32 (v 0))
effect words.Byte v = bytes (v 0 ∷ [])
effect words.Zero v = bytes (replicate (v 0) 0)

-- ---- labels

label-step : (b : ℕ) (bs : List ℕ) (t : Bool) (u : Bool) → (is_letter b || is_digit b) ≡ t → is_empty (from Outside bs) ≡ u → is_empty (cond (not t) (b ∷ bs) (from Outside bs)) ≡ (t && u)
label-step b bs true u e f = f
label-step b bs false u e f = refl

inside-label : (bs : List ℕ) → is_empty (from Outside bs) ≡ list_all (λ c. is_letter c || is_digit c) bs
unfolding from
inside-label [] = refl
inside-label (b ∷ bs) = label-step b bs (is_letter b || is_digit b) (list_all (λ c. is_letter c || is_digit c) bs) refl (inside-label bs)

first-step : (b : ℕ) (bs : List ℕ) (t : Bool) → is_letter b ≡ t → (t && is_empty (from Outside (b ∷ bs))) ≡ (t && is_empty (from Outside bs))
unfolding from
first-step b bs true e = rw e refl
first-step b bs false e = refl

pub label-same : (w : List ℕ) → texts.is_label w ≡ is_label w
unfolding texts.is_label
label-same [] = refl
label-same (b ∷ bs) = first-step b bs (is_letter b) refl ∙ ap (λ (t : Bool). is_letter b && t) (inside-label bs)

-- ---- results

-- what operands or their absence ask for
abbrev pub read_by : ((ℕ → ℕ) → Effect) → Option Operands → model.Read
read_by f None = Err kinds.Operand
read_by f (Some os) = statement_of f os

abbrev num : Option ℕ → Option Value
num o = option_map (λ n. number n) o

-- operands: a register, and what is none
abbrev r : Option ℕ → Bool × Option Value
r o = (true, num o)

abbrev n : Option ℕ → Bool × Option Value
n o = (false, num o)

abbrev reg : Option ℕ → Result ℕ AsmErrorKind
reg o = or_fault kinds.Register o

abbrev fit : Option ℕ → Result ℕ AsmErrorKind
fit o = or_fault kinds.Number o

by : {X : Type 0} (f : X → Operands) (r : Result X AsmErrorKind) (o : Option Operands) (g : X → Read) (e : (ℕ → ℕ) → Effect) → Agree f r o → ((x : X) → Alike (g x) (statement_of e (f x))) → Alike (r >>= g) (read_by e o)
by f (Ok x) o g e a h = subst (λ (q : Option Operands). Alike (g x) (read_by e q)) (sym a) (h x)
by f (Err kind) o g e a h = subst (λ (q : Option Operands). Alike (Err kind) (read_by e q)) (sym a.1) a.0

bind-twice : {X Y Z : Type 0} (r : Result X AsmErrorKind) (f : X → Result Y AsmErrorKind) (g : Y → Result Z AsmErrorKind) → ((r >>= f) >>= g) ≡ (r >>= λ x. f x >>= g)
bind-twice (Ok x) f g = refl
bind-twice (Err kind) f g = refl

-- ---- three words

-- an instruction of three numbers
three-same : (make : ℕ → ℕ → ℕ → Instruction) (x y z : ℕ) → Same (statements.Plain (make x y z)) [] (with_values (number x ∷ number y ∷ number z ∷ []) (λ v. instruction (make (v 0) (v 1) (v 2))))
three-same make x y z = plain (make x y z) (with_values (number x ∷ number y ∷ number z ∷ []) (λ v. instruction (make (v 0) (v 1) (v 2)))) (λ labels here. refl) (λ labels here. refl) (λ labels here. refl)

three-registers : (make : ℕ → ℕ → ℕ → Instruction) (a b c : Option ℕ)
    → Alike (reg a >>= λ x. reg b >>= λ y. reg c >>= λ z. old.plain (make x y z)) (statement_of (λ v. instruction (make (v 0) (v 1) (v 2))) (r a ∷ r b ∷ r c ∷ []))
three-registers make None b c = refl
three-registers make (Some x) None c = refl
three-registers make (Some x) (Some y) None = refl
three-registers make (Some x) (Some y) (Some z) = three-same make x y z

registers-number : (make : ℕ → ℕ → ℕ → Instruction) (a b c : Option ℕ)
    → Alike (reg a >>= λ x. reg b >>= λ y. fit c >>= λ z. old.plain (make x y z)) (statement_of (λ v. instruction (make (v 0) (v 1) (v 2))) (r a ∷ r b ∷ n c ∷ []))
registers-number make None b c = refl
registers-number make (Some x) None c = refl
registers-number make (Some x) (Some y) None = refl
registers-number make (Some x) (Some y) (Some z) = three-same make x y z

abbrev triple : ℕ → ℕ → ℕ → Result (ℕ × ℕ × ℕ) AsmErrorKind
triple x y z = Ok (x, y, z)

abbrev pair : ℕ → ℕ → Result (ℕ × ℕ) AsmErrorKind
pair x y = Ok (x, y)

address-number : (make : ℕ → ℕ → ℕ → Instruction) (a c b : Option ℕ)
    → Alike ((reg a >>= λ x. reg b >>= λ y. fit c >>= λ z. triple x y z) >>= λ t. old.plain (make t.0 t.1 t.2)) (statement_of (λ v. instruction (make (v 0) (v 2) (v 1))) (r a ∷ n c ∷ r b ∷ []))
address-number make None c b = refl
address-number make (Some x) None None = refl
address-number make (Some x) (Some z) None = refl
address-number make (Some x) None (Some y) = refl
address-number make (Some x) (Some z) (Some y) = plain (make x y z) (with_values (number x ∷ number z ∷ number y ∷ []) (λ v. instruction (make (v 0) (v 2) (v 1)))) (λ labels here. refl) (λ labels here. refl) (λ labels here. refl)

-- a label or a number, as it is read and as an operand is
abbrev either : Bool → Option ℕ → Result values.Value AsmErrorKind
either t o = cond t (Ok value_forms.Label) (fit o >>= λ n. Ok (value_forms.Number n))

abbrev either_value : List ℕ → Bool → Option ℕ → Option Value
either_value w t o = cond t (Some (label w)) (num o)

abbrev v : List ℕ → Bool → Option ℕ → Bool × Option Value
v w t o = (false, either_value w t o)

abbrev far : ℕ → List ℕ → Bool → Option ℕ → Bool × Option Value
far reach w t o = (false, option_map (distance reach) (either_value w t o))

branch-is : (c : Comparison) (w : List ℕ) (a b : Option ℕ) (t : Bool) (o : Option ℕ)
    → Alike (reg a >>= λ x. reg b >>= λ y. either t o >>= λ z. Ok (statements.Branch c x y z, w)) (statement_of (effect (words.Branch c)) (r a ∷ r b ∷ far (2 ^ 12) w t o ∷ []))
branch-is c w None b t o = refl
branch-is c w (Some x) None t o = refl
branch-is c w (Some x) (Some y) true o = branch-same c x y w value_forms.Label
branch-is c w (Some x) (Some y) false None = refl
branch-is c w (Some x) (Some y) false (Some z) = branch-same c x y w (value_forms.Number z)

-- ---- two words

jump-is : (w : List ℕ) (a : Option ℕ) (t : Bool) (o : Option ℕ) → Alike (reg a >>= λ x. either t o >>= λ z. Ok (statements.Jump x z, w)) (statement_of (effect words.Jal) (r a ∷ far (2 ^ 20) w t o ∷ []))
jump-is w None t o = refl
jump-is w (Some x) true o = jump-same x w value_forms.Label
jump-is w (Some x) false None = refl
jump-is w (Some x) false (Some z) = jump-same x w (value_forms.Number z)

load-is : (w : List ℕ) (a : Option ℕ) (t : Bool) (o : Option ℕ) → Alike (reg a >>= λ x. either t o >>= λ z. Ok (statements.LoadImmediate x z, w)) (statement_of (effect words.LoadImmediate) (r a ∷ v w t o ∷ []))
load-is w None t o = refl
load-is w (Some x) true o = load-same x w value_forms.Label
load-is w (Some x) false None = refl
load-is w (Some x) false (Some z) = load-same x w (value_forms.Number z)

register-number : (make : ℕ → ℕ → Instruction) (a c : Option ℕ)
    → Alike ((reg a >>= λ x. fit c >>= λ y. pair x (4096 * y)) >>= λ u. old.plain (make u.0 u.1)) (statement_of (λ v. instruction (make (v 0) (4096 * v 1))) (r a ∷ n c ∷ []))
register-number make None c = refl
register-number make (Some x) None = refl
register-number make (Some x) (Some y) = plain (make x (4096 * y)) (with_values (number x ∷ number y ∷ []) (λ v. instruction (make (v 0) (4096 * v 1)))) (λ labels here. refl) (λ labels here. refl) (λ labels here. refl)

-- a number from 0 on, which is read up to one above a bound
up-step : (bound n : ℕ) (t : Bool) → option_map (λ k. min k (bound + 1)) (cond t (Some 0) None) ≡ cond t (Some 0) None
up-step bound n true = ap (λ (k : ℕ). Some k) (omega arith)
up-step bound n false = refl

up-same : (bound : ℕ) (k : Number) → up_to bound k ≡ option_map (λ n. min n (bound + 1)) (numbers.natural_of k)
up-same bound (Plus n) = refl
up-same bound (Minus n) = sym (up-step bound n (n == 0))

up-of : (bound : ℕ) (k : Option Number) → option_and_then (up_to bound) k ≡ option_map (λ n. min n (bound + 1)) (option_and_then numbers.natural_of k)
up-of bound None = refl
up-of bound (Some k) = up-same bound k

count-same : (bound : ℕ) (w : List ℕ) → option_and_then (up_to bound) (numbers.number_of w) ≡ option_map (λ n. min n (bound + 1)) (natural_in w)
count-same bound w = up-of bound (numbers.number_of w) ∙ ap (option_map (λ n. min n (bound + 1))) (natural-same w)

segment-is : (a p : Option ℕ) → Alike (fit a >>= λ x. fit (option_map (λ n. min n (greatest_permission + 1)) p) >>= λ y. Ok (statements.Segment x y, [])) (statement_of (effect words.Segment) (n a ∷ n p ∷ []))
segment-is None p = refl
segment-is (Some x) None = refl
segment-is (Some x) (Some y) = segment-same x y

-- ---- one word

value-is : (make : values.Value → read.Statement) (e : (ℕ → ℕ) → Effect) (w : List ℕ) (t : Bool) (o : Option ℕ) → ((z : values.Value) → Same (make z) w (with_values (value_view w z ∷ []) e))
    → Alike (either t o >>= λ z. Ok (make z, w)) (statement_of e (v w t o ∷ []))
value-is make e w true o h = h value_forms.Label
value-is make e w false None h = refl
value-is make e w false (Some z) h = h (value_forms.Number z)

byte-is : (o : Option ℕ) → Alike (fit o >>= λ x. Ok (statements.Byte x, [])) (statement_of (effect words.Byte) (n o ∷ []))
byte-is None = refl
byte-is (Some x) = byte-same x

zeros-is : (o : Option ℕ) → Alike (fit (option_map (λ k. min k (2 ^ 32 + 1)) o) >>= λ x. Ok (statements.Zero x, [])) (statement_of (effect words.Zero) (n o ∷ []))
zeros-is None = refl
zeros-is (Some x) = zeros-same x

alone-is : (i : Instruction) (t : Bool) → Alike (cond t (old.plain i) (Err kinds.Operand)) (read_by (effect (words.Alone i)) (cond t (Some []) None))
alone-is i true = plain i (with_values [] (λ v. instruction i)) (λ labels here. refl) (λ labels here. refl) (λ labels here. refl)
alone-is i false = refl

dti2-is : (t : Bool) → Alike (cond t (Ok (statements.Dti2, [])) (Err kinds.Operand)) (read_by (effect words.Dti2) (cond t (Some []) None))
dti2-is true = dti2-same
dti2-is false = refl

-- ---- each mnemonic

abbrev a_register : Word
a_register = (true, λ w. num (register_in w))

abbrev a_field : ℕ → ℕ → Word
a_field below above = (false, λ w. num (number_in below above w))

abbrev a_natural : Word
a_natural = (false, λ w. num (natural_in w))

abbrev a_value : Word
a_value = (false, value_in)

abbrev a_target : ℕ → Word
a_target reach = (false, λ w. option_map (distance reach) (value_in w))

abbrev word_value : List ℕ → Option ℕ
word_value w = number_in (2 ^ 31) (2 ^ 32 - 1) w

-- registers and numbers as they are read
abbrev reg_of : List ℕ → Result ℕ AsmErrorKind
reg_of w = reg (registers.register_in w)

abbrev fit_of : ℕ → ℕ → List ℕ → Result ℕ AsmErrorKind
fit_of below above w = fit (option_and_then (numbers.in_range below above) (numbers.number_of w))

address-is : (make : ℕ → ℕ → ℕ → Instruction) (text : List ℕ) (o : Option Operands) → Agree (three a_register (a_field 2048 2047) a_register) (word_and_address text) o
    → Alike (address_of text >>= λ a. old.plain (make a.0 a.1 a.2)) (read_by (λ v. instruction (make (v 0) (v 2) (v 1))) o)
unfolding address_of register_of field
address-is make text o agrees =
    subst (λ (x : Read). Alike x (read_by (λ v. instruction (make (v 0) (v 2) (v 1))) o))
    (sym (bind-twice (word_and_address text) (λ w. reg_of w.0 >>= λ x. reg_of w.2 >>= λ y. fit_of 2048 2047 w.1 >>= λ z. triple x y z) (λ a. old.plain (make a.0 a.1 a.2))))
    (by (three a_register (a_field 2048 2047) a_register) (word_and_address text) o (λ w. (reg_of w.0 >>= λ x. reg_of w.2 >>= λ y. fit_of 2048 2047 w.1 >>= λ z. triple x y z) >>= λ a. old.plain (make a.0 a.1 a.2)) (λ v. instruction (make (v 0) (v 2) (v 1))) agrees
    (λ w. rw (register-same w.0, register-same w.2, in-range-same 2048 2047 w.1) (address-number make (register_in w.0) (number_in 2048 2047 w.1) (register_in w.2))))

upper-is : (make : ℕ → ℕ → Instruction) (text : List ℕ) (o : Option Operands) → Agree (two a_register (a_field 0 (2 ^ 20 - 1))) (two_words text) o
    → Alike (upper text >>= λ u. old.plain (make u.0 u.1)) (read_by (λ v. instruction (make (v 0) (4096 * v 1))) o)
unfolding upper register_of field
upper-is make text o agrees =
    subst (λ (x : Read). Alike x (read_by (λ v. instruction (make (v 0) (4096 * v 1))) o))
    (sym (bind-twice (two_words text) (λ w. reg_of w.0 >>= λ x. fit_of 0 (2 ^ 20 - 1) w.1 >>= λ n. pair x (4096 * n)) (λ a. old.plain (make a.0 a.1))))
    (by (two a_register (a_field 0 (2 ^ 20 - 1))) (two_words text) o (λ w. (reg_of w.0 >>= λ x. fit_of 0 (2 ^ 20 - 1) w.1 >>= λ n. pair x (4096 * n)) >>= λ a. old.plain (make a.0 a.1)) (λ v. instruction (make (v 0) (4096 * v 1))) agrees
    (λ w. rw (register-same w.0, in-range-same 0 (2 ^ 20 - 1) w.1) (register-number make (register_in w.0) (number_in 0 (2 ^ 20 - 1) w.1))))

pub operands-same : (m : Mnemonic) (text : List ℕ) → Alike (operands m text) (read_by (effect m) (words_of (shape m) text))
unfolding operands operate operate_immediate shift_immediate load jump_to_register store branch jump load_upper add_upper alone load_immediate segment dti2 entry stack word byte zeros register_of field count value_of
operands-same (words.Operate o) text = by (three a_register a_register a_register) (three_words text) (words_of (shape (words.Operate o)) text) _ (effect (words.Operate o)) (three-agrees a_register a_register a_register text)
    (λ w. rw (register-same w.0, register-same w.1, register-same w.2) (three-registers (λ x y z. instructions.Operate o x y z) (register_in w.0) (register_in w.1) (register_in w.2)))
operands-same (words.OperateImmediate o) text = by (three a_register a_register (a_field 2048 2047)) (three_words text) (words_of (shape (words.OperateImmediate o)) text) _ (effect (words.OperateImmediate o)) (three-agrees a_register a_register (a_field 2048 2047) text)
    (λ w. rw (register-same w.0, register-same w.1, in-range-same 2048 2047 w.2) (registers-number (λ x y z. instructions.OperateImmediate o x y z) (register_in w.0) (register_in w.1) (number_in 2048 2047 w.2)))
operands-same (words.ShiftImmediate o) text = by (three a_register a_register (a_field 0 31)) (three_words text) (words_of (shape (words.ShiftImmediate o)) text) _ (effect (words.ShiftImmediate o)) (three-agrees a_register a_register (a_field 0 31) text)
    (λ w. rw (register-same w.0, register-same w.1, in-range-same 0 31 w.2) (registers-number (λ x y z. instructions.OperateImmediate o x y z) (register_in w.0) (register_in w.1) (number_in 0 31 w.2)))
operands-same (words.Load k) text = address-is (λ x y z. instructions.Load k x y z) text (words_of (shape (words.Load k)) text) (address-agrees a_register (a_field 2048 2047) a_register text)
operands-same (words.Store width) text = address-is (λ x y z. instructions.Store width y x z) text (words_of (shape (words.Store width)) text) (address-agrees a_register (a_field 2048 2047) a_register text)
operands-same words.Jalr text = address-is (λ x y z. instructions.Jalr x y z) text (words_of (shape words.Jalr) text) (address-agrees a_register (a_field 2048 2047) a_register text)
operands-same (words.Branch c) text = by (three a_register a_register (a_target (2 ^ 12))) (three_words text) (words_of (shape (words.Branch c)) text) _ (effect (words.Branch c)) (three-agrees a_register a_register (a_target (2 ^ 12)) text)
    (λ w. rw (register-same w.0, register-same w.1, label-same w.2, in-range-same (2 ^ 31) (2 ^ 32 - 1) w.2) (branch-is c w.2 (register_in w.0) (register_in w.1) (is_label w.2) (word_value w.2)))
operands-same words.Jal text = by (two a_register (a_target (2 ^ 20))) (two_words text) (words_of (shape words.Jal) text) _ (effect words.Jal) (two-agrees a_register (a_target (2 ^ 20)) text)
    (λ w. rw (register-same w.0, label-same w.1, in-range-same (2 ^ 31) (2 ^ 32 - 1) w.1) (jump-is w.1 (register_in w.0) (is_label w.1) (word_value w.1)))
operands-same words.LoadImmediate text = by (two a_register a_value) (two_words text) (words_of (shape words.LoadImmediate) text) _ (effect words.LoadImmediate) (two-agrees a_register a_value text)
    (λ w. rw (register-same w.0, label-same w.1, in-range-same (2 ^ 31) (2 ^ 32 - 1) w.1) (load-is w.1 (register_in w.0) (is_label w.1) (word_value w.1)))
operands-same words.Lui text = upper-is (λ x y. instructions.Lui x y) text (words_of (shape words.Lui) text) (two-agrees a_register (a_field 0 (2 ^ 20 - 1)) text)
operands-same words.Auipc text = upper-is (λ x y. instructions.Auipc x y) text (words_of (shape words.Auipc) text) (two-agrees a_register (a_field 0 (2 ^ 20 - 1)) text)
operands-same (words.Alone i) text = alone-is i (is_empty (from Solid text))
operands-same words.Segment text = by (two (a_field 0 (2 ^ 32 - 1)) a_natural) (two_apart text) (words_of (shape words.Segment) text) _ (effect words.Segment) (apart-agrees (a_field 0 (2 ^ 32 - 1)) a_natural text)
    (λ w. rw (in-range-same 0 (2 ^ 32 - 1) w.0, count-same greatest_permission w.1) (segment-is (number_in 0 (2 ^ 32 - 1) w.0) (natural_in w.1)))
operands-same words.Dti2 text = dti2-is (is_empty (from Solid text))
operands-same words.Entry text = by (one a_value) (one_word text) (words_of (shape words.Entry) text) _ (effect words.Entry) (one-agrees a_value text)
    (λ w. rw (label-same w, in-range-same (2 ^ 31) (2 ^ 32 - 1) w) (value-is (λ z. statements.Entry z) (effect words.Entry) w (is_label w) (word_value w) (entry-same w)))
operands-same words.Stack text = by (one a_value) (one_word text) (words_of (shape words.Stack) text) _ (effect words.Stack) (one-agrees a_value text)
    (λ w. rw (label-same w, in-range-same (2 ^ 31) (2 ^ 32 - 1) w) (value-is (λ z. statements.Stack z) (effect words.Stack) w (is_label w) (word_value w) (stack-same w)))
operands-same words.Word text = by (one a_value) (one_word text) (words_of (shape words.Word) text) _ (effect words.Word) (one-agrees a_value text)
    (λ w. rw (label-same w, in-range-same (2 ^ 31) (2 ^ 32 - 1) w) (value-is (λ z. statements.Word z) (effect words.Word) w (is_label w) (word_value w) (word-same w)))
operands-same words.Byte text = by (one (a_field 0 255)) (one_word text) (words_of (shape words.Byte) text) _ (effect words.Byte) (one-agrees (a_field 0 255) text)
    (λ w. rw (in-range-same 0 255 w) (byte-is (number_in 0 255 w)))
operands-same words.Zero text = by (one a_natural) (one_word text) (words_of (shape words.Zero) text) _ (effect words.Zero) (one-agrees a_natural text)
    (λ w. rw (count-same (2 ^ 32) w) (zeros-is (natural_in w)))
