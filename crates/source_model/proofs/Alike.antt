-- When a statement that is read along with the lines does what a statement of the definition does. A permission above 7 is read as 8, and
-- more than 2 ^ 32 zeros as 2 ^ 32 + 1: neither can stand anywhere.
use Rattle.std.proofs.Common.{◌≡◌, ℕ, ◌+◌, ◌^◌, ◌<◌, ◌≤◌, Bool, true, false, List, [], ◌∷◌, ◌++◌, length, Option, Some, None, Ok, Err, refl, sym, ◌∙◌, ap, subst, arith, inl, inr}
use Rattle.std.specs.Prelude.{min, nat_lt, nat_le, ◌&&◌, ◌||◌, ◌-◌, ◌%◌, ◌/◌, ◌*◌, replicate, option_map, is_none, unwrap_or, option_to_list}
use Rattle.std.specs.List.{list_any}
use Rattle.std.proofs.lemmas.Bool.{cases_lt, le-ltb, ltb-false}
use Rattle.std.proofs.lemmas.List.{length-replicate}
use borrow.Author.Tests.{lt-ltb}
use Rattle.instruction_model.specs.declared.Comparison.{Comparison}
use Rattle.instruction_model.specs.declared.Instruction.{Instruction}
use Rattle.instruction_model.specs.declared.Instruction.TheVariants as instructions
use Rattle.instruction_model.specs.declared.Operation.TheVariants.{Add}
use Rattle.std.specs.Int.{w32, to_le_bytes}
use Rattle.memory_model.specs.Sizes.{page_size, greatest_permission}
use Rattle.image_model.specs.declared.format.Format.{Format}
use Rattle.image_model.specs.declared.format.Format.TheVariants as formats
use Rattle.image_model.specs.Image.{Segment, greatest_byte, permission_of}
use Rattle.source_model.specs.declared.statement.Layout.{Layout}
use Rattle.source_model.specs.declared.statement.Statement as read
use Rattle.source_model.specs.declared.statement.Statement.TheVariants as statements
use Rattle.source_model.specs.declared.statement.Value as values
use Rattle.source_model.specs.declared.statement.Value.TheVariants as value_forms
use Rattle.source_model.specs.Layout as layouts
use Rattle.source_model.specs.Reading as reading
use Rattle.source_model.specs.Reading.{Draft, operand_of, draft_with}
use Rattle.source_model.specs.Statement as old
use Rattle.source_model.specs.Meaning as model
use Rattle.source_model.specs.Meaning.{Value, number, label, distance, Effect, bytes, segment, entry, stack, format, Statement, Read, Labels, worth_of, effect_of, end_of, address_after, with_content, is_out_of_place, with_effect, is_out_of_reach, is_too_far}
use Rattle.source_model.specs.Operand.{instruction_bytes, instruction, upper_part, lower_part}
use Rattle.source_model.proofs.Segments.{top_of, layout_in, has_no_room, address-same, room-same, more-layout, begun-layout}
use Rattle.source_model.proofs.Drafts.{file_size, view, size-grown, grows, begins}

abbrev pub value_view : List ℕ → values.Value → Value
value_view w (value_forms.Number n) = number n
value_view w value_forms.Label = label w

-- what the value of a statement that is read is worth; none where its label has no worth
abbrev pub worth_at : Labels → List ℕ → read.Statement → Option ℕ
worth_at labels w x = worth_of labels 0 (value_view w (operand_of x))

-- of the same places, as long, with the same outcome where its value has a worth, as far from its target, and as much in want of labels
pub record Same (x : read.Statement) (w : List ℕ) (s : Statement) : Type 0 where
  pub place : (labels : Labels) (d : model.Draft) → layouts.is_out_of_place (layout_in d) x ≡ is_out_of_place d (effect_of labels (address_after d) s)
  pub layout : (labels : Labels) (d : model.Draft) → is_out_of_place d (effect_of labels (address_after d) s) ≡ false → layouts.after (layout_in d) x ≡ layout_in (with_effect d (effect_of labels (address_after d) s))
  pub size : (labels : Labels) (d : model.Draft) → is_out_of_place d (effect_of labels (address_after d) s) ≡ false → reading.size_with (view d) (layouts.size_of x) ≡ file_size (with_effect d (effect_of labels (address_after d) s)).segments
  pub draft : (labels : Labels) (d : model.Draft) (v : ℕ) → worth_at labels w x ≡ Some v → is_out_of_place d (effect_of labels (address_after d) s) ≡ false → draft_with (view d) x v ≡ view (with_effect d (effect_of labels (address_after d) s))
  pub far : (labels : Labels) (here : ℕ) → reading.is_too_far here x (worth_at labels w x) ≡ list_any (is_too_far labels here) s.values
  pub lacks : (labels : Labels) (here : ℕ) → is_none (worth_at labels w x) ≡ list_any (λ v. is_none (worth_of labels here v)) s.values

-- the same fault, or the same statement
abbrev pub Alike : old.Read → Read → Type 0
Alike (Ok x) (Ok s) = Same x.0 x.1 s
Alike (Err k) (Err j) = k ≡ j
Alike r q = ⊥

-- ---- statements that put bytes

-- a statement that is read for its bytes alone
record Puts (x : read.Statement) : Type 0 where
  place : (here : Layout) → layouts.is_out_of_place here x ≡ layouts.bytes_out_of_place here.reached (layouts.size_of x)
  layout : (here : Layout) → layouts.after here x ≡ layouts.further here.reached here (layouts.size_of x)
  draft : (d : Draft) (v : ℕ) → draft_with d x v ≡ record d { layout = layouts.further d.layout.reached d.layout (layouts.size_of x); content = d.content ++ reading.bytes_of (layouts.address_in d.layout.reached) x v; size = reading.size_with d (layouts.size_of x) }

-- the bytes that the statement does
record Content (x : read.Statement) (w : List ℕ) (s : Statement) : Type 0 where
  content : Labels → ℕ → List ℕ
  is : (labels : Labels) (here : ℕ) → effect_of labels here s ≡ bytes (content labels here)
  long : (labels : Labels) (here : ℕ) → length (content labels here) ≡ layouts.size_of x
  same : (labels : Labels) (here v : ℕ) → worth_at labels w x ≡ Some v → content labels here ≡ reading.bytes_of here x v

put-place : (x : read.Statement) (w : List ℕ) (s : Statement) → Puts x → Content x w s → (labels : Labels) (d : model.Draft) → layouts.is_out_of_place (layout_in d) x ≡ is_out_of_place d (effect_of labels (address_after d) s)
put-place x w s p c labels d =
    p.place (layout_in d) ∙ (ap (λ (n : ℕ). layouts.bytes_out_of_place (top_of d.segments) n) (sym (c.long labels (address_after d)))
    ∙ (room-same d.segments (c.content labels (address_after d)) ∙ ap (is_out_of_place d) (sym (c.is labels (address_after d)))))

put-layout : (x : read.Statement) (w : List ℕ) (s : Statement) → Puts x → Content x w s → (labels : Labels) (d : model.Draft) → layouts.after (layout_in d) x ≡ layout_in (with_effect d (effect_of labels (address_after d) s))
put-layout x w s p c labels d =
    p.layout (layout_in d) ∙ (more-layout d.format d.segments (c.content labels (address_after d)) (layouts.size_of x) (c.long labels (address_after d))
    ∙ ap (λ (e : Effect). layout_in (with_effect d e)) (sym (c.is labels (address_after d))))

room-for : (x : read.Statement) (w : List ℕ) (s : Statement) (c : Content x w s) (labels : Labels) (d : model.Draft) → is_out_of_place d (effect_of labels (address_after d) s) ≡ false → is_out_of_place d (bytes (c.content labels (address_after d))) ≡ false
room-for x w s c labels d room = ap (is_out_of_place d) (sym (c.is labels (address_after d))) ∙ room

put-size : (x : read.Statement) (w : List ℕ) (s : Statement) → Content x w s → (labels : Labels) (d : model.Draft) → is_out_of_place d (effect_of labels (address_after d) s) ≡ false
    → reading.size_with (view d) (layouts.size_of x) ≡ file_size (with_effect d (effect_of labels (address_after d) s)).segments
put-size x w s c labels d room =
    size-grown d.format d.segments d.entry d.stack (c.content labels (address_after d)) (layouts.size_of x) (c.long labels (address_after d)) (room-for x w s c labels d room)
    ∙ ap (λ (e : Effect). file_size (with_effect d e).segments) (sym (c.is labels (address_after d)))

put-draft : (x : read.Statement) (w : List ℕ) (s : Statement) → Puts x → Content x w s → (labels : Labels) (d : model.Draft) (v : ℕ) → worth_at labels w x ≡ Some v → is_out_of_place d (effect_of labels (address_after d) s) ≡ false
    → draft_with (view d) x v ≡ view (with_effect d (effect_of labels (address_after d) s))
put-draft x w s p c labels d v worth room =
    let b : List ℕ = c.content labels (address_after d) in
    p.draft (view d) v
    ∙ (ap (λ (l : List ℕ). record (view d) { layout = layouts.further (top_of d.segments) (layout_in d) (layouts.size_of x); content = (view d).content ++ l; size = reading.size_with (view d) (layouts.size_of x) })
    (ap (λ (n : ℕ). reading.bytes_of n x v) (address-same d) ∙ sym (c.same labels (address_after d) v worth))
    ∙ (grows d.format d.segments d.entry d.stack b (layouts.size_of x) (c.long labels (address_after d)) (room-for x w s c labels d room)
    ∙ ap (λ (e : Effect). view (with_effect d e)) (sym (c.is labels (address_after d)))))

abbrev Far : read.Statement → List ℕ → Statement → Type 0
Far x w s = (labels : Labels) (here : ℕ) → reading.is_too_far here x (worth_at labels w x) ≡ list_any (is_too_far labels here) s.values

abbrev Lacks : read.Statement → List ℕ → Statement → Type 0
Lacks x w s = (labels : Labels) (here : ℕ) → is_none (worth_at labels w x) ≡ list_any (λ v. is_none (worth_of labels here v)) s.values

put : (x : read.Statement) (w : List ℕ) (s : Statement) → Puts x → Content x w s → Far x w s → Lacks x w s → Same x w s
put x w s p c far lacks = record { place = put-place x w s p c; layout = λ labels d _. put-layout x w s p c labels d; size = put-size x w s c; draft = put-draft x w s p c; far = far; lacks = lacks }

abbrev pub with_values : List Value → ((ℕ → ℕ) → Effect) → Statement
with_values values effect = record { values = values; effect = effect }

-- ---- without a value

pub nothing-same : Same statements.Nothing [] (with_values [] (λ v. bytes []))
nothing-same = put statements.Nothing [] (with_values [] (λ v. bytes [])) (record { place = λ here. refl; layout = λ here. refl; draft = λ d v. refl })
    (record { content = λ labels here. []; is = λ labels here. refl; long = λ labels here. refl; same = λ labels here v e. refl }) (λ labels here. refl) (λ labels here. refl)

pub plain : (i : Instruction) (s : Statement) → ((labels : Labels) (here : ℕ) → effect_of labels here s ≡ instruction i) → Far (statements.Plain i) [] s → Lacks (statements.Plain i) [] s → Same (statements.Plain i) [] s
plain i s is far lacks = put (statements.Plain i) [] s (record { place = λ here. refl; layout = λ here. refl; draft = λ d v. refl })
    (record { content = λ labels here. instruction_bytes i; is = is; long = λ labels here. refl; same = λ labels here v e. refl }) far lacks

pub byte-same : (n : ℕ) → Same (statements.Byte n) [] (with_values (number n ∷ []) (λ v. bytes (v 0 ∷ [])))
byte-same n = put (statements.Byte n) [] (with_values (number n ∷ []) (λ v. bytes (v 0 ∷ []))) (record { place = λ here. refl; layout = λ here. refl; draft = λ d v. refl })
    (record { content = λ labels here. n ∷ []; is = λ labels here. refl; long = λ labels here. refl; same = λ labels here v e. refl }) (λ labels here. refl) (λ labels here. refl)

-- ---- with a value

or-false : (b : Bool) → b ≡ (b || false)
or-false true = refl
or-false false = refl

-- a number or a label is worth the same everywhere
anywhere : (labels : Labels) (here : ℕ) (w : List ℕ) (v : values.Value) → worth_of labels 0 (value_view w v) ≡ worth_of labels here (value_view w v)
anywhere labels here w (value_forms.Number n) = refl
anywhere labels here w value_forms.Label = refl

value-of : (o : Option ℕ) (v : ℕ) → o ≡ Some v → unwrap_or o 0 ≡ v
value-of o v e = rw e refl

-- its worth at an address, 0 where it has none
abbrev amount : Labels → ℕ → List ℕ → values.Value → ℕ
amount labels here w v = unwrap_or (worth_of labels here (value_view w v)) 0

amount-is : (labels : Labels) (here : ℕ) (w : List ℕ) (v : values.Value) (n : ℕ) → worth_of labels 0 (value_view w v) ≡ Some n → amount labels here w v ≡ n
amount-is labels here w v n e = value-of (worth_of labels here (value_view w v)) n (sym (anywhere labels here w v) ∙ e)

near : (labels : Labels) (here : ℕ) (w : List ℕ) (v : values.Value) → false ≡ (is_too_far labels here (value_view w v) || false)
near labels here w (value_forms.Number n) = refl
near labels here w value_forms.Label = refl

lacks-value : (labels : Labels) (here : ℕ) (w : List ℕ) (v : values.Value) → is_none (worth_of labels 0 (value_view w v)) ≡ (is_none (worth_of labels here (value_view w v)) || false)
lacks-value labels here w v = ap (λ (o : Option ℕ). is_none o) (anywhere labels here w v) ∙ or-false (is_none (worth_of labels here (value_view w v)))

far-load : (here r : ℕ) (v : values.Value) (o : Option ℕ) → reading.is_too_far here (statements.LoadImmediate r v) o ≡ false
far-load here r v None = refl
far-load here r v (Some n) = refl

far-entry : (here : ℕ) (v : values.Value) (o : Option ℕ) → reading.is_too_far here (statements.Entry v) o ≡ false
far-entry here v None = refl
far-entry here v (Some n) = refl

far-stack : (here : ℕ) (v : values.Value) (o : Option ℕ) → reading.is_too_far here (statements.Stack v) o ≡ false
far-stack here v None = refl
far-stack here v (Some n) = refl

far-word : (here : ℕ) (v : values.Value) (o : Option ℕ) → reading.is_too_far here (statements.Word v) o ≡ false
far-word here v None = refl
far-word here v (Some n) = refl

abbrev pub loading : ℕ → ℕ → List ℕ
loading r n = instruction_bytes (instructions.Lui r (upper_part n)) ++ instruction_bytes (instructions.OperateImmediate Add r r (lower_part n))

pub load-same : (r : ℕ) (w : List ℕ) (v : values.Value) → Same (statements.LoadImmediate r v) w (with_values (number r ∷ value_view w v ∷ []) (λ v. bytes (loading (v 0) (v 1))))
load-same r w v = put (statements.LoadImmediate r v) w (with_values (number r ∷ value_view w v ∷ []) (λ v. bytes (loading (v 0) (v 1)))) (record { place = λ here. refl; layout = λ here. refl; draft = λ d v. refl })
    (record { content = λ labels here. loading r (amount labels here w v); is = λ labels here. refl; long = λ labels here. refl; same = λ labels here n e. ap (loading r) (amount-is labels here w v n e) })
    (λ labels here. far-load here r v (worth_of labels 0 (value_view w v)) ∙ near labels here w v) (λ labels here. lacks-value labels here w v)

pub word-same : (w : List ℕ) (v : values.Value) → Same (statements.Word v) w (with_values (value_view w v ∷ []) (λ v. bytes (to_le_bytes w32 (v 0))))
word-same w v = put (statements.Word v) w (with_values (value_view w v ∷ []) (λ v. bytes (to_le_bytes w32 (v 0)))) (record { place = λ here. refl; layout = λ here. refl; draft = λ d v. refl })
    (record { content = λ labels here. to_le_bytes w32 (amount labels here w v); is = λ labels here. refl; long = λ labels here. refl; same = λ labels here n e. ap (to_le_bytes w32) (amount-is labels here w v n e) })
    (λ labels here. far-word here v (worth_of labels 0 (value_view w v)) ∙ near labels here w v) (λ labels here. lacks-value labels here w v)

none-out : (r : Option ℕ) → layouts.bytes_out_of_place r 0 ≡ false
none-out None = refl
none-out (Some a) = refl

none-further : (r : Option ℕ) (here : Layout) → layouts.further r here 0 ≡ here
none-further None here = refl
none-further (Some a) here = refl

pub entry-same : (w : List ℕ) (v : values.Value) → Same (statements.Entry v) w (with_values (value_view w v ∷ []) (λ v. entry (v 0)))
entry-same w v = record {
  place = λ labels d. none-out (top_of d.segments);
  layout = λ labels d h. none-further (top_of d.segments) (layout_in d);
  size = λ labels d h. refl;
  draft = λ labels d n e h. ap (λ (k : ℕ). view (with_effect d (entry k))) (sym (amount-is labels (address_after d) w v n e));
  far = λ labels here. far-entry here v (worth_of labels 0 (value_view w v)) ∙ near labels here w v;
  lacks = λ labels here. lacks-value labels here w v;
}

pub stack-same : (w : List ℕ) (v : values.Value) → Same (statements.Stack v) w (with_values (value_view w v ∷ []) (λ v. stack (v 0)))
stack-same w v = record {
  place = λ labels d. none-out (top_of d.segments);
  layout = λ labels d h. none-further (top_of d.segments) (layout_in d);
  size = λ labels d h. refl;
  draft = λ labels d n e h. ap (λ (k : ℕ). view (with_effect d (stack k))) (sym (amount-is labels (address_after d) w v n e));
  far = λ labels here. far-stack here v (worth_of labels 0 (value_view w v)) ∙ near labels here w v;
  lacks = λ labels here. lacks-value labels here w v;
}

-- ---- with a target

-- how far it is to a value
abbrev way : ℕ → Option ℕ → Option ℕ
way here o = option_map (λ target. (target + (2 ^ 32 - here)) % 2 ^ 32) o

way-is : (labels : Labels) (here : ℕ) (w : List ℕ) (v : values.Value) (n : ℕ) → worth_of labels 0 (value_view w v) ≡ Some n → unwrap_or (way here (worth_of labels here (value_view w v))) 0 ≡ (n + (2 ^ 32 - here)) % 2 ^ 32
way-is labels here w v n e = value-of (way here (worth_of labels here (value_view w v))) ((n + (2 ^ 32 - here)) % 2 ^ 32) (ap (way here) (sym (anywhere labels here w v) ∙ e))

lacks-way : (here : ℕ) (o : Option ℕ) → is_none o ≡ (is_none (way here o) || false)
lacks-way here None = refl
lacks-way here (Some n) = refl

lacks-target : (labels : Labels) (here : ℕ) (w : List ℕ) (v : values.Value) → is_none (worth_of labels 0 (value_view w v)) ≡ (is_none (way here (worth_of labels here (value_view w v))) || false)
lacks-target labels here w v = ap (λ (o : Option ℕ). is_none o) (anywhere labels here w v) ∙ lacks-way here (worth_of labels here (value_view w v))

far-branch : (c : Comparison) (a b here : ℕ) (t : values.Value) (o : Option ℕ) → reading.is_too_far here (statements.Branch c a b t) o ≡ (list_any (is_out_of_reach (2 ^ 12)) (option_to_list (way here o)) || false)
far-branch c a b here t None = refl
far-branch c a b here t (Some n) = or-false _ ∙ or-false _

far-jump : (r here : ℕ) (t : values.Value) (o : Option ℕ) → reading.is_too_far here (statements.Jump r t) o ≡ (list_any (is_out_of_reach (2 ^ 20)) (option_to_list (way here o)) || false)
far-jump r here t None = refl
far-jump r here t (Some n) = or-false _ ∙ or-false _

abbrev branching : Comparison → ℕ → ℕ → ℕ → List ℕ
branching c a b n = instruction_bytes (instructions.Branch c a b n)

pub branch-same : (c : Comparison) (a b : ℕ) (w : List ℕ) (t : values.Value) → Same (statements.Branch c a b t) w (with_values (number a ∷ number b ∷ distance (2 ^ 12) (value_view w t) ∷ []) (λ v. instruction (instructions.Branch c (v 0) (v 1) (v 2))))
branch-same c a b w t = put (statements.Branch c a b t) w (with_values (number a ∷ number b ∷ distance (2 ^ 12) (value_view w t) ∷ []) (λ v. instruction (instructions.Branch c (v 0) (v 1) (v 2)))) (record { place = λ here. refl; layout = λ here. refl; draft = λ d v. refl })
    (record { content = λ labels here. branching c a b (unwrap_or (way here (worth_of labels here (value_view w t))) 0); is = λ labels here. refl; long = λ labels here. refl; same = λ labels here n e. ap (branching c a b) (way-is labels here w t n e) })
    (λ labels here. ap (reading.is_too_far here (statements.Branch c a b t)) (anywhere labels here w t) ∙ far-branch c a b here t (worth_of labels here (value_view w t))) (λ labels here. lacks-target labels here w t)

abbrev jumping : ℕ → ℕ → List ℕ
jumping r n = instruction_bytes (instructions.Jal r n)

pub jump-same : (r : ℕ) (w : List ℕ) (t : values.Value) → Same (statements.Jump r t) w (with_values (number r ∷ distance (2 ^ 20) (value_view w t) ∷ []) (λ v. instruction (instructions.Jal (v 0) (v 1))))
jump-same r w t = put (statements.Jump r t) w (with_values (number r ∷ distance (2 ^ 20) (value_view w t) ∷ []) (λ v. instruction (instructions.Jal (v 0) (v 1)))) (record { place = λ here. refl; layout = λ here. refl; draft = λ d v. refl })
    (record { content = λ labels here. jumping r (unwrap_or (way here (worth_of labels here (value_view w t))) 0); is = λ labels here. refl; long = λ labels here. refl; same = λ labels here n e. ap (jumping r) (way-is labels here w t n e) })
    (λ labels here. ap (reading.is_too_far here (statements.Jump r t)) (anywhere labels here w t) ∙ far-jump r here t (worth_of labels here (value_view w t))) (λ labels here. lacks-target labels here w t)

-- ---- segments and zeros, with short numbers

greatest : (f : Format) → greatest_byte f ≤ greatest_permission
greatest formats.Dti1 = omega arith
greatest formats.Dti2 = omega arith

permission-same : (f : Format) (p : ℕ) → nat_lt (greatest_byte f) (min p (greatest_permission + 1)) ≡ nat_lt (greatest_byte f) p
permission-same f p = elim (cases_lt (greatest_byte f) p) [
  | inl lt ↦ lt-ltb (greatest_byte f) (min p (greatest_permission + 1)) (omega (arith, lt, greatest f)) ∙ sym (lt-ltb (greatest_byte f) p lt)
  | inr le ↦ le-ltb (greatest_byte f) (min p (greatest_permission + 1)) (omega (arith, le)) ∙ sym (le-ltb (greatest_byte f) p le)
]

or-none : (x y z : Bool) → (x || y || z) ≡ false → x ≡ false
or-none true y z h = cc
or-none false y z h = refl

permission-stays : (f : Format) (p : ℕ) → nat_lt (greatest_byte f) p ≡ false → min p (greatest_permission + 1) ≡ p
permission-stays f p h = let le : p ≤ greatest_byte f = ltb-false (greatest_byte f) p h in omega (arith, le, greatest f)

abbrev begun : ℕ → ℕ → Statement
begun a p = with_values (number a ∷ number p ∷ []) (λ v. segment (v 0) (v 1))

in-place : (d : model.Draft) (a p : ℕ) → is_out_of_place d (segment a p) ≡ false → min p (greatest_permission + 1) ≡ p
in-place d a p h = permission-stays d.format p (or-none (nat_lt (greatest_byte d.format) p) (nat_lt (a / page_size * page_size) (end_of (with_content d.segments))) (nat_le 64 (length d.segments)) h)

pub segment-same : (a p : ℕ) → Same (statements.Segment a (min p (greatest_permission + 1))) [] (begun a p)
segment-same a p = record {
  place = λ labels d. ap (λ (t : Bool). t || nat_lt (a / page_size * page_size) (end_of (with_content d.segments)) || nat_le 64 (length d.segments)) (permission-same d.format p);
  layout = λ labels d h. begun-layout d.format d.segments a (permission_of d.format p);
  size = λ labels d h. refl;
  draft = λ labels d v e h. ap (λ (n : ℕ). draft_with (view d) (statements.Segment a n) v) (in-place d a p h) ∙ begins d a p v;
  far = λ labels here. refl;
  lacks = λ labels here. refl;
}

pub dti2-same : Same statements.Dti2 [] (with_values [] (λ v. format formats.Dti2))
dti2-same = record {
  place = λ labels d. refl;
  layout = λ labels d h. refl;
  size = λ labels d h. refl;
  draft = λ labels d v e h. refl;
  far = λ labels here. refl;
  lacks = λ labels here. refl;
}

abbrev zeros : ℕ → Statement
zeros n = with_values (number n ∷ []) (λ v. bytes (replicate (v 0) 0))

pub few-same : (n : ℕ) → Same (statements.Zero n) [] (zeros n)
few-same n = put (statements.Zero n) [] (zeros n) (record { place = λ here. refl; layout = λ here. refl; draft = λ d v. refl })
    (record { content = λ labels here. replicate n 0; is = λ labels here. refl; long = λ labels here. length-replicate n 0; same = λ labels here v e. refl }) (λ labels here. refl) (λ labels here. refl)

both-true : (x y : Bool) → x ≡ true → y ≡ true → (x && y) ≡ true
both-true true y e f = f
both-true false y e f = cc

past : (r : Option ℕ) (n : ℕ) → 2 ^ 32 < n → layouts.bytes_out_of_place r n ≡ true
past None n lt = lt-ltb 0 n (omega (arith, lt))
past (Some a) n lt = both-true (nat_lt 0 n) (nat_lt (2 ^ 32) (a + n)) (lt-ltb 0 n (omega (arith, lt))) (lt-ltb (2 ^ 32) (a + n) (omega (arith, lt)))

apart : (x : Bool) → x ≡ true → x ≡ false → ⊥
apart x e f = cc

past-zeros : (ss : List Segment) (n : ℕ) → 2 ^ 32 < n → has_no_room ss (replicate n 0) ≡ true
past-zeros ss n lt = sym (room-same ss (replicate n 0)) ∙ (ap (λ (k : ℕ). layouts.bytes_out_of_place (top_of ss) k) (length-replicate n 0) ∙ past (top_of ss) n lt)

many-same : (n : ℕ) → 2 ^ 32 < n → Same (statements.Zero (min n (2 ^ 32 + 1))) [] (zeros n)
many-same n lt = record {
  place = λ labels d. past (top_of d.segments) (min n (2 ^ 32 + 1)) (omega (arith, lt)) ∙ sym (past-zeros d.segments n lt);
  layout = λ labels d h. absurd (apart (is_out_of_place d (bytes (replicate n 0))) (past-zeros d.segments n lt) h);
  size = λ labels d h. absurd (apart (is_out_of_place d (bytes (replicate n 0))) (past-zeros d.segments n lt) h);
  draft = λ labels d v e h. absurd (apart (is_out_of_place d (bytes (replicate n 0))) (past-zeros d.segments n lt) h);
  far = λ labels here. refl;
  lacks = λ labels here. refl;
}

pub zeros-same : (n : ℕ) → Same (statements.Zero (min n (2 ^ 32 + 1))) [] (zeros n)
zeros-same n = elim (cases_lt (2 ^ 32) n) [
  | inl lt ↦ many-same n lt
  | inr le ↦ let same : min n (2 ^ 32 + 1) ≡ n = omega (arith, le) in subst (λ (k : ℕ). Same (statements.Zero k) [] (zeros n)) (sym same) (few-same n)
]
