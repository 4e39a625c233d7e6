-- The fault of a line that is read along with the lines is that of the line that follows others.
use Rattle.std.proofs.Common.{◌≡◌, ℕ, Bool, true, false, cond, List, [], ◌∷◌, ◌++◌, length, Option, Some, None, Result, Ok, Err, refl, sym, ◌∙◌, ap}
use Rattle.std.specs.Prelude.{nat_lt, is_none, is_some, option_map, option_and_then}
use Rattle.std.specs.List.{list_any}
use Rattle.std.proofs.lemmas.Grind.{fold-append}
use Rattle.image_model.specs.Image.{image_bytes}
use Rattle.source_model.specs.declared.error.AsmErrorKind.{AsmErrorKind}
use Rattle.source_model.specs.declared.error.AsmErrorKind.TheVariants as kinds
use Rattle.source_model.specs.declared.statement.Statement as read
use Rattle.source_model.specs.declared.statement.Value as values
use Rattle.source_model.specs.declared.statement.Value.TheVariants as value_forms
use Rattle.source_model.specs.Layout as layouts
use Rattle.source_model.specs.Meaning as model
use Rattle.source_model.specs.Meaning.{Statement, Read, Line, worth_of, address_after, effect_of, is_out_of_place, with_effect, with_read, draft_of, image_of, is_too_far, greatest_size, first_kind, fault_of, label_in}
use Rattle.source_model.specs.Reading as reading
use Rattle.source_model.specs.Reading.{Draft, Labels, operand_of, draft_with, check_line, with_value}
use Rattle.source_model.proofs.Segments.{layout_in, address-same}
use Rattle.source_model.proofs.Drafts.{file_size, view, image-size}
use Rattle.source_model.proofs.Alike.{value_view, worth_at, Same}

-- ---- values

-- labels are worth the same as they are read
abbrev pub Agree : Labels → model.Labels → Type 0
Agree old labels = (w : List ℕ) → option_map (λ d. d.value) (old w) ≡ labels w

worth-same : (old : Labels) (labels : model.Labels) → Agree old labels → (w : List ℕ) (v : values.Value) → reading.worth_of old w v ≡ worth_of labels 0 (value_view w v)
worth-same old labels agree w (value_forms.Number n) = refl
worth-same old labels agree w value_forms.Label = agree w

-- ---- the first kind

abbrev pub kind_or : {A : Type 0} → Option AsmErrorKind → A → Result A AsmErrorKind
kind_or None d = Ok d
kind_or (Some kind) d = Err kind

last-two : (f u : Bool) (d : Draft) → cond f (Err kinds.TooBig) (cond u (Err kinds.Label) (kind_or None d)) ≡ kind_or (first_kind ((f, kinds.TooBig) ∷ (u, kinds.Label) ∷ [])) d
last-two true u d = refl
last-two false true d = refl
last-two false false d = refl

chain : (a b c e f u : Bool) (x : Result Draft AsmErrorKind) (d : Draft) → (c ≡ false → e ≡ f) → (c ≡ false → x ≡ cond u (Err kinds.Label) (kind_or None d))
    → cond a (Err kinds.Number) (cond b (Err kinds.Twice) (cond c (Err kinds.Place) (cond e (Err kinds.TooBig) x)))
    ≡ kind_or (first_kind ((a, kinds.Number) ∷ (b, kinds.Twice) ∷ (c, kinds.Place) ∷ (f, kinds.TooBig) ∷ (u, kinds.Label) ∷ [])) d
chain true b c e f u x d big rest = refl
chain false true c e f u x d big rest = refl
chain false false true e f u x d big rest = refl
chain false false false e f u x d big rest = rw (big refl, rest refl) (last-two f u d)

chain-by : (a a2 b b2 c c2 e f u : Bool) (x : Result Draft AsmErrorKind) (d : Draft) → a2 ≡ a → b2 ≡ b → c2 ≡ c → (c ≡ false → e ≡ f) → (c ≡ false → x ≡ cond u (Err kinds.Label) (kind_or None d))
    → cond a2 (Err kinds.Number) (cond b2 (Err kinds.Twice) (cond c2 (Err kinds.Place) (cond e (Err kinds.TooBig) x)))
    ≡ kind_or (first_kind ((a, kinds.Number) ∷ (b, kinds.Twice) ∷ (c, kinds.Place) ∷ (f, kinds.TooBig) ∷ (u, kinds.Label) ∷ [])) d
chain-by a a2 b b2 c c2 e f u x d p q r big rest = rw (p, q, r) (chain a b c e f u x d big rest)

complete : (d : Draft) (s : read.Statement) (o : Option ℕ) (e : Draft) → ((v : ℕ) → o ≡ Some v → draft_with d s v ≡ e) → with_value d s o ≡ cond (is_none o) (Err kinds.Label) (kind_or None e)
complete d s None e h = refl
complete d s (Some v) e h = ap (λ (x : Draft). kind_or None x) (h v refl)

-- ---- lines one after the other

abbrev pub draft_after : List Line → List Line → Draft
draft_after all lines = view (draft_of (label_in all) lines)

pub draft-more : (all before : List Line) (line : Line) → draft_after all (before ++ line ∷ []) ≡ view (with_read (label_in all) (draft_of (label_in all) before) line.statement)
unfolding draft_of
draft-more all before line = ap view (fold-append (λ d l. with_read (label_in all) d l.statement) model.blank before (line ∷ []))

in-place : (labels : model.Labels) (d : model.Draft) (s : Statement) → is_out_of_place d (effect_of labels (address_after d) s) ≡ false → with_read labels d (Ok s) ≡ with_effect d (effect_of labels (address_after d) s)
in-place labels d s h = rw h refl

big-same : (labels : model.Labels) (d : model.Draft) (w : List ℕ) (x : read.Statement) (s : Statement) → Same x w s → is_out_of_place d (effect_of labels (address_after d) s) ≡ false
    → nat_lt reading.limit (reading.size_with (view d) (layouts.size_of x)) ≡ nat_lt greatest_size (length (image_bytes (image_of (with_read labels d (Ok s)))))
big-same labels d w x s same h =
    let put : with_read labels d (Ok s) ≡ with_effect d (effect_of labels (address_after d) s) = in-place labels d s h in
    ap (nat_lt greatest_size) (same.size labels d h ∙ (ap (λ (e : model.Draft). file_size e.segments) (sym put) ∙ sym (image-size (with_read labels d (Ok s)))))

rest-same : (labels : model.Labels) (d : model.Draft) (w : List ℕ) (x : read.Statement) (s : Statement) → Same x w s → is_out_of_place d (effect_of labels (address_after d) s) ≡ false
    → with_value (view d) x (worth_at labels w x) ≡ cond (list_any (λ v. is_none (worth_of labels (address_after d) v)) s.values) (Err kinds.Label) (kind_or None (view (with_read labels d (Ok s))))
rest-same labels d w x s same h =
    complete (view d) x (worth_at labels w x) (view (with_read labels d (Ok s))) (λ v e. same.draft labels d v e h ∙ ap view (sym (in-place labels d s h)))
    ∙ ap (λ (b : Bool). cond b (Err kinds.Label) (kind_or None (view (with_read labels d (Ok s))))) (same.lacks labels (address_after d))

check-at : (labels : model.Labels) (before : List Line) (old : Labels) (at : ℕ) (name : Option (List ℕ)) (w : List ℕ) (x : read.Statement) (s : Statement) → Same x w s → reading.is_defined_before old at name ≡ is_some (option_and_then (label_in before) name)
    → check_line old at (view (draft_of labels before)) name x (worth_at labels w x) ≡ kind_or (fault_of labels before name (Ok s)) (view (with_read labels (draft_of labels before) (Ok s)))
unfolding check_line
check-at labels before old at name w x s same defined =
    let d : model.Draft = draft_of labels before in
    let here : ℕ = address_after d in
    chain-by (list_any (is_too_far labels here) s.values) (reading.is_too_far (layouts.address_in (layout_in d).reached) x (worth_at labels w x))
    (is_some (option_and_then (label_in before) name)) (reading.is_defined_before old at name)
    (is_out_of_place d (effect_of labels here s)) (layouts.is_out_of_place (layout_in d) x)
    (nat_lt reading.limit (reading.size_with (view d) (layouts.size_of x))) (nat_lt greatest_size (length (image_bytes (image_of (with_read labels d (Ok s))))))
    (list_any (λ v. is_none (worth_of labels here v)) s.values) (with_value (view d) x (worth_at labels w x)) (view (with_read labels d (Ok s)))
    (ap (λ (n : ℕ). reading.is_too_far n x (worth_at labels w x)) (address-same d) ∙ same.far labels here) defined (same.place labels d)
    (big-same labels d w x s same) (rest-same labels d w x s same)

pub check-same : (labels : model.Labels) (before : List Line) (old : Labels) (at : ℕ) (name : Option (List ℕ)) (w : List ℕ) (x : read.Statement) (s : Statement) → Same x w s → Agree old labels → reading.is_defined_before old at name ≡ is_some (option_and_then (label_in before) name)
    → check_line old at (view (draft_of labels before)) name x (reading.worth_of old w (operand_of x)) ≡ kind_or (fault_of labels before name (Ok s)) (view (with_read labels (draft_of labels before) (Ok s)))
check-same labels before old at name w x s same agree defined =
    ap (check_line old at (view (draft_of labels before)) name x) (worth-same old labels agree w (operand_of x)) ∙ check-at labels before old at name w x s same defined
