-- What is read from left to right is the image that the lines are a source of, or their fault.
use Rattle.std.proofs.Common.{◌≡◌, ℕ, suc, ◌+◌, List, [], ◌∷◌, ◌++◌, length, Option, Some, None, Result, Ok, Err, refl, sym, ◌∙◌, ap, subst, append_assoc, length-append}
use Rattle.std.specs.Prelude.{map}
use Rattle.std.proofs.lemmas.List.{append-nil, map-append, length-map}
use Rattle.image_model.specs.Image.{Image}
use Rattle.source_model.specs.declared.error.AsmError.{AsmError}
use Rattle.source_model.specs.declared.error.AsmErrorKind.{AsmErrorKind}
use Rattle.source_model.specs.Layout.{definitions}
use Rattle.source_model.specs.Line.{statement_in}
use Rattle.source_model.specs.Text.{◌>>=◌}
use Rattle.source_model.specs.Bytes.{lines_of}
use Rattle.source_model.specs.Statement as old
use Rattle.source_model.specs.Meaning.{Line, Read, with_read, draft_of, image_of, label_in, fault_in, fault_of}
use Rattle.source_model.specs.Reading.{Draft, check_line, worth_of, operand_of, in_line, with_line, with_lines, blank, draft_image, image_in, source_of}
use Rattle.source_model.specs.Source.{AreFaultless, HasFault}
use Rattle.source_model.proofs.Drafts.{view, image-same}
use Rattle.source_model.proofs.Alike.{Alike}
use Rattle.source_model.proofs.Faults.{kind_or, draft_after, draft-more, check-same}
use Rattle.source_model.proofs.Labels.{earlier-same, worth-of}
use Rattle.source_model.proofs.Lines.{line_in, name-same, statement-same}

-- ---- one line

abbrev pub lines_in : List ℕ → List Line
lines_in text = map line_in (lines_of text)

read-same : (text : List ℕ) (before rest : List (List ℕ)) (at : ℕ) (name : Option (List ℕ)) (r : old.Read) (q : Read) → Alike r q → lines_of text ≡ before ++ rest → at ≡ length before + 1
    → (r >>= λ s. check_line (definitions text) at (draft_after (lines_in text) (map line_in before)) name s.0 (worth_of (definitions text) s.1 (operand_of s.0)))
    ≡ kind_or (fault_of (label_in (lines_in text)) (map line_in before) name q) (view (with_read (label_in (lines_in text)) (draft_of (label_in (lines_in text)) (map line_in before)) q))
read-same text before rest at name (Ok x) (Ok s) same split e = check-same (label_in (lines_in text)) (map line_in before) (definitions text) at name x.1 x.0 s same (worth-of text) (earlier-same at text before rest name split e)
read-same text before rest at name (Err k) (Err j) same split e = ap (λ (kind : AsmErrorKind). Err kind) same
read-same text before rest at name (Ok x) (Err j) same split e = absurd same
read-same text before rest at name (Err k) (Ok s) same split e = absurd same

line-same : (text : List ℕ) (before rest : List (List ℕ)) (at : ℕ) (l : List ℕ) → lines_of text ≡ before ++ rest → at ≡ length before + 1
    → with_line (definitions text) at (draft_after (lines_in text) (map line_in before)) l
    ≡ kind_or (fault_in (lines_in text) (map line_in before) (line_in l)) (draft_after (lines_in text) (map line_in before ++ line_in l ∷ []))
unfolding with_line fault_in
line-same text before rest at l split e =
    ap (λ (name : Option (List ℕ)). statement_in l >>= λ s. check_line (definitions text) at (draft_after (lines_in text) (map line_in before)) name s.0 (worth_of (definitions text) s.1 (operand_of s.0))) (name-same l)
    ∙ (read-same text before rest at (line_in l).name (statement_in l) (line_in l).statement (statement-same l) split e
    ∙ ap (kind_or (fault_of (label_in (lines_in text)) (map line_in before) (line_in l).name (line_in l).statement)) (sym (draft-more (lines_in text) (map line_in before) (line_in l))))

-- ---- lines without a fault

faultless-more : (all before x : List Line) (l : Line) → AreFaultless all before x → fault_in all (before ++ x) l ≡ None → AreFaultless all before (x ++ l ∷ [])
faultless-more all before [] l h f = (ap (λ (b : List Line). fault_in all b l) (sym (append-nil before)) ∙ f, tt)
faultless-more all before (y ∷ ys) l h f = (h.0, faultless-more all (before ++ y ∷ []) ys l h.1 (ap (λ (b : List Line). fault_in all b l) (append_assoc before (y ∷ []) ys) ∙ f))

-- a line that has a fault behind others without one
faulty : (all before x : List Line) (l : Line) (others : List Line) → AreFaultless all before (x ++ l ∷ others) → fault_in all (before ++ x) l ≡ None
faulty all before [] l others h = ap (λ (b : List Line). fault_in all b l) (append-nil before) ∙ h.0
faulty all before (y ∷ ys) l others h = ap (λ (b : List Line). fault_in all b l) (sym (append_assoc before (y ∷ []) ys)) ∙ faulty all (before ++ y ∷ []) ys l others h.1

-- ---- all lines

abbrev Outcome : List Line → Result Draft AsmError → Type 0
Outcome all (Ok d) = (d ≡ draft_after all all) × AreFaultless all [] all
Outcome all (Err e) = HasFault all e

nothing-left : (text : List ℕ) (before : List (List ℕ)) → lines_of text ≡ before ++ [] → map line_in before ≡ lines_in text
nothing-left text before split = ap (map line_in) (sym (split ∙ append-nil before))

split-at : (text : List ℕ) (before : List (List ℕ)) (l : List ℕ) (ls : List (List ℕ)) → lines_of text ≡ before ++ l ∷ ls → lines_in text ≡ map line_in before ++ line_in l ∷ map line_in ls
split-at text before l ls split = ap (map line_in) split ∙ map-append line_in before (l ∷ ls)

step : (text : List ℕ) (before : List (List ℕ)) (l : List ℕ) (ls : List (List ℕ)) (f : Option AsmErrorKind) (r : Result Draft AsmErrorKind) → fault_in (lines_in text) (map line_in before) (line_in l) ≡ f
    → r ≡ kind_or f (draft_after (lines_in text) (map line_in before ++ line_in l ∷ []))
    → lines_of text ≡ before ++ l ∷ ls → AreFaultless (lines_in text) [] (map line_in before)
    → (AreFaultless (lines_in text) [] (map line_in (before ++ l ∷ [])) → Outcome (lines_in text) (with_lines (definitions text) (length before + 1 + 1) (draft_after (lines_in text) (map line_in (before ++ l ∷ []))) ls))
    → Outcome (lines_in text) (in_line (length before + 1) r (λ d. with_lines (definitions text) (length before + 1 + 1) d ls))
step text before l ls None r is e split fine others =
    let all : List Line = lines_in text in
    let more : map line_in (before ++ l ∷ []) ≡ map line_in before ++ line_in l ∷ [] = map-append line_in before (l ∷ []) in
    let good : AreFaultless all [] (map line_in (before ++ l ∷ [])) = rw more (faultless-more all [] (map line_in before) (line_in l) fine is) in
    rw e (subst (λ (x : List Line). Outcome all (with_lines (definitions text) (length before + 1 + 1) (draft_after all x) ls)) more (others good))
step text before l ls (Some kind) r is e split fine others =
    rw e (record { before = map line_in before; line = line_in l; others = map line_in ls; split = split-at text before l ls split; earlier = fine; place = ap (λ (n : ℕ). n + 1) (sym (length-map before line_in)); kind = is })

outcome-at : (text : List ℕ) (before rest : List (List ℕ)) → lines_of text ≡ before ++ rest → AreFaultless (lines_in text) [] (map line_in before) → Outcome (lines_in text) (with_lines (definitions text) (length before + 1) (draft_after (lines_in text) (map line_in before)) rest)
unfolding with_lines
outcome-at text before [] split fine =
    let same : map line_in before ≡ lines_in text = nothing-left text before split in
    (ap (draft_after (lines_in text)) same, subst (λ (x : List Line). AreFaultless (lines_in text) [] x) same fine)
outcome-at text before (l ∷ ls) split fine =
    step text before l ls (fault_in (lines_in text) (map line_in before) (line_in l)) (with_line (definitions text) (length before + 1) (draft_after (lines_in text) (map line_in before)) l) refl
    (line-same text before (l ∷ ls) (length before + 1) l split refl) split fine
    (λ good. subst (λ (n : ℕ). Outcome (lines_in text) (with_lines (definitions text) n (draft_after (lines_in text) (map line_in (before ++ l ∷ []))) ls)) (ap (λ (n : ℕ). n + 1) (length-append before (l ∷ [])))
    (outcome-at text (before ++ l ∷ []) ls (split ∙ sym (append_assoc before (l ∷ []) ls)) good))

from-blank : (all : List Line) → draft_after all [] ≡ blank
unfolding draft_of
from-blank all = refl

outcome : (text : List ℕ) → Outcome (lines_in text) (with_lines (definitions text) 1 blank (lines_of text))
outcome text = subst (λ (d : Draft). Outcome (lines_in text) (with_lines (definitions text) 1 d (lines_of text))) (from-blank (lines_in text)) (outcome-at text [] (lines_of text) refl tt)

-- ---- at most one fault

none-some : (o : Option AsmErrorKind) (k : AsmErrorKind) → o ≡ None → o ≡ Some k → ⊥
none-some o k e f = cc

some-is : (k j : AsmErrorKind) → Some k ≡ Some j → k ≡ j
some-is k j e = cc

head-is : (l m : Line) (o p : List Line) → l ∷ o ≡ m ∷ p → l ≡ m
head-is l m o p e = cc

tail-is : (l m : Line) (o p : List Line) → l ∷ o ≡ m ∷ p → o ≡ p
tail-is l m o p e = cc

first-same : (all before x y : List Line) (l m : Line) (o p : List Line) (k j : AsmErrorKind) → x ++ l ∷ o ≡ y ++ m ∷ p → AreFaultless all before x → AreFaultless all before y
    → fault_in all (before ++ x) l ≡ Some k → fault_in all (before ++ y) m ≡ Some j → (length x ≡ length y) × (k ≡ j)
first-same all before [] [] l m o p k j e f g a b = (refl, some-is k j (sym a ∙ (ap (fault_in all (before ++ [])) (head-is l m o p e) ∙ b)))
first-same all before [] (z ∷ ys) l m o p k j e f g a b =
    absurd (none-some (fault_in all (before ++ []) l) k (ap (λ (c : List Line). fault_in all c l) (append-nil before) ∙ (ap (fault_in all before) (head-is l z o (ys ++ m ∷ p) e) ∙ g.0)) a)
first-same all before (z ∷ xs) [] l m o p k j e f g a b =
    absurd (none-some (fault_in all (before ++ []) m) j (ap (λ (c : List Line). fault_in all c m) (append-nil before) ∙ (ap (fault_in all before) (sym (head-is z m (xs ++ l ∷ o) p e)) ∙ f.0)) b)
first-same all before (z ∷ xs) (w ∷ ys) l m o p k j e f g a b =
    let same : z ≡ w = head-is z w (xs ++ l ∷ o) (ys ++ m ∷ p) e in
    let rest = first-same all (before ++ z ∷ []) xs ys l m o p k j (tail-is z w (xs ++ l ∷ o) (ys ++ m ∷ p) e) f.1
    (subst (λ (q : Line). AreFaultless all (before ++ q ∷ []) ys) (sym same) g.1)
    (ap (λ (c : List Line). fault_in all c l) (append_assoc before (z ∷ []) xs) ∙ a)
    (ap (λ (c : List Line). fault_in all c m) (append_assoc before (z ∷ []) ys) ∙ (ap (λ (q : Line). fault_in all (before ++ q ∷ ys) m) same ∙ b)) in
    (ap suc rest.0, rest.1)

abbrev error_at : ℕ → AsmErrorKind → AsmError
error_at l k = record { line = l; kind = k }

same-error : (l m : ℕ) (k j : AsmErrorKind) → l ≡ m → k ≡ j → error_at l k ≡ error_at m j
same-error l m k j e f = rw (e, f) refl

error-is : (d e : AsmError) → d.line ≡ e.line → d.kind ≡ e.kind → d ≡ e
error-is d e f g = same-error d.line e.line d.kind e.kind f g

pub one-fault : (lines : List Line) (d e : AsmError) → HasFault lines d → HasFault lines e → d ≡ e
one-fault lines d e f g =
    let same = first-same lines [] f.before g.before f.line g.line f.others g.others d.kind e.kind (sym f.split ∙ g.split) f.earlier g.earlier f.kind g.kind in
    error-is d e (f.place ∙ (ap (λ (n : ℕ). n + 1) same.0 ∙ sym g.place)) same.1

pub not-both : (lines : List Line) (e : AsmError) → AreFaultless lines [] lines → HasFault lines e → ⊥
not-both lines e fine f = none-some (fault_in lines f.before f.line) e.kind (faulty lines [] f.before f.line f.others (subst (λ (x : List Line). AreFaultless lines [] x) f.split fine)) f.kind

-- ---- both directions

abbrev answer : Result Image AsmError → Result Image AsmError
answer r = r

ok-is : (x y : Image) → answer (Ok x) ≡ Ok y → x ≡ y
ok-is x y e = cc

err-is : (d e : AsmError) → answer (Err d) ≡ Err e → d ≡ e
err-is d e h = cc

ok-err : (x : Image) (e : AsmError) → answer (Ok x) ≡ Err e → ⊥
ok-err x e h = cc

whole-image : (all : List Line) → draft_image (draft_after all all) ≡ image_of (draft_of (label_in all) all)
whole-image all = image-same (draft_of (label_in all) all)

takes-image : (all : List Line) (r : Result Draft AsmError) (i : Image) → Outcome all r → image_in r ≡ Ok i → AreFaultless all [] all × (i ≡ image_of (draft_of (label_in all) all))
takes-image all (Ok d) i h e = (h.1, sym (ok-is (draft_image d) i e) ∙ (ap draft_image h.0 ∙ whole-image all))
takes-image all (Err f) i h e = absurd (ok-err i f (sym e))

gives-image : (all : List Line) (r : Result Draft AsmError) → Outcome all r → AreFaultless all [] all → image_in r ≡ Ok (image_of (draft_of (label_in all) all))
gives-image all (Ok d) h fine = ap (λ (x : Image). answer (Ok x)) (ap draft_image h.0 ∙ whole-image all)
gives-image all (Err f) h fine = absurd (not-both all f fine h)

takes-fault : (all : List Line) (r : Result Draft AsmError) (e : AsmError) → Outcome all r → image_in r ≡ Err e → HasFault all e
takes-fault all (Ok d) e h f = absurd (ok-err (draft_image d) e f)
takes-fault all (Err g) e h f = subst (λ (x : AsmError). HasFault all x) (err-is g e f) h

gives-fault : (all : List Line) (r : Result Draft AsmError) (e : AsmError) → Outcome all r → HasFault all e → image_in r ≡ Err e
gives-fault all (Ok d) e h f = absurd (not-both all e h.1 f)
gives-fault all (Err g) e h f = ap (λ (x : AsmError). answer (Err x)) (one-fault all g e h f)

pub image-takes : (text : List ℕ) (i : Image) → source_of text ≡ Ok i → AreFaultless (lines_in text) [] (lines_in text) × (i ≡ image_of (draft_of (label_in (lines_in text)) (lines_in text)))
unfolding source_of
image-takes text i e = takes-image (lines_in text) (with_lines (definitions text) 1 blank (lines_of text)) i (outcome text) e

pub image-gives : (text : List ℕ) → AreFaultless (lines_in text) [] (lines_in text) → source_of text ≡ Ok (image_of (draft_of (label_in (lines_in text)) (lines_in text)))
unfolding source_of
image-gives text fine = gives-image (lines_in text) (with_lines (definitions text) 1 blank (lines_of text)) (outcome text) fine

pub fault-takes : (text : List ℕ) (e : AsmError) → source_of text ≡ Err e → HasFault (lines_in text) e
unfolding source_of
fault-takes text e h = takes-fault (lines_in text) (with_lines (definitions text) 1 blank (lines_of text)) e (outcome text) h

pub fault-gives : (text : List ℕ) (e : AsmError) → HasFault (lines_in text) e → source_of text ≡ Err e
unfolding source_of
fault-gives text e h = gives-fault (lines_in text) (with_lines (definitions text) 1 blank (lines_of text)) e (outcome text) h
