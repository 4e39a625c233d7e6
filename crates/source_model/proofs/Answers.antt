-- What is read from left to right is the image that a text is a source of, or the fault with which it is refused.
use Rattle.std.proofs.Common.{◌≡◌, ℕ, List, [], ◌∷◌, Result, Ok, Err, refl, sym, ◌∙◌, ap, subst, inl, inr}
use Rattle.std.specs.Prelude.{map, ◌↔◌, ◌⊎◌}
use Rattle.image_model.specs.Image.{Image}
use Rattle.source_model.specs.declared.error.AsmError.{AsmError}
use Rattle.source_model.specs.Bytes.{lines_of}
use Rattle.source_model.specs.Meaning.{Line, label_in, draft_of, image_of}
use Rattle.source_model.specs.Reading.{source_of}
use Rattle.source_model.specs.Source.{AreLines, AreFaultless, HasFault, SourceOf, IsRefused}
use Rattle.source_model.proofs.Lines.{line_in, line-given, line-one}
use Rattle.source_model.proofs.Whole.{lines_in, image-takes, image-gives, fault-takes, fault-gives}

lines-given : (ts : List (List ℕ)) → AreLines ts (map line_in ts)
lines-given [] = tt
lines-given (t ∷ ts) = (line-given t, lines-given ts)

two-lines : (x z : Line) (xs zs : List Line) → x ≡ z → xs ≡ zs → x ∷ xs ≡ z ∷ zs
two-lines x z xs zs e f = rw (e, f) refl

lines-one : (ts : List (List ℕ)) (ls : List Line) → AreLines ts ls → ls ≡ map line_in ts
lines-one [] [] h = refl
lines-one [] (l ∷ ls) h = absurd h
lines-one (t ∷ ts) [] h = absurd h
lines-one (t ∷ ts) (l ∷ ls) h = two-lines l (line_in t) ls (map line_in ts) (line-one t l h.0) (lines-one ts ls h.1)

takes-image : (text : List ℕ) (i : Image) → source_of text ≡ Ok i → SourceOf text i
takes-image text i e =
    let h = image-takes text i e in
    record { lines = lines_in text; read = lines-given (lines_of text); faultless = h.0; image = h.1 }

gives-image : (text : List ℕ) (i : Image) → SourceOf text i → source_of text ≡ Ok i
gives-image text i h =
    let is : h.lines ≡ lines_in text = lines-one (lines_of text) h.lines h.read in
    image-gives text (subst (λ (ls : List Line). AreFaultless ls [] ls) is h.faultless)
    ∙ ap (λ (j : Image). Ok j) (sym (h.image ∙ ap (λ (ls : List Line). image_of (draft_of (label_in ls) ls)) is))

takes-fault : (text : List ℕ) (e : AsmError) → source_of text ≡ Err e → IsRefused text e
takes-fault text e h = record { lines = lines_in text; read = lines-given (lines_of text); fault = fault-takes text e h }

gives-fault : (text : List ℕ) (e : AsmError) → IsRefused text e → source_of text ≡ Err e
gives-fault text e h =
    let is : h.lines ≡ lines_in text = lines-one (lines_of text) h.lines h.read in
    fault-gives text e (subst (λ (ls : List Line). HasFault ls e) is h.fault)

-- an image is read exactly of its sources
pub reads-sources : (text : List ℕ) (i : Image) → source_of text ≡ Ok i ↔ SourceOf text i
reads-sources text i = (takes-image text i, gives-image text i)

-- a fault is read exactly where a text is refused with it
pub reads-faults : (text : List ℕ) (e : AsmError) → source_of text ≡ Err e ↔ IsRefused text e
reads-faults text e = (takes-fault text e, gives-fault text e)

answer-of : (text : List ℕ) (r : Result Image AsmError) → source_of text ≡ r → ((i : Image) × SourceOf text i) ⊎ ((e : AsmError) × IsRefused text e)
answer-of text (Ok i) e = inl (i, takes-image text i e)
answer-of text (Err f) e = inr (f, takes-fault text f e)

pub answers : (text : List ℕ) → ((i : Image) × SourceOf text i) ⊎ ((e : AsmError) × IsRefused text e)
answers text = answer-of text (source_of text) refl

abbrev of_image : Image → Result Image AsmError
of_image i = Ok i

abbrev of_error : AsmError → Result Image AsmError
of_error e = Err e

image-is : (i j : Image) → of_image i ≡ of_image j → i ≡ j
image-is i j e = cc

error-is : (d f : AsmError) → of_error d ≡ of_error f → d ≡ f
error-is d f e = cc

pub one-image : (text : List ℕ) (i j : Image) → SourceOf text i → SourceOf text j → i ≡ j
one-image text i j h k = image-is i j (sym (gives-image text i h) ∙ gives-image text j k)

pub one-fault : (text : List ℕ) (d e : AsmError) → IsRefused text d → IsRefused text e → d ≡ e
one-fault text d e h k = error-is d e (sym (gives-fault text d h) ∙ gives-fault text e k)
