-- Lines one after the other, as a loop takes them.
use Rattle.std.proofs.Common.{◌≡◌, ℕ, ◌+◌, List, [], ◌∷◌, length, Result, Ok, Err, sym, ◌∙◌, ap, arith}
use Rattle.source_model.specs.declared.error.AsmError.{AsmError}
use Rattle.source_model.specs.declared.error.AsmErrorKind.{AsmErrorKind}
use Rattle.source_model.specs.Reading.{Draft, Labels, in_line, with_line, with_lines}
use Rattle.source_model.specs.Bytes.{lines_of}
use Rattle.fault_model.specs.declared.fault.Fault.{Fault}
use Rattle.fault_model.specs.declared.fault.Fault.TheVariants as faults
use Rattle.fault_model.specs.Gives.{Fails}

abbrev line_result : ℕ → Result Draft AsmErrorKind → Result Draft AsmError
line_result number r = in_line number r (λ d. Ok d)

took : (number : ℕ) (r : Result Draft AsmErrorKind) (e : Draft) (f : Draft → Result Draft AsmError) → line_result number r ≡ Ok e → in_line number r f ≡ f e
took number (Ok d) e f h =
    let same : d ≡ e = cc in
    ap f same
took number (Err k) e f h = cc

failed : (number : ℕ) (r : Result Draft AsmErrorKind) (e : AsmError) (f : Draft → Result Draft AsmError) → line_result number r ≡ Err e → in_line number r f ≡ Err e
failed number (Ok d) e f h = cc
failed number (Err k) e f h = h

pub goes-on : (labels : Labels) (number : ℕ) (d e : Draft) (text line after : List ℕ) (total : Result Draft AsmError) → lines_of text ≡ line ∷ lines_of after → line_result number (with_line labels number d line) ≡ Ok e
    → with_lines labels number d (lines_of text) ≡ total → with_lines labels (number + 1) e (lines_of after) ≡ total
unfolding with_lines
goes-on labels number d e text line after total first h so_far =
    let one : with_lines labels number d (lines_of text) ≡ with_lines labels (number + 1) e (lines_of after) = rw first (took number (with_line labels number d line) e (λ x. with_lines labels (number + 1) x (lines_of after)) h) in
    sym one ∙ so_far

pub ends : (f : Fault AsmError) (labels : Labels) (number : ℕ) (d : Draft) (text line after : List ℕ) (total : Result Draft AsmError) → lines_of text ≡ line ∷ lines_of after → Fails f (line_result number (with_line labels number d line))
    → with_lines labels number d (lines_of text) ≡ total → Fails f total
unfolding with_lines
ends faults.Memory labels number d text line after total first h so_far = tt
ends (faults.Bad e) labels number d text line after total first h so_far =
    let one : with_lines labels number d (lines_of text) ≡ Err e = rw first (failed number (with_line labels number d line) e (λ x. with_lines labels (number + 1) x (lines_of after)) h) in
    sym so_far ∙ one

pub is-done : (labels : Labels) (number : ℕ) (d : Draft) (text : List ℕ) (total : Result Draft AsmError) → length text ≡ 0 → with_lines labels number d (lines_of text) ≡ total → total ≡ Ok d
unfolding with_lines lines_of
is-done labels number d [] total none so_far = sym so_far
is-done labels number d (b ∷ bs) total none so_far = absurd (omega (arith, none))
