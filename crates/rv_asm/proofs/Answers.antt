-- What the assembler returned, by the definition of sources.
use Rattle.std.proofs.Common.{ℕ, List, Result, Ok, Err, subst}
use Rattle.std.specs.Prelude.{IfOk, IfErr}
use Rattle.image_model.specs.Image.{Image}
use Rattle.source_model.specs.declared.error.AsmError.{AsmError}
use Rattle.source_model.specs.Reading.{source_of}
use Rattle.source_model.specs.Source.{SourceOf, IsRefused}
use Rattle.source_model.proofs.Answers.{reads-sources, reads-faults}
use Rattle.fault_model.specs.declared.fault.Fault.{Fault}
use Rattle.fault_model.specs.declared.fault.Fault.TheVariants as faults
use Rattle.fault_model.specs.Gives.{Gives}
use Rattle.rv_asm.specs.View.{Refuses}

abbrev Reads : Result Image (Fault AsmError) → Result Image AsmError → Type 0
Reads r read = Gives (λ i. i) r read

pub found : (text : List ℕ) (r : Result Image (Fault AsmError)) → Reads r (source_of text) → IfOk r (λ i. SourceOf text i)
found text (Ok i) h = (reads-sources text i).0 h
found text (Err f) h = tt

pub only : (text : List ℕ) (r : Result Image (Fault AsmError)) (i : Image) → Reads r (source_of text) → SourceOf text i → Reads r (Ok i)
only text r i h s = subst (λ (x : Result Image AsmError). Reads r x) ((reads-sources text i).1 s) h

fault-of : (text : List ℕ) (f : Fault AsmError) → Reads (Err f) (source_of text) → Refuses f text
fault-of text faults.Memory h = tt
fault-of text (faults.Bad e) h = (reads-faults text e).0 h

pub fault : (text : List ℕ) (r : Result Image (Fault AsmError)) → Reads r (source_of text) → IfErr r (λ f. Refuses f text)
fault text (Ok i) h = tt
fault text (Err f) h = fault-of text f h

pub rest : (text : List ℕ) (r : Result Image (Fault AsmError)) (e : AsmError) → Reads r (source_of text) → IsRefused text e → Reads r (Err e)
rest text r e h s = subst (λ (x : Result Image AsmError). Reads r x) ((reads-faults text e).1 s) h
