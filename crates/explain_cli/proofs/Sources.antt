-- A file whose symbols are read is not refused, and one that is refused is a source that `det asm` refuses with the same fault.
use Rattle.std.proofs.Common.{◌≡◌, Bool, true, false, cond, ℕ, List, Some, None, Result, Ok, Err, refl, ap, ◌∙◌}
use Rattle.elf_model.specs.Elf.{is_elf}
use Rattle.image_model.specs.Image.{Image}
use Rattle.source_model.specs.declared.error.AsmError.{AsmError}
use Rattle.source_model.specs.Reading.{source_of}
use Rattle.source_model.specs.Source.{IsRefused}
use Rattle.source_model.proofs.Answers.{reads-faults}
use Rattle.image_symbols.specs.Files.{HasFault}
use Rattle.det_cli.specs.declared.end.End.TheVariants.{BadSource}
use Rattle.det_cli.specs.Commands.{image_of_source, read_or, refusal_of}
use Rattle.explain_cli.specs.Answers.{refusal_of_names}

source_taken : (bytes : List ℕ) → ((e : AsmError) → IsRefused bytes e → ⊥) → refusal_of (image_of_source bytes) ≡ None
source_taken bytes good = go (source_of bytes) refl
  where
    go : (r : Result Image AsmError) → source_of bytes ≡ r → refusal_of (read_or (λ e. BadSource e) r) ≡ None
    go (Ok image) is = refl
    go (Err e) is = absurd (good e ((reads-faults bytes e).0 is))

pub taken : (bytes : List ℕ) → ((e : AsmError) → HasFault bytes e → ⊥) → refusal_of_names bytes ≡ None
taken bytes good = go (is_elf bytes) refl
  where
    go : (b : Bool) → is_elf bytes ≡ b → cond b None (refusal_of (image_of_source bytes)) ≡ None
    go true is = refl
    go false is = source_taken bytes (λ e h. good e (record { source = is; refused = h }))

pub refused_with : (bytes : List ℕ) (e : AsmError) → HasFault bytes e → refusal_of_names bytes ≡ Some (BadSource e)
refused_with bytes e h =
    ap (λ (b : Bool). cond b None (refusal_of (image_of_source bytes))) h.source
    ∙ ap (λ (r : Result Image AsmError). refusal_of (read_or (λ x. BadSource x) r)) ((reads-faults bytes e).1 h.refused)
