use Rattle.std.proofs.Common.{ℕ, refl, sym, ◌∙◌}
use Rattle.std.proofs.lemmas.List.{get_or-replicate, length-replicate}
use Rattle.snapshot.proofs.page.page_bytes.Goals as goal

pub returns-in-None : goal.returns-in-None
returns-in-None c = record {
  sized = length-replicate {A = ℕ} 4096 0;
  byte = λ k below. c.in-None.ensures.none refl k below ∙ sym (get_or-replicate 4096 k 0 0 below);
}
