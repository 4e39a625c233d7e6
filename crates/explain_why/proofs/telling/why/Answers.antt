use Rattle.std.proofs.Common.{ℕ, List, map, sym, subst}
use Rattle.std.proofs.lemmas.Result.{IfOk-weaker}
use Rattle.arrayvec.specs.ArrayVec.{ArrayVec}
use Rattle.space_model.specs.Sound.{IsSound}
use Rattle.explain_why.specs.Parts.{HasParts}
use Rattle.explain_why.specs.Why.{ExplainsSpace}
use Rattle.explain_why.proofs.Spaces.{all_told}
use Rattle.explain_why.proofs.telling.why.Goals as goal

pub settle-requires : goal.settle-requires
settle-requires c = subst IsSound (sym c.in_ok-copy_tree.ensures.equal) c.requires

pub explain_paths-requires : goal.explain_paths-requires
explain_paths-requires c = subst IsSound (sym c.copy_tree.ensures.same) c.requires

pub returns : goal.returns
returns c =
    let items = λ (ps : List (ArrayVec ℕ)). map (λ p. p.items) ps in
    let told = subst (λ ps. HasParts (ExplainsSpace c.copy_tree.new.space c.in_ok-end.end) (items ps) c.in_ok-text.text.items) c.deref.ensures.value c.in_ok-text.ensures in
    let parts = subst (λ r. HasParts (ExplainsSpace r c.in_ok-end.end) (items c.in_ok-paths.paths.items) c.in_ok-text.text.items) c.copy_tree.ensures.same told in
    IfOk-weaker c.said.result _ _
    (λ v line. all_told c.args.root c.in_ok-copy_tree.field-0 c.in_ok-end.end (items c.in_ok-paths.paths.items) c.in_ok-text.text.items v.items c.in_ok-copy_tree.ensures.equal c.in_ok-end.ensures.meaning c.in_ok-paths.ensures parts line) c.said.ensures
