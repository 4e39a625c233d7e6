use Rattle.std.proofs.Common.{◌≡◌, arith, ◌∙◌, sym}
use Rattle.std.proofs.lemmas.Bool.{true≢false}
use Rattle.std.proofs.lemmas.Bool.Decides.{Decides-eqb}
use Rattle.std.proofs.lemmas.List.{ext_get_or}
use Rattle.std.proofs.lemmas.Slice.Eq.{slice_eq-Decides}
use Rattle.page_tree.proofs.same.same_permissions.Goals as goal

pub returns-clause-differs : goal.returns-clause-differs
returns-clause-differs c other same =
    let equal : c.args.own.now ≡ c.args.others.now = ext_get_or 0 c.args.own.now c.args.others.now (c.told-own ∙ sym c.told-others) (λ j low. sym (same j (omega (arith, c.told-own)))) in
    true≢false (sym ((slice_eq-Decides Decides-eqb _ _ _ c.eq.ensures).1 equal) ∙ other)
