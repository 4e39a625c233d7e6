use Rattle.std.proofs.Common.{◌≡◌, ◌-◌, ◌++◌, ◌∷◌, [], length, map, take, drop, sym, ap, ap₂, ◌∙◌, subst}
use Rattle.std.specs.Prelude.{option_map}
use Rattle.std.proofs.lemmas.Result.{IfOk-weaker}
use Rattle.explain_core.specs.Joins.{joined_path}
use Rattle.explain_core.specs.Lineage.{TellsLineage, events_told, noted_link}
use Rattle.explain_core.specs.Watch.{noted_of}
use Rattle.explain_why.specs.Origin.{where_left}
use Rattle.explain_why.proofs.ByLineage.{childs, first_link, left_alone, left_by_join, no_link, none_left}
use Rattle.explain_why.proofs.origin.+lineage_origin.Goals as goal

pub returns-in_default : goal.returns-in_default
returns-in_default t c =
    λ root to tells. IfOk-weaker c.line_of_none.result _ _ (λ v line. no_link root c.args.watched c.args.path.now.items to c.args.value c.args.word.now v.items c.args.lineage.now c.in_default.len_below tells line) c.line_of_none.ensures

pub returns-in_default-left_in : goal.returns-in_default-left_in
returns-in_default-left_in t c =
    λ root to tells.
    let ls = c.args.lineage.now in
    let below = map noted_link (take (length ls - 1) (drop 1 ls)) in
    let w = c.args.watched in
    let p = c.args.path.now.items in
    let here = subst (λ xs. TellsLineage root w p to (map noted_link xs)) (first_link ls c.link-item.result c.link-item.is c.in-len1-up.len_at_least) tells in
    let none = subst (λ o. option_map (λ x. noted_of x.now) o ≡ where_left c.args.value (option_map noted_of c.link-item.result.change)) c.in_default-left_in.is c.left_in.ensures in
    IfOk-weaker c.line_of_none-in_default-left_in.result _ _ (λ v line. none_left root w p to c.args.value c.args.word.now (noted_link c.link-item.result) below here v.items none line) c.line_of_none-in_default-left_in.ensures

pub returns-in_default-2 : goal.returns-in_default-2
returns-in_default-2 t c =
    λ root to tells.
    let ls = c.args.lineage.now in
    let below = map noted_link (take (length ls - 1) (drop 1 ls)) in
    let w = c.args.watched in
    let p = c.args.path.now.items in
    let change = noted_of c.in-Some.change.now in
    let here = subst (λ xs. TellsLineage root w p to (map noted_link xs)) (first_link ls c.link-item.result c.link-item.is c.in-len1-up.len_at_least) tells in
    let by = subst (λ o. option_map (λ x. noted_of x.now) o ≡ where_left c.args.value (option_map noted_of c.link-item.result.change)) c.in-Some.is c.left_in.ensures in
    let alone = subst (λ o. option_map (λ q. q.items) o ≡ joined_path p w change) c.in_default-2.is c.in_ok-child.ensures in
    IfOk-weaker c.line_of_change.result _ _
    (λ v line. left_alone root w p to c.args.value c.args.word.now (noted_link c.link-item.result) below here change v.items by (sym alone) (line ∙ ap (λ l. c.args.word.now ++ 32 ∷ (l ++ [])) c.deref.ensures.value)) c.line_of_change.ensures

pub returns : goal.returns
returns t c =
    λ root to tells.
    let ls = c.args.lineage.now in
    let below = map noted_link (take (length ls - 1) (drop 1 ls)) in
    let w = c.args.watched in
    let p = c.args.path.now.items in
    let q = c.in-Some-2.child.items in
    let change = noted_of c.in-Some.change.now in
    let link = noted_link c.link-item.result in
    let here = subst (λ xs. TellsLineage root w p to (map noted_link xs)) (first_link ls c.link-item.result c.link-item.is c.in-len1-up.len_at_least) tells in
    let by = subst (λ o. option_map (λ x. noted_of x.now) o ≡ where_left c.args.value (option_map noted_of c.link-item.result.change)) c.in-Some.is c.left_in.ensures in
    let joins = sym (subst (λ o. option_map (λ r. r.items) o ≡ joined_path p w change) c.in-Some-2.is c.in_ok-child.ensures) in
    let through = c.in_ok-rest.ensures root (events_told below) (childs root w p to c.args.value c.args.word.now link below here change q by joins) in
    IfOk-weaker c.line_of_change-2.result _ _
    (λ v line. left_by_join root w p to c.args.value c.args.word.now link below here change q c.in_ok-rest.rest.items v.items by joins through
    (line ∙ ap₂ (λ l r. c.args.word.now ++ 32 ∷ (l ++ r)) c.deref-2.ensures.value c.deref-3.ensures.value)) c.line_of_change-2.ensures
