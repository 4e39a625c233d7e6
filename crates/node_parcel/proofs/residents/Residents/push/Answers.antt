use Rattle.std.proofs.Common.{◌≡◌, ◌<◌, ◌∙◌, ℕ, List, length, cond, Some, None, sym, ap, subst, arith}
use Rattle.std.specs.BTreeMap.{get}
use Rattle.std.specs.Cmp.Lexicographic.{slice_cmp}
use Rattle.std.specs.Ordering.{nat_cmp, eq_by_cmp}
use Rattle.std.proofs.lemmas.Grind.{common_steps}
use Rattle.memory_model.specs.Memory.{Memory}
use Rattle.memory_model.specs.Ranges.{with_page}
use Rattle.parcel_model.specs.Packing.{number_of}
use Rattle.parcel_model.specs.Residents.{most_residents}
use Rattle.node_parcel.proofs.Kept.{kept_more}
use Rattle.node_parcel.proofs.Numbers.{numbers_push}
use Rattle.node_parcel.proofs.residents.Residents.push.Goals as goal

pub invariant_of-self-2 : goal.invariant_of-self-2
invariant_of-self-2 c =
    let known = c.self.inside.pages.items in
    let page = c.in_ok-kept.kept in
    let same : page ≡ c.args.page.now = c.in_ok-kept.ensures.kept in
    let absent : number_of known page ≡ None = ap (number_of known) same ∙ subst (λ (k : List (List ℕ)). number_of k c.args.page.now ≡ None) (sym c.self.view_is) c.requires.absent in
    let lt : length known < most_residents = subst (λ (k : List (List ℕ)). length k < most_residents) (sym c.self.view_is) c.requires.room in
    let is : c.len-number.result ≡ length known = grind (arith, common_steps) in
    let updated = subst (λ (k : List ℕ). (q : List ℕ) → get (slice_cmp nat_cmp) c.insert.new.self q ≡ cond (eq_by_cmp (slice_cmp nat_cmp) k q) (Some c.len-number.result) (get (slice_cmp nat_cmp) c.self.inside.numbers q)) c.in_ok-key.ensures c.in_ok-insert.ensures.updates.0 in
    let before : Memory = c.self.inside.memory.memory in
    let after : Memory = c.keep.new.memory.memory in
    let made : after ≡ with_page before c.len-number.result page = c.in_ok-kept.ensures.ok ∙ ap (with_page before c.len-number.result) (sym same) in
    rw (c.push_reserved.ensures.items, c.reserve.ensures.items) (record {
      found = numbers_push c.self.inside.numbers c.insert.new.self known page c.len-number.result c.self.invariant.found lt absent is updated;
      held = kept_more before after before known page c.len-number.result c.self.invariant.held is c.in_ok-kept.ensures.others made;
    })
