use Rattle.std.proofs.Common.{◌≡◌, ◌++◌, ◌∙◌, sym, subst, refl, List, ℕ}
use Rattle.std.specs.Prelude.{OnOk}
use Rattle.node_parcel.proofs.Written.{zero_content, empty_content, some_content, none_whole_zero, none_whole_empty, some_whole, stays_whole}
use Rattle.node_parcel.proofs.packing.put_content.Goals as goal

pub returns-in_default-clause-written : goal.returns-in_default-clause-written
returns-in_default-clause-written c =
    let e = zero_content c.args.known.now c.args.memory.now.memory c.args.page (c.in_default.ensures.none refl) in
    subst (λ (t : List ℕ). OnOk c.put_formed.result (c.put_formed.new.out.items ≡ c.args.out.now.items ++ t)) (sym e) c.put_formed.ensures

pub returns-then-is_zero_page-clause-written : goal.returns-then-is_zero_page-clause-written
returns-then-is_zero_page-clause-written c =
    let e = empty_content c.args.known.now c.args.memory.now.memory c.args.page _ c.in-Some.ensures.some (sym c.is_zero_page.ensures ∙ c.if-is_zero_page.true) in
    subst (λ (t : List ℕ). OnOk c.put_formed-then-is_zero_page.result (c.put_formed-then-is_zero_page.new.out.items ≡ c.args.out.now.items ++ t)) (sym e) c.put_formed-then-is_zero_page.ensures

pub returns-clause-written : goal.returns-clause-written
returns-clause-written c =
    let e = some_content c.args.known.now c.args.memory.now.memory c.args.page _ c.in-Some.ensures.some (sym c.is_zero_page.ensures ∙ c.if-is_zero_page.false) in
    subst (λ (t : List ℕ). OnOk c.put_some.result (c.put_some.new.out.items ≡ c.args.out.now.items ++ t)) (sym e) c.put_some.ensures.written

pub returns-in_default-clause-whole : goal.returns-in_default-clause-whole
returns-in_default-clause-whole c = stays_whole c.put_formed.result c.args.whole.now.items _ (none_whole_zero c.args.known.now c.args.memory.now.memory c.args.page (c.in_default.ensures.none refl))

pub returns-then-is_zero_page-clause-whole : goal.returns-then-is_zero_page-clause-whole
returns-then-is_zero_page-clause-whole c =
    stays_whole c.put_formed-then-is_zero_page.result c.args.whole.now.items _ (none_whole_empty c.args.known.now c.args.memory.now.memory c.args.page _ c.in-Some.ensures.some (sym c.is_zero_page.ensures ∙ c.if-is_zero_page.true))

pub returns-clause-whole : goal.returns-clause-whole
returns-clause-whole c =
    let e = some_whole c.args.known.now c.args.memory.now.memory c.args.page _ c.in-Some.ensures.some (sym c.is_zero_page.ensures ∙ c.if-is_zero_page.false) in
    subst (λ (t : List (List ℕ)). OnOk c.put_some.result (c.put_some.new.whole.items ≡ c.args.whole.now.items ++ t)) (sym e) c.put_some.ensures.whole
