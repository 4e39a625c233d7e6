use Rattle.std.proofs.Common.{◌≡◌, ◌∙◌, arith, refl, subst, sym, true}
use Rattle.std.proofs.lemmas.Bool.{false≢true}
use Rattle.page_tree.specs.TreeRefs.{root_own}
use Rattle.space_mem.proofs.Tables.{own_owns, owns_own}
use Rattle.space_mem.proofs.table.PageTable.owns.Goals as goal

pub returns-in-Some : goal.returns-in-Some
returns-in-Some c =
    let t = c.args.self.now in
    let same : c.in-Some.field-0 ≡ c.args.page = omega (arith, c.in-Some.ensures.from, c.in-Some.ensures.within) in
    (λ _. own_owns t c.args.page c.requires (subst (λ p. root_own t.pages p ≡ true) same c.in-Some.ensures.own), λ _. refl)

pub returns-in-None : goal.returns-in-None
returns-in-None c =
    let t = c.args.self.now in
    (λ no. absurd (false≢true no), λ owns. absurd (false≢true (sym (c.in-None.ensures.none refl c.args.page (omega arith) (omega arith)) ∙ owns_own t c.args.page c.requires owns)))
