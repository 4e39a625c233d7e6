use Rattle.std.proofs.Common.{get_or, ◌∙◌, arith, ap, refl, sym, subst, take, All}
use Rattle.std.proofs.lemmas.List.{take_all}
use Rattle.std.proofs.lemmas.List.Elements.{All-more, All-weaker}
use Rattle.memory_model.specs.Sparse.{value_at}
use Rattle.space_mem.specs.Held.{IsClean, SamePage}
use Rattle.space_mem.proofs.Dirty.{covers_same}
use Rattle.snapshot.proofs.Unmarked.{clean_here, clean_unmarked, covers_unmarked}
use Rattle.snapshot.proofs.merging.unmark_each.Goals as goal

pub loop-page-init : goal.loop-page-init
loop-page-init c = record { same = refl; covers = c.requires.covers; stays = λ page clean. clean; clean = λ k d below. absurd (omega arith) }

pub unmark-requires : goal.unmark-requires
unmark-requires c = (c.requires.equal c.loop-page.page-index 0 c.loop-page-test.true).0

pub loop-page-preserved : goal.loop-page-preserved
loop-page-preserved c =
    let before = c.loop-page.invariant in
    let i = c.loop-page.page-index in
    let here = c.in_ok-unmark.ensures.ok in
    let equal = (c.requires.equal c.loop-page.page-index 0 c.loop-page-test.true).1 in
    record {
      same = c.in_ok-unmark.ensures.same ∙ before.same;
      covers = covers_unmarked c.loop-page.child c.unmark.new.self c.args.snapshot.now.memory _ c.in_ok-unmark.ensures.same c.in_ok-unmark.ensures.ok (subst (λ m. SamePage m c.args.snapshot.now.memory (get_or c.args.each.now i 0)) (sym before.same) equal) before.covers;
      stays = λ page clean. clean_unmarked c.loop-page.child c.unmark.new.self _ page here (before.stays page clean);
      clean = All-more (IsClean c.unmark.new.self) c.args.each.now i 0 c.loop-page-test.true
          (All-weaker (IsClean c.loop-page.child) (IsClean c.unmark.new.self) (λ page clean. clean_unmarked c.loop-page.child c.unmark.new.self _ page here clean) (take i c.args.each.now) before.clean)
          (clean_here c.loop-page.child c.unmark.new.self _ here);
    }

pub returns-in_err-unmark-clause-covers : goal.returns-in_err-unmark-clause-covers
returns-in_err-unmark-clause-covers c = covers_same c.loop-page.child c.unmark.new.self c.args.snapshot.now.memory c.in_err-unmark.ensures.same c.in_err-unmark.ensures.err c.loop-page.invariant.covers

pub returns-in_err-unmark-clause-stays : goal.returns-in_err-unmark-clause-stays
returns-in_err-unmark-clause-stays c page clean = ap (λ d. value_at d page) c.in_err-unmark.ensures.err ∙ c.loop-page.invariant.stays page clean

pub returns-clause-clean : goal.returns-clause-clean
returns-clause-clean c = subst (All (IsClean c.loop-page.child)) (take_all c.loop-page.page-index c.args.each.now c.loop-page-test.false) c.loop-page.invariant.clean
