use Rattle.std.proofs.Common.{ℕ, ◌≡◌, ◌+◌, ◌∙◌, arith, inl, inr, refl, take, subst, All}
use Rattle.std.proofs.lemmas.Bool.{cases_lt}
use Rattle.std.proofs.lemmas.List.{take_all}
use Rattle.std.proofs.lemmas.List.Elements.{All-more, All-weaker}
use Rattle.space_mem.specs.Held.{IsOutside, Owns}
use Rattle.space_mem.proofs.Dirty.{marks_refl, marks_then}
use Rattle.space_mem.proofs.Kept.{keeps_refl, keeps_then}
use Rattle.snapshot.proofs.merging.own_each.Goals as goal

beside : (page own : ℕ) → (page ≡ own → ⊥) → IsOutside own (own + 1) page
beside page own other = elim (cases_lt page own) [ inl before ↦ inl before | inr from ↦ inr (omega (arith, other)) ]

pub loop-page-init : goal.loop-page-init
loop-page-init c = record { same = refl; owned = λ k d below. absurd (omega arith); stays = λ page owns. owns; others = λ page none. keeps_refl c.args.memory.now page; marks = marks_refl c.args.memory.now }

pub loop-page-preserved : goal.loop-page-preserved
loop-page-preserved c =
    let before = c.loop-page.invariant in
    let own = c.in_ok-own.ensures in
    let i = c.loop-page.page-index in
    record {
      same = own.same ∙ before.same;
      owned = All-more (Owns c.own.new.self) c.args.each.now i 0 c.loop-page-test.true
          (All-weaker (Owns c.loop-page.memory) (Owns c.own.new.self) (λ page owns. own.stays page owns) (take i c.args.each.now) before.owned)
          (own.owned _ (omega arith) (omega arith));
      stays = λ page owns. own.stays page (before.stays page owns);
      others = λ page none. keeps_then c.args.memory.now c.loop-page.memory c.own.new.self page (before.others page none) (own.outside page (beside page _ (none i 0 c.loop-page-test.true)));
      marks = marks_then c.args.memory.now c.loop-page.memory c.own.new.self before.marks own.marks;
    }

pub returns-clause-owned : goal.returns-clause-owned
returns-clause-owned c = subst (All (Owns c.loop-page.memory)) (take_all c.loop-page.page-index c.args.each.now c.loop-page-test.false) c.loop-page.invariant.owned
