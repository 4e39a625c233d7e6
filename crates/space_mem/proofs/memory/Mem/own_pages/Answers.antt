use Rattle.std.proofs.Common.{◌≡◌, ℕ, ◌<◌, ◌≤◌, ◌∙◌, ap, arith, refl, sym, subst, inl, inr}
use Rattle.std.proofs.lemmas.Bool.{false≢true, cases_eq}
use Rattle.space_mem.specs.Held.{IsOutside, Owns}
use Rattle.space_mem.proofs.Dirty.{marks_refl, marks_then}
use Rattle.space_mem.proofs.Kept.{keeps_beside, keeps_refl, keeps_same, keeps_then}
use Rattle.space_mem.proofs.Updates.{owns_too}
use Rattle.space_mem.proofs.memory.Mem.own_pages.Goals as goal

beside : (q page first end : ℕ) → IsOutside first end q → q ≡ page → first ≤ page → page < end → ⊥
beside q page first end (inl before) here low high = omega arith
beside q page first end (inr after) here low high = omega arith

pub loop-page-init : goal.loop-page-init
loop-page-init c = record { same = refl; owned = λ q from to. absurd (omega arith); stays = λ q owns. owns; outside = λ q out. keeps_refl c.args.self.now q; again = λ owns. refl; marks = marks_refl c.args.self.now }

pub loop-page-preserved : goal.loop-page-preserved
loop-page-preserved c =
    let inv = c.loop-page.invariant in
    let h = c.in_ok-own_page.ensures in
    let mid = c.loop-page.self in
    record {
      same = ap (λ x. x.memory) h.ok ∙ inv.same;
      owned = λ q from to. elim (cases_eq q c.loop-page.page) [
        | inl here ↦ subst (Owns c.own_page.new.self) (sym here) (owns_too mid c.own_page.new.self c.loop-page.page c.loop-page.page h.ok (inl refl))
        | inr other ↦ owns_too mid c.own_page.new.self c.loop-page.page q h.ok (inr (inv.owned q from (omega (arith, other))))
      ];
      stays = λ q owns. owns_too mid c.own_page.new.self c.loop-page.page q h.ok (inr (inv.stays q owns));
      outside = λ q out. keeps_then c.args.self.now mid c.own_page.new.self q (inv.outside q out) (keeps_beside mid c.own_page.new.self c.loop-page.page mid.memory q h.ok (λ here. beside q c.loop-page.page c.args.first c.args.end out here (omega arith) (omega arith)));
      again = λ owns. h.again (inv.stays c.loop-page.page (owns c.loop-page.page (omega arith) (omega arith))) ∙ inv.again owns;
      marks = marks_then c.args.self.now mid c.own_page.new.self inv.marks h.marks;
    }

pub returns-in_err-own_page-clause-same : goal.returns-in_err-own_page-clause-same
returns-in_err-own_page-clause-same c = ap (λ x. x.memory) c.in_err-own_page.ensures.err ∙ c.loop-page.invariant.same

pub returns-in_err-own_page-clause-stays : goal.returns-in_err-own_page-clause-stays
returns-in_err-own_page-clause-stays c page owns = subst (λ h. Owns h page) (sym c.in_err-own_page.ensures.err) (c.loop-page.invariant.stays page owns)

pub returns-in_err-own_page-clause-idle : goal.returns-in_err-own_page-clause-idle
returns-in_err-own_page-clause-idle c owns =
    let page = c.loop-page.page in
    absurd (false≢true (c.in_err-own_page.ensures.idle (c.loop-page.invariant.stays page (owns page (omega arith) (omega arith)))))

pub returns-in_err-own_page-clause-marks : goal.returns-in_err-own_page-clause-marks
returns-in_err-own_page-clause-marks c = marks_then c.args.self.now c.loop-page.self c.own_page.new.self c.loop-page.invariant.marks c.in_err-own_page.ensures.marks

pub returns-in_err-own_page-clause-outside : goal.returns-in_err-own_page-clause-outside
returns-in_err-own_page-clause-outside c q out = keeps_then c.args.self.now c.loop-page.self c.own_page.new.self q (c.loop-page.invariant.outside q out) (keeps_same c.loop-page.self c.own_page.new.self q c.in_err-own_page.ensures.err)

pub returns-in_err-own_page-clause-again : goal.returns-in_err-own_page-clause-again
returns-in_err-own_page-clause-again c owns = c.in_err-own_page.ensures.err ∙ c.loop-page.invariant.again owns
