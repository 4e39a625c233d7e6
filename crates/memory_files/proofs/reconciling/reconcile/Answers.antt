use Rattle.std.proofs.Common.{◌≡◌, ℕ, Bool, List, refl, ap, sym, ◌∙◌, subst}
use Rattle.space_mem.specs.Held.{Held}
use Rattle.space_model.specs.Files.{file_bytes, with_file_bytes, with_files_of, files_left_out}
use Rattle.space_mem.proofs.Kept.{keeps_refl, keeps_then}
use Rattle.memory_files.specs.Taken.{with_taken}
use Rattle.memory_files.proofs.Parents.{HasPlanned, IsPlan, headers_kept, nothing_taken, nothing_left_out, parts_kept, plan_beside, plan_beside_taken, planned}
use Rattle.memory_files.proofs.reconciling.reconcile.Goals as goal

pub returns-then-not-are_kept-clause-ok : goal.returns-then-not-are_kept-clause-ok
returns-then-not-are_kept-clause-ok c = nothing_taken c.args.parent.now c.args.child.now (c.if-not-are_kept.ensures refl)

pub returns-then-not-are_kept-clause-count : goal.returns-then-not-are_kept-clause-count
returns-then-not-are_kept-clause-count c = nothing_left_out c.args.parent.now c.args.child.now (c.if-not-are_kept.ensures refl)

pub returns-then-not-are_kept-clause-kept : goal.returns-then-not-are_kept-clause-kept
returns-then-not-are_kept-clause-kept c page out = keeps_refl c.args.parent.now page

-- what is left to do, once the pages are taken
left : (p c m n q : Held) (d : Held) (marks : List Bool) (whole from : List ℕ) → IsPlan p.memory c.memory marks whole from → m.memory ≡ p.memory → d.memory ≡ c.memory → q.memory ≡ with_file_bytes m.memory (with_taken whole from (file_bytes m.memory) (file_bytes n.memory)) → n.memory ≡ c.memory
    → HasPlanned p.memory d.memory q.memory marks whole
left p c m n q d marks whole from plan own same is child =
    subst (λ x. HasPlanned p.memory x q.memory marks whole) (sym same)
    (planned p.memory c.memory q.memory marks whole from plan (is ∙ (λ i. with_file_bytes (own i) (with_taken whole from (file_bytes (own i)) (file_bytes (child i))))))

pub returns-in_err-own_planned-clause-kept : goal.returns-in_err-own_planned-clause-kept
returns-in_err-own_planned-clause-kept c page out =
    let e = c.plan_of-plan.ensures in
    let o = c.plan_of-plan.result in
    let plan : IsPlan c.args.parent.now.memory c.args.child.now.memory o.marks o.whole o.from = record { marks_are = e.marks; turns = e.turns; few = e.few; none = e.none } in
    c.in_err-own_planned.ensures.kept page (plan_beside page c.args.parent.now.memory c.args.child.now.memory o.marks o.whole o.from plan out)

pub returns-in_err-take_planned-clause-kept : goal.returns-in_err-take_planned-clause-kept
returns-in_err-take_planned-clause-kept c page out =
    let e = c.plan_of-plan.ensures in
    let o = c.plan_of-plan.result in
    let plan : IsPlan c.args.parent.now.memory c.args.child.now.memory o.marks o.whole o.from = record { marks_are = e.marks; turns = e.turns; few = e.few; none = e.none } in
    let beside = plan_beside page c.args.parent.now.memory c.args.child.now.memory o.marks o.whole o.from plan out in
    keeps_then c.args.parent.now c.own_planned.new.parent c.take_planned.new.parent page (c.in_ok-own_planned.ensures.kept page beside)
    (c.in_err-take_planned.ensures.kept page (plan_beside_taken page c.args.parent.now.memory c.args.child.now.memory o.marks o.whole o.from plan beside))

pub reconcile_owned-requires : goal.reconcile_owned-requires
reconcile_owned-requires c =
    let e = c.plan_of-plan.ensures in
    let o = c.plan_of-plan.result in
    let p = c.args.parent.now in
    let m = c.own_planned.new.parent in
    let q = c.take_planned.new.parent in
    let plan : IsPlan p.memory c.args.child.now.memory o.marks o.whole o.from = record { marks_are = e.marks; turns = e.turns; few = e.few; none = e.none } in
    let l = left p c.args.child.now m c.args.child.now q c.take_planned.new.child o.marks o.whole o.from plan c.in_ok-own_planned.ensures.same c.in_ok-take_planned.ensures.same c.in_ok-take_planned.ensures.ok refl in
    record {
      headed = headers_kept m q o.marks o.whole e.few c.in_ok-take_planned.ensures.kept c.in_ok-own_planned.ensures.headed;
      owned = parts_kept m q o.marks o.whole e.few c.in_ok-take_planned.ensures.kept c.in_ok-own_planned.ensures.owned;
      few = e.few;
      ready = l.ready;
      spared = l.spared;
    }

pub returns-clause-ok : goal.returns-clause-ok
returns-clause-ok c =
    let e = c.plan_of-plan.ensures in
    let o = c.plan_of-plan.result in
    let p = c.args.parent.now in
    let plan : IsPlan p.memory c.args.child.now.memory o.marks o.whole o.from = record { marks_are = e.marks; turns = e.turns; few = e.few; none = e.none } in
    let l = left p c.args.child.now c.own_planned.new.parent c.args.child.now c.take_planned.new.parent c.take_planned.new.child o.marks o.whole o.from plan c.in_ok-own_planned.ensures.same c.in_ok-take_planned.ensures.same c.in_ok-take_planned.ensures.ok refl in
    c.reconcile_owned.ensures.memory ∙ l.memory ∙ ap (λ x. with_files_of x p.memory) c.in_ok-take_planned.ensures.same

pub returns-clause-count : goal.returns-clause-count
returns-clause-count c =
    let e = c.plan_of-plan.ensures in
    let o = c.plan_of-plan.result in
    let p = c.args.parent.now in
    let plan : IsPlan p.memory c.args.child.now.memory o.marks o.whole o.from = record { marks_are = e.marks; turns = e.turns; few = e.few; none = e.none } in
    let l = left p c.args.child.now c.own_planned.new.parent c.args.child.now c.take_planned.new.parent c.take_planned.new.child o.marks o.whole o.from plan c.in_ok-own_planned.ensures.same c.in_ok-take_planned.ensures.same c.in_ok-take_planned.ensures.ok refl in
    c.reconcile_owned.ensures.count ∙ l.count ∙ ap (λ x. files_left_out x p.memory) c.in_ok-take_planned.ensures.same

pub returns-clause-kept : goal.returns-clause-kept
returns-clause-kept c page out =
    let e = c.plan_of-plan.ensures in
    let o = c.plan_of-plan.result in
    let p = c.args.parent.now in
    let plan : IsPlan p.memory c.args.child.now.memory o.marks o.whole o.from = record { marks_are = e.marks; turns = e.turns; few = e.few; none = e.none } in
    let beside = plan_beside page p.memory c.args.child.now.memory o.marks o.whole o.from plan out in
    keeps_then p c.take_planned.new.parent c.reconcile_owned.new.parent page
    (keeps_then p c.own_planned.new.parent c.take_planned.new.parent page (c.in_ok-own_planned.ensures.kept page beside) (c.in_ok-take_planned.ensures.kept page (plan_beside_taken page p.memory c.args.child.now.memory o.marks o.whole o.from plan beside)))
    (c.reconcile_owned.ensures.kept page)
