use Rattle.std.proofs.Common.{◌≡◌, ◌⊎◌, ℕ, List, Some, sym, ap, subst}
use Rattle.arrayvec.specs.ArrayVec.{ArrayVec}
use Rattle.slab.specs.Slab.{Slab}
use Rattle.path_set.specs.Paths.{Has}
use Rattle.board.specs.declared.job.Out.{Out}
use Rattle.board.specs.Jobs.{Sets}
use Rattle.board.specs.Listed.{AreOut}
use Rattle.board.proofs.Works.{put_at_work}
use Rattle.board.proofs.slots.put_in.Goals as goal

pub returns-clause-work : goal.returns-clause-work
returns-clause-work c =
    let kept = ap (λ (s : Slab Out). s.slots) c.reserve.ensures.rest_kept in
    let before = c.reserve.new.self.slots in
    let after = c.insert_reserved.new.self.slots in
    let slot = c.insert_reserved.result in
    let sets : Sets slot (Some c.args.job) before after = record { here = c.insert_reserved.ensures.updates.changed; others = c.insert_reserved.ensures.updates.others } in
    let works = subst (AreOut c.args.at_work.now) (sym kept) c.requires.work in
    let there = subst (λ (p : ArrayVec ℕ). Has c.insert.new.self p.items) c.in_ok-copy_path.ensures c.in_ok-insert.ensures.there in
    put_at_work before after c.args.at_work.now c.insert.new.self slot c.args.job works c.insert_reserved.ensures.was_vacant sets there c.insert.ensures.others
    (subst (λ (q : ArrayVec ℕ). (p : List ℕ) → Has c.insert.new.self p → Has c.args.at_work.now p ⊎ (p ≡ q.items)) c.in_ok-copy_path.ensures c.insert.ensures.only)
