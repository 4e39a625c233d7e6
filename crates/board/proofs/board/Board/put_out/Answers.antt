use Rattle.std.proofs.Common.{◌≡◌, ◌≢◌, ◌<◌, length, ℕ, List, Some, true, sym, ap, ◌∙◌, subst, arith}
use Rattle.run_model.specs.Schedule.{is_local_at}
use Rattle.det_core.specs.Legal.{IsHistory}
use Rattle.node_places.specs.Places.{all_home}
use Rattle.board.specs.Runs.{HasRun}
use Rattle.path_set.specs.Paths.{paths_in}
use Rattle.arrayvec.specs.ArrayVec.{ArrayVec}
use Rattle.det_laws.specs.Tops.{top_at}
use Rattle.board.specs.declared.job.Out.{Out}
use Rattle.board.specs.Jobs.{MayBeTaken, Sets}
use Rattle.board.specs.Listed.{IsListed}
use Rattle.board.specs.Value.{Shown}
use Rattle.board.proofs.Kept.{put_out_listed}
use Rattle.board.proofs.Histories.{legal_sound, alone_sound, goes_stands, shown_of}
use Rattle.board.proofs.Ways.{on_err}
use Rattle.board.proofs.board.Board.put_out.Goals as goal

pub unreachable-requires : goal.unreachable-requires
unreachable-requires c =
    let goes : is_local_at c.args.path.items 8 c.self.inside.tree ≡ true = ap (λ (s : Shown). is_local_at c.args.path.items 8 s.tree) c.self.view_is ∙ c.requires.goes in
    goes_stands c.args.path.items c.self.inside.tree c.in_ok-top.field-0 goes c.in_ok-top.ensures.equal c.in_default.is

pub invariant_of-result : goal.invariant_of-result
invariant_of-result c =
    let b = c.self.inside in
    let kept = c.self.invariant in
    let stood : top_at c.args.path.items b.tree ≡ Some c.in_ok-top-2.top.value = sym c.in_ok-top.ensures.equal ∙ (c.in-Some.is ∙ ap Some (sym c.in_ok-top-2.ensures.ok)) in
    record { sound = alone_sound c.args.path.items b.tree c.in_ok-top-2.top.value (legal_sound b.history.items b.boot b.tree (all_home b.lists.run.places.nodes) b.lists.run.places kept.legal kept.sound) stood }

pub invariant_of-self-2 : goal.invariant_of-self-2
invariant_of-self-2 c =
    let b = c.self.inside in
    let kept = c.self.invariant in
    let o : Out = record { ticket = b.counts.next_ticket; path = c.in_ok-copy_path.field-0 } in
    let may : MayBeTaken b.tree b.out.slots c.args.path.items = subst (λ (s : Shown). MayBeTaken s.tree s.out c.args.path.items) (sym c.self.view_is) c.requires in
    let may_out : MayBeTaken b.tree b.out.slots o.path.items = subst (λ (p : ArrayVec ℕ). MayBeTaken b.tree b.out.slots p.items) (sym c.in_ok-copy_path.ensures) may in
    let sets : Sets c.in_ok-slot.slot (Some o) b.out.slots c.put_in.new.out.slots = c.in_ok-slot.ensures.sets in
    let fewer = λ (q : List ℕ) (other : q ≢ o.path.items) (has : HasRun b.lists.run q). c.remove.ensures.others q (λ e. other (e ∙ sym (ap (λ (p : ArrayVec ℕ). p.items) c.in_ok-copy_path.ensures))) has in
    let listed = put_out_listed b.tree b.lists.run c.remove.new.self b.lists.calls (paths_in b.lists.news.items) b.out.slots c.put_in.new.out.slots c.in_ok-slot.slot o kept.listed may_out c.in_ok-slot.ensures.vacant sets fewer in
    let tree = c.in_ok-top.ensures.same in
    let places = c.in_ok-make_places.ensures.places in
    let room = places.0 in
    let news_room = places.1 in
    let count = c.in_ok-count.ensures in
    let jobs = c.len.ensures in
    let more = c.in_ok-slot.ensures.len in
    record {
      nodes = subst (λ ps. 0 < (let places = ps in places.nodes)) (sym c.remove.ensures.places) kept.nodes;
      pages = subst (λ ps. length b.lists.pages.lists ≡ (let places = ps in places.nodes)) (sym c.remove.ensures.places) kept.pages;
      sound = kept.sound;
      at_work = c.put_in.ensures.work;
      legal = subst (λ ps. IsHistory (let places = ps in places.nodes) b.boot c.make_places.new.history.items c.copy_top_at.new.space ps) (sym c.remove.ensures.places)
          (subst (λ s. IsHistory b.lists.run.places.nodes b.boot c.make_places.new.history.items s b.lists.run.places) (sym tree)
          (subst (λ es. IsHistory b.lists.run.places.nodes b.boot es b.tree b.lists.run.places) (sym c.make_places.ensures.history) kept.legal));
      listed = subst (λ s. IsListed s c.remove.new.self b.lists.calls (paths_in c.make_places.new.news.items) c.put_in.new.out.slots) (sym tree)
          (subst (λ ns. IsListed b.tree c.remove.new.self b.lists.calls (paths_in ns) c.put_in.new.out.slots) (sym c.make_places.ensures.news) listed);
      places = omega (arith, room, count, jobs, more);
      news_places = omega (arith, news_room, count, jobs, more);
      counted = let was = kept.counted in let len = c.make_places.ensures.history_len in omega (arith, was, len);
    }

pub returns-in_err-slot-clause-err : goal.returns-in_err-slot-clause-err
returns-in_err-slot-clause-err c =
    let b = c.self.inside in
    let items = c.make_places.new.history.items in
    let slots = c.put_in.new.out.slots in
    on_err c.from_residual-in_err-slot.result _
    ((ap (λ s. shown_of b.boot s b.lists.run.places items slots b.counts.next_ticket b.counts.taken b.counts.owed) c.in_ok-top.ensures.same ∙ ap (λ es. shown_of b.boot b.tree b.lists.run.places es slots b.counts.next_ticket b.counts.taken b.counts.owed) c.make_places.ensures.history
    ∙ ap (λ xs. shown_of b.boot b.tree b.lists.run.places b.history.items xs b.counts.next_ticket b.counts.taken b.counts.owed) c.in_err-slot.ensures.err)
    ∙ c.self.view_is)
