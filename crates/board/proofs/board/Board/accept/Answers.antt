use Rattle.std.proofs.Common.{◌≡◌, ◌++◌, ◌∷◌, [], Some, None, sym, ap, ◌∙◌, subst, arith}
use Rattle.space_model.specs.Path.{with_top}
use Rattle.det_core.specs.declared.entry.Entry.TheVariants.{Ran}
use Rattle.path_set.specs.Paths.{paths_in}
use Rattle.node_places.specs.Places.{all_home}
use Rattle.board.specs.declared.job.Out.{Out}
use Rattle.board.specs.Jobs.{out_at, Sets}
use Rattle.board.specs.Listed.{IsListed}
use Rattle.board.specs.Value.{Shown}
use Rattle.board.specs.Steps.{IsOfJob}
use Rattle.board.proofs.Kept.{taken_listed}
use Rattle.board.proofs.Ways.{paths-append}
use Rattle.board.proofs.Histories.{top_stands, ran_legal}
use Rattle.board.proofs.board.Board.accept.Goals as goal

pub swap_top-requires : goal.swap_top-requires
swap_top-requires c =
    let of = subst (λ (s : Shown). IsOfJob s c.args.done c.requires.0) (sym c.self.view_is) c.requires.1 in
    top_stands c.args.done.path.items c.self.inside.tree _ of.start.start

pub invariant_of-self : goal.invariant_of-self
invariant_of-self c =
    let b = c.self.inside in
    let kept = c.self.invariant in
    let done = c.args.done in
    let of = subst (λ (s : Shown). IsOfJob s c.args.done c.requires.0) (sym c.self.view_is) c.requires.1 in
    let out = c.take_out-out.result in
    let value : out_at b.out.slots done.slot ≡ Some out = c.take_out-out.ensures.value in
    let sets : Sets done.slot None b.out.slots c.take_out-out.new.out.slots = c.take_out-out.ensures.sets in
    let at_slot = of.out in
    let same : c.requires.0 ≡ out = cc in
    let path = ap (λ (o : Out). o.path.items) (sym same) ∙ of.start.path in
    let goes = kept.listed.goes done.path.items (done.slot, (c.requires.0, of.out, of.start.path)) in
    let fewer = c.take_out-out.ensures.len in
    let more = c.push_reserved.ensures.len in
    let capacity = c.push_reserved.ensures.capacity in
    let one_more = c.push_reserved-2.ensures.len in
    let same_room = c.push_reserved-2.ensures.capacity in
    let places = kept.places in
    let news_places = kept.news_places in
    let news = ap paths_in c.push_reserved.ensures.items ∙ paths-append b.lists.news.items out.path in
    let top = c.into_parts-top.result.1 in
    let now : c.swap_top.new.space ≡ with_top done.path.items top b.tree = c.swap_top.ensures.swapped in
    let put : with_top out.path.items top b.tree ≡ c.swap_top.new.space = ap (λ p. with_top p top b.tree) path ∙ sym now in
    let items : c.push_reserved-2.new.self.items ≡ b.history.items ++ Ran done.path c.ran-events.result ∷ [] = c.push_reserved-2.ensures.items in
    record {
      nodes = kept.nodes;
      pages = kept.pages;
      sound = kept.sound;
      at_work = c.take_out-out.ensures.work;
      legal = ran_legal b.boot b.tree c.swap_top.new.space (all_home b.lists.run.places.nodes) b.lists.run.places b.history.items c.push_reserved-2.new.self.items done.path done.run top c.ran-events.result kept.legal c.leads.ensures.run done.deep of.start.start goes
          c.into_parts-top.ensures.top c.ran-events.ensures now items;
      listed = subst (λ ns. IsListed c.swap_top.new.space b.lists.run b.lists.calls ns c.take_out-out.new.out.slots) (sym news)
          (subst (λ s. IsListed s b.lists.run b.lists.calls (paths_in b.lists.news.items ++ out.path.items ∷ []) c.take_out-out.new.out.slots) put
          (taken_listed b.tree b.lists.run b.lists.calls (paths_in b.lists.news.items) b.out.slots c.take_out-out.new.out.slots done.slot out top kept.listed value sets));
      places = omega (arith, places, fewer, one_more, same_room);
      news_places = omega (arith, news_places, fewer, more, capacity);
      counted = let was = kept.counted in omega (arith, was, one_more);
    }

pub overflow_add-self : goal.overflow_add-self
overflow_add-self c =
    let was = c.self.invariant.counted in
    let one_more = c.push_reserved-2.ensures.len in
    let entries = c.len-entries.ensures in
    let fits = c.len-entries.type_inv in
    omega (arith, was, one_more, entries, fits)
