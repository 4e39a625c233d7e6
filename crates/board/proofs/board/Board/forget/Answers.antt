use Rattle.std.proofs.Common.{None, sym, ap, ◌∙◌, subst, arith}
use Rattle.path_set.specs.Paths.{paths_in}
use Rattle.board.specs.Jobs.{Sets}
use Rattle.board.specs.Listed.{IsListed}
use Rattle.board.proofs.Kept.{stale_listed}
use Rattle.board.proofs.Ways.{paths-append}
use Rattle.board.proofs.board.Board.forget.Goals as goal

pub invariant_of-self : goal.invariant_of-self
invariant_of-self c =
    let b = c.self.inside in
    let kept = c.self.invariant in
    let out = c.take_out-out.result in
    let sets : Sets c.args.slot None b.out.slots c.take_out-out.new.out.slots = c.take_out-out.ensures.sets in
    let fewer = c.take_out-out.ensures.len in
    let more = c.push_reserved.ensures.len in
    let capacity = c.push_reserved.ensures.capacity in
    let places = kept.places in
    let news_places = kept.news_places in
    let news = ap paths_in c.push_reserved.ensures.items ∙ paths-append b.lists.news.items out.path in
    record {
      nodes = kept.nodes;
      pages = kept.pages;
      sound = kept.sound;
      at_work = c.take_out-out.ensures.work;
      legal = kept.legal;
      listed = subst (λ ns. IsListed b.tree b.lists.run b.lists.calls ns c.take_out-out.new.out.slots) (sym news)
          (stale_listed b.tree b.lists.run b.lists.calls (paths_in b.lists.news.items) b.out.slots c.take_out-out.new.out.slots c.args.slot out kept.listed c.take_out-out.ensures.value sets);
      places = omega (arith, places, fewer);
      news_places = omega (arith, news_places, fewer, more, capacity);
      counted = kept.counted;
    }
