use Rattle.std.proofs.Common.{sym, subst, arith}
use Rattle.node_places.specs.Places.{all_home}
use Rattle.board.specs.Jobs.{MayBeTaken}
use Rattle.board.specs.Value.{Shown}
use Rattle.board.proofs.Going.{noted, gone_legal, gone_on_listed_at, gone_shown_from}
use Rattle.board.proofs.board.Board.go_on_at.Goals as goal

pub invariant_of-self-2 : goal.invariant_of-self-2
invariant_of-self-2 c =
    let b = c.self.inside in
    let kept = c.self.invariant in
    let may : MayBeTaken b.tree b.out.slots c.args.path.now.items = subst (λ (s : Shown). MayBeTaken s.tree s.out c.args.path.now.items) (sym c.self.view_is) c.requires in
    let room = c.in_ok-make_places.ensures.places.0 in
    let news_room = c.in_ok-make_places.ensures.places.1 in
    let count = c.in_ok-count.ensures in
    let jobs = c.len.ensures in
    let more = c.note.ensures.news_len in
    let capacity = c.note.ensures.news_room in
    let one_more = c.note.ensures.history_len in
    let same_room = c.note.ensures.history_room in
    let was = kept.counted in
    let len = c.make_places.ensures.history_len in
    record {
      nodes = kept.nodes;
      pages = kept.pages;
      sound = kept.sound;
      at_work = kept.at_work;
      legal = gone_legal b.boot b.tree c.go_on_in.new.tree (all_home b.lists.run.places.nodes) b.lists.run.places b.history.items c.note.new.history.items c.args.path.now c.in_ok-went.went.events kept.legal c.in_ok-went.ensures.runs
          (noted b.history.items c.make_places.new.history.items c.note.new.history.items c.in_ok-entry.entry c.args.path.now c.in_ok-went.went.events c.make_places.ensures.history c.in_ok-entry.ensures c.note.ensures.history);
      listed = gone_on_listed_at b.tree c.go_on_in.new.tree b.lists.run b.lists.calls b.lists.news.items c.make_places.new.news.items c.note.new.news.items b.out.slots c.in_ok-news.news c.args.path.now c.in_ok-went.went.events kept.listed may c.in_ok-went.ensures.runs
          c.make_places.ensures.news c.in_ok-news.ensures c.note.ensures.news;
      places = omega (arith, room, count, jobs, one_more, same_room);
      news_places = omega (arith, news_room, count, jobs, more, capacity);
      counted = omega (arith, was, len, one_more);
    }

pub returns-clause-gone : goal.returns-clause-gone
returns-clause-gone c =
    let b = c.self.inside in (
      c.in_ok-went.went.events,
      gone_shown_from b.boot b.tree c.go_on_in.new.tree b.lists.run.places b.history.items c.note.new.history.items b.out.slots b.counts.next_ticket b.counts.taken b.counts.owed c.args.path.now c.in_ok-went.went.events c.args.self.now c.self.view_is c.requires c.in_ok-went.ensures.within
          c.in_ok-went.ensures.runs
          (noted b.history.items c.make_places.new.history.items c.note.new.history.items c.in_ok-entry.entry c.args.path.now c.in_ok-went.went.events c.make_places.ensures.history c.in_ok-entry.ensures c.note.ensures.history),
    )

pub returns-clause-more : goal.returns-clause-more
returns-clause-more c = λ yes. c.may_go_on.ensures yes c.self.inside.out.slots c.self.invariant.at_work
