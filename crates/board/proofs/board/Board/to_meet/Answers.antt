use Rattle.std.proofs.Common.{◌≡◌, ◌<◌, length, ◌≡◌, [], sym, subst, arith, List, ℕ}
use Rattle.std.specs.Prelude.{Some, None, IfOk, IfSome, IsNone}
use Rattle.std.proofs.lemmas.Result.{IfOk-weaker}
use Rattle.run_model.specs.Schedule.{call_at}
use Rattle.path_set.specs.Paths.{paths_in}
use Rattle.det_core.specs.Legal.{IsHistory}
use Rattle.board.specs.Listed.{IsListed}
use Rattle.board.specs.Value.{Shown}
use Rattle.board.specs.Steps.{IsLeast, MayMeet}
use Rattle.board.proofs.Kept.{call_least, none_to_meet}
use Rattle.board.proofs.Ways.{if_some_weaker}
use Rattle.board.proofs.board.Board.to_meet.Goals as goal

pub invariant_of-self : goal.invariant_of-self
invariant_of-self c =
    let b = c.self.inside in
    let kept = c.self.invariant in
    let news_places = kept.news_places in
    let fewer = c.list_news.ensures.fewer in
    let capacity = c.list_news.ensures.capacity in
    record {
      nodes = subst (λ ps. 0 < (let places = ps in places.nodes)) (sym c.list_news.ensures.places) kept.nodes;
      pages = subst (λ ps. length b.lists.pages.lists ≡ (let places = ps in places.nodes)) (sym c.list_news.ensures.places) kept.pages;
      sound = kept.sound;
      at_work = kept.at_work;
      legal = subst (λ ps. IsHistory (let places = ps in places.nodes) b.boot b.history.items b.tree ps) (sym c.list_news.ensures.places) kept.legal;
      listed = c.list_news.ensures.listed b.tree b.out.slots kept.listed;
      places = kept.places;
      news_places = omega (arith, news_places, fewer, capacity);
      counted = kept.counted;
    }

pub invariant_of-self-2 : goal.invariant_of-self-2
invariant_of-self-2 c =
    let b = c.self.inside in
    let kept = c.self.invariant in
    let news_places = kept.news_places in
    let fewer = c.list_news.ensures.fewer in
    let capacity = c.list_news.ensures.capacity in
    let none = c.in_ok-list_news.ensures.none in
    let before = subst (λ ns. IsListed b.tree c.list_news.new.run c.list_news.new.calls (paths_in ns) b.out.slots) none (c.list_news.ensures.listed b.tree b.out.slots kept.listed) in
    record {
      nodes = subst (λ ps. 0 < (let places = ps in places.nodes)) (sym c.list_news.ensures.places) kept.nodes;
      pages = subst (λ ps. length b.lists.pages.lists ≡ (let places = ps in places.nodes)) (sym c.list_news.ensures.places) kept.pages;
      sound = kept.sound;
      at_work = kept.at_work;
      legal = subst (λ ps. IsHistory (let places = ps in places.nodes) b.boot b.history.items b.tree ps) (sym c.list_news.ensures.places) kept.legal;
      listed = subst (λ ns. IsListed b.tree c.list_news.new.run c.find_first.new.calls (paths_in ns) b.out.slots) (sym none) (c.find_first.ensures.listed c.list_news.new.run b.out.slots before);
      places = kept.places;
      news_places = omega (arith, news_places, fewer, capacity);
      counted = kept.counted;
    }

pub returns-clause-some : goal.returns-clause-some
returns-clause-some c =
    let b = c.self.inside in
    let none = c.in_ok-list_news.ensures.none in
    let before = subst (λ ns. IsListed b.tree c.list_news.new.run c.list_news.new.calls (paths_in ns) b.out.slots) none (c.list_news.ensures.listed b.tree b.out.slots c.self.invariant.listed) in
    let now = c.find_first.ensures.listed c.list_news.new.run b.out.slots before in
    subst (λ (s : Shown). IfOk c.find_first.result (λ o. IfSome o (λ f. IsLeast (MayMeet s) f.path.items × (call_at f.path.items 8 s.tree ≡ Some f.call)))) c.self.view_is
    (IfOk-weaker c.find_first.result _ _
    (λ o found. if_some_weaker o _ _
    (λ f here. (record { one = (f.call, here.1); least = λ q may. call_least b.tree c.list_news.new.run c.find_first.new.calls b.out.slots f.path.items q may.0 now here.0 may.1 }, here.1)) found)
    c.find_first.ensures.some)

pub returns-clause-none : goal.returns-clause-none
returns-clause-none c =
    let b = c.self.inside in
    let none = c.in_ok-list_news.ensures.none in
    let before = subst (λ ns. IsListed b.tree c.list_news.new.run c.list_news.new.calls (paths_in ns) b.out.slots) none (c.list_news.ensures.listed b.tree b.out.slots c.self.invariant.listed) in
    let now = c.find_first.ensures.listed c.list_news.new.run b.out.slots before in
    subst (λ (s : Shown). IfOk c.find_first.result (λ o. IsNone o → (p : List ℕ) → call_at p 8 s.tree ≡ None)) c.self.view_is
    (IfOk-weaker c.find_first.result _ _
    (λ o empty is_none p. none_to_meet b.tree c.list_news.new.run b.out.slots p (subst (λ calls. IsListed b.tree c.list_news.new.run calls [] b.out.slots) (empty is_none) now))
    c.find_first.ensures.none)
