use Rattle.std.proofs.Common.{◌≡◌, ◌<◌, length, sym, ◌∙◌, subst, arith, List, ℕ}
use Rattle.std.specs.Prelude.{IfOk, IfSome, IsNone}
use Rattle.std.proofs.lemmas.Result.{IfOk-weaker}
use Rattle.path_set.specs.Paths.{paths_in}
use Rattle.board.specs.Jobs.{MayBeTakenOn}
use Rattle.det_core.specs.Legal.{IsHistory}
use Rattle.board.specs.Listed.{IsListed}
use Rattle.board.specs.Value.{Shown}
use Rattle.board.specs.Steps.{IsLeast}
use Rattle.board.proofs.Kept.{run_least, none_to_take}
use Rattle.board.proofs.Ways.{if_some_weaker}
use Rattle.board.proofs.board.Board.to_take.Goals as goal

pub invariant_of-self : goal.invariant_of-self
invariant_of-self c =
    let b = c.self.inside in
    let kept = c.self.invariant in
    let news_places = kept.news_places in
    let fewer = c.list_news.ensures.fewer in
    let capacity = c.list_news.ensures.capacity in
    record {
      nodes = subst (λ ps. 0 < (let places = ps in places.nodes)) (sym c.list_news.ensures.places) kept.nodes;
      pages = subst (λ ps. length b.lists.pages.lists ≡ (let places = ps in places.nodes)) (sym c.list_news.ensures.places) kept.pages;
      sound = kept.sound;
      at_work = kept.at_work;
      legal = subst (λ ps. IsHistory (let places = ps in places.nodes) b.boot b.history.items b.tree ps) (sym c.list_news.ensures.places) kept.legal;
      listed = c.list_news.ensures.listed b.tree b.out.slots kept.listed;
      places = kept.places;
      news_places = omega (arith, news_places, fewer, capacity);
      counted = kept.counted;
    }

pub invariant_of-self-2 : goal.invariant_of-self-2
invariant_of-self-2 c =
    let b = c.self.inside in
    let kept = c.self.invariant in
    let news_places = kept.news_places in
    let fewer = c.list_news.ensures.fewer in
    let capacity = c.list_news.ensures.capacity in
    let none = c.in_ok-list_news.ensures.none in
    let before = subst (λ ns. IsListed b.tree c.list_news.new.run c.list_news.new.calls (paths_in ns) b.out.slots) none (c.list_news.ensures.listed b.tree b.out.slots kept.listed) in
    record {
      nodes = subst (λ ps. 0 < (let places = ps in places.nodes)) (sym (c.find_first.ensures.places ∙ c.list_news.ensures.places)) kept.nodes;
      pages = subst (λ ps. length b.lists.pages.lists ≡ (let places = ps in places.nodes)) (sym (c.find_first.ensures.places ∙ c.list_news.ensures.places)) kept.pages;
      sound = kept.sound;
      at_work = kept.at_work;
      legal = subst (λ ps. IsHistory (let places = ps in places.nodes) b.boot b.history.items b.tree ps) (sym (c.find_first.ensures.places ∙ c.list_news.ensures.places)) kept.legal;
      listed = subst (λ ns. IsListed b.tree c.find_first.new.run c.list_news.new.calls (paths_in ns) b.out.slots) (sym none) (c.find_first.ensures.listed c.list_news.new.calls b.out.slots kept.at_work before);
      places = kept.places;
      news_places = omega (arith, news_places, fewer, capacity);
      counted = kept.counted;
    }

pub returns-clause-some : goal.returns-clause-some
returns-clause-some c =
    let b = c.self.inside in
    let node = c.args.node in
    let none = c.in_ok-list_news.ensures.none in
    let before = subst (λ ns. IsListed b.tree c.list_news.new.run c.list_news.new.calls (paths_in ns) b.out.slots) none (c.list_news.ensures.listed b.tree b.out.slots c.self.invariant.listed) in
    let now = c.find_first.ensures.listed c.list_news.new.calls b.out.slots c.self.invariant.at_work before in
    let same = c.find_first.ensures.places ∙ c.list_news.ensures.places in
    subst (λ (s : Shown). IfOk c.find_first.result (λ o. IfSome o (λ p. IsLeast (MayBeTakenOn s.places node s.tree s.out) p.items))) c.self.view_is
    (subst (λ ps. IfOk c.find_first.result (λ o. IfSome o (λ p. IsLeast (MayBeTakenOn ps node b.tree b.out.slots) p.items))) same
    (IfOk-weaker c.find_first.result _ _
    (λ o found. if_some_weaker o _ _
    (λ p here. record { one = record { may = here.2 b.out.slots c.self.invariant.at_work; there = here.1 }; least = λ q may. run_least b.tree c.find_first.new.run c.list_news.new.calls b.out.slots node p.items q now here.0 may }) found)
    c.find_first.ensures.some))

pub returns-clause-none : goal.returns-clause-none
returns-clause-none c =
    let b = c.self.inside in
    let node = c.args.node in
    let none = c.in_ok-list_news.ensures.none in
    let before = subst (λ ns. IsListed b.tree c.list_news.new.run c.list_news.new.calls (paths_in ns) b.out.slots) none (c.list_news.ensures.listed b.tree b.out.slots c.self.invariant.listed) in
    let now = c.find_first.ensures.listed c.list_news.new.calls b.out.slots c.self.invariant.at_work before in
    let same = c.find_first.ensures.places ∙ c.list_news.ensures.places in
    subst (λ (s : Shown). IfOk c.find_first.result (λ o. IsNone o → (p : List ℕ) → MayBeTakenOn s.places node s.tree s.out p → ⊥)) c.self.view_is
    (subst (λ ps. IfOk c.find_first.result (λ o. IsNone o → (p : List ℕ) → MayBeTakenOn ps node b.tree b.out.slots p → ⊥)) same
    (IfOk-weaker c.find_first.result _ _
    (λ o empty is_none p. none_to_take b.tree c.find_first.new.run c.list_news.new.calls b.out.slots node p now (empty is_none))
    c.find_first.ensures.none))
