use Rattle.std.proofs.Common.{sym, ap, ◌∙◌, subst, arith}
use Rattle.std.proofs.lemmas.List.{append-nil}
use Rattle.path_set.specs.Paths.{paths_in}
use Rattle.board.specs.Listed.{IsListed}
use Rattle.board.proofs.ByNode.{still_run}
use Rattle.board.proofs.Kept.{more_listed, news_listed}
use Rattle.board.proofs.Ways.{paths-append, of_ok}
use Rattle.board.proofs.listing.list_news.Goals as goal

pub returns-then-is_err-clause-listed : goal.returns-then-is_err-clause-listed
returns-then-is_err-clause-listed c =
    λ tree out listed.
    let so_far = c.loop-path.invariant.1 tree out listed in
    let same = c.in-Some.ensures.items ∙ sym c.push_reserved.ensures.items in
    subst (λ ns. IsListed tree c.list_one_of_news.new.run c.list_one_of_news.new.calls (paths_in ns) out) same
    (more_listed tree c.loop-path.run c.loop-path.calls c.list_one_of_news.new.run c.list_one_of_news.new.calls (paths_in c.loop-path.news.items) out so_far (still_run c.loop-path.run c.list_one_of_news.new.run c.list_one_of_news.ensures.places c.list_one_of_news.ensures.run) c.list_one_of_news.ensures.calls)

pub loop-path-preserved : goal.loop-path-preserved
loop-path-preserved c =
    let way = of_ok c.list_one_of_news.result _ c.if-is_err.false c.is_err.ensures.value c.list_one_of_news.ensures.there in
    let shorter = c.in-Some.ensures.len in
    let before = c.loop-path.invariant.2 in (
      c.list_one_of_news.ensures.places ∙ c.loop-path.invariant.0,
      λ tree out listed.
          let so_far = c.loop-path.invariant.1 tree out listed in
          news_listed tree c.loop-path.run c.loop-path.calls c.list_one_of_news.new.run c.list_one_of_news.new.calls (paths_in c.pop.new.self.items) c.in-Some.path.items out
          (subst (λ ns. IsListed tree c.loop-path.run c.loop-path.calls ns out) (ap paths_in c.in-Some.ensures.items ∙ paths-append c.pop.new.self.items c.in-Some.path) so_far)
          (still_run c.loop-path.run c.list_one_of_news.new.run c.list_one_of_news.ensures.places c.list_one_of_news.ensures.run) c.list_one_of_news.ensures.calls way.0 way.1,
      omega (arith, shorter, before),
      c.in-Some.ensures.capacity ∙ c.loop-path.invariant.3,
    )

pub returns-clause-listed : goal.returns-clause-listed
returns-clause-listed c =
    λ tree out listed.
    let so_far = c.loop-path.invariant.1 tree out listed in
    let same = c.in_default.ensures.items ∙ append-nil c.pop.new.self.items in
    subst (λ ns. IsListed tree c.loop-path.run c.loop-path.calls (paths_in ns) out) same so_far
