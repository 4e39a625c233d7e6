use Rattle.std.proofs.Common.{◌≡◌, ◌≤◌, vec_len, vec_capacity}
use Rattle.space_model.specs.Space.{Space}
use Rattle.path_set.specs.Paths.{paths_in}
use Rattle.board.specs.Jobs.{Slots}
use Rattle.board.specs.Listed.{IsListed}
use Rattle.board.proofs.listing.list_news.Given as goal

abbrev pub invariant-loop-path : goal.invariant-loop-path
invariant-loop-path l =
    (l.run.places ≡ l.fn.run.places)
    × ((tree : Space) (out : Slots) → IsListed tree l.fn.run l.fn.calls (paths_in l.fn.news.items) out → IsListed tree l.run l.calls (paths_in l.news.items) out)
    × (vec_len l.news ≤ vec_len l.fn.news) × (vec_capacity l.news ≡ vec_capacity l.fn.news)

abbrev pub decreases-loop-path : goal.decreases-loop-path
decreases-loop-path l = vec_len l.news
