-- A board as contracts see it, and what its fields keep.
-- Our choice: a restatement for proofs.
use Rattle.std.specs.Prelude.{◌≡◌, ◌+◌, ◌≤◌, ◌<◌, length, vec_len, vec_capacity}
use Rattle.slab.specs.Slab.{slab_len}
use Rattle.space_model.specs.Sound.{IsSound}
use Rattle.det_core.specs.Legal.{IsHistory}
use Rattle.path_set.specs.Paths.{paths_in}
use Rattle.board.specs.declared.board.Board.TheInside.{Inside}
use Rattle.board.specs.Value.{Shown}
use Rattle.board.specs.Listed.{AreOut, IsListed}

abbrev pub shown : Inside → Shown
shown b = record { boot = b.boot; tree = b.tree; places = b.lists.run.places; history = b.history.items; out = b.out.slots; next_ticket = b.counts.next_ticket; taken = b.counts.taken; owed = b.counts.owed }

-- There is a node, and the history leads from boot, which is sound, to the tree, with its spaces where they stand; each node has a list of pages; what may happen is listed, and so are the jobs that
-- are out; and for each job that is out there is a place in the history and in the news, so that its result takes no memory; and each result that
-- was taken is an entry of the history.
pub record Keeps (b : Inside) : Type 0 where
  pub nodes : 0 < b.lists.run.places.nodes
  pub pages : length b.lists.pages.lists ≡ b.lists.run.places.nodes
  pub sound : IsSound b.boot
  pub legal : IsHistory b.lists.run.places.nodes b.boot b.history.items b.tree b.lists.run.places
  pub at_work : AreOut b.lists.at_work b.out.slots
  pub listed : IsListed b.tree b.lists.run b.lists.calls (paths_in b.lists.news.items) b.out.slots
  pub places : vec_len b.history + slab_len b.out ≤ vec_capacity b.history
  pub news_places : vec_len b.lists.news + slab_len b.out ≤ vec_capacity b.lists.news
  pub counted : b.counts.taken ≤ vec_len b.history
