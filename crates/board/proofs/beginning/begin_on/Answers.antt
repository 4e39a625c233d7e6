use Rattle.std.proofs.Common.{◌<◌, refl, sym, ap, ◌∙◌, subst, arith}
use Rattle.std.specs.Prelude.{is_some, count_by}
use Rattle.space_model.specs.Sound.{IsSound}
use Rattle.det_core.specs.Legal.{IsHistory}
use Rattle.node_places.specs.Places.{Places, all_home}
use Rattle.path_set.specs.Paths.{paths_in}
use Rattle.board.specs.Listed.{IsListed}
use Rattle.board.proofs.Beginnings.{begun_listed}
use Rattle.board.proofs.Works.{none_at_work}
use Rattle.board.proofs.beginning.begin_on.Goals as goal

pub invariant_of-result : goal.invariant_of-result
invariant_of-result c =
    let boot = c.of.ensures ∙ c.in_ok-copy_tree.ensures.equal in
    let tree = c.in_ok-copy_tree.ensures.same in
    let len = c.new-4.ensures.len in
    let news_len = c.new-7.ensures.len in
    let some = c.requires.nodes.0 in
    let new_places = c.in_ok-run.ensures in
    let home = c.list_all.ensures.places ∙ new_places in
    let empty = ap (λ s. count_by is_some s) c.new-5.ensures.empty in
    record {
      nodes = subst (λ ps. 0 < (let places = ps in places.nodes)) (sym home) (omega (arith, some));
      pages = c.requires.pages ∙ sym (ap (λ (ps : Places). ps.nodes) home);
      sound = subst IsSound (sym boot) c.requires.sound;
      at_work = none_at_work c.new-6.result c.new-5.result.slots c.new-6.ensures c.new-5.ensures.empty;
      legal = subst (λ ps. IsHistory (let places = ps in places.nodes) c.of.result c.new-4.result.items c.copy_tree.new.space ps) (sym home)
          (subst (λ es. IsHistory c.args.nodes c.of.result es c.copy_tree.new.space (all_home c.args.nodes)) (sym c.new-4.ensures.items) (boot ∙ sym tree, refl));
      listed = subst (λ s. IsListed s c.list_all.new.run c.list_all.new.calls (paths_in c.new-7.result.items) c.new-5.result.slots) (sym tree)
          (begun_listed c.args.space c.list_all.new.run c.list_all.new.calls (paths_in c.new-7.result.items) c.new-5.result.slots c.new-2.result.items c.new-2.ensures c.in_ok-list_all.ensures.all
          (ap paths_in c.new-7.ensures.items) c.new-5.ensures.empty);
      places = omega (arith, len, empty);
      news_places = omega (arith, news_len, empty);
      counted = omega (arith, len);
    }
