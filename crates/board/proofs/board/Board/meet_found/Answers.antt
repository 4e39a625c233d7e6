use Rattle.std.proofs.Common.{◌≡◌, ◌+◌, ◌<◌, ◌≤◌, refl, sym, ap, ◌∙◌, subst, arith}
use Rattle.std.specs.Prelude.{Some, vec_len, vec_capacity}
use Rattle.slab.specs.Slab.{slab_len}
use Rattle.space_model.specs.Meeting.{awaits}
use Rattle.run_model.specs.Schedule.{call_at}
use Rattle.det_core.specs.Legal.{Leads}
use Rattle.node_places.specs.Places.{Places, all_home}
use Rattle.path_set.specs.Paths.{paths_in}
use Rattle.board.specs.Gathering.{AreAway, HasMetBy, MeetsOn}
use Rattle.board.specs.Listed.{AreOut, IsListed}
use Rattle.board.specs.Runs.{Runs}
use Rattle.board.specs.Steps.{HasMet}
use Rattle.board.specs.Value.{Shown}
use Rattle.board.proofs.Assembled.{IsGatheredIn, gathered_legal, gathered_listed, met_from, together_legal, together_listed, together_shown}
use Rattle.board.proofs.Histories.{legal_sound, shown_of}
use Rattle.board.proofs.board.Board.meet_found.Goals as goal

pub invariant_of-self : goal.invariant_of-self
invariant_of-self c =
    let b = c.self.inside in
    let kept = c.self.invariant in
    let g = c.gather.ensures in
    let nodes = ap (λ (ps : Places). ps.nodes) g.places in
    record {
      nodes = subst (λ n. 0 < n) (sym nodes) kept.nodes;
      pages = g.pages ∙ kept.pages ∙ sym nodes;
      sound = kept.sound;
      at_work = subst (λ w. AreOut w b.out.slots) (sym g.work) kept.at_work;
      legal = gathered_legal b.boot b.tree c.gather.new.tree b.lists.run.places c.gather.new.lists.run.places b.history.items b.history.items kept.legal g.tree g.places refl;
      listed = gathered_listed b.tree c.gather.new.tree b.lists.run c.gather.new.lists.run b.lists.calls c.gather.new.lists.calls (paths_in b.lists.news.items) (paths_in c.gather.new.lists.news.items) b.out.slots kept.listed g.tree g.places g.run g.calls
          (ap (λ ns. paths_in ns.items) g.news);
      places = kept.places;
      news_places = let few = kept.news_places in subst (λ ns. vec_len ns + slab_len b.out ≤ vec_capacity ns) (sym g.news) few;
      counted = kept.counted;
    }

pub invariant_of-self-in_err-count : goal.invariant_of-self-in_err-count
invariant_of-self-in_err-count c =
    let b = c.self.inside in
    let kept = c.self.invariant in
    let g = c.gather.ensures in
    let nodes = ap (λ (ps : Places). ps.nodes) g.places in
    record {
      nodes = subst (λ n. 0 < n) (sym nodes) kept.nodes;
      pages = g.pages ∙ kept.pages ∙ sym nodes;
      sound = kept.sound;
      at_work = subst (λ w. AreOut w b.out.slots) (sym g.work) kept.at_work;
      legal = gathered_legal b.boot b.tree c.gather.new.tree b.lists.run.places c.gather.new.lists.run.places b.history.items b.history.items kept.legal g.tree g.places refl;
      listed = gathered_listed b.tree c.gather.new.tree b.lists.run c.gather.new.lists.run b.lists.calls c.gather.new.lists.calls (paths_in b.lists.news.items) (paths_in c.gather.new.lists.news.items) b.out.slots kept.listed g.tree g.places g.run g.calls
          (ap (λ ns. paths_in ns.items) g.news);
      places = kept.places;
      news_places = let few = kept.news_places in subst (λ ns. vec_len ns + slab_len b.out ≤ vec_capacity ns) (sym g.news) few;
      counted = kept.counted;
    }

pub invariant_of-self-in_err-reserve : goal.invariant_of-self-in_err-reserve
invariant_of-self-in_err-reserve c =
    let b = c.self.inside in
    let kept = c.self.invariant in
    let g = c.gather.ensures in
    let nodes = ap (λ (ps : Places). ps.nodes) g.places in
    let places = kept.places in
    let len = c.reserve.ensures.len in
    let capacity = c.reserve.ensures.capacity in
    record {
      nodes = subst (λ n. 0 < n) (sym nodes) kept.nodes;
      pages = g.pages ∙ kept.pages ∙ sym nodes;
      sound = kept.sound;
      at_work = subst (λ w. AreOut w b.out.slots) (sym g.work) kept.at_work;
      legal = gathered_legal b.boot b.tree c.gather.new.tree b.lists.run.places c.gather.new.lists.run.places b.history.items c.reserve.new.self.items kept.legal g.tree g.places c.reserve.ensures.items;
      listed = gathered_listed b.tree c.gather.new.tree b.lists.run c.gather.new.lists.run b.lists.calls c.gather.new.lists.calls (paths_in b.lists.news.items) (paths_in c.gather.new.lists.news.items) b.out.slots kept.listed g.tree g.places g.run g.calls
          (ap (λ ns. paths_in ns.items) g.news);
      places = omega (arith, places, len, capacity);
      news_places = let few = kept.news_places in subst (λ ns. vec_len ns + slab_len b.out ≤ vec_capacity ns) (sym g.news) few;
      counted = let was = kept.counted in omega (arith, was, len);
    }

pub invariant_of-self-2 : goal.invariant_of-self-2
invariant_of-self-2 c =
    let b = c.self.inside in
    let kept = c.self.invariant in
    let path = c.args.found.path in
    let q = path.items in
    let k = c.args.found.call in
    let g = c.gather.ensures in
    let gathered = c.in_ok-gathered.gathered in
    let node = gathered.node in
    let ok = c.in_ok-gathered.ensures in
    let ps = c.run.inside.places in
    let mid : Runs = record { places = ps; lists = c.run.inside.lists.items } in
    let qs = c.meet_gathered.new.places in
    let t = c.meet_gathered.new.tree in
    let fs = c.meet_gathered.new.history.items in
    let same : ps ≡ b.lists.run.places = ap (λ (r : Runs). r.places) c.run.view_is ∙ g.places in
    let may : call_at q 8 b.tree ≡ Some k = ap (λ (s : Shown). call_at q 8 s.tree) c.self.view_is ∙ c.requires in
    let sound = legal_sound b.history.items b.boot b.tree (all_home b.lists.run.places.nodes) b.lists.run.places kept.legal kept.sound in
    let met : HasMetBy path k node c.gather.new.tree ps c.reserve.new.self.items t qs fs = c.in_ok-meet_gathered.ensures.met k (ap (call_at q 8) g.tree ∙ may) (subst (λ x. MeetsOn x q (awaits k) node) (sym same) ok.node.1) (subst (λ x. AreAway x q (awaits k) gathered.away) (sym same) ok.away) ok.replaced in
    let nodes : qs.nodes ≡ b.lists.run.places.nodes = c.meet_gathered.ensures.nodes ∙ ap (λ (x : Places). x.nodes) same in
    let lists = subst (λ r. IsGatheredIn b.lists.run r c.gather.new.lists.calls (awaits k) q node) (sym c.run.view_is) (g.places, g.run, ok.here, ok.way, ok.awaited) in
    let reserved = c.reserve.ensures.len in
    let room = c.in_ok-reserve.ensures.ok in
    let count = c.in_ok-count.ensures in
    let jobs = c.len.ensures in
    let away = c.len-2.ensures in
    let more = c.meet_gathered.ensures.len in
    let capacity = c.meet_gathered.ensures.capacity in
    record {
      nodes = subst (λ n. 0 < n) (sym nodes) kept.nodes;
      pages = g.pages ∙ kept.pages ∙ sym nodes;
      sound = kept.sound;
      at_work = subst (λ w. AreOut w b.out.slots) (sym g.work) kept.at_work;
      legal = subst (λ n. Leads b.boot (all_home n) fs t qs) (sym nodes) (together_legal b.boot b.tree t (all_home b.lists.run.places.nodes) b.lists.run.places qs b.history.items fs path k node kept.legal
          (met_from path k node b.tree c.gather.new.tree t b.lists.run.places ps qs b.history.items c.reserve.new.self.items fs g.tree same c.reserve.ensures.items met));
      listed = subst (λ ns. IsListed t (record { places = qs; lists = mid.lists }) c.gather.new.lists.calls ns b.out.slots) (sym (ap (λ ns. paths_in ns.items) g.news))
          (together_listed b.tree t sound.0 b.lists.run mid qs b.lists.calls c.gather.new.lists.calls (paths_in b.lists.news.items) b.out.slots path k node b.history.items fs sound.1.2 kept.listed may g.calls lists
          (met_from path k node b.tree c.gather.new.tree t ps ps qs b.history.items c.reserve.new.self.items fs g.tree refl c.reserve.ensures.items met));
      places = omega (arith, reserved, room, count, jobs, away, more, capacity);
      news_places = let few = kept.news_places in subst (λ ns. vec_len ns + slab_len b.out ≤ vec_capacity ns) (sym g.news) few;
      counted = let was = kept.counted in let grows = c.meet_gathered.ensures.grows in omega (arith, was, reserved, grows);
    }

pub returns-clause-ok : goal.returns-clause-ok
returns-clause-ok c =
    let b = c.self.inside in
    let path = c.args.found.path in
    let q = path.items in
    let k = c.args.found.call in
    let g = c.gather.ensures in
    let gathered = c.in_ok-gathered.gathered in
    let node = gathered.node in
    let ok = c.in_ok-gathered.ensures in
    let ps = c.run.inside.places in
    let qs = c.meet_gathered.new.places in
    let t = c.meet_gathered.new.tree in
    let fs = c.meet_gathered.new.history.items in
    let same : ps ≡ b.lists.run.places = ap (λ (r : Runs). r.places) c.run.view_is ∙ g.places in
    let may : call_at q 8 b.tree ≡ Some k = ap (λ (s : Shown). call_at q 8 s.tree) c.self.view_is ∙ c.requires in
    let met : HasMetBy path k node c.gather.new.tree ps c.reserve.new.self.items t qs fs = c.in_ok-meet_gathered.ensures.met k (ap (call_at q 8) g.tree ∙ may) (subst (λ x. MeetsOn x q (awaits k) node) (sym same) ok.node.1) (subst (λ x. AreAway x q (awaits k) gathered.away) (sym same) ok.away) ok.replaced in (
      refl,
      subst (λ (s : Shown). HasMet s path (shown_of b.boot t qs fs b.out.slots b.counts.next_ticket b.counts.taken b.counts.owed)) c.self.view_is
          (together_shown b.boot b.tree t b.lists.run.places qs b.history.items fs b.out.slots b.counts.next_ticket b.counts.taken b.counts.owed path k node may
          (met_from path k node b.tree c.gather.new.tree t b.lists.run.places ps qs b.history.items c.reserve.new.self.items fs g.tree same c.reserve.ensures.items met)),
    )
