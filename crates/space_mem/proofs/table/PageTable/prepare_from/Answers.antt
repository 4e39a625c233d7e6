use Rattle.std.proofs.Common.{ℕ, ◌<◌, ◌∙◌, ◌++◌, ◌∷◌, [], List, get_or, length, ap, sym, subst, take, All, arith}
use Rattle.std.specs.Prelude.{map}
use Rattle.std.proofs.lemmas.List.{get_or-map, length-map, map-append, take_more}
use Rattle.std.proofs.lemmas.List.Elements.{All-nil, All-push, All-same, All-weaker}
use Rattle.space_mem.specs.declared.table.PageTable.{PageTable}
use Rattle.space_mem.specs.declared.taking.TakenPage.{TakenPage}
use Rattle.space_mem.specs.Taken.{IsPrepared, IsReadyPut, put_page, taken_page}
use Rattle.space_mem.proofs.Taken.{prepared_more, prepared_none, ready_stays}
use Rattle.space_mem.proofs.table.PageTable.prepare_from.Goals as goal

abbrev none : TakenPage
none = record { page = 0; from = 0 }

more : (each : List TakenPage) (i : ℕ) (t s u : PageTable) → i < length each → IsPrepared (map taken_page each) t s → IsPrepared (taken_page (get_or each i none) ∷ []) s u → IsPrepared (map taken_page each) t u
more each i t s u within before one =
    prepared_more (map taken_page each) i t s u (omega (arith, within, length-map each taken_page)) before
    (subst (λ p. IsPrepared (p ∷ []) s u) (sym (get_or-map taken_page each i none 0 within)) one)

pub loop-taken-init : goal.loop-taken-init
loop-taken-init c = record {
  prepared = prepared_none (map taken_page c.args.each.now) c.args.self.now c.requires.table;
  pages = ap (map put_page) c.new-puts.ensures.items;
  ready = λ m from. All-same (IsReadyPut c.args.self.now m) c.new-puts.result.items [] c.new-puts.ensures.items (All-nil (IsReadyPut c.args.self.now m));
}

pub returns-in_err-put-clause-prepared : goal.returns-in_err-put-clause-prepared
returns-in_err-put-clause-prepared c = more c.args.each.now c.loop-taken.taken-index c.args.self.now c.loop-taken.self c.prepare_put.new.self c.loop-taken-test.true c.loop-taken.invariant.prepared c.in_err-put.ensures.prepared

pub returns-in_err-push-clause-prepared : goal.returns-in_err-push-clause-prepared
returns-in_err-push-clause-prepared c = more c.args.each.now c.loop-taken.taken-index c.args.self.now c.loop-taken.self c.prepare_put.new.self c.loop-taken-test.true c.loop-taken.invariant.prepared c.in_ok-put.ensures.prepared

pub loop-taken-preserved : goal.loop-taken-preserved
loop-taken-preserved c =
    let before = c.loop-taken.invariant in
    let i = c.loop-taken.taken-index in
    let each = c.args.each.now in
    let s : PageTable = c.loop-taken.self in
    let u : PageTable = c.prepare_put.new.self in
    let is = c.in_ok-push.ensures.items in
    record {
      prepared = more each i c.args.self.now s u c.loop-taken-test.true before.prepared c.in_ok-put.ensures.prepared;
      pages = ap (map put_page) is ∙ map-append put_page c.loop-taken.puts.items (c.in_ok-put.put ∷ []) ∙ ap (λ l. l ++ put_page c.in_ok-put.put ∷ []) before.pages
          ∙ ap (λ n. map taken_page (take i each) ++ n ∷ []) c.in_ok-put.ensures.page ∙ sym (map-append taken_page (take i each) (get_or each i none ∷ [])) ∙ ap (map taken_page) (sym (take_more each i none c.loop-taken-test.true));
      ready = λ m from. subst (All (IsReadyPut u m)) (sym is) (All-push (IsReadyPut u m) c.loop-taken.puts.items c.in_ok-put.put
          (All-weaker (IsReadyPut s m) (IsReadyPut u m) (λ put. ready_stays (taken_page (get_or each i none) ∷ []) s u m put c.in_ok-put.ensures.prepared) c.loop-taken.puts.items (before.ready m from))
          (c.in_ok-put.ensures.ready m (from i none c.loop-taken-test.true)));
    }
