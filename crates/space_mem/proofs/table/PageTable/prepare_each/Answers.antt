use Rattle.std.proofs.Common.{◌∙◌, ◌++◌, ◌∷◌, [], get_or, ap, refl, sym, subst, take, All}
use Rattle.std.specs.Prelude.{map}
use Rattle.std.proofs.lemmas.List.{map-append, take_all, take_more}
use Rattle.std.proofs.lemmas.List.Elements.{All-nil, All-push, All-same, All-weaker}
use Rattle.space_mem.specs.declared.table.PageTable.{PageTable}
use Rattle.space_mem.specs.Tables.{memory_of}
use Rattle.space_mem.specs.Taken.{IsReadyPut, put_page}
use Rattle.space_mem.proofs.Taken.{prepared_more, prepared_none, ready_stays}
use Rattle.space_mem.proofs.table.PageTable.prepare_each.Goals as goal

pub loop-page-init : goal.loop-page-init
loop-page-init c = record {
  prepared = prepared_none c.args.each.now c.args.self.now c.requires.table;
  pages = ap (map put_page) c.new-puts.ensures.items;
  ready = All-same (IsReadyPut c.args.self.now (memory_of c.args.source.now.pages)) c.new-puts.result.items [] c.new-puts.ensures.items (All-nil (IsReadyPut c.args.self.now (memory_of c.args.source.now.pages)));
}

pub returns-clause-pages : goal.returns-clause-pages
returns-clause-pages c = c.loop-page.invariant.pages ∙ take_all c.loop-page.page-index c.args.each.now c.loop-page-test.false

pub returns-in_err-put-clause-prepared : goal.returns-in_err-put-clause-prepared
returns-in_err-put-clause-prepared c = prepared_more c.args.each.now c.loop-page.page-index c.args.self.now c.loop-page.self c.prepare_put.new.self c.loop-page-test.true c.loop-page.invariant.prepared c.in_err-put.ensures.prepared

pub returns-in_err-push-clause-prepared : goal.returns-in_err-push-clause-prepared
returns-in_err-push-clause-prepared c = prepared_more c.args.each.now c.loop-page.page-index c.args.self.now c.loop-page.self c.prepare_put.new.self c.loop-page-test.true c.loop-page.invariant.prepared c.in_ok-put.ensures.prepared

pub loop-page-preserved : goal.loop-page-preserved
loop-page-preserved c =
    let before = c.loop-page.invariant in
    let i = c.loop-page.page-index in
    let each = c.args.each.now in
    let source = memory_of c.args.source.now.pages in
    let s : PageTable = c.loop-page.self in
    let u : PageTable = c.prepare_put.new.self in
    let is = c.in_ok-push.ensures.items in
    record {
      prepared = prepared_more each i c.args.self.now s u c.loop-page-test.true before.prepared c.in_ok-put.ensures.prepared;
      pages = ap (map put_page) is ∙ map-append put_page c.loop-page.puts.items (c.in_ok-put.put ∷ []) ∙ ap (λ l. l ++ put_page c.in_ok-put.put ∷ []) before.pages
          ∙ ap (λ n. take i each ++ n ∷ []) c.in_ok-put.ensures.page ∙ sym (take_more each i 0 c.loop-page-test.true);
      ready = subst (All (IsReadyPut u source)) (sym is) (All-push (IsReadyPut u source) c.loop-page.puts.items c.in_ok-put.put
          (All-weaker (IsReadyPut s source) (IsReadyPut u source) (λ put. ready_stays (get_or each i 0 ∷ []) s u source put c.in_ok-put.ensures.prepared) c.loop-page.puts.items before.ready)
          (c.in_ok-put.ensures.ready source (λ k low. refl)));
    }
