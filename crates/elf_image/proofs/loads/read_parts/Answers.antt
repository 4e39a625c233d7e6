use Rattle.std.proofs.Common.{List, ◌++◌, ◌∷◌, [], arith, refl, ap}
use Rattle.std.proofs.lemmas.Result.{err_from_is_err_and}
use Rattle.std.proofs.lemmas.List.{map_push}
use Rattle.elf_model.specs.Loads as model
use Rattle.elf_model.specs.Loads.{loads_at, loads_from, stack}
use Rattle.elf_model.specs.Needs.{headers_need}
use Rattle.elf_model.specs.Reading.{first_fault}
use Rattle.elf_image.specs.View.{load_views}
use Rattle.elf_image.proofs.Taking.{goes_on, takes_on, ends, all_met, all_taken}
use Rattle.elf_image.proofs.loads.read_parts.Goals as goal

pub returns-in_err-read_next-clause-tried : goal.returns-in_err-read_next-clause-tried
returns-in_err-read_next-clause-tried c =
    let p = err_from_is_err_and c.from_residual.result c.from_residual.ensures.1 in
    rw (p.1, p.2) (ends c.in_err-read_next.field-0.0 (load_views c.loop.loads.parts.items) c.loop.at c.args.table.count c.loop.counter c.args.bytes.now (first_fault (headers_need [] c.args.table.at c.args.table.count c.args.bytes.now)) c.loop-test.true c.in_err-read_next.ensures.tried c.loop.invariant.tried)

pub loop-preserved : goal.loop-preserved
loop-preserved c =
    let before = load_views c.loop.loads.parts.items in
    let more = loads_at c.loop.at c.args.bytes.now in
    let all = load_views c.read_next.new.self.parts.items in
    record {
      tried = goes_on before more all c.loop.at c.args.table.count c.loop.counter c.args.bytes.now (first_fault (headers_need [] c.args.table.at c.args.table.count c.args.bytes.now)) c.loop-test.true c.in_ok-read_next.ensures.tried refl c.in_ok-read_next.ensures.parts c.loop.invariant.tried;
      taken = takes_on before more all c.loop.at c.args.table.count c.loop.counter c.args.bytes.now (loads_from c.args.table.at c.args.table.count c.args.bytes.now) c.loop-test.true refl c.in_ok-read_next.ensures.parts c.loop.invariant.taken;
      sums = c.in_ok-read_next.ensures.sums;
      place = omega (arith, c.loop.invariant.place);
    }

pub returns-clause-tried : goal.returns-clause-tried
returns-clause-tried c = all_met (load_views c.loop.loads.parts.items) c.loop.at c.args.table.count c.loop.counter c.args.bytes.now (first_fault (headers_need [] c.args.table.at c.args.table.count c.args.bytes.now)) c.loop-test.false c.loop.invariant.tried

pub returns-clause-parts : goal.returns-clause-parts
returns-clause-parts c =
    let taken = all_taken (load_views c.loop.loads.parts.items) c.loop.at c.args.table.count c.loop.counter c.args.bytes.now (loads_from c.args.table.at c.args.table.count c.args.bytes.now) c.loop-test.false c.loop.invariant.taken in
    rw (c.in_ok-push.ensures.items, map_push) (ap (λ (ls : List model.Load). ls ++ stack ∷ []) taken)
