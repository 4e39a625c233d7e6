-- A run that is shown by its console, and by its report behind that, is shown as a run is expected to be.
use Rattle.std.proofs.Common.{◌≡◌, inl, inr, ℕ, Bool, true, List, ◌++◌, length, take, Option, Ok, Err, refl, sym, ap, ◌∙◌, subst, arith, length-append}
use Rattle.std.proofs.lemmas.List.{take-append-le}
use Rattle.space_model.specs.Space.{Space, is_settled}
use Rattle.run_model.specs.Demand.{settle_tree}
use Rattle.run_model.proofs.Console.{settled_begins}
use Rattle.report_model.specs.Report.{console_of, report}
use Rattle.demand_eval.specs.Streams.{Far, StandsStill}
use Rattle.demand_eval.proofs.Streams.{nothing_prefix}
use Rattle.det_host.specs.Outside.{Takes}
use Rattle.det_host.specs.Writing.{Output, IsUntouched, StopsWithin, Wrote, WrotePrefix}
use Rattle.det_host.specs.declared.sink.SinkError.{SinkError}
use Rattle.det_host.specs.declared.sink.SinkError.TheVariants.{Failed, Memory}
use Rattle.det_cli.specs.declared.end.End.{End}
use Rattle.det_cli.specs.declared.end.End.TheVariants.{WriteFault, NoMemory}
use Rattle.det_cli.specs.Answers.{Writes}
use Rattle.det_cli.specs.Commands.{expectation_of_root}
use Rattle.det_cli.specs.Shown.{IsCutShort, ShowsConsole, ShowsReport}
use Rattle.det_cli.proofs.Courses.{untouched_prefix, whole_prefix}

-- a console that could not be written any further was stopped within what it would have been
pub stands_within : (most : ℕ) {far : Far} (o : Output) (s at : Space) → StandsStill most far o s at → StopsWithin o (console_of (settle_tree s))
stands_within most o s at still =
    let rest = settled_begins at in
    let all : console_of (settle_tree s) ≡ console_of at ++ rest.0 = ap console_of (sym still.same) ∙ rest.1 in
    let first : take still.count (console_of at) ≡ take still.count (console_of (settle_tree s)) =
    sym (take-append-le still.count (console_of at) rest.0 (omega (arith, still.not_all))) ∙ ap (take still.count) (sym all) in
    let long = ap length all ∙ length-append (console_of at) rest.0 in
    ((still.count, (omega (arith, long, still.not_all), subst (Takes o.taken_before o.taken_after) first still.taken)), still.fault)

-- the end of a write that failed
pub cut_short : (o : Output) (text : List ℕ) (error : SinkError) (end : End) → (error ≡ Failed → end ≡ WriteFault) → (error ≡ Memory → end ≡ NoMemory) → (error ≡ Failed → StopsWithin o text) → WrotePrefix o text
    → IsCutShort o text end
cut_short o text Failed end fault memory stops prefix = inl (fault refl, stops refl)
cut_short o text Memory end fault memory stops prefix = inr (memory refl, prefix)

-- of a root that was brought to its end before anything was written
pub console_written : (o : Output) (root s : Space) → s ≡ settle_tree root → is_settled s ≡ true → Wrote o (console_of s) → ShowsConsole o root (Ok s)
console_written o root s same settled wrote = (same, settled, wrote)

pub console_stopped : (o : Output) (root s : Space) (end : End) → s ≡ settle_tree root → IsCutShort o (console_of s) end → ShowsConsole o root (Err end)
console_stopped o root s end same cut = subst (λ r. IsCutShort o (console_of r) end) same cut

-- the console was written, and then the report
report_of : (digest : Bool) (s : Space) (out err : Output) (end : End) → Wrote out (console_of s) → ShowsReport err digest s end → Writes (expectation_of_root digest s) out err end
report_of digest s out err end wrote (inl h) = inl (h.0, wrote, h.1)
report_of digest s out err end wrote (inr (inl h)) = inr (inl (h.0, inr (wrote, h.1)))
report_of digest s out err end wrote (inr (inr h)) = inr (inr (h.0, whole_prefix out (console_of s) wrote, h.1, inl wrote))

pub shown : (digest : Bool) (root booted s : Space) (out err : Output) (end : End) → root ≡ booted → ShowsConsole out root (Ok s) → ShowsReport err digest s end → Writes (expectation_of_root digest (settle_tree booted)) out err end
shown digest root booted s out err end is console written =
    subst (λ r. Writes (expectation_of_root digest r) out err end) (console.0 ∙ ap settle_tree is) (report_of digest s out err end console.2 written)

stopped : (e : Space) (digest : Bool) (out err : Output) (end : End) → IsCutShort out (console_of e) end → IsUntouched err → Writes (expectation_of_root digest e) out err end
stopped e digest out err end (inl h) u = inr (inl (h.0, inl (h.1, u)))
stopped e digest out err end (inr h) u = inr (inr (h.0, h.1, untouched_prefix err (report digest e) u, inr u))

pub not_shown : (digest : Bool) (root booted : Space) (out err : Output) (end : End) → root ≡ booted → ShowsConsole out root (Err end) → IsUntouched err → Writes (expectation_of_root digest (settle_tree booted)) out err end
not_shown digest root booted out err end is cut u = subst (λ r. Writes (expectation_of_root digest (settle_tree r)) out err end) is (stopped (settle_tree root) digest out err end cut u)

-- a tree that settles to the same as another
pub same_stops : (o : Output) (s m : Space) → settle_tree m ≡ settle_tree s → StopsWithin o (console_of (settle_tree m)) → StopsWithin o (console_of (settle_tree s))
same_stops o s m same h = subst (λ r. StopsWithin o (console_of r)) same h

pub same_prefix : (o : Output) (s m : Space) → settle_tree m ≡ settle_tree s → WrotePrefix o (console_of (settle_tree m)) → WrotePrefix o (console_of (settle_tree s))
same_prefix o s m same h = subst (λ r. WrotePrefix o (console_of r)) same h

-- memory ran out before anything was written
pub not_begun : (a : Option (List ℕ)) (f g : ℕ) (root : Space) → ShowsConsole (record { taken_before = a; taken_after = a; faults_before = f; faults_after = g }) root (Err NoMemory)
not_begun a f g root = inr (refl, nothing_prefix a (console_of (settle_tree root)))
