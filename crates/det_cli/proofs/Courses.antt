-- How a command goes, by what its stages answer; and what follows for its end.
use Rattle.std.proofs.Common.{◌≡◌, ◌⊎◌, ℕ, List, [], ◌∷◌, ◌++◌, length, take, Option, Some, None, Ok, Err, inl, inr, refl, sym, ap, ◌∙◌, subst, lit≤, lit<, arith}
use Rattle.std.proofs.lemmas.List.{append-nil, take_all}
use Rattle.det_host.specs.Outside.{Takes, Rose}
use Rattle.command_line.specs.Line.{Line, run, asm, bench}
use Rattle.det_host.specs.declared.sink.SinkError.{SinkError}
use Rattle.det_host.specs.declared.sink.SinkError.TheVariants.{Failed, Memory}
use Rattle.det_cli.specs.declared.end.End.{End}
use Rattle.det_cli.specs.declared.end.End.TheVariants.{Usage, ReadFault, WriteFault, NoMemory}
use Rattle.det_cli.specs.Status.{status_of, IsDone, IsBad, IsEarly}
use Rattle.det_host.specs.Writing.{Output, TakesPrefix, IsUntouched, Wrote, WrotePrefix, StopsWithin}
use Rattle.det_cli.specs.Files.{Expectation, Input, Step, judge}
use Rattle.det_cli.specs.Commands.{engine_steps, steps_of, whole_of, expectation_of_bench, expectation_of_files}
use Rattle.det_cli.specs.Answers.{Writes, Ends, IsUnasked, Course, CourseOf}
use Rattle.det_cli.specs.Stages.{GivesExpectation, Reads}
use Rattle.det_cli.proofs.Stages.{none_told}

stops : {V : Type 0} (shows : V → Expectation) (o : Option Expectation) (i : Input) (out err : Output) (f : End)
    → IsUntouched out → IsUntouched err → GivesExpectation shows o i (Err f) → Ends o i out err f
stops shows None i out err f u w h = (u, w, h)
stops shows (Some e) i out err f u w h = inr (h.0, u, w, h.1)

-- the reading of the files ended the call
pub stopped_course : {V : Type 0} (shows : V → Expectation) (l : Line) (i : Input) (out err : Output) (f : End)
    → IsUntouched out → IsUntouched err → Reads shows (steps_of l) (whole_of l) i (Err f) → Course l i out err f
stopped_course shows l i out err f u w h = record { contents = h.contents; files = h.files; ends = stops shows (expectation_of_files l h.contents) i out err f u w h.gives }

writes : {V : Type 0} (shows : V → Expectation) (o : Option Expectation) (i j : Input) (out err : Output) (v : V) (end : End)
    → GivesExpectation shows o j (Ok v) → Writes (shows v) out err end → Ends o i out err end
writes shows None i j out err v end h w = absurd h
writes shows (Some e) i j out err v end h w = inl (h.1, subst (λ (x : Expectation). Writes x out err end) (sym h.0) w)

-- the files were read, and what they make was written
pub written_course : {V : Type 0} (shows : V → Expectation) (l : Line) (i : Input) (out err : Output) (v : V) (end : End)
    → Reads shows (steps_of l) (whole_of l) i (Ok v) → Writes (shows v) out err end → Course l i out err end
written_course shows l i out err v end h w = record { contents = h.contents; files = h.files; ends = writes shows (expectation_of_files l h.contents) i i out err v end h.gives w }

-- what an end says: all was written; a file is refused; a load failed; a write failed; or memory ran out
abbrev pub Kinds : Input → Output → Output → End → Type 0
Kinds i out err end =
    IsDone end
    ⊎ (IsBad end × (IsUntouched out × IsUntouched err))
    ⊎ ((end ≡ ReadFault) × (Rose i.faults_before i.faults_after × (IsUntouched out × IsUntouched err)))
    ⊎ ((end ≡ WriteFault) × (Rose out.faults_before out.faults_after ⊎ Rose err.faults_before err.faults_after))
    ⊎ (end ≡ NoMemory)

kind_of_write : (e : Expectation) (i : Input) (out err : Output) (end : End) → IsDone e.end → Writes e out err end → Kinds i out err end
kind_of_write e i out err end done (inl h) = inl (subst IsDone (sym h.0) done)
kind_of_write e i out err end done (inr (inl (f, inl h))) = inr (inr (inr (inl (f, inl h.0.1))))
kind_of_write e i out err end done (inr (inl (f, inr h))) = inr (inr (inr (inl (f, inr h.1.1))))
kind_of_write e i out err end done (inr (inr h)) = inr (inr (inr (inr h.0)))

kind_of_refusal : (e : Expectation) (i : Input) (out err : Output) (end : End) → IsBad e.end → IsUntouched out → IsUntouched err → (end ≡ e.end) ⊎ (end ≡ NoMemory) → Kinds i out err end
kind_of_refusal e i out err end bad u w (inl same) = inr (inl (subst IsBad (sym same) bad, (u, w)))
kind_of_refusal e i out err end bad u w (inr m) = inr (inr (inr (inr m)))

pub kind_of : (o : Option Expectation) (i : Input) (out err : Output) (end : End) → Ends o i out err end → Kinds i out err end
kind_of None i out err end (u, w, inl h) = inr (inr (inl (h.0, (h.1, (u, w)))))
kind_of None i out err end (u, w, inr m) = inr (inr (inr (inr m)))
kind_of (Some e) i out err end (inl h) = kind_of_write e i out err end h.0 h.1
kind_of (Some e) i out err end (inr h) = kind_of_refusal e i out err end h.0 h.1 h.2 h.3

pub not_usage : (i : Input) (out err : Output) (end : End) → Kinds i out err end → end ≡ Usage → ⊥
not_usage i out err end (inl h) k = absurd (omega (arith, h, ap status_of k))
not_usage i out err end (inr (inl h)) k = absurd (omega (arith, h.0, ap status_of k))
not_usage i out err end (inr (inr (inl h))) k = absurd (omega (arith, ap status_of h.0, ap status_of k))
not_usage i out err end (inr (inr (inr (inl h)))) k = absurd (omega (arith, ap status_of h.0, ap status_of k))
not_usage i out err end (inr (inr (inr (inr h)))) k = absurd (omega (arith, ap status_of h, ap status_of k))

pub read_fault : (i : Input) (out err : Output) (end : End) → Kinds i out err end → end ≡ ReadFault → Rose i.faults_before i.faults_after
read_fault i out err end (inl h) k = absurd (omega (arith, h, ap status_of k))
read_fault i out err end (inr (inl h)) k = absurd (omega (arith, h.0, ap status_of k))
read_fault i out err end (inr (inr (inl h))) k = h.1.0
read_fault i out err end (inr (inr (inr (inl h)))) k = absurd (omega (arith, ap status_of h.0, ap status_of k))
read_fault i out err end (inr (inr (inr (inr h)))) k = absurd (omega (arith, ap status_of h, ap status_of k))

pub write_fault : (i : Input) (out err : Output) (end : End) → Kinds i out err end → end ≡ WriteFault → Rose out.faults_before out.faults_after ⊎ Rose err.faults_before err.faults_after
write_fault i out err end (inl h) k = absurd (omega (arith, h, ap status_of k))
write_fault i out err end (inr (inl h)) k = absurd (omega (arith, h.0, ap status_of k))
write_fault i out err end (inr (inr (inl h))) k = absurd (omega (arith, ap status_of h.0, ap status_of k))
write_fault i out err end (inr (inr (inr (inl h)))) k = h.1
write_fault i out err end (inr (inr (inr (inr h)))) k = absurd (omega (arith, ap status_of h, ap status_of k))

pub early : (i : Input) (out err : Output) (end : End) → Kinds i out err end → IsEarly end → IsUntouched out × IsUntouched err
early i out err end (inl h) k = absurd (omega (arith, h, k.0))
early i out err end (inr (inl h)) k = h.1
early i out err end (inr (inr (inl h))) k = h.1.1
early i out err end (inr (inr (inr (inl h)))) k = absurd (omega (arith, ap status_of h.0, k.1))
early i out err end (inr (inr (inr (inr h)))) k = absurd (omega (arith, ap status_of h, k.1))

prefix_of_whole : (old new : Option (List ℕ)) (bytes : List ℕ) → Takes old new bytes → TakesPrefix old new bytes
prefix_of_whole None new bytes h = tt
prefix_of_whole (Some before) new bytes h = (length bytes, h ∙ ap (λ (u : List ℕ). Some (before ++ u)) (sym (take_all (length bytes) bytes (omega arith))))

prefix_of_part : (old new : Option (List ℕ)) (bytes : List ℕ) (n : ℕ) → Takes old new (take n bytes) → TakesPrefix old new bytes
prefix_of_part None new bytes n h = tt
prefix_of_part (Some before) new bytes n h = (n, h)

prefix_of_none : (old new : Option (List ℕ)) (bytes : List ℕ) → new ≡ old → TakesPrefix old new bytes
prefix_of_none None new bytes h = tt
prefix_of_none (Some before) new bytes h = (0, h ∙ ap (λ (u : List ℕ). Some u) (sym (append-nil before)))

-- some first bytes of what was written whole, of what was stopped, and of what was not begun
pub whole_prefix : (o : Output) (bytes : List ℕ) → Wrote o bytes → WrotePrefix o bytes
whole_prefix o bytes h = prefix_of_whole o.taken_before o.taken_after bytes h

stopped_prefix : (o : Output) (bytes : List ℕ) → StopsWithin o bytes → WrotePrefix o bytes
stopped_prefix o bytes h = prefix_of_part o.taken_before o.taken_after bytes h.0.0 h.0.1.1

pub untouched_prefix : (o : Output) (bytes : List ℕ) → IsUntouched o → WrotePrefix o bytes
untouched_prefix o bytes h = prefix_of_none o.taken_before o.taken_after bytes h.0

-- memory may run out behind any end
memory_in_writing : (e : Expectation) (out err : Output) (end : End) → Writes e out err end → Writes e out err NoMemory
memory_in_writing e out err end (inl h) = inr (inr (refl, whole_prefix out e.out h.1, whole_prefix err e.err h.2, inl h.1))
memory_in_writing e out err end (inr (inl (f, inl h))) = inr (inr (refl, stopped_prefix out e.out h.0, untouched_prefix err e.err h.1, inr h.1))
memory_in_writing e out err end (inr (inl (f, inr h))) = inr (inr (refl, whole_prefix out e.out h.0, stopped_prefix err e.err h.1, inl h.0))
memory_in_writing e out err end (inr (inr h)) = inr (inr (refl, h.1, h.2, h.3))

pub memory_after : (o : Option Expectation) (i : Input) (out err : Output) (end : End) → Ends o i out err end → Ends o i out err NoMemory
memory_after None i out err end h = (h.0, h.1, inr refl)
memory_after (Some e) i out err end (inl h) = inl (h.0, memory_in_writing e out err end h.1)
memory_after (Some e) i out err end (inr h) = inr (h.0, h.1, h.2, inr refl)

pub memory_of : (o : Option Line) (i : Input) (out err : Output) (end : End) → CourseOf o i out err end → CourseOf o i out err NoMemory
memory_of None i out err end h = (inr refl, h.1, h.2, h.3)
memory_of (Some l) i out err end h = record { contents = h.contents; files = h.files; ends = memory_after (expectation_of_files l h.contents) i out err end h.ends }

-- memory ran out before anything was written
pub nothing_begun : (e : Expectation) (out err : Output) → IsUntouched out → IsUntouched err → Writes e out err NoMemory
nothing_begun e out err u w = inr (inr (refl, untouched_prefix out e.out u, untouched_prefix err e.err w, inr w))

-- memory ran out before any file was asked for
unread_by : (ss : List Step) (e : Expectation) (i : Input) (out err : Output) → IsDone e.end → IsUntouched out → IsUntouched err → Ends (judge ss (λ files. Some e) []) i out err NoMemory
unread_by [] e i out err done u w = inl (done, nothing_begun e out err u w)
unread_by (s ∷ ss) e i out err done u w = (u, w, inr refl)

unread : (l : Line) (i : Input) (out err : Output) → IsUntouched out → IsUntouched err → Ends (expectation_of_files l []) i out err NoMemory
unread (run r) i out err u w = (u, w, inr refl)
unread (asm source) i out err u w = (u, w, inr refl)
unread (bench engine seed) i out err u w = unread_by (engine_steps engine) (expectation_of_bench seed) i out err (lit< tt) u w

pub no_memory : (o : Option Line) (i : Input) (out err : Output) → IsUnasked i → IsUntouched out → IsUntouched err → CourseOf o i out err NoMemory
no_memory None i out err e u w = (inr refl, e, u, w)
no_memory (Some l) i out err e u w = record {
  contents = [];
  files = record {
    as_told = none_told (steps_of l) i.told;
    count = 0;
    asked = e.0 ∙ sym (append-nil i.asked_before);
    least = lit≤ tt;
    most = lit≤ tt;
    in_order = λ j lt. absurd (omega (arith, lt));
  };
  ends = unread l i out err u w;
}

-- a command goes as the line that it stands for
pub same_course : (l m : Line) (i : Input) (out err : Output) (end : End) → l ≡ m → Course m i out err end → Course l i out err end
same_course l m i out err end is h = subst (λ (x : Line). Course x i out err end) (sym is) h

pub takes_nothing : (old : Option (List ℕ)) → Takes old old []
takes_nothing None = tt
takes_nothing (Some before) = ap (λ (l : List ℕ). Some l) (sym (append-nil before))

-- the first text could not be written
pub out_stopped : (e : Expectation) (out err : Output) (error : SinkError) (end : End) → (error ≡ Failed → end ≡ WriteFault) → (error ≡ Memory → end ≡ NoMemory)
    → (error ≡ Failed → StopsWithin out e.out) → WrotePrefix out e.out → IsUntouched err → Writes e out err end
out_stopped e out err Failed end fault memory stopped prefix u = inr (inl (fault refl, inl (stopped refl, u)))
out_stopped e out err Memory end fault memory stopped prefix u = inr (inr (memory refl, prefix, untouched_prefix err e.err u, inr u))

-- the first text was written, and the second could not be
pub err_stopped : (e : Expectation) (out err : Output) (error : SinkError) (end : End) → (error ≡ Failed → end ≡ WriteFault) → (error ≡ Memory → end ≡ NoMemory)
    → Wrote out e.out → (error ≡ Failed → StopsWithin err e.err) → WrotePrefix err e.err → Writes e out err end
err_stopped e out err Failed end fault memory whole stopped prefix = inr (inl (fault refl, inr (whole, stopped refl)))
err_stopped e out err Memory end fault memory whole stopped prefix = inr (inr (memory refl, whole_prefix out e.out whole, prefix, inl whole))
