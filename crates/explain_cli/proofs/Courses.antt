-- How a command goes, by what its stages answer.
use Rattle.std.proofs.Common.{ℕ, List, [], take, Option, Some, None, Ok, Err, inl, inr, refl, sym, ap, ap₂, ◌∙◌, subst, lit≤, arith}
use Rattle.std.proofs.lemmas.List.{append-nil}
use Rattle.det_host.specs.Outside.{Takes}
use Rattle.det_host.specs.Writing.{Output, TakesPrefix, IsUntouched}
use Rattle.space_model.specs.Space.{Space}
use Rattle.run_model.specs.Boot.{boot}
use Rattle.det_cli.specs.declared.end.End as det
use Rattle.det_cli.specs.declared.end.End.TheVariants.{NoMemory}
use Rattle.det_cli.specs.Files.{Input}
use Rattle.det_cli.specs.Answers.{IsUnasked}
use Rattle.det_cli.proofs.Courses.{whole_prefix}
use Rattle.symbols.specs.Symbols.{Symbol}
use Rattle.explain_words.specs.Line.{Command}
use Rattle.explain_cli.specs.declared.end.End.{End}
use Rattle.explain_cli.specs.declared.end.End.TheVariants.{Failed}
use Rattle.explain_cli.specs.declared.reading.Loaded.{Loaded}
use Rattle.explain_cli.specs.Explains.{Explains, ShowsWritten}
use Rattle.explain_cli.specs.Answers.{Course, CourseOf, Decision, Ends, decision_of, undecided, refused, run}
use Rattle.explain_cli.specs.Stages.{Decides, ReadsRun, symbols_of}

-- ---- the course

stops : (c : Command) (d : Decision) (i : Input) (out : Output) (f : det.End) → IsUntouched out → Decides d i (Err f) → Ends c d i out (Failed f)
stops c undecided i out f u (inl h) = (u, inl (ap (λ (e : det.End). Failed e) h.0, h.1))
stops c undecided i out f u (inr m) = (u, inr (ap (λ (e : det.End). Failed e) m))
stops c (refused e) i out f u (bad, inl same) = (bad, u, inl (ap (λ (x : det.End). Failed x) same))
stops c (refused e) i out f u (bad, inr m) = (bad, u, inr (ap (λ (x : det.End). Failed x) m))
stops c (run image devices source) i out f u h = absurd h

pub stopped_course : (c : Command) (i : Input) (out : Output) (f : det.End) → IsUntouched out → ReadsRun c i (Err f) → Course c i out (Failed f)
stopped_course c i out f u h = record { contents = h.contents; files = h.files; ends = stops c (decision_of c h.contents) i out f u h.decides }

explained : (c : Command) (d : Decision) (i : Input) (out : Output) (x : Loaded) (end : End) → Decides d i (Ok x) → Explains (boot x.image x.devices c.fuel) c (symbols_of x.names) out end → Ends c d i out end
explained c undecided i out x end h e = absurd h
explained c (refused f) i out x end h e = absurd h
explained c (run image devices source) i out x end h e =
    (symbols_of x.names, h.2, subst (λ (r : Space). Explains r c (symbols_of x.names) out end) (ap₂ (λ m n. boot m n c.fuel) (sym h.0) (sym h.1)) e)

pub explained_course : (c : Command) (i : Input) (out : Output) (x : Loaded) (end : End) → ReadsRun c i (Ok x) → Explains (boot x.image x.devices c.fuel) c (symbols_of x.names) out end → Course c i out end
explained_course c i out x end h e = record { contents = h.contents; files = h.files; ends = explained c (decision_of c h.contents) i out x end h.decides e }

-- ---- want of memory behind any end

prefix_of_part : (old new : Option (List ℕ)) (bytes : List ℕ) (n : ℕ) → Takes old new (take n bytes) → TakesPrefix old new bytes
prefix_of_part None new bytes n h = tt
prefix_of_part (Some before) new bytes n h = (n, h)

memory_in : (root : Space) (c : Command) (symbols : Option (List Symbol)) (out : Output) (end : End) → Explains root c symbols out end → Explains root c symbols out (Failed NoMemory)
memory_in root c symbols out end (inl (same, text, shows, wrote)) = inr (inr (inr (refl, inr (text, shows, whole_prefix out text wrote))))
memory_in root c symbols out end (inr (inl (never, u))) = inr (inr (inr (refl, inl u)))
memory_in root c symbols out end (inr (inr (inl (same, text, shows, stop)))) =
    inr (inr (inr (refl, inr (text, shows, prefix_of_part out.taken_before out.taken_after text stop.0.0 stop.0.1.1))))
memory_in root c symbols out end (inr (inr (inr h))) = inr (inr (inr (refl, h.1)))

-- a text that was written so was written so far
pub memory_written : (out : Output) (text : List ℕ) (end : End) → ShowsWritten out text end → ShowsWritten out text (Failed NoMemory)
memory_written out text end (inl (same, wrote)) = inr (inr (refl, whole_prefix out text wrote))
memory_written out text end (inr (inl (same, stop))) = inr (inr (refl, prefix_of_part out.taken_before out.taken_after text stop.0.0 stop.0.1.1))
memory_written out text end (inr (inr (same, part))) = inr (inr (refl, part))

memory_after : (c : Command) (d : Decision) (i : Input) (out : Output) (end : End) → Ends c d i out end → Ends c d i out (Failed NoMemory)
memory_after c undecided i out end h = (h.0, inr refl)
memory_after c (refused e) i out end h = (h.0, h.1, inr refl)
memory_after c (run image devices source) i out end h = (h.0, h.1, memory_in (boot image devices c.fuel) c h.0 out end h.2)

pub memory_of : (o : Option Command) (i : Input) (out : Output) (end : End) → CourseOf o i out end → CourseOf o i out (Failed NoMemory)
memory_of None i out end h = (inr refl, h.1, h.2)
memory_of (Some c) i out end h = record { contents = h.contents; files = h.files; ends = memory_after c (decision_of c h.contents) i out end h.ends }

-- memory ran out before any file was asked for
pub unread : (o : Option Command) (i : Input) (out : Output) → IsUnasked i → IsUntouched out → CourseOf o i out (Failed NoMemory)
unread None i out e u = (inr refl, e, u)
unread (Some c) i out e u = record {
  contents = [];
  files = record {
    as_told = tt;
    count = 0;
    asked = e.0 ∙ sym (append-nil i.asked_before);
    least = lit≤ tt;
    most = lit≤ tt;
    in_order = λ j lt. absurd (omega (arith, lt));
  };
  ends = (u, inr refl);
}
