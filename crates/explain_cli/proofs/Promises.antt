-- What a call promises, by how it went.
use Rattle.std.proofs.Common.{◌≡◌, ◌<◌, ◌⊎◌, ℕ, List, Option, Some, None, inl, inr, refl, sym, ap, ◌∙◌, subst, arith}
use Rattle.det_host.specs.Outside.{Rose}
use Rattle.det_host.specs.Writing.{Output, IsUntouched, Wrote}
use Rattle.image_model.specs.Image.{Image}
use Rattle.device_model.specs.Devices.{Devices}
use Rattle.space_model.specs.Space.{Space}
use Rattle.run_model.specs.Boot.{boot}
use Rattle.det_cli.specs.declared.end.End.TheVariants.{NoMemory}
use Rattle.det_cli.specs.Files.{Input, told_files}
use Rattle.det_cli.specs.Answers.{IsUnasked}
use Rattle.symbols.specs.Symbols.{Symbol}
use Rattle.explain_words.specs.Line.{Command, IsRefused, Question, at_moment, line, trace_of, why}
use Rattle.explain_cli.specs.declared.end.End.{End}
use Rattle.explain_cli.specs.declared.end.End.TheVariants.{Shown, Usage, Failed}
use Rattle.explain_cli.specs.Ends.{status_of}
use Rattle.explain_cli.specs.Explains.{Explains, IsNowhere, NeverComes, Shows, ShowsWritten}
use Rattle.explain_cli.specs.Answers.{AreNames, Begun, BegunOf, Course, CourseOf, Decision, Ends, IsQuiet, decision_of, refused, run, steps_of, undecided, whole_of}
use Rattle.explain_cli.proofs.Courses.{memory_of, memory_written, unread}
use Rattle.explain_cli.proofs.Files.{decided}

-- ---- what an end says

-- all was done; a file is refused; a load failed; a write failed; or memory ran out
abbrev Kinds : Input → Output → End → Type 0
Kinds i out end =
    (status_of end < 2)
    ⊎ (status_of end ≡ 3)
    ⊎ ((status_of end ≡ 4) × Rose i.faults_before i.faults_after)
    ⊎ ((status_of end ≡ 5) × Rose out.faults_before out.faults_after)
    ⊎ (status_of end ≡ 6)

nowhere_status : (root : Space) (path : List ℕ) (event : Option ℕ) (end : End) → IsNowhere root path event end → status_of end ≡ 1
nowhere_status root path None end h = ap status_of h.1
nowhere_status root path (Some k) end h = ap status_of h.1

never_status : (root : Space) (q : Question) (end : End) → NeverComes root q end → status_of end ≡ 1
never_status root (at_moment m bytes) end h = nowhere_status root m.path m.event end h
never_status root (trace_of path from to) end h = absurd h
never_status root why end h = absurd h

kind_of_answer : (root : Space) (c : Command) (symbols : Option (List Symbol)) (i : Input) (out : Output) (end : End) → Explains root c symbols out end → Kinds i out end
kind_of_answer root c symbols i out end (inl h) = inl (omega (arith, ap status_of h.0))
kind_of_answer root c symbols i out end (inr (inl h)) = inl (omega (arith, never_status root c.question end h.0))
kind_of_answer root c symbols i out end (inr (inr (inl (same, text, shows, stop)))) = inr (inr (inr (inl (ap status_of same, stop.1))))
kind_of_answer root c symbols i out end (inr (inr (inr h))) = inr (inr (inr (inr (ap status_of h.0))))

kind_of : (c : Command) (d : Decision) (i : Input) (out : Output) (end : End) → Ends c d i out end → Kinds i out end
kind_of c undecided i out end (u, inl h) = inr (inr (inl (ap status_of h.0, h.1)))
kind_of c undecided i out end (u, inr m) = inr (inr (inr (inr (ap status_of m))))
kind_of c (refused e) i out end (bad, u, inl same) = inr (inl (ap status_of same ∙ bad))
kind_of c (refused e) i out end (bad, u, inr m) = inr (inr (inr (inr (ap status_of m))))
kind_of c (run image devices source) i out end h = kind_of_answer (boot image devices c.fuel) c h.0 i out end h.2

not_usage : (i : Input) (out : Output) (end : End) → Kinds i out end → status_of end ≡ 2 → ⊥
not_usage i out end (inl h) k = absurd (omega (arith, h, k))
not_usage i out end (inr (inl h)) k = absurd (omega (arith, h, k))
not_usage i out end (inr (inr (inl h))) k = absurd (omega (arith, h.0, k))
not_usage i out end (inr (inr (inr (inl h)))) k = absurd (omega (arith, h.0, k))
not_usage i out end (inr (inr (inr (inr h)))) k = absurd (omega (arith, h, k))

read_fault : (i : Input) (out : Output) (end : End) → Kinds i out end → status_of end ≡ 4 → Rose i.faults_before i.faults_after
read_fault i out end (inl h) k = absurd (omega (arith, h, k))
read_fault i out end (inr (inl h)) k = absurd (omega (arith, h, k))
read_fault i out end (inr (inr (inl h))) k = h.1
read_fault i out end (inr (inr (inr (inl h)))) k = absurd (omega (arith, h.0, k))
read_fault i out end (inr (inr (inr (inr h)))) k = absurd (omega (arith, h, k))

write_fault : (i : Input) (out : Output) (end : End) → Kinds i out end → status_of end ≡ 5 → Rose out.faults_before out.faults_after
write_fault i out end (inl h) k = absurd (omega (arith, h, k))
write_fault i out end (inr (inl h)) k = absurd (omega (arith, h, k))
write_fault i out end (inr (inr (inl h))) k = absurd (omega (arith, h.0, k))
write_fault i out end (inr (inr (inr (inl h)))) k = h.1
write_fault i out end (inr (inr (inr (inr h)))) k = absurd (omega (arith, h, k))

-- ---- what the files that are told decide

expected : (c : Command) (i : Input) (out : Output) (end : End) (d : Decision) → Course c i out end → decision_of c (told_files (steps_of c) i.told) ≡ d → (d ≡ undecided → ⊥) → Ends c d i out end ⊎ Ends c undecided i out end
expected c i out end d h e some = elim (decided (steps_of c) whole_of i.told h.contents d h.files.as_told e some) [
  | inl same ↦ inl (subst (λ (x : Decision). Ends c x i out end) same h.ends)
  | inr none ↦ inr (subst (λ (x : Decision). Ends c x i out end) none h.ends)
]

abbrev Complete : Space → Command → Option (List ℕ) → Output → End → Type 0
Complete root c source out end =
    ((end ≡ Shown) × (symbols : Option (List Symbol)) × AreNames source symbols × (text : List ℕ) × Shows root c symbols text × Wrote out text)
    ⊎ (NeverComes root c.question end × IsUntouched out)
    ⊎ (end ≡ Failed NoMemory)

answered : (root : Space) (c : Command) (source : Option (List ℕ)) (symbols : Option (List Symbol)) (i : Input) (out : Output) (end : End) → IsQuiet i out → AreNames source symbols → Explains root c symbols out end → Complete root c source out end
answered root c source symbols i out end quiet are (inl (same, text, shows, wrote)) = inl (same, symbols, are, text, shows, wrote)
answered root c source symbols i out end quiet are (inr (inl h)) = inr (inl h)
answered root c source symbols i out end quiet are (inr (inr (inl (same, text, shows, stop)))) = absurd (quiet (inr stop.1))
answered root c source symbols i out end quiet are (inr (inr (inr h))) = inr (inr h.0)

complete : (c : Command) (image : Image) (devices : Devices) (source : Option (List ℕ)) (i : Input) (out : Output) (end : End) → IsQuiet i out → Ends c (run image devices source) i out end ⊎ Ends c undecided i out end
    → Complete (boot image devices c.fuel) c source out end
complete c image devices source i out end quiet (inl h) = answered (boot image devices c.fuel) c source h.0 i out end quiet h.1 h.2
complete c image devices source i out end quiet (inr (u, inl h)) = absurd (quiet (inl h.1))
complete c image devices source i out end quiet (inr (u, inr m)) = inr (inr m)

is_no_run : (image : Image) (devices : Devices) (source : Option (List ℕ)) → run image devices source ≡ undecided → ⊥
is_no_run image devices source e = cc

-- ---- a call

-- the words are a command
pub command_begun : (words : List (List ℕ)) (a : Command) (i : Input) (out : Output) (end : End) → line words ≡ Some a → (IsRefused words → ⊥) → Course a i out end → Begun words i out end
command_begun words a i out end is good h =
    let kinds = kind_of a (decision_of a h.contents) i out end h.ends in
    let same : (b : Command) → line words ≡ Some b → Course b i out end = λ b e. let one : a ≡ b = cc in subst (λ (x : Command). Course x i out end) one h in
    record {
      usage = λ k. absurd (not_usage i out end kinds (ap status_of k));
      refused = λ r. elim r [ inl bad ↦ absurd (good bad) | inr none ↦ cc ];
      course = subst (λ (o : Option Command). CourseOf o i out end) (sym is) h;
      expected = λ b e d p some. expected b i out end d (same b e) p some;
      complete = λ b e image devices source p quiet. complete b image devices source i out end quiet (expected b i out end (run image devices source) (same b e) p (is_no_run image devices source));
      read_fault = λ k. read_fault i out end kinds (ap status_of k);
      write_fault = λ k. write_fault i out end kinds (ap status_of k);
    }

-- the words are none
pub no_begun : (words : List (List ℕ)) (i : Input) (out : Output) → line words ≡ None → IsRefused words → IsUnasked i → IsUntouched out → Begun words i out Usage
no_begun words i out is bad e u = record {
  usage = λ k. (bad, is);
  refused = λ r. inl refl;
  course = subst (λ (o : Option Command). CourseOf o i out Usage) (sym is) (inl refl, e, u);
  expected = λ b e d p some. cc;
  complete = λ b e image devices source p quiet. cc;
  read_fault = λ k. absurd (omega (arith, ap status_of k));
  write_fault = λ k. absurd (omega (arith, ap status_of k));
}

-- memory ran out behind a call that went so
memory_begun : (words : List (List ℕ)) (i : Input) (out : Output) → CourseOf (line words) i out (Failed NoMemory)
    → ((a : Command) → line words ≡ Some a → (d : Decision) → decision_of a (told_files (steps_of a) i.told) ≡ d → (d ≡ undecided → ⊥) → Ends a d i out (Failed NoMemory) ⊎ Ends a undecided i out (Failed NoMemory))
    → Begun words i out (Failed NoMemory)
memory_begun words i out course told = record {
  usage = λ k. absurd (omega (arith, ap status_of k));
  refused = λ r. inr refl;
  course = course;
  expected = told;
  complete = λ b e image devices source p quiet. inr (inr refl);
  read_fault = λ k. absurd (omega (arith, ap status_of k));
  write_fault = λ k. absurd (omega (arith, ap status_of k));
}

-- memory ran out before the words were read
pub unread_begun : (words : List (List ℕ)) (i : Input) (out : Output) → IsUnasked i → IsUntouched out → Begun words i out (Failed NoMemory)
unread_begun words i out e u = memory_begun words i out (unread (line words) i out e u) (λ a is d p some. inr (u, inr refl))

of_line : (o : Option Command) (a : Command) (i : Input) (out : Output) (end : End) → o ≡ Some a → CourseOf o i out end → Course a i out end
of_line o a i out end is h = subst (λ (x : Option Command). CourseOf x i out end) is h

late : (words : List (List ℕ)) (i : Input) (out : Output) (ended : End) → Begun words i out ended → Begun words i out (Failed NoMemory)
late words i out ended h =
    let course = memory_of (line words) i out ended h.course in
    memory_begun words i out course (λ a is d p some. expected a i out (Failed NoMemory) d (of_line (line words) a i out (Failed NoMemory) is course) p some)

late_of : (text : Option (List ℕ)) (words : List (List ℕ)) (i : Input) (out : Output) (ended : End) → BegunOf text words i out ended → BegunOf text words i out (Failed NoMemory)
late_of None words i out ended h = late words i out ended h
late_of (Some text) words i out ended h = (h.0, memory_written out text ended h.1)

-- and then the line
pub ended_so : (text : Option (List ℕ)) (words : List (List ℕ)) (i : Input) (out : Output) (ended end : End) → BegunOf text words i out ended → (end ≡ ended) ⊎ (end ≡ Failed NoMemory) → BegunOf text words i out end
ended_so text words i out ended end h (inl same) = subst (λ (x : End). BegunOf text words i out x) (sym same) h
ended_so text words i out ended end h (inr same) = subst (λ (x : End). BegunOf text words i out x) (sym same) (late_of text words i out ended h)

-- the words ask for a text, or for none
pub asked_begun : (o : Option (List ℕ)) (text written : List ℕ) (words : List (List ℕ)) (i : Input) (out : Output) (end : End) → o ≡ Some text → written ≡ text → IsUnasked i → ShowsWritten out written end → BegunOf o words i out end
asked_begun o text written words i out end is same unasked h =
    subst (λ (x : Option (List ℕ)). BegunOf x words i out end) (sym is) (unasked, subst (λ (t : List ℕ). ShowsWritten out t end) same h)

pub unasked_begun : (o : Option (List ℕ)) (words : List (List ℕ)) (i : Input) (out : Output) (end : End) → o ≡ None → Begun words i out end → BegunOf o words i out end
unasked_begun o words i out end is h = subst (λ (x : Option (List ℕ)). BegunOf x words i out end) (sym is) h
