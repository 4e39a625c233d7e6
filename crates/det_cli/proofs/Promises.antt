-- What a call promises, by how it went.
use Rattle.std.proofs.Common.{◌≡◌, ◌≤◌, ◌+◌, ◌⊎◌, ℕ, List, length, take, Option, Some, None, inl, inr, refl, sym, ap, subst, arith}
use Rattle.det_host.specs.Outside.{Rose}
use Rattle.command_line.specs.Line.{Line, line, IsRefused}
use Rattle.det_cli.specs.declared.end.End.{End}
use Rattle.det_cli.specs.declared.end.End.TheVariants.{NoMemory}
use Rattle.det_cli.specs.Status.{status_of, IsDone}
use Rattle.det_host.specs.Writing.{Output, IsUntouched, Wrote}
use Rattle.det_cli.specs.Files.{Expectation, Input, told_files}
use Rattle.det_cli.specs.Commands.{steps_of, whole_of, expectation_of_files, expectation_of_told}
use Rattle.det_cli.specs.Answers.{Writes, Ends, Course, NoCourse, IsUnasked, CourseOf, Answers, Later, Says, until, since, Program}
use Rattle.det_cli.proofs.Courses.{kind_of, not_usage, read_fault, write_fault, early, memory_after, memory_of, no_memory}
use Rattle.det_cli.proofs.Told.{decides_all, asked_most}

-- what the files that are told decide is what a command comes to, or it could not read them
expected : (l : Line) (i : Input) (out err : Output) (end : End) (e : Expectation) → Course l i out err end → expectation_of_told l i.told ≡ Some e → Ends (Some e) i out err end ⊎ Ends None i out err end
expected l i out err end e h p = elim (decides_all (steps_of l) (whole_of l) i.told h.contents e h.files.as_told p) [
  | inl none ↦ inr (subst (λ (o : Option Expectation). Ends o i out err end) none h.ends)
  | inr some ↦ inl (subst (λ (o : Option Expectation). Ends o i out err end) some h.ends)
]

abbrev pub Quiet : Input → Output → Output → Type 0
Quiet i out err = Rose i.faults_before i.faults_after ⊎ Rose out.faults_before out.faults_after ⊎ Rose err.faults_before err.faults_after → ⊥

complete_writing : (e : Expectation) (i : Input) (out err : Output) (end : End) → Quiet i out err → Writes e out err end → ((end ≡ e.end) × Wrote out e.out × Wrote err e.err) ⊎ (end ≡ NoMemory)
complete_writing e i out err end quiet (inl h) = inl h
complete_writing e i out err end quiet (inr (inl (f, inl h))) = absurd (quiet (inr (inl h.0.1)))
complete_writing e i out err end quiet (inr (inl (f, inr h))) = absurd (quiet (inr (inr h.1.1)))
complete_writing e i out err end quiet (inr (inr h)) = inr h.0

complete : (e : Expectation) (i : Input) (out err : Output) (end : End) → IsDone e.end → Quiet i out err → Ends (Some e) i out err end ⊎ Ends None i out err end
    → ((end ≡ e.end) × Wrote out e.out × Wrote err e.err) ⊎ (end ≡ NoMemory)
complete e i out err end done quiet (inl (inl h)) = complete_writing e i out err end quiet h.1
complete e i out err end done quiet (inl (inr h)) = absurd (omega (arith, done, h.0))
complete e i out err end done quiet (inr (u, w, inl h)) = absurd (quiet (inl h.1))
complete e i out err end done quiet (inr (u, w, inr m)) = inr m

-- the words are a command
pub command_answers : (words : List (List ℕ)) (l : Line) (i : Input) (out err : Output) (end : End) → line words ≡ Some l → (IsRefused words → ⊥) → Course l i out err end → Later i out err
    → Answers (record { words = words; input = i; out = out; err = err; end = end })
command_answers words l i out err end is good h later =
    let kinds = kind_of (expectation_of_files l h.contents) i out err end h.ends in
    let same : (m : Line) → line words ≡ Some m → l ≡ m = λ m e. cc in
    record {
      usage = λ k. absurd (not_usage i out err end kinds k);
      refused = λ r. elim r [ inl bad ↦ absurd (good bad) | inr none ↦ cc ];
      course = subst (λ (o : Option Line). CourseOf o i out err end) (sym is) h;
      expected = λ m e x p. expected m i out err end x (subst (λ (n : Line). Course n i out err end) (same m e) h) p;
      asked = λ m e j x p.
          let k : Course m i out err end = subst (λ (n : Line). Course n i out err end) (same m e) h in
          asked_most (steps_of m) (whole_of m) k.contents i j x k.files p;
      complete = λ m e x p done quiet. complete x i out err end done quiet (expected m i out err end x (subst (λ (n : Line). Course n i out err end) (same m e) h) p);
      read_fault = read_fault i out err end kinds;
      write_fault = write_fault i out err end kinds;
      early = early i out err end kinds;
      later = later;
    }

-- the words are none
pub no_answers : (words : List (List ℕ)) (i : Input) (out err : Output) (end : End) → line words ≡ None → IsRefused words → NoCourse i out err end → Later i out err
    → Answers (record { words = words; input = i; out = out; err = err; end = end })
no_answers words i out err end is bad h later = record {
  usage = λ k. (bad, is);
  refused = λ r. h.0;
  course = subst (λ (o : Option Line). CourseOf o i out err end) (sym is) h;
  expected = λ m e x p. cc;
  asked = λ m e j x p. cc;
  complete = λ m e x p done quiet. cc;
  read_fault = λ k. absurd (elim h.0 [ inl u ↦ omega (arith, ap status_of u, ap status_of k) | inr n ↦ omega (arith, ap status_of n, ap status_of k) ]);
  write_fault = λ k. absurd (elim h.0 [ inl u ↦ omega (arith, ap status_of u, ap status_of k) | inr n ↦ omega (arith, ap status_of n, ap status_of k) ]);
  early = λ k. (h.2, h.3);
  later = later;
}

-- memory ran out behind a call that went so
memory_answers : (words : List (List ℕ)) (i : Input) (out err : Output) → CourseOf (line words) i out err NoMemory
    → ((l : Line) → line words ≡ Some l → (e : Expectation) → expectation_of_told l i.told ≡ Some e → Ends (Some e) i out err NoMemory ⊎ Ends None i out err NoMemory)
    → ((l : Line) → line words ≡ Some l → (j : ℕ) (e : Expectation) → expectation_of_files l (take j (told_files (steps_of l) i.told)) ≡ Some e → length i.asked_after ≤ length i.asked_before + j)
    → Later i out err → Answers (record { words = words; input = i; out = out; err = err; end = NoMemory })
memory_answers words i out err course told asked later = record {
  usage = λ k. cc;
  refused = λ r. inr refl;
  course = course;
  expected = told;
  asked = asked;
  complete = λ m e x p done quiet. inr refl;
  read_fault = λ k. cc;
  write_fault = λ k. cc;
  early = λ k. absurd (omega (arith, k.1));
  later = later;
}

-- memory ran out before the words were read
pub unread_answers : (words : List (List ℕ)) (i : Input) (out err : Output) → IsUnasked i → IsUntouched out → IsUntouched err → Later i out err
    → Answers (record { words = words; input = i; out = out; err = err; end = NoMemory })
unread_answers words i out err none u w later =
    memory_answers words i out err (no_memory (line words) i out err none u w) (λ m e x p. inr (u, w, inr refl)) (λ m e j x p. omega (arith, ap length none.0)) later

late : (words : List (List ℕ)) (i : Input) (out err : Output) (end : End) → Answers (record { words = words; input = i; out = out; err = err; end = end })
    → Answers (record { words = words; input = i; out = out; err = err; end = NoMemory })
late words i out err end h =
    memory_answers words i out err (memory_of (line words) i out err end h.course)
    (λ m e x p. elim (h.expected m e x p) [ inl s ↦ inl (memory_after (Some x) i out err end s) | inr n ↦ inr (memory_after None i out err end n) ]) h.asked h.later

-- and then the fault line
pub program : (words : List (List ℕ)) (i : Input) (out err : Output) (taken : Option (List ℕ)) (faults : ℕ) (ended end : End)
    → Answers (record { words = words; input = i; out = out; err = until err taken faults; end = ended }) → (end ≡ ended) ⊎ (end ≡ NoMemory)
    → Says (since err taken faults) end → faults ≤ err.faults_after → Program (record { words = words; input = i; out = out; err = err; end = end })
program words i out err taken faults ended end h (inl same) says later = record {
  taken = taken;
  faults = faults;
  answers = subst (λ (x : End). Answers (record { words = words; input = i; out = out; err = until err taken faults; end = x })) (sym same) h;
  line = says;
  later = later;
}
program words i out err taken faults ended end h (inr same) says later = record {
  taken = taken;
  faults = faults;
  answers = subst (λ (x : End). Answers (record { words = words; input = i; out = out; err = until err taken faults; end = x })) (sym same) (late words i out (until err taken faults) ended h);
  line = says;
  later = later;
}
