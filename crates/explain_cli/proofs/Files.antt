-- What is answered at each stage of reading the files of a run is what they decide.
use Rattle.std.proofs.Common.{◌≡◌, ◌≤◌, ◌<◌, ◌+◌, ◌⊎◌, ℕ, zero, suc, List, [], ◌∷◌, ◌++◌, take, Option, Some, None, Result, Ok, Err, inl, inr, refl, sym, ap, ◌∙◌, subst, append_assoc, arith}
use Rattle.std.proofs.lemmas.List.{append-nil}
use Rattle.std.specs.Prelude.{IsErrAnd, cond}
use Rattle.det_host.specs.Outside.{Request}
use Rattle.det_cli.specs.declared.end.End as det
use Rattle.det_cli.specs.declared.end.End.TheVariants.{TooLarge}
use Rattle.det_cli.specs.Files.{Agrees, AsTold, Expectation, Input, Step, judge, refusal_at, refusal_or, request_of, requests_of, told_files, told_from}
use Rattle.det_cli.specs.Commands.{expectation_of_bytes}
use Rattle.det_cli.specs.Stages as det_stages
use Rattle.det_cli.specs.Stages.{GivesExpectation, ReadsFile}
use Rattle.det_cli.proofs.Stages.{file_stopped}
use Rattle.explain_cli.specs.declared.reading.Loaded.{Loaded}
use Rattle.explain_cli.specs.Answers.{AreNames, Decision, all_read, decide, refused, refused_or, run, source_steps, undecided, whole_of}
use Rattle.explain_cli.specs.Stages.{Decides, Reads, symbols_of}

-- ---- a file that stops the reading

decides_so : {U : Type 0} (shows : U → Expectation) (steps : List Step) (whole : List (List ℕ) → Decision) (i : Input) (f : det.End) (contents : List (List ℕ))
    → GivesExpectation shows (judge steps all_read contents) i (Err f) → Decides (decide steps whole contents) i (Err f)
decides_so shows [] whole i f contents h = let bad = h.0 in absurd (omega (arith, bad))
decides_so shows (s ∷ ss) whole i f [] h = h
decides_so shows (s ∷ ss) whole i f (b ∷ bs) h = go (refusal_at s b) (decides_so shows ss (λ rest. whole (b ∷ rest)) i f bs) h
  where
    go : (r : Option det.End) → (GivesExpectation shows (judge ss all_read bs) i (Err f) → Decides (decide ss (λ rest. whole (b ∷ rest)) bs) i (Err f))
        → GivesExpectation shows (refusal_or r (judge ss all_read bs)) i (Err f) → Decides (refused_or r (decide ss (λ rest. whole (b ∷ rest)) bs)) i (Err f)
    go None later g = later g
    go (Some e) later g = g

stopped_so : {U : Type 0} (shows : U → Expectation) (steps : List Step) (whole : List (List ℕ) → Decision) (i : Input) (f : det.End) → det_stages.Reads shows steps all_read i (Err f) → Reads steps whole i (Err f)
stopped_so shows steps whole i f h = record { contents = h.contents; files = h.files; decides = decides_so shows steps whole i f h.contents h.gives }

-- the first file is refused, or there are no bytes
pub stopped : {U : Type 0} (reads : List ℕ → U → Type 0) (s : Step) (ss : List Step) (whole : List (List ℕ) → Decision) (i : Input) (f : det.End) → ReadsFile reads s i (Err f) → Reads (s ∷ ss) whole i (Err f)
stopped reads s ss whole i f h =
    let shows : Unit {0} → Expectation = λ u. expectation_of_bytes [] in
    stopped_so shows (s ∷ ss) whole i f (file_stopped reads shows s ss all_read i f h)

-- ---- a file that is read

same_told : (ss : List Step) (now told : List ℕ → Option (List ℕ)) (contents : List (List ℕ)) → ((name : List ℕ) → now name ≡ told name) → AsTold ss now contents → AsTold ss told contents
same_told [] now told [] same h = tt
same_told [] now told (f ∷ fs) same h = absurd h
same_told (s ∷ ss) now told [] same h = tt
same_told (s ∷ ss) now told (f ∷ fs) same h = (subst (λ (t : Option (List ℕ)). Agrees t f) (same s.name) h.0, same_told ss now told fs same h.1)

decides_earlier : (d : Decision) (i j : Input) (r : Result Loaded det.End) → i.faults_before ≤ j.faults_before → i.faults_after ≡ j.faults_after → Decides d j r → Decides d i r
decides_earlier undecided i j (Ok x) le same h = absurd h
decides_earlier undecided i j (Err f) le same (inl h) = inl (h.0, omega (arith, h.1, le, same))
decides_earlier undecided i j (Err f) le same (inr h) = inr h
decides_earlier (refused e) i j (Ok x) le same h = absurd h
decides_earlier (refused e) i j (Err f) le same h = h
decides_earlier (run image devices source) i j (Ok x) le same h = h
decides_earlier (run image devices source) i j (Err f) le same h = absurd h

open_behind : (s : Step) (ss : List Step) (b : List ℕ) (contents : List (List ℕ)) (k : ℕ) → refusal_at s b ≡ None
    → ((j : ℕ) → j < k → judge ss all_read (take j contents) ≡ None) → (j : ℕ) → j < suc k → judge (s ∷ ss) all_read (take j (b ∷ contents)) ≡ None
open_behind s ss b contents k kept order zero lt = refl
open_behind s ss b contents k kept order (suc j) lt = ap (λ (r : Option det.End). refusal_or r (judge ss all_read (take j contents))) kept ∙ order j (omega (arith, lt))

-- the first file was read, and then the others
pub then_others : {U : Type 0} (reads : List ℕ → U → Type 0) (s : Step) (ss : List Step) (whole : List (List ℕ) → Decision) (told now : List ℕ → Option (List ℕ)) (a b c : List Request) (x y z : ℕ) (u : U)
    (r : Result Loaded det.End)
    → ReadsFile reads s (record { told = told; asked_before = a; asked_after = b; faults_before = x; faults_after = y }) (Ok u)
    → ((name : List ℕ) → now name ≡ told name) → x ≤ y
    → ((bytes : List ℕ) → reads bytes u → Reads ss (λ rest. whole (bytes ∷ rest)) (record { told = now; asked_before = b; asked_after = c; faults_before = y; faults_after = z }) r)
    → Reads (s ∷ ss) whole (record { told = told; asked_before = a; asked_after = c; faults_before = x; faults_after = z }) r
then_others reads s ss whole told now a b c x y z u r (asked, (bytes, (agrees, (fits, (kept, read))))) same le others =
    let h = others bytes read in
    let none : refusal_at s bytes ≡ None = ap (λ t. cond t (Some (TooLarge (s.room + 1))) (s.refuse bytes)) fits ∙ kept in
    let k = h.files.count in
    let i : Input = record { told = told; asked_before = a; asked_after = c; faults_before = x; faults_after = z } in
    record {
      contents = bytes ∷ h.contents;
      files = record {
        as_told = (agrees, same_told ss now told h.contents same h.files.as_told);
        count = suc k;
        asked = h.files.asked ∙ ap (λ (l : List Request). l ++ take k (requests_of ss)) asked ∙ append_assoc a (request_of s ∷ []) (take k (requests_of ss));
        least = omega (arith, h.files.least);
        most = omega (arith, h.files.most);
        in_order = open_behind s ss bytes h.contents k none h.files.in_order;
      };
      decides = subst (λ (o : Option det.End). Decides (refused_or o (decide ss (λ rest. whole (bytes ∷ rest)) h.contents)) i r) (sym none)
          (decides_earlier (decide ss (λ rest. whole (bytes ∷ rest)) h.contents) i (record { told = now; asked_before = b; asked_after = c; faults_before = y; faults_after = z }) r le refl h.decides);
    }

-- no file is left, and what all of them make is to be run
pub all_were_read : (whole : List (List ℕ) → Decision) (i : Input) (x : Loaded) (source : Option (List ℕ)) → whole [] ≡ run x.image x.devices source → AreNames source (symbols_of x.names) → i.asked_after ≡ i.asked_before
    → Reads [] whole i (Ok x)
all_were_read whole i x source made are unasked = record {
  contents = [];
  files = record {
    as_told = tt;
    count = 0;
    asked = unasked ∙ sym (append-nil i.asked_before);
    least = omega arith;
    most = omega arith;
    in_order = λ j lt. absurd (omega (arith, lt));
  };
  decides = subst (λ (d : Decision). Decides d i (Ok x)) (sym made) (refl, refl, are);
}

-- an error that is handed on as it is
pub handed_on : (steps : List Step) (whole : List (List ℕ) → Decision) (i : Input) (r : Result Loaded det.End) (f : det.End) → IsErrAnd r (λ x. x ≡ f) → Reads steps whole i (Err f) → Reads steps whole i r
handed_on steps whole i (Ok v) f same h = absurd same
handed_on steps whole i (Err e) f same h = subst (λ (x : det.End). Reads steps whole i (Err x)) (sym same) h

-- the files of one source, or of none, are those of the one that it is
pub by_source : (image script : Step) (o p : Option (List ℕ)) (i : Input) (r : Result Loaded det.End) → o ≡ p → Reads (image ∷ script ∷ source_steps p) whole_of i r → Reads (image ∷ script ∷ source_steps o) whole_of i r
by_source image script o p i r same h = subst (λ (x : Option (List ℕ)). Reads (image ∷ script ∷ source_steps x) whole_of i r) (sym same) h

-- ---- files that are told

-- what they decide, files that agree with them decide as well, or nothing as yet
pub decided : (steps : List Step) (whole : List (List ℕ) → Decision) (told : List ℕ → Option (List ℕ)) (contents : List (List ℕ)) (d : Decision) → AsTold steps told contents → decide steps whole (told_files steps told) ≡ d → (d ≡ undecided → ⊥)
    → (decide steps whole contents ≡ d) ⊎ (decide steps whole contents ≡ undecided)
decided [] whole told [] d h e some = inl e
decided [] whole told (f ∷ fs) d h e some = absurd h
decided (s ∷ ss) whole told [] d h e some = inr refl
decided (s ∷ ss) whole told (f ∷ fs) d h e some = go (λ k. decided ss (λ rest. whole (f ∷ rest)) told fs d h.1 k some) (told s.name) h.0 e
  where
    behind : (r : Option det.End) → (decide ss (λ rest. whole (f ∷ rest)) (told_files ss told) ≡ d → (decide ss (λ rest. whole (f ∷ rest)) fs ≡ d) ⊎ (decide ss (λ rest. whole (f ∷ rest)) fs ≡ undecided))
        → refused_or r (decide ss (λ rest. whole (f ∷ rest)) (told_files ss told)) ≡ d
        → (refused_or r (decide ss (λ rest. whole (f ∷ rest)) fs) ≡ d) ⊎ (refused_or r (decide ss (λ rest. whole (f ∷ rest)) fs) ≡ undecided)
    behind None later k = later k
    behind (Some x) later k = inl k

    go : (decide ss (λ rest. whole (f ∷ rest)) (told_files ss told) ≡ d → (decide ss (λ rest. whole (f ∷ rest)) fs ≡ d) ⊎ (decide ss (λ rest. whole (f ∷ rest)) fs ≡ undecided))
        → (o : Option (List ℕ)) → Agrees o f → decide (s ∷ ss) whole (told_from o (told_files ss told)) ≡ d
        → (decide (s ∷ ss) whole (f ∷ fs) ≡ d) ⊎ (decide (s ∷ ss) whole (f ∷ fs) ≡ undecided)
    go later None agrees k = absurd (some (sym k))
    go later (Some b) agrees k = behind (refusal_at s f) later (subst (λ (t : List ℕ). decide (s ∷ ss) whole (t ∷ told_files ss told) ≡ d) (sym agrees) k)
