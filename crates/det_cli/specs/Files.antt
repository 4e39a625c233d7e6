-- The files of a command: one after another is loaded and read, up to the first that is refused.
-- Our choice: one file after another, and that the first refusal counts.
use Rattle.std.specs.Prelude.{◌≡◌, ◌<◌, ◌≤◌, ℕ, ◌+◌, List, [], ◌∷◌, ◌++◌, map, length, take, Option, Some, None, IfSome, cond, nat_lt}
use Rattle.det_host.specs.Outside.{Request}
use Rattle.det_cli.specs.declared.end.End.{End}
use Rattle.det_cli.specs.declared.end.End.TheVariants.{TooLarge}

-- the bytes of standard output and of standard error, and the end
pub record Expectation : Type 0 where
  pub out : List ℕ
  pub err : List ℕ
  pub end : End

abbrev pub refusal : End → Expectation
refusal e = record { out = []; err = []; end = e }

-- a file's name, the most bytes that it may have, its room, and whether bytes that fit are refused
pub record Step : Type 0 where
  pub name : List ℕ
  pub room : ℕ
  pub refuse : List ℕ → Option End

-- what a loader is asked for: the name, and the room
abbrev pub request_of : Step → Request
request_of s = record { name = s.name; room = s.room }

abbrev pub requests_of : List Step → List Request
requests_of steps = map request_of steps

-- the room comes before the grammar
abbrev pub refusal_at : Step → List ℕ → Option End
refusal_at s bytes = cond (nat_lt s.room (length bytes)) (Some (TooLarge (s.room + 1))) (s.refuse bytes)

-- a refusal, where there is one; else the rest
abbrev pub refusal_or : Option End → Option Expectation → Option Expectation
refusal_or None rest = rest
refusal_or (Some e) rest = Some (refusal e)

-- What these first files decide, the first one first: the refusal of the first that is refused; else what all of them make; nothing
-- while one is still to be read.
abbrev pub judge : List Step → (List (List ℕ) → Option Expectation) → List (List ℕ) → Option Expectation
judge [] whole files = whole []
judge (s ∷ ss) whole [] = None
judge (s ∷ ss) whole (f ∷ fs) = refusal_or (refusal_at s f) (judge ss (λ rest. whole (f ∷ rest)) fs)

abbrev pub told_from : Option (List ℕ) → List (List ℕ) → List (List ℕ)
told_from None rest = []
told_from (Some bytes) rest = bytes ∷ rest

-- the first files, as far as they are told
abbrev pub told_files : List Step → (List ℕ → Option (List ℕ)) → List (List ℕ)
told_files [] told = []
told_files (s ∷ ss) told = told_from (told s.name) (told_files ss told)

-- what a loader tells and was asked for, and its count of faults, before and after a call
pub record Input : Type 0 where
  pub told : List ℕ → Option (List ℕ)
  pub asked_before : List Request
  pub asked_after : List Request
  pub faults_before : ℕ
  pub faults_after : ℕ

-- a loader before and after a call, by what it tells of itself
abbrev pub input_of : {L : Type 0} → (L → List ℕ → Option (List ℕ)) → (L → List Request) → (L → ℕ) → L → L → Input
input_of told asked faults old new = record {
  told = told old;
  asked_before = asked old;
  asked_after = asked new;
  faults_before = faults old;
  faults_after = faults new;
}

-- bytes that a file may have: those that are told, where they are told
abbrev pub Agrees : Option (List ℕ) → List ℕ → Type 0
Agrees told bytes = IfSome told (λ known. bytes ≡ known)

abbrev pub AsTold : List Step → (List ℕ → Option (List ℕ)) → List (List ℕ) → Type 0
AsTold [] told [] = Unit {0}
AsTold [] told (f ∷ fs) = ⊥
AsTold (s ∷ ss) told [] = Unit {0}
AsTold (s ∷ ss) told (f ∷ fs) = Agrees (told s.name) f × AsTold ss told fs

-- The bytes of these first files were loaded. Some first files were asked for, each by its name and its room, in their order and each once: those
-- that were loaded, and at most one more; and each only while the files before it decide nothing.
pub record ReadFiles (steps : List Step) (whole : List (List ℕ) → Option Expectation) (contents : List (List ℕ)) (i : Input) : Type 0 where
  pub as_told : AsTold steps i.told contents
  pub count : ℕ
  pub asked : i.asked_after ≡ i.asked_before ++ take count (requests_of steps)
  pub least : length contents ≤ count
  pub most : count ≤ length contents + 1
  pub in_order : (j : ℕ) → j < count → judge steps whole (take j contents) ≡ None
