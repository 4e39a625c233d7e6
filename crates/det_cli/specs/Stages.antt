-- What the stages of reading a command's files promise one another.
-- Our choice: a restatement for proofs.
use Rattle.std.specs.Prelude.{◌≡◌, ◌⊎◌, ℕ, ◌+◌, List, [], ◌∷◌, ◌++◌, length, Option, Some, None, Result, Ok, Err, true, false, nat_lt}
use Rattle.det_host.specs.Outside.{Request, Rose}
use Rattle.det_cli.specs.declared.end.End.{End}
use Rattle.det_cli.specs.declared.end.End.TheVariants.{TooLarge, ReadFault, NoMemory}
use Rattle.det_cli.specs.Status.{IsDone, IsBad}
use Rattle.det_cli.specs.Files.{Expectation, Step, Input, Agrees, judge, request_of, ReadFiles}

-- the loader was asked for this, once
abbrev pub IsAsked : Request → Input → Type 0
IsAsked r i = i.asked_after ≡ i.asked_before ++ r ∷ []

-- a file that is too large, with bytes that it may have; or a fault; or want of memory, maybe before the loader knew what it was asked for
abbrev pub LoadFault : Request → Input → End → Type 0
LoadFault r i f =
    (IsAsked r i × ((f ≡ TooLarge (r.room + 1)) × ((bytes : List ℕ) × (Agrees (i.told r.name) bytes × (nat_lt r.room (length bytes) ≡ true)))))
    ⊎ (IsAsked r i × ((f ≡ ReadFault) × Rose i.faults_before i.faults_after))
    ⊎ (((i.asked_after ≡ i.asked_before) ⊎ IsAsked r i) × (f ≡ NoMemory))

-- what a load answers
abbrev pub LoadsFile : {V : Type 0} → (V → List ℕ) → Request → Input → Result V End → Type 0
LoadsFile items r i (Ok v) = IsAsked r i × Agrees (i.told r.name) (items v) × (nat_lt r.room (length (items v)) ≡ false)
LoadsFile items r i (Err f) = LoadFault r i f

-- bytes that the file may have, and that fit, are refused
abbrev pub Refused : Step → Input → End → Type 0
Refused s i f = IsAsked (request_of s) i × ((bytes : List ℕ) × (Agrees (i.told s.name) bytes × ((nat_lt s.room (length bytes) ≡ false) × ((s.refuse bytes ≡ Some f) × IsBad f))))

-- what the loading and the reading of a file answer: bytes that the file may have were read as this value, or they are refused, or there are none
abbrev pub ReadsFile : {V : Type 0} → (List ℕ → V → Type 0) → Step → Input → Result V End → Type 0
ReadsFile reads s i (Ok v) = IsAsked (request_of s) i
    × ((bytes : List ℕ) × (Agrees (i.told s.name) bytes × ((nat_lt s.room (length bytes) ≡ false) × ((s.refuse bytes ≡ None) × reads bytes v))))
ReadsFile reads s i (Err f) = Refused s i f ⊎ LoadFault (request_of s) i f

-- what is answered to bytes that are refused or not
abbrev pub GivesRefusal : {V : Type 0} → Option End → Result V End → Type 0
GivesRefusal refused (Ok v) = refused ≡ None
GivesRefusal refused (Err f) = ((refused ≡ Some f) × IsBad f) ⊎ (f ≡ NoMemory)

-- what is answered to that which files decide
abbrev pub GivesExpectation : {V : Type 0} → (V → Expectation) → Option Expectation → Input → Result V End → Type 0
GivesExpectation shows None i (Ok v) = ⊥
GivesExpectation shows None i (Err f) = ((f ≡ ReadFault) × Rose i.faults_before i.faults_after) ⊎ (f ≡ NoMemory)
GivesExpectation shows (Some e) i (Ok v) = (e ≡ shows v) × IsDone e.end
GivesExpectation shows (Some e) i (Err f) = IsBad e.end × ((f ≡ e.end) ⊎ (f ≡ NoMemory))

-- files were read, and this is answered
pub record Reads {V : Type 0} (shows : V → Expectation) (steps : List Step) (whole : List (List ℕ) → Option Expectation) (i : Input) (r : Result V End) : Type 0 where
  pub contents : List (List ℕ)
  pub files : ReadFiles steps whole contents i
  pub gives : GivesExpectation shows (judge steps whole contents) i r
