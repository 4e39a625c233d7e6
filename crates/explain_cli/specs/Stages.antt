-- What the reading of a command's files promises.
-- Our choice: a restatement for proofs.
use Rattle.std.specs.Prelude.{◌≡◌, ◌⊎◌, ℕ, List, Option, None, option_map, Result, Ok, Err}
use Rattle.det_host.specs.Outside.{Rose}
use Rattle.det_cli.specs.declared.end.End.{End}
use Rattle.det_cli.specs.declared.end.End.TheVariants.{ReadFault, NoMemory}
use Rattle.det_cli.specs.Status.{IsBad}
use Rattle.det_cli.specs.Commands.{image_of_file}
use Rattle.det_cli.specs.Files.{Input, ReadFiles, Step}
use Rattle.symbols.specs.Symbols.{Symbol}
use Rattle.explain_words.specs.Line.{Command}
use Rattle.explain_cli.specs.declared.names.NamedImage.{NamedImage}
use Rattle.explain_cli.specs.declared.names.Names.{Names}
use Rattle.explain_cli.specs.declared.reading.Loaded.{Loaded}
use Rattle.explain_cli.specs.Answers.{AreNames, Decision, all_read, decide, naming_file, undecided, refused, run, steps_of, whole_of}

-- the symbols of what gives names
abbrev pub symbols_of : Option Names → Option (List Symbol)
symbols_of names = option_map (λ n. n.symbols) names

-- these are an image's own names
abbrev pub AreOwn : List ℕ → Option Names → Type 0
AreOwn image names = AreNames (naming_file image None) (symbols_of names)

-- a file is read as an image and its own names
abbrev pub ReadsNamed : List ℕ → NamedImage → Type 0
ReadsNamed bytes n = (image_of_file bytes ≡ Ok n.image) × AreOwn bytes n.names

-- what is answered to that which files decide
abbrev pub Decides : Decision → Input → Result Loaded End → Type 0
Decides undecided i (Ok x) = ⊥
Decides undecided i (Err f) = ((f ≡ ReadFault) × Rose i.faults_before i.faults_after) ⊎ (f ≡ NoMemory)
Decides (refused e) i (Ok x) = ⊥
Decides (refused e) i (Err f) = IsBad e × ((f ≡ e) ⊎ (f ≡ NoMemory))
Decides (run image devices source) i (Ok x) = (image ≡ x.image) × (devices ≡ x.devices) × AreNames source (symbols_of x.names)
Decides (run image devices source) i (Err f) = ⊥

-- files were read, and this is answered
pub record Reads (steps : List Step) (whole : List (List ℕ) → Decision) (i : Input) (r : Result Loaded End) : Type 0 where
  pub contents : List (List ℕ)
  pub files : ReadFiles steps all_read contents i
  pub decides : Decides (decide steps whole contents) i r

abbrev pub ReadsRun : Command → Input → Result Loaded End → Type 0
ReadsRun c i r = Reads (steps_of c) whole_of i r
