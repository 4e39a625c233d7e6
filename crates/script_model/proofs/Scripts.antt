-- What is read line by line is what the lines say, and the line that is named is the first one that is refused.
use Rattle.std.proofs.Common.{◌≡◌, ℕ, List, Ok, Err, ap}
use Rattle.std.specs.Prelude.{IsErr}
use Rattle.text_lines.proofs.Items as texts
use Rattle.script_model.specs.declared.error.ScriptError.{ScriptError}
use Rattle.device_model.specs.Devices.{Devices}
use Rattle.script_model.specs.Script.{Says, ScriptOf, IsFirstRefused, devices_from}
use Rattle.script_model.specs.Reading.{item_of, script_of}
use Rattle.script_model.proofs.Items.{reads}

abbrev refusal : ℕ → ScriptError
refusal number = record { line = number }

pub script_again : (bytes : List ℕ) (d : Devices) → ScriptOf bytes d → script_of bytes ≡ Ok d
unfolding script_of
script_again = texts.text_again Says item_of reads devices_from refusal

pub script_takes : (bytes : List ℕ) (d : Devices) → script_of bytes ≡ Ok d → ScriptOf bytes d
unfolding script_of
script_takes = texts.text_takes Says item_of reads devices_from refusal

pub one : (bytes : List ℕ) (d e : Devices) → ScriptOf bytes d → ScriptOf bytes e → d ≡ e
one = texts.one_value Says item_of reads devices_from

pub refused_again : (bytes : List ℕ) (n : ℕ) → IsFirstRefused bytes n → script_of bytes ≡ Err (record { line = n })
unfolding script_of
refused_again = texts.refused_again Says item_of reads devices_from refusal

pub refused_takes : (bytes : List ℕ) (n : ℕ) → script_of bytes ≡ Err (record { line = n }) → IsFirstRefused bytes n
unfolding script_of
refused_takes bytes n = texts.refused_takes Says item_of reads devices_from refusal bytes n (λ k same. ap (λ (e : ScriptError). e.line) same)

pub refuses_the_rest : (bytes : List ℕ) → (IsErr (script_of bytes) → (d : Devices) → ScriptOf bytes d → ⊥) × (((d : Devices) → ScriptOf bytes d → ⊥) → IsErr (script_of bytes))
unfolding script_of
refuses_the_rest = texts.refuses_the_rest Says item_of reads devices_from refusal
