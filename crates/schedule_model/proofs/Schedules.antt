-- What is read line by line is what the lines say, and the line that is named is the first one that is refused.
use Rattle.std.proofs.Common.{◌≡◌, ℕ, List, Ok, Err, ap}
use Rattle.std.specs.Prelude.{IsErr}
use Rattle.text_lines.proofs.Items as texts
use Rattle.schedule_model.specs.declared.error.ScheduleError.{ScheduleError}
use Rattle.schedule_model.specs.Schedule.{Says, ScheduleOf, IsFirstRefused, paths_from}
use Rattle.schedule_model.specs.Reading.{item_of, schedule_of}
use Rattle.schedule_model.proofs.Items.{reads}

abbrev refusal : ℕ → ScheduleError
refusal number = record { line = number }

pub schedule_again : (bytes : List ℕ) (paths : List (List ℕ)) → ScheduleOf bytes paths → schedule_of bytes ≡ Ok paths
unfolding schedule_of
schedule_again = texts.text_again Says item_of reads paths_from refusal

pub schedule_takes : (bytes : List ℕ) (paths : List (List ℕ)) → schedule_of bytes ≡ Ok paths → ScheduleOf bytes paths
unfolding schedule_of
schedule_takes = texts.text_takes Says item_of reads paths_from refusal

pub one : (bytes : List ℕ) (p q : List (List ℕ)) → ScheduleOf bytes p → ScheduleOf bytes q → p ≡ q
one = texts.one_value Says item_of reads paths_from

pub refused_again : (bytes : List ℕ) (n : ℕ) → IsFirstRefused bytes n → schedule_of bytes ≡ Err (record { line = n })
unfolding schedule_of
refused_again = texts.refused_again Says item_of reads paths_from refusal

pub refused_takes : (bytes : List ℕ) (n : ℕ) → schedule_of bytes ≡ Err (record { line = n }) → IsFirstRefused bytes n
unfolding schedule_of
refused_takes bytes n = texts.refused_takes Says item_of reads paths_from refusal bytes n (λ k same. ap (λ (e : ScheduleError). e.line) same)

pub refuses_the_rest : (bytes : List ℕ) → (IsErr (schedule_of bytes) → (paths : List (List ℕ)) → ScheduleOf bytes paths → ⊥) × (((paths : List (List ℕ)) → ScheduleOf bytes paths → ⊥) → IsErr (schedule_of bytes))
unfolding schedule_of
refuses_the_rest = texts.refuses_the_rest Says item_of reads paths_from refusal
