-- What a loader and a sink in memory hold.
-- Our choice: files and sinks in memory, for tests.
use Rattle.std.specs.Prelude.{◌≡◌, ℕ, ◌+◌, ◌-◌, ◌^◌, min, List, [], ◌∷◌, ◌++◌, length, take, Option, Some, None, Result, Ok, Err, Bool, true, false, ◌&&◌, cond, string_bytes, nat_eq, nat_lt, if◌then◌else◌, refl}
use Rattle.std.specs.Prelude.{String, Vec}
use Rattle.std.specs.Global.{Global}
use Rattle.std.specs.Coded.{Coded, coded_ℕ, coded_list, coded×, code_by}
use Rattle.std.specs.Cmp.Lexicographic.{pointwise}
use Rattle.std.specs.List.{list_any}
use Rattle.det_host.specs.Outside.{Request}
use Rattle.det_host.specs.declared.loader.LoadError.{LoadError}
use Rattle.det_host.specs.declared.loader.LoadError.TheVariants.{Failed, TooLarge, Memory}
use Rattle.det_host.specs.declared.sink.SinkError.{SinkError}
use Rattle.det_host.specs.declared.sink.SinkError.TheVariants.{Failed as NotWritten, Memory as NoRoom}

-- a name and its bytes
abbrev pub NamedFile : Type 0
NamedFile = List ℕ × List ℕ

-- a count of 64 bits that stays at its end
abbrev pub next_count : ℕ → ℕ
next_count n = min (n + 1) (2 ^ 64 - 1)

-- the numbers of the calls that fail, from 1, and how many calls and faults there were
pub record Calls : Type 0 where
  pub failing : List ℕ
  pub done : ℕ
  pub faults : ℕ

abbrev pub coded_calls : Coded Calls
coded_calls = code_by (List ℕ × (ℕ × ℕ)) (coded× (coded_list coded_ℕ) (coded× coded_ℕ coded_ℕ)) (λ c. (c.failing, (c.done, c.faults)))
    (λ p. record { failing = p.0; done = p.1.0; faults = p.1.1 }) (λ _. refl)

abbrev pub no_calls : List ℕ → Calls
no_calls failing = record { failing = failing; done = 0; faults = 0 }

-- whether the next call fails
abbrev pub is_failing : Calls → Bool
is_failing c = list_any (λ n. nat_eq n (next_count c.done)) c.failing

abbrev pub after_call : Calls → Calls
after_call c = record c { done = next_count c.done }

abbrev pub with_fault : Calls → Calls
with_fault c = record c { faults = next_count c.faults }

-- a call, and a fault where it is one
abbrev pub after : Calls → Bool → Calls
after c is_fault = cond is_fault (with_fault (after_call c)) (after_call c)

-- calls one after another, each with whether it is a fault
abbrev pub after_calls : Calls → List Bool → Calls
after_calls c [] = c
after_calls c (is_fault ∷ rest) = after_calls (after c is_fault) rest

-- whatever the calls before, the next one fails exactly where its number, from 1, is among these; the count stays at its end
abbrev pub FailsAt : List ℕ → Calls → Type 0
FailsAt numbers c = (before : List Bool) → is_failing (after_calls c before) ≡ list_any (λ n. nat_eq n (min (length before + 1) (2 ^ 64 - 1))) numbers

abbrev pub coded_request : Coded Request
coded_request = code_by (List ℕ × ℕ) (coded× (coded_list coded_ℕ) coded_ℕ) (λ r. (r.name, r.room)) (λ p. record { name = p.0; room = p.1 }) (λ _. refl)

-- files by name, the requests that were made, and the calls
pub record Files : Type 0 where
  pub files : List NamedFile
  pub asked : List Request
  pub calls : Calls

abbrev pub coded_files : Coded Files
coded_files = code_by (List NamedFile × (List Request × Calls))
    (coded× (coded_list (coded× (coded_list coded_ℕ) (coded_list coded_ℕ))) (coded× (coded_list coded_request) coded_calls))
    (λ f. (f.files, (f.asked, f.calls)))
    (λ p. record { files = p.0; asked = p.1.0; calls = p.1.1 })
    (λ _. refl)

abbrev pub named_file : String Global × Vec ℕ Global → NamedFile
named_file f = (string_bytes f.0, f.1.items)

-- the bytes of the first file of a name
abbrev pub file_bytes : List NamedFile → List ℕ → Option (List ℕ)
file_bytes [] name = None
file_bytes (f ∷ fs) name = cond (pointwise nat_eq f.0 name) (Some f.1) (file_bytes fs name)

-- the bytes of a file, where it is there and there is room
abbrev pub in_room : ℕ → Option (List ℕ) → Result (List ℕ) LoadError
in_room room None = Err Failed
in_room room (Some bytes) = if nat_lt room (length bytes) then Err (TooLarge (room + 1)) else Ok bytes

-- what the next call answers, memory aside
abbrev pub answer : Files → List ℕ → ℕ → Result (List ℕ) LoadError
answer f name room = if is_failing f.calls then Err Failed else in_room room (file_bytes f.files name)

-- a file more was asked for
abbrev pub with_request : Files → Request → Files
with_request f request = record f { asked = f.asked ++ request ∷ [] }

-- after a load with this answer: the call is counted, its request is kept, and a fault is counted where it failed; where memory ran out
-- the call is counted, and no more
abbrev pub after_load : {V : Type 0} → Files → Request → Result V LoadError → Files
after_load f request (Ok v) = record (with_request f request) { calls = after f.calls false }
after_load f request (Err Failed) = record (with_request f request) { calls = after f.calls true }
after_load f request (Err (TooLarge read)) = record (with_request f request) { calls = after f.calls false }
after_load f request (Err Memory) = record f { calls = after f.calls false }

-- the most bytes that a sink takes in a call, what it took, and the calls
pub record Taking : Type 0 where
  pub most : ℕ
  pub taken : List ℕ
  pub calls : Calls

abbrev pub coded_taking : Coded Taking
coded_taking = code_by (ℕ × (List ℕ × Calls)) (coded× coded_ℕ (coded× (coded_list coded_ℕ) coded_calls)) (λ s. (s.most, (s.taken, s.calls)))
    (λ p. record { most = p.0; taken = p.1.0; calls = p.1.1 }) (λ _. refl)

-- taking none of a piece that is not empty
abbrev pub is_nothing : ℕ → List ℕ → Bool
is_nothing n piece = nat_eq n 0 && nat_lt 0 (length piece)

-- after a write with this answer: the call is counted, what it took stands behind the rest, and a fault is counted where it failed or
-- took nothing; where memory ran out the call is counted, and no more
abbrev pub after_write : Taking → List ℕ → Result ℕ SinkError → Taking
after_write s piece (Ok n) = record s { taken = s.taken ++ take n piece; calls = after s.calls (is_nothing n piece) }
after_write s piece (Err NotWritten) = record s { calls = after s.calls true }
after_write s piece (Err NoRoom) = record s { calls = after s.calls false }
