-- How a parcel goes over a link: it is offered, and its frame is sent, turn by turn, until it has arrived; then the receipt goes back. A row of numbers, which
-- begins with a seed, decides at each turn what becomes of the frame.
-- Source: OSDI 2010, "Efficient System-Enforced Deterministic Parallelism", the section on distribution: spaces migrate over a network that loses.
-- Our choice: the four fates, the row of numbers, and that the frame arrives at the sixteenth turn at the latest.
use Rattle.std.specs.Prelude.{◌≡◌, ℕ, zero, suc, ◌+◌, ◌-◌, ◌/◌, ◌%◌, ◌<◌, ◌==◌, Bool, true, false, not, List, [], ◌∷◌, ◌++◌, length, slice_get, Some, if◌then◌else◌}
use Rattle.bench_model.specs.Generated.{next, number}
use Rattle.link_model.specs.declared.fate.Fate.{Fate}
use Rattle.link_model.specs.declared.fate.Fate.TheVariants.{Lost, Arrives, ArrivesTwice, EarlierArrives}
use Rattle.link_model.specs.Link.{Link, Event, send, arrive, answer, receipt}

-- the most turns that a parcel takes
abbrev pub most_turns : ℕ
most_turns = 16

-- which fate a number decides: by its bits 16 and 17
abbrev pub fate_by : ℕ → Fate
fate_by n = if n == 0 then Lost else if n == 1 then Arrives else if n == 2 then ArrivesTwice else EarlierArrives

abbrev pub fate_of : ℕ → Fate
fate_of x = fate_by (x / 65536 % 4)

-- the fate of a frame with so many turns left behind this one: at the last it arrives, whatever the number
abbrev pub fate_with : ℕ → ℕ → Fate
fate_with left x = if left == 0 then Arrives else fate_of x

-- what arrives by a turn whose frame was sent as the one of this place
abbrev pub arrivals : Fate → ℕ → List Event
arrivals Lost place = []
arrivals Arrives place = arrive place ∷ []
arrivals ArrivesTwice place = arrive place ∷ arrive place ∷ []
arrivals EarlierArrives zero = []
arrivals EarlierArrives (suc place) = arrive place ∷ []

-- whether a frame of the parcel itself is among that. At the first turn the earlier frame is one of another parcel
abbrev pub has_come : Fate → Bool → Bool
has_come Lost is_first = false
has_come Arrives is_first = true
has_come ArrivesTwice is_first = true
has_come EarlierArrives is_first = not is_first

-- the turns of the parcel of a number, with so many left, this one too: behind the number x, with so many frames sent. Once the parcel has come its receipt is sent
-- and arrives, the one of this place, which is the parcel's number
abbrev pub turns : ℕ → Bool → ℕ → ℕ → ℕ → List Event
turns zero is_first n x frames = []
turns (suc left) is_first n x frames = (send n ∷ arrivals (fate_with left (next x)) frames)
    ++ (if has_come (fate_with left (next x)) is_first then answer ∷ receipt n ∷ [] else turns left false n (next x) (frames + 1))

-- how many they are
abbrev pub turns_taken : ℕ → Bool → ℕ → ℕ
turns_taken zero is_first x = 0
turns_taken (suc left) is_first x = if has_come (fate_with left (next x)) is_first then 1 else 1 + turns_taken left false (next x)

-- a link over which each parcel has arrived and has its receipt: the last number of its row, how many parcels went over it, and how many frames; and what happened
-- behind the offer of the last one
pub record Carrier : Type 0 where
  pub number : ℕ
  pub carried : ℕ
  pub frames : ℕ
  pub events : List Event

-- nothing has gone over it
abbrev pub new_carrier : ℕ → Carrier
new_carrier seed = record { number = seed; carried = 0; frames = 0; events = [] }

-- what happens behind the offer of one more
abbrev pub turns_of : Carrier → List Event
turns_of c = turns most_turns true c.carried c.number c.frames

abbrev pub turns_taken_of : Carrier → ℕ
turns_taken_of c = turns_taken most_turns true c.number

-- behind one parcel more
abbrev pub with_one_more : Carrier → Carrier
with_one_more c = record {
  number = number c.number (turns_taken_of c);
  carried = c.carried + 1;
  frames = c.frames + turns_taken_of c;
  events = turns_of c;
}

-- the links of which this is one, whatever went over them: all that was sent has arrived and has its receipt, and the frame that was sent last is of an earlier parcel
pub record IsCarrierOf (w : Link) (c : Carrier) : Type 0 where
  pub arrived : w.delivered ≡ w.sent
  pub carried : length w.sent ≡ c.carried
  pub base : w.base ≡ c.carried
  pub receipts : length w.receipts ≡ c.carried
  pub frames : length w.frames ≡ c.frames
  pub earlier : (n : ℕ) → slice_get w.frames (c.frames - 1) ≡ Some n → n < c.carried
