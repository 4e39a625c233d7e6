-- What a sender answers to an offer, and what it keeps then.
-- Our choice: a restatement for contracts.
use Rattle.std.specs.Prelude.{ℕ, ◌==◌, List, length, map, Result, Ok, Err, nat_lt, if◌then◌else◌}
use Rattle.std.specs.Global.{Vec}
use Rattle.link_model.specs.declared.error.FrameError.{FrameError}
use Rattle.link_model.specs.Ends.{Sending, offered_to, with_parcel}
use Rattle.link_model.specs.Frame.{no_number, window}
use Rattle.node_link.specs.declared.sender.Offered.{Offered}
use Rattle.node_link.specs.declared.sender.Offered.TheVariants.{Taken, Full, Spent}

-- the bytes of each parcel
abbrev pub kept_of : List (Vec ℕ) → List (List ℕ)
kept_of ps = map (λ p. p.items) ps

-- full before spent
abbrev pub answer_to : Sending → Offered
answer_to s = if nat_lt (length s.kept) window then (if offered_to s == no_number then Spent else Taken (offered_to s)) else Full

-- a parcel is kept where it was taken
abbrev pub behind : Offered → List ℕ → Sending → Sending
behind (Taken number) parcel s = with_parcel parcel s
behind Full parcel s = s
behind Spent parcel s = s

-- a receipt is taken where it can be read
abbrev pub told_of : Result ℕ FrameError → Result (Unit {0}) FrameError
told_of (Ok n) = Ok tt
told_of (Err e) = Err e
