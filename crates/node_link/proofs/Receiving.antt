-- The receipt of the one parcel that is on its way.
use Rattle.std.proofs.Common.{◌≡◌, ℕ, ◌+◌, ◌-◌, ◌<◌, ◌^◌, true, List, [], length, drop, Result, Ok, Err, sym, ap, ◌∙◌, arith}
use Rattle.std.specs.Prelude.{max}
use Rattle.std.specs.Result.{is_err}
use Rattle.std.proofs.lemmas.List.{drop_all}
use Rattle.link_model.specs.declared.error.FrameError.{FrameError}
use Rattle.link_model.specs.Ends.{Sending, offered_to, with_receipt}
use Rattle.link_model.specs.Frame.{receipt_bytes}
use Rattle.link_model.specs.Reading.{Reads, receipt_of}
use Rattle.link_model.proofs.Frames.{receipt_read}
use Rattle.node_link.specs.Offers.{told_of}

pub answer_read : (s : Sending) (n : ℕ) (bytes : List ℕ) → bytes ≡ receipt_bytes n → n ≡ s.base + 1 → length s.kept ≡ 1 → n < 2 ^ 64 → receipt_of (offered_to s) bytes ≡ Ok n
answer_read s n bytes is next one low = ap (receipt_of (offered_to s)) is ∙ receipt_read (offered_to s) n (omega (arith, next, one, low)) (omega (arith, next, one))

pub is_taken : (r : Result (Unit {0}) FrameError) (read : Result ℕ FrameError) (n : ℕ) → is_err r ≡ true → Reads (λ u. u) r (told_of read) → read ≡ Ok n → ⊥
is_taken (Ok u) read n is told reads = cc
is_taken (Err e) read n is told reads = let ok : told_of (Ok n) ≡ Err e = sym (ap told_of reads) ∙ told in cc

pub none_left : (s : Sending) (n : ℕ) → n ≡ s.base + 1 → length s.kept ≡ 1 → with_receipt n s ≡ record { base = n; kept = [] }
none_left s n next one =
    let higher : max s.base n ≡ n = omega (arith, next) in
    let rest : drop (n - s.base) s.kept ≡ [] = drop_all (n - s.base) s.kept (omega (arith, next, one)) in
    λ i. record { base = higher i; kept = rest i }
