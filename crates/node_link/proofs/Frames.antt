-- A frame that was spelled is read.
use Rattle.std.proofs.Common.{◌≡◌, ℕ, ◌<◌, ◌^◌, List, ◌++◌, length, drop, Ok, sym, ap, ◌∙◌, arith}
use Rattle.std.specs.Int.{w64, to_le_bytes}
use Rattle.std.proofs.lemmas.List.{length-append}
use Rattle.link_model.specs.Frame.{data_mark, data_bytes, no_number}
use Rattle.link_model.specs.Reading.{data_of}
use Rattle.link_model.proofs.Frames.{data_read}

pub parcel_behind : (n : ℕ) (parcel bytes : List ℕ) → bytes ≡ data_bytes n parcel → drop 20 bytes ≡ parcel
parcel_behind n parcel bytes is = ap (drop 20) is

pub spelled_read : (n : ℕ) (parcel bytes : List ℕ) → n < no_number → length bytes < 2 ^ 64 → bytes ≡ data_bytes n parcel → data_of bytes ≡ Ok (n, drop 20 bytes)
spelled_read n parcel bytes numbered short is =
    let size : length bytes ≡ length (data_bytes n parcel) = ap length is in
    let back = length-append (to_le_bytes w64 (length parcel)) parcel in
    let middle = length-append (to_le_bytes w64 n) (to_le_bytes w64 (length parcel) ++ parcel) in
    let front = length-append data_mark (to_le_bytes w64 n ++ to_le_bytes w64 (length parcel) ++ parcel) in
    ap data_of is ∙ data_read n parcel numbered (omega (arith, size, back, middle, front, short)) ∙ ap (λ (xs : List ℕ). Ok (n, xs)) (sym (parcel_behind n parcel bytes is))
