-- What is read is what is spelled.
use Rattle.std.proofs.Common.{◌≡◌, ℕ, ◌^◌, ◌<◌, ◌≤◌, List, [], ◌∷◌, ◌++◌, length, Result, Ok, refl, sym, ap, ap₂, subst, ◌∙◌, append-nil, arith}
use Rattle.std.specs.Prelude.{◌↔◌}
use Rattle.std.specs.Int.{w64, to_le_bytes}
use Rattle.std.proofs.lemmas.List.{length-append}
use Rattle.link_model.specs.declared.error.FrameError.{FrameError}
use Rattle.link_model.specs.Frame.{data_mark, receipt_mark, no_number, data_bytes, receipt_bytes, IsData, IsReceipt}
use Rattle.link_model.specs.Reading.{IsBytes, ◌>>=◌, number_at, mark_at, data_number_at, receipt_number_at, rest_at, data_of, receipt_of}
use Rattle.link_model.proofs.Fields.{Takes, bind_ok, ok_is, wide64, number_takes, number_again, data_mark_takes, data_mark_again, receipt_mark_takes, receipt_mark_again, data_number_takes, data_number_again, receipt_number_takes, receipt_number_again, rest_is, rest_again}

-- what was taken in turn, put together
data_parts : (bytes m parcel p : List ℕ) (n l : ℕ × List ℕ) (number : ℕ) → Takes bytes data_mark m → Takes m (to_le_bytes w64 n.0) n.1 × (n.0 < no_number) → Takes n.1 (to_le_bytes w64 l.0) l.1
    → (l.1 ≡ p) × (length p ≡ l.0) → ◌≡◌ {A = ℕ × List ℕ} (n.0, p) (number, parcel) → IsData bytes number parcel
data_parts bytes m parcel p n l number mark numbered size text is =
    let is_number : n.0 ≡ number = ap (λ (x : ℕ × List ℕ). x.0) is in
    let is_parcel : p ≡ parcel = ap (λ (x : ℕ × List ℕ). x.1) is in
    record {
      spelled =
          mark.parts
          ∙ ap (λ (t : List ℕ). data_mark ++ t) (
          numbered.0.parts
          ∙ ap₂ (λ (k : ℕ) (t : List ℕ). to_le_bytes w64 k ++ t) is_number (
          size.parts ∙ ap₂ (λ (k : ℕ) (t : List ℕ). to_le_bytes w64 k ++ t) (sym text.1 ∙ ap length is_parcel) (text.0 ∙ is_parcel)
          )
          );
      numbered = subst (λ (k : ℕ). k < no_number) is_number numbered.1;
    }

pub data_spelled : (bytes parcel : List ℕ) (number : ℕ) → IsBytes bytes → data_of bytes ≡ Ok (number, parcel) → IsData bytes number parcel
unfolding data_of
data_spelled bytes parcel number fits e =
    let m = bind_ok (mark_at data_mark 0 bytes) _ (number, parcel) e in
    let mt = data_mark_takes 0 bytes m.0 fits m.1 in
    let n = bind_ok (data_number_at 4 m.0) _ (number, parcel) m.2 in
    let nt = data_number_takes 4 m.0 n.0 mt.rest_fits n.1 in
    let l = bind_ok (number_at w64 12 n.0.1) _ (number, parcel) n.2 in
    let lt = number_takes w64 (2 ^ 64) wide64 12 n.0.1 l.0 nt.0.rest_fits l.1 in
    let p = bind_ok (rest_at l.0.0 20 l.0.1) _ (number, parcel) l.2 in
    data_parts bytes m.0 parcel p.0 n.0 l.0 number mt nt lt.0 (rest_is l.0.0 20 l.0.1 p.0 p.1) (ok_is (n.0.0, p.0) (number, parcel) p.2)

pub data_read : (number : ℕ) (parcel : List ℕ) → number < no_number → length parcel < 2 ^ 64 → data_of (data_bytes number parcel) ≡ Ok (number, parcel)
unfolding data_of
data_read number parcel numbered short =
    let m = data_mark_again 0 (to_le_bytes w64 number ++ to_le_bytes w64 (length parcel) ++ parcel) in
    let n = data_number_again 4 number (to_le_bytes w64 (length parcel) ++ parcel) numbered in
    let l = number_again w64 (2 ^ 64) wide64 12 (length parcel) parcel short in
    let r = rest_again 20 parcel in
    rw m (rw n (rw l (rw r refl)))

pub parcels : (bytes parcel : List ℕ) (number : ℕ) → IsBytes bytes → length bytes < 2 ^ 64 → data_of bytes ≡ Ok (number, parcel) ↔ IsData bytes number parcel
parcels bytes parcel number fits short = (data_spelled bytes parcel number fits, back)
  where
    back : IsData bytes number parcel → data_of bytes ≡ Ok (number, parcel)
    back is =
        let size : length bytes ≡ length (data_bytes number parcel) = ap length is.spelled in
        let whole = length-append (to_le_bytes w64 (length parcel)) parcel in
        let parcel_short : length parcel < 2 ^ 64 = omega (arith, size, whole, length-append (to_le_bytes w64 number) (to_le_bytes w64 (length parcel) ++ parcel), length-append data_mark (to_le_bytes w64 number ++ to_le_bytes w64 (length parcel) ++ parcel), short) in
        ap data_of is.spelled ∙ data_read number parcel is.numbered parcel_short

empty : (xs : List ℕ) → length xs ≡ 0 → xs ≡ []
empty [] h = refl
empty (x ∷ xs) h = absurd (omega (arith, h))

receipt_parts : (offered : ℕ) (bytes m r : List ℕ) (n : ℕ × List ℕ) (number : ℕ) → Takes bytes receipt_mark m → Takes m (to_le_bytes w64 n.0) n.1 × (n.0 ≤ offered) → (n.1 ≡ r) × (length r ≡ 0) → n.0 ≡ number
    → IsReceipt offered bytes number
receipt_parts offered bytes m r n number mark numbered end is = record {
  spelled =
      mark.parts
      ∙ ap (λ (t : List ℕ). receipt_mark ++ t) (
      numbered.0.parts ∙ ap₂ (λ (k : ℕ) (t : List ℕ). to_le_bytes w64 k ++ t) is (end.0 ∙ empty r end.1) ∙ append-nil (to_le_bytes w64 number)
      );
  within = subst (λ (k : ℕ). k ≤ offered) is numbered.1;
}

pub receipt_spelled : (offered : ℕ) (bytes : List ℕ) (number : ℕ) → IsBytes bytes → receipt_of offered bytes ≡ Ok number → IsReceipt offered bytes number
unfolding receipt_of
receipt_spelled offered bytes number fits e =
    let m = bind_ok (mark_at receipt_mark 0 bytes) _ number e in
    let mt = receipt_mark_takes 0 bytes m.0 fits m.1 in
    let n = bind_ok (receipt_number_at offered 4 m.0) _ number m.2 in
    let nt = receipt_number_takes offered 4 m.0 n.0 mt.rest_fits n.1 in
    let r = bind_ok (rest_at 0 12 n.0.1) _ number n.2 in
    receipt_parts offered bytes m.0 r.0 n.0 number mt nt (rest_is 0 12 n.0.1 r.0 r.1) (ok_is n.0.0 number r.2)

receipt_again : (offered number : ℕ) → offered < 2 ^ 64 → number ≤ offered → receipt_of offered (receipt_mark ++ (to_le_bytes w64 number ++ [])) ≡ Ok number
unfolding receipt_of
receipt_again offered number lt within =
    ap (λ (r : Result (List ℕ) FrameError). r >>= numbered) (receipt_mark_again 0 (to_le_bytes w64 number ++ []))
    ∙ ap (λ (r : Result (ℕ × List ℕ) FrameError). r >>= ended) (receipt_number_again offered 4 number [] lt within)
  where
    ended : ℕ × List ℕ → Result ℕ FrameError
    ended n = rest_at 0 12 n.1 >>= (λ e. Ok n.0)

    numbered : List ℕ → Result ℕ FrameError
    numbered m = receipt_number_at offered 4 m >>= ended

pub receipt_read : (offered number : ℕ) → offered < 2 ^ 64 → number ≤ offered → receipt_of offered (receipt_bytes number) ≡ Ok number
receipt_read offered number lt within = ap (λ (t : List ℕ). receipt_of offered (receipt_mark ++ t)) (sym (append-nil (to_le_bytes w64 number))) ∙ receipt_again offered number lt within

pub receipts : (offered : ℕ) (bytes : List ℕ) (number : ℕ) → IsBytes bytes → offered < 2 ^ 64 → receipt_of offered bytes ≡ Ok number ↔ IsReceipt offered bytes number
receipts offered bytes number fits lt = (receipt_spelled offered bytes number fits, λ is. ap (receipt_of offered) is.spelled ∙ receipt_read offered number lt is.within)

pub one : (bytes p q : List ℕ) (n m : ℕ) → IsBytes bytes → length bytes < 2 ^ 64 → IsData bytes n p → IsData bytes m q → (n ≡ m) × (p ≡ q)
one bytes p q n m fits short left right =
    let first = (parcels bytes p n fits short).1 left in
    let second = (parcels bytes q m fits short).1 right in
    let same = ok_is (n, p) (m, q) (sym first ∙ second) in
    (ap (λ (x : ℕ × List ℕ). x.0) same, ap (λ (x : ℕ × List ℕ). x.1) same)
