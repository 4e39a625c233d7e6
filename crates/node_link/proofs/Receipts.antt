-- What a sender keeps behind a receipt.
use Rattle.std.proofs.Common.{◌≡◌, ℕ, zero, suc, ◌+◌, ◌-◌, ◌<◌, List, [], ◌∷◌, ◌++◌, drop, take, length, get_or, Ok, refl, sym, ap, ap₂, ◌∙◌, arith}
use Rattle.std.specs.Prelude.{max}
use Rattle.std.specs.Global.{Vec}
use Rattle.link_model.specs.Reading.{receipt_of}
use Rattle.link_model.specs.Ends.{Sending, with_receipt}
use Rattle.link_model.proofs.Fields.{ok_is}
use Rattle.node_link.specs.Offers.{kept_of}

pub number_is : (a b : ℕ) (frame : List ℕ) (n number : ℕ) → receipt_of a frame ≡ Ok number → a ≡ b → receipt_of b frame ≡ Ok n → number ≡ n
number_is a b frame n number read same wanted = ok_is number n (sym read ∙ ap (λ (o : ℕ). receipt_of o frame) same ∙ wanted)

kept_behind : (k : ℕ) (ps : List (Vec ℕ)) → kept_of (drop k ps) ≡ drop k (kept_of ps)
kept_behind zero ps = refl
kept_behind (suc k) [] = refl
kept_behind (suc k) (p ∷ ps) = kept_behind k ps

pub receipt_taken : (s : Sending) (base number n : ℕ) (ps qs : List (Vec ℕ)) → kept_of ps ≡ s.kept → base ≡ s.base → base < number → qs ≡ drop (number - base) ps → number ≡ n
    → record { base = number; kept = kept_of qs } ≡ with_receipt n s
receipt_taken s base number n ps qs kept from above left is =
    let higher : number ≡ max s.base n = omega (arith, from, above, is) in
    let rest : kept_of qs ≡ drop (n - s.base) s.kept =
    ap kept_of left ∙ kept_behind (number - base) ps ∙ ap₂ (λ (k : ℕ) (xs : List (List ℕ)). drop k xs) (ap₂ (λ (i j : ℕ). i - j) is from) kept in
    λ i. record { base = higher i; kept = rest i }

-- one parcel more is copied
more : (xs : List (List ℕ)) (ps : List (Vec ℕ)) (p : Vec ℕ) (i : ℕ) → xs ≡ take i (kept_of ps) → i < length ps → p ≡ get_or ps i p → xs ++ p.items ∷ [] ≡ take (i + 1) (kept_of ps)
more xs [] p i so_far below at = absurd (omega (arith, below))
more xs (q ∷ ps) p zero so_far below at = ap (λ (ys : List (List ℕ)). ys ++ p.items ∷ []) so_far ∙ ap (λ (r : Vec ℕ). r.items ∷ []) at
more xs (q ∷ ps) p (suc i) so_far below at =
    let next : suc i + 1 ≡ suc (i + 1) = omega arith in
    ap (λ (ys : List (List ℕ)). ys ++ p.items ∷ []) so_far ∙ ap (λ (ys : List (List ℕ)). q.items ∷ ys) (more (take i (kept_of ps)) ps p i refl (omega (arith, below)) at)
    ∙ ap (λ (n : ℕ). take n (kept_of (q ∷ ps))) (sym next)

behind_all : (qs : List (Vec ℕ)) (v : Vec ℕ) → kept_of (qs ++ v ∷ []) ≡ kept_of qs ++ v.items ∷ []
behind_all [] v = refl
behind_all (q ∷ qs) v = ap (λ (ys : List (List ℕ)). q.items ∷ ys) (behind_all qs v)

pub copied_more : (ps old new : List (Vec ℕ)) (p v : Vec ℕ) (i : ℕ) → kept_of old ≡ take i (kept_of ps) → i < length ps → p ≡ get_or ps i p → v.items ≡ p.items → new ≡ old ++ v ∷ []
    → kept_of new ≡ take (i + 1) (kept_of ps)
copied_more ps old new p v i so_far below at same pushed =
    ap kept_of pushed ∙ behind_all old v ∙ ap (λ (xs : List ℕ). kept_of old ++ xs ∷ []) same ∙ more (kept_of old) ps p i so_far below at
