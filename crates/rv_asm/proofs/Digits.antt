-- The value of digits, of which no more than a bound is kept.
use Rattle.std.proofs.Common.{◌≡◌, ℕ, zero, suc, ◌+◌, ◌<◌, ◌≤◌, ◌^◌, List, [], ◌∷◌, length, get_or, drop, refl, sym, ◌∙◌, ap, arith, Option, Some, None, drop-cons, add-one}
use Rattle.std.specs.Prelude.{option_map, option_and_then}
use Rattle.source_model.specs.declared.mnemonic.Base.{Base}
use Rattle.source_model.specs.declared.mnemonic.Base.TheVariants.{Decimal, Hexadecimal}
use Rattle.source_model.specs.Number.{digit_of, times, value_from}
use Rattle.rv_asm.specs.Gives.{clamp}

scaled : (base : Base) (m n d : ℕ) → clamp m ≡ clamp n → clamp (times base m + d) ≡ clamp (times base n + d)
scaled Decimal m n d h = omega arith
scaled Hexadecimal m n d h = omega arith

mutual_more : (base : Base) (bs : List ℕ) (m n : ℕ) (digit : Option ℕ) → clamp m ≡ clamp n → ((i j : ℕ) → clamp i ≡ clamp j → option_map clamp (value_from base i bs) ≡ option_map clamp (value_from base j bs))
    → option_map clamp (option_and_then (λ d. value_from base (times base m + d) bs) digit) ≡ option_map clamp (option_and_then (λ d. value_from base (times base n + d) bs) digit)
mutual_more base bs m n None h more = refl
mutual_more base bs m n (Some d) h more = more (times base m + d) (times base n + d) (scaled base m n d h)

pub same-capped : (base : Base) (text : List ℕ) (m n : ℕ) → clamp m ≡ clamp n → option_map clamp (value_from base m text) ≡ option_map clamp (value_from base n text)
unfolding value_from
same-capped base [] m n h = ap (λ (k : ℕ). Some k) h
same-capped base (b ∷ bs) m n h = mutual_more base bs m n (digit_of base b) h (λ i j e. same-capped base bs i j e)

digit-step : (base : Base) (text : List ℕ) (i v : ℕ) → i < length text → value_from base v (drop i text) ≡ option_and_then (λ d. value_from base (times base v + d) (drop (suc i) text)) (digit_of base (get_or text i 0))
unfolding value_from
digit-step base text i v lt = rw (drop-cons text i 0) refl

-- a digit more
pub goes-on : (base : Base) (text : List ℕ) (i v d w : ℕ) → i < length text → digit_of base (get_or text i 0) ≡ Some d → w ≡ clamp (times base v + d)
    → option_map clamp (value_from base v (drop i text)) ≡ option_map clamp (value_from base 0 text) → option_map clamp (value_from base w (drop (i + 1) text)) ≡ option_map clamp (value_from base 0 text)
goes-on base text i v d w lt is e h =
    let next : option_map clamp (value_from base v (drop i text)) ≡ option_map clamp (value_from base (times base v + d) (drop (suc i) text)) = rw (digit-step base text i v lt, is) refl in
    let same : clamp w ≡ clamp (times base v + d) = omega arith in
    rw add-one (same-capped base (drop (suc i) text) w (times base v + d) same ∙ (sym next ∙ h))

-- no digit
pub no-digit : (base : Base) (text : List ℕ) (i v : ℕ) → i < length text → digit_of base (get_or text i 0) ≡ None
    → option_map clamp (value_from base v (drop i text)) ≡ option_map clamp (value_from base 0 text) → None ≡ option_map clamp (value_from base 0 text)
no-digit base text i v lt is h =
    let next : option_map clamp (value_from base v (drop i text)) ≡ None = rw (digit-step base text i v lt, is) refl in
    sym next ∙ h

drop-past : (text : List ℕ) (i : ℕ) → length text ≤ i → drop i text ≡ []
drop-past [] zero h = refl
drop-past [] (suc i) h = refl
drop-past (b ∷ bs) zero h = absurd (omega (arith, h))
drop-past (b ∷ bs) (suc i) h = drop-past bs i (omega (arith, h))

-- no more digits
pub is-done : (base : Base) (text : List ℕ) (i v : ℕ) → length text ≤ i → v ≤ 2 ^ 40
    → option_map clamp (value_from base v (drop i text)) ≡ option_map clamp (value_from base 0 text) → Some v ≡ option_map clamp (value_from base 0 text)
unfolding value_from
is-done base text i v le small h =
    let past : drop i text ≡ [] = drop-past text i le in
    let kept : v ≡ clamp v = omega arith in
    let one : option_map clamp (value_from base v (drop i text)) ≡ Some (clamp v) = rw past refl in
    ap (λ (k : ℕ). Some k) kept ∙ (sym one ∙ h)
