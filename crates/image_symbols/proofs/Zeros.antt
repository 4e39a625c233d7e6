-- What stands before the first 0 of a text.
use Rattle.std.proofs.Common.{◌≡◌, ℕ, ◌<◌, true, false, List, length, get_or, take, sym, ◌∙◌, ap, arith}
use Rattle.std.specs.Prelude.{◌==◌}
use Rattle.std.specs.List.{before_first}
use Rattle.std.proofs.Math.Seq.{take-length}
use Rattle.std.proofs.lemmas.List.Sums.{position_or_len_is}

-- no 0 stands before this place
abbrev pub NoneBelow : List ℕ → ℕ → Type 0
NoneBelow text i = (k : ℕ) → k < i → (get_or text k 0 == 0) ≡ false

pub before_this : (text : List ℕ) (i : ℕ) → NoneBelow text i → i < length text → (get_or text i 0 == 0) ≡ true → take i text ≡ before_first (λ b. b == 0) text
before_this text i none lt here = ap (λ (k : ℕ). take k text) (sym (position_or_len_is (λ b. b == 0) text i 0 (omega arith) none (λ _. here)))

pub all_of_it : (text : List ℕ) → NoneBelow text (length text) → text ≡ before_first (λ b. b == 0) text
all_of_it text none = sym (take-length text) ∙ ap (λ (k : ℕ). take k text) (sym (position_or_len_is (λ b. b == 0) text (length text) 0 (omega arith) none (λ lt. absurd (omega (arith, lt)))))
