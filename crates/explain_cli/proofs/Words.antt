-- Words that ask for a text, and words that ask for none.
use Rattle.std.proofs.Common.{◌≡◌, Bool, true, false, ◌||◌, List, ℕ, [], ◌∷◌, ◌-◌, length, map, Option, Some, None, codes, bytes_eq, option_map, option_and_then, slice_get, if◌then◌else◌, refl, sym, ap, ◌∙◌, arith}
use Rattle.std.specs.List.{last_or}
use Rattle.std.proofs.lemmas.Slice.Eq.{bytes_eq-Decides}
use Rattle.explain_cli.specs.About.{help_text, text_asked, text_for, version_text}

-- ---- a word

differs : (b : Bool) → (b ≡ true → ⊥) → b ≡ false
differs true h = absurd (h refl)
differs false h = refl

other : (word known : List ℕ) → (word ≡ known → ⊥) → bytes_eq word known ≡ false
other word known h = differs (bytes_eq word known) (λ e. h ((bytes_eq-Decides word known).0 e))

chosen : (a b c : Bool) → a ≡ false → b ≡ false → c ≡ false → None ≡ (if a || b then Some help_text else if c then Some version_text else None)
chosen true b c x y z = cc
chosen false true c x y z = cc
chosen false false true x y z = cc
chosen false false false x y z = refl

-- each other word asks for none
pub no_text : (word : List ℕ) → (word ≡ codes "-h" → ⊥) → (word ≡ codes "--help" → ⊥) → (word ≡ codes "--version" → ⊥) → None ≡ text_for word
unfolding text_for
no_text word h help version = chosen _ _ _ (other word _ h) (other word _ help) (other word _ version)

-- ---- the last word

of_last : {A : Type 0} (f : A → List ℕ) (x : A) (xs : List A) → option_map f (slice_get (x ∷ xs) (length xs)) ≡ last_or (Some (f x)) (map f xs)
of_last f x [] = refl
of_last f x (y ∷ xs) = of_last f y xs

last_of : {A : Type 0} (f : A → List ℕ) (xs : List A) → option_map f (slice_get xs (length xs - 1)) ≡ last_or None (map f xs)
last_of f [] = refl
last_of f (x ∷ xs) = ap (λ n. option_map f (slice_get (x ∷ xs) n)) (omega arith) ∙ of_last f x xs

-- with no word nothing is asked for
pub none_asked : {A : Type 0} (f : A → List ℕ) (words : List A) → length words ≡ 0 → None ≡ text_asked (map f words)
unfolding text_asked
none_asked f [] h = refl
none_asked f (x ∷ words) h = absurd (omega (arith, h))

-- the last of the words after the first decides
pub last_asked : {A : Type 0} (f : A → List ℕ) (words : List A) (first : A) (rest : List A) (last : Option A) → words ≡ first ∷ rest → last ≡ slice_get rest (length rest - 1) → option_and_then text_for (option_map f last) ≡ text_asked (map f words)
unfolding text_asked
last_asked f words first rest last split is = ap (λ o. option_and_then text_for (option_map f o)) is ∙ ap (option_and_then text_for) (last_of f rest) ∙ sym (ap (λ ws. text_asked (map f ws)) split)
