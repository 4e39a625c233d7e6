-- The parts of a line: what follows a word, and pairs of digits.
use Rattle.std.proofs.Common.{◌≡◌, ℕ, Bool, true, false, cond, List, [], ◌∷◌, ◌++◌, refl, ap, ◌∙◌}
use Rattle.std.specs.Prelude.{◌==◌, ◌&&◌, Option, Some, None, option_map}
use Rattle.std.proofs.lemmas.Bool.{and_parts, and_from, ltb-true, lt-ltb, eqb-true, eq-eqb}
use Rattle.script_model.specs.Script.{ArePairs, byte_of}
use Rattle.script_model.specs.Reading.{after, is_hex_digit, bytes_of}

-- ---- what follows a word

pub after_word : (word rest : List ℕ) → after word (word ++ rest) ≡ Some rest
unfolding after
after_word [] rest = refl
after_word (w ∷ ws) rest = rw (eq-eqb w w refl) (after_word ws rest)

pub is_after : (word line rest : List ℕ) → after word line ≡ Some rest → line ≡ word ++ rest
unfolding after
is_after [] line rest e = cc
is_after (w ∷ ws) [] rest e = absurd cc
is_after (w ∷ ws) (b ∷ bs) rest e = is_after_byte w ws b bs rest (b == w) refl e (is_after ws bs rest)
  where
    is_after_byte : (w : ℕ) (ws : List ℕ) (b : ℕ) (bs rest : List ℕ) (t : Bool) → (b == w) ≡ t → cond t (after ws bs) None ≡ Some rest → (after ws bs ≡ Some rest → bs ≡ ws ++ rest) → b ∷ bs ≡ w ∷ (ws ++ rest)
    is_after_byte w ws b bs rest true same e more = let first = eqb-true b w same in let others = more e in cc
    is_after_byte w ws b bs rest false same e more = absurd cc

-- ---- pairs of digits

pub pairs_take : (digits bytes : List ℕ) → bytes_of digits ≡ Some bytes → ArePairs digits bytes
unfolding bytes_of
pairs_take [] [] e = tt
pairs_take [] (b ∷ bytes) e = absurd cc
pairs_take (high ∷ []) bytes e = absurd cc
pairs_take (high ∷ low ∷ digits) bytes e = pair_takes high low digits bytes (is_hex_digit high && is_hex_digit low) refl (bytes_of digits) refl e (pairs_take digits)
  where
    pair_takes : (high low : ℕ) (digits bytes : List ℕ) (t : Bool) → (is_hex_digit high && is_hex_digit low) ≡ t → (o : Option (List ℕ)) → bytes_of digits ≡ o
        → cond t (option_map (λ bs. byte_of high low ∷ bs) o) None ≡ Some bytes → ((bs : List ℕ) → bytes_of digits ≡ Some bs → ArePairs digits bs) → ArePairs (high ∷ low ∷ digits) bytes
    pair_takes high low digits bytes false t o is e more = absurd cc
    pair_takes high low digits bytes true t None is e more = absurd cc
    pair_takes high low digits [] true t (Some bs) is e more = absurd cc
    pair_takes high low digits (b ∷ bytes) true t (Some bs) is e more =
        let both = and_parts (is_hex_digit high) (is_hex_digit low) t in
        let same : bs ≡ bytes = cc in
        (ltb-true _ _ both.0, ltb-true _ _ both.1, cc, more bytes (is ∙ ap (λ (x : List ℕ). Some x) same))

pub pairs_again : (digits bytes : List ℕ) → ArePairs digits bytes → bytes_of digits ≡ Some bytes
unfolding bytes_of
pairs_again [] [] h = refl
pairs_again [] (b ∷ bytes) h = absurd h
pairs_again (high ∷ []) [] h = absurd h
pairs_again (high ∷ []) (b ∷ bytes) h = absurd h
pairs_again (high ∷ low ∷ digits) [] h = absurd h
pairs_again (high ∷ low ∷ digits) (b ∷ bytes) h =
    let both : (is_hex_digit high && is_hex_digit low) ≡ true = and_from _ _ (lt-ltb _ _ h.0) (lt-ltb _ _ h.1) in
    rw (both, pairs_again digits bytes h.3, h.2) refl
