-- The data of the image that is made from a number, as far as the threads have their words.
use Rattle.std.proofs.Common.{◌≡◌, ℕ, suc, ◌+◌, ◌-◌, ◌*◌, ◌<◌, ◌≤◌, List, [], ◌∷◌, ◌++◌, length, map, replicate, refl, sym, ◌∙◌, ap, arith, append_assoc, length-append}
use Rattle.std.specs.List.{range_with_len}
use Rattle.std.proofs.lemmas.List.{set-append_left, set-append_right}
use Rattle.std.proofs.lemmas.List.FromFn.{length-map-range_with_len, map-range_with_len_more}
use Rattle.std.proofs.Math.ListN.{set}
use Rattle.std.proofs.Math.Seq.{set-append_seam}
use Rattle.bench_model.proofs.Generated.{length-sixteen}
use Rattle.bench_model.specs.Generated.{number, next, threads, turns, start, sixteen, data_words}

-- ---- groups of sixteen words

set-sixteen : (words : List ℕ) (n word : ℕ) → length words ≡ n → n < 16 → set (sixteen words) n word ≡ sixteen (words ++ word ∷ [])
set-sixteen words n word counted few =
    let one : 16 - length words ≡ suc (15 - n) = omega arith in
    let rest : 16 - length (words ++ word ∷ []) ≡ 15 - n = omega (arith, length-append words (word ∷ [])) in
    rw (one, rest, ← counted) (set-append_seam words 0 (replicate (15 - length words) 0) word ∙ sym (append_assoc words (word ∷ []) (replicate (15 - length words) 0)))

-- the word at 16 + k is in the second group
set-second : (a b c : List ℕ) (k word : ℕ) → length a ≡ 16 → k < length b → set (a ++ (b ++ c)) (16 + k) word ≡ a ++ (set b k word ++ c)
set-second a b c k word counted few =
    let at : 16 + k - 16 ≡ k = omega arith in
    set-append_right a (b ++ c) 16 (16 + k) word counted (omega arith) ∙ rw at (ap (λ x. a ++ x) (set-append_left b c k word few))

set-third : (a b c d : List ℕ) (k word : ℕ) → length a ≡ 16 → length b ≡ 16 → k < length c → set (a ++ (b ++ (c ++ d))) (32 + k) word ≡ a ++ (b ++ (set c k word ++ d))
set-third a b c d k word counted next_counted few =
    let at : 32 + k - 16 ≡ 16 + k = omega arith in
    set-append_right a (b ++ (c ++ d)) 16 (32 + k) word counted (omega arith) ∙ rw at (ap (λ x. a ++ x) (set-second b c d k word next_counted few))

-- ---- the words of the first threads

-- a word for each of so many threads, and zeros
unfoldable pub words_of : (ℕ → ℕ) → ℕ → List ℕ
words_of f done = sixteen (map f (range_with_len 0 done))

words-counted : (f : ℕ → ℕ) (done : ℕ) → done ≤ 16 → length (words_of f done) ≡ 16
unfolding words_of
words-counted f done few = length-sixteen (map f (range_with_len 0 done)) (omega (arith, length-map-range_with_len f 0 done))

words-more : (f : ℕ → ℕ) (done : ℕ) → done < 16 → set (words_of f done) done (f done) ≡ words_of f (done + 1)
unfolding words_of
words-more f done few = set-sixteen (map f (range_with_len 0 done)) done (f done) (length-map-range_with_len f 0 done) few ∙ ap sixteen (sym (map-range_with_len_more f 0 done done (omega arith)))

-- ---- the data

-- how many threads there are, the turns and the starts of the first ones, and room
unfoldable pub data_so_far : ℕ → ℕ → ℕ → List ℕ
data_so_far seed count done = sixteen (count ∷ []) ++ (words_of (turns seed) done ++ (words_of (start seed) done ++ sixteen []))

pub data-begins : (seed count : ℕ) → set (replicate 64 0) 0 count ≡ data_so_far seed count 0
unfolding data_so_far words_of
data-begins seed count = refl

pub data-more : (seed count done : ℕ) → done < 16 → set (set (data_so_far seed count done) (16 + done) (turns seed done)) (32 + done) (start seed done) ≡ data_so_far seed count (done + 1)
unfolding data_so_far
data-more seed count done few =
    let all : length (words_of (turns seed) done) ≡ 16 = words-counted (turns seed) done (omega arith) in
    let all_more : length (words_of (turns seed) (done + 1)) ≡ 16 = words-counted (turns seed) (done + 1) (omega arith) in
    let all_starts : length (words_of (start seed) done) ≡ 16 = words-counted (start seed) done (omega arith) in
    let turn = set-second (sixteen (count ∷ [])) (words_of (turns seed) done) (words_of (start seed) done ++ sixteen []) done (turns seed done) refl (omega arith) in
    let begin = set-third (sixteen (count ∷ [])) (words_of (turns seed) (done + 1)) (words_of (start seed) done) (sixteen []) done (start seed done) refl all_more (omega arith) in
    rw (turn, words-more (turns seed) done few, begin, words-more (start seed) done few) refl

pub data-ends : (seed : ℕ) → data_so_far seed (threads seed) (threads seed) ≡ data_words seed
unfolding data_so_far words_of
data-ends seed = refl

-- ---- the numbers

pub number-begins : (seed : ℕ) → seed ≡ number seed (2 * 0)
unfolding number
number-begins seed = refl

number-next : (seed at : ℕ) → next (number seed at) ≡ number seed (suc at)
unfolding number
number-next seed at = refl

pub number-more : (seed at next_at : ℕ) → at + 1 ≡ next_at → next (number seed at) ≡ number seed next_at
number-more seed at next_at counted =
    let one : suc at ≡ next_at = omega arith in
    rw (← one) (number-next seed at)
