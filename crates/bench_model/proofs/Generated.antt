-- The two segments of the image that is made from a number are those of an image.
use Rattle.std.proofs.Common.{◌≡◌, ℕ, ◌-◌, ◌*◌, ◌≤◌, List, [], ◌∷◌, ◌++◌, length, replicate, refl, arith, length-append}
use Rattle.std.specs.Int.{w32, to_le_bytes}
use Rattle.std.proofs.lemmas.List.{length-replicate}
use Rattle.std.proofs.lemmas.List.FromFn.{length-map-range_with_len}
use Rattle.image_model.specs.Image.{AreSegments}
use Rattle.bench_model.specs.Generated.{threads, turns, start, sixteen, of_threads, data_words, words_bytes, code_segment, data_segment}

pub length-sixteen : (words : List ℕ) → length words ≤ 16 → length (sixteen words) ≡ 16
length-sixteen words few = omega (arith, length-append words (replicate (16 - length words) 0), length-replicate {A = ℕ} (16 - length words) 0)

length-words_bytes : (words : List ℕ) → length (words_bytes words) ≡ 4 * length words
length-words_bytes [] = refl
length-words_bytes (w ∷ ws) = omega (arith, length-append (to_le_bytes w32 w) (words_bytes ws), length-words_bytes ws)

length-of_threads : (seed : ℕ) (f : ℕ → ℕ) → length (sixteen (of_threads seed f)) ≡ 16
length-of_threads seed f = length-sixteen (of_threads seed f) (omega (arith, length-map-range_with_len f 0 (threads seed)))

length-data_words : (seed : ℕ) → length (data_words seed) ≡ 64
length-data_words seed =
    let all_turns = sixteen (of_threads seed (turns seed)) in
    let all_starts = sixteen (of_threads seed (start seed)) in
    omega (arith, length-append all_turns (all_starts ++ sixteen []), length-append all_starts (sixteen []), length-of_threads seed (turns seed), length-of_threads seed (start seed))

pub are_segments : (seed : ℕ) → AreSegments 0 (code_segment ∷ data_segment seed ∷ [])
are_segments seed =
    let counted : length (words_bytes (data_words seed)) ≡ 256 = omega (arith, length-words_bytes (data_words seed), length-data_words seed) in (
      record { order = omega arith; permission = omega arith; filled = omega arith; short = omega arith; range = omega arith },
      (record { order = omega arith; permission = omega arith; filled = omega arith; short = omega arith; range = omega arith }, tt),
    )
