-- A part of a file's content that is read whole.
use Rattle.std.proofs.Common.{◌≡◌, ℕ, ◌-◌, min, List, [], ◌∷◌, ◌++◌, length, take, drop, Result, Ok, Err, Option, refl, sym, ◌∙◌, ap, arith, subst, length-drop, length-take}
use Rattle.std.proofs.lemmas.List.{take_min}
use Rattle.std.proofs.Math.Seq.{take-length}
use Rattle.std.specs.Prelude.{Vec}
use Rattle.std.specs.Global.{Global}
use Rattle.file_model.specs.declared.FileError.{FileError}
use Rattle.file_model.specs.File.{File}
use Rattle.file_model.specs.Operations.{Entry, usable, get, length_of, ◌>>=◌}
use Rattle.file_image.specs.Answers.{buffer_after}
use Rattle.space_mem.specs.Held.{Held}
use Rattle.space_model.specs.Files.{files_in}
use Rattle.memory_files.specs.Answers.{HasLength, IsFound, IsPart}

none_left : (p xs : List ℕ) → length p ≡ length xs → p ++ drop (length p) xs ≡ p
none_left [] [] e = refl
none_left [] (x ∷ xs) e = absurd (omega arith)
none_left (y ∷ p) [] e = absurd (omega arith)
none_left (y ∷ p) (x ∷ xs) e = ap (λ l. y ∷ l) (none_left p xs (omega arith))

-- a buffer of the length of what is read is filled
pub whole_part : (r : Result (List ℕ) FileError) (old new : List ℕ) (n : ℕ) → HasLength r n → length old ≡ n → new ≡ buffer_after r old → r ≡ Ok new
whole_part (Ok p) old new n long size is = ap (λ (l : List ℕ). Ok l) (sym (is ∙ none_left p old (long ∙ sym size)))
whole_part (Err e) old new n long size is = absurd long

abbrev length_in : Result Entry FileError → Result ℕ FileError
length_in u = u >>= (λ (e : Entry). Ok (length e.file.content))

abbrev part_in : Result Entry FileError → ℕ → ℕ → Result (List ℕ) FileError
part_in u offset count = u >>= (λ (e : Entry). Ok (take count (drop offset e.file.content)))

-- how many bytes there are from an offset on
rest_length : (xs : List ℕ) (offset count l n : ℕ) → l ≡ length xs → n ≡ min count (l - offset) → n ≡ min count (length (drop offset xs))
rest_length xs offset count l n e is = is ∙ ap (λ k. min count (k - offset)) e ∙ ap (min count) (sym (length-drop offset xs))

part_long : (u : Result Entry FileError) (offset count l n : ℕ) → length_in u ≡ Ok l → n ≡ min count (l - offset) → HasLength (part_in u offset n) n
part_long (Ok e) offset count l n long is =
    let same : l ≡ length e.file.content = cc in
    let rest : n ≡ min count (length (drop offset e.file.content)) = rest_length e.file.content offset count l n same is in
    let taken : length (take n (drop offset e.file.content)) ≡ min n (length (drop offset e.file.content)) = length-take n (drop offset e.file.content) in
    omega arith
part_long (Err f) offset count l n long is = cc

part_same : (u : Result Entry FileError) (offset count l n : ℕ) → length_in u ≡ Ok l → n ≡ min count (l - offset) → part_in u offset count ≡ part_in u offset n
part_same (Ok e) offset count l n long is =
    let same : l ≡ length e.file.content = cc in
    ap (λ (xs : List ℕ). Ok xs) (sym (take_min count (drop offset e.file.content)) ∙ ap (λ k. take k (drop offset e.file.content)) (sym (rest_length e.file.content offset count l n same is)))
part_same (Err f) offset count l n long is = refl

part_none : (u : Result Entry FileError) (offset count : ℕ) (f : FileError) → length_in u ≡ Err f → part_in u offset count ≡ Err f
part_none (Ok e) offset count f is = cc
part_none (Err g) offset count f is = cc

-- as many bytes as there are, at most those that are wanted
pub get_long : (slots : List (Option File)) (name : List ℕ) (offset count l n : ℕ) → length_of slots name ≡ Ok l → n ≡ min count (l - offset) → HasLength (get slots name offset n) n
get_long slots name offset count l n long is = part_long (usable slots name) offset count l n long is

pub get_part : (slots : List (Option File)) (name : List ℕ) (offset count l n : ℕ) (v : Vec ℕ Global) → length_of slots name ≡ Ok l → n ≡ min count (l - offset) → get slots name offset n ≡ Ok v.items → IsPart (get slots name offset count) (Ok v)
get_part slots name offset count l n v long is read = subst (λ r. IsPart r (Ok v)) (sym (part_same (usable slots name) offset count l n long is ∙ read)) refl

found_in : (u : Result Entry FileError) (offset count l : ℕ) → length_in u ≡ Ok l → IsFound (part_in u offset count)
found_in (Ok e) offset count l long = tt
found_in (Err f) offset count l long = cc

pub get_found : (slots : List (Option File)) (name : List ℕ) (offset count l : ℕ) → length_of slots name ≡ Ok l → IsFound (get slots name offset count)
get_found slots name offset count l long = found_in (usable slots name) offset count l long

pub get_none : (slots : List (Option File)) (name : List ℕ) (offset count : ℕ) (f : FileError) → length_of slots name ≡ Err f → IsPart (get slots name offset count) (Err f)
get_none slots name offset count f is = subst (λ r. IsPart r (Err f)) (sym (part_none (usable slots name) offset count f is)) refl

-- what a call leaves in a buffer of the length of what it reads
pub part_read : (r : Held → ℕ → Result (List ℕ) FileError) (m n : Held) (old new : List ℕ) (count : ℕ) → n ≡ m → length old ≡ count → HasLength (r m count) count → new ≡ buffer_after (r n (length old)) old → r m count ≡ Ok new
part_read r m n old new count same size long is =
    whole_part (r m count) old new count long size (is ∙ ap (λ k. buffer_after k old) (ap (λ (h : Held). r h (length old)) same ∙ ap (r m) size))

-- the bytes of a vector whose slice was written
pub written_back : (items out : List ℕ) (len : ℕ) → length items ≡ len → length out ≡ len → out ≡ take len (out ++ drop (length out) items)
written_back items out len size long = sym (ap (take len) (none_left out items (long ∙ sym size)) ∙ ap (λ k. take k out) (sym long) ∙ take-length out)

-- how long a file is, by an equal memory
pub length_known : (m n : Held) (name : List ℕ) (r x : Result ℕ FileError) → n ≡ m → r ≡ length_of (files_in n.memory) name → r ≡ x → length_of (files_in m.memory) name ≡ x
length_known m n name r x same told is = ap (λ (h : Held). length_of (files_in h.memory) name) (sym same) ∙ sym told ∙ is
