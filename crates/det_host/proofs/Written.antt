-- Bytes that a sink takes piece by piece.
use Rattle.std.proofs.Common.{◌≡◌, ◌≤◌, ◌<◌, ◌+◌, ℕ, List, [], ◌++◌, length, take, drop, Option, Some, None, IfSome, sym, ap, ◌∙◌, append_assoc, arith}
use Rattle.std.proofs.Math.Seq.{take-add}
use Rattle.std.proofs.lemmas.List.{append-nil, nil_from_length, length-drop, take-append-drop}
use Rattle.det_host.specs.Outside.{Takes}
use Rattle.det_host.specs.Writing.{TakesPrefix}

take_long : (bytes : List ℕ) (k : ℕ) → length bytes ≤ k → take k bytes ≡ bytes
take_long bytes k le = sym (append-nil (take k bytes)) ∙ ap (λ (u : List ℕ). take k bytes ++ u) (sym (nil_from_length (drop k bytes) (omega (arith, length-drop k bytes)))) ∙ take-append-drop k bytes

-- the first k of these bytes were taken
abbrev pub TookFirst : Option (List ℕ) → Option (List ℕ) → List ℕ → ℕ → Type 0
TookFirst old new bytes k = IfSome old (λ before. new ≡ Some (before ++ take k bytes))

some_is : (before more front : List ℕ) (now new : Option (List ℕ)) → now ≡ Some (before ++ front) → Takes now new more → new ≡ Some ((before ++ front) ++ more)
some_is before more front None new e h = cc
some_is before more front (Some t) new e h = let same : t ≡ before ++ front = cc in h ∙ ap (λ (u : List ℕ). Some (u ++ more)) same

pub took_more : (old now new : Option (List ℕ)) (bytes : List ℕ) (k n : ℕ) → TookFirst old now bytes k → Takes now new (take n (drop k bytes)) → TookFirst old new bytes (k + n)
took_more None now new bytes k n h g = tt
took_more (Some before) now new bytes k n h g =
    some_is before (take n (drop k bytes)) (take k bytes) now new h g
    ∙ ap (λ (u : List ℕ). Some u) (append_assoc before (take k bytes) (take n (drop k bytes)) ∙ ap (λ (u : List ℕ). before ++ u) (sym (take-add k n bytes)))

pub took_nothing : (old now new : Option (List ℕ)) (bytes : List ℕ) (k : ℕ) → TookFirst old now bytes k → Takes now new [] → TookFirst old new bytes k
took_nothing None now new bytes k h g = tt
took_nothing (Some before) now new bytes k h g = some_is before [] (take k bytes) now new h g ∙ ap (λ (u : List ℕ). Some u) (append-nil (before ++ take k bytes))

pub took_prefix : (old new : Option (List ℕ)) (bytes : List ℕ) (k : ℕ) → TookFirst old new bytes k → TakesPrefix old new bytes
took_prefix None new bytes k h = tt
took_prefix (Some before) new bytes k h = (k, h)

pub took_all : (old new : Option (List ℕ)) (bytes : List ℕ) (k : ℕ) → length bytes ≤ k → TookFirst old new bytes k → Takes old new bytes
took_all None new bytes k le h = tt
took_all (Some before) new bytes k le h = h ∙ ap (λ (u : List ℕ). Some (before ++ u)) (take_long bytes k le)

pub stopped_at : (old new : Option (List ℕ)) (bytes : List ℕ) (k : ℕ) → k < length bytes → TookFirst old new bytes k → (n : ℕ) × ((n < length bytes) × Takes old new (take n bytes))
stopped_at None new bytes k lt h = (k, (lt, tt))
stopped_at (Some before) new bytes k lt h = (k, (lt, h))
