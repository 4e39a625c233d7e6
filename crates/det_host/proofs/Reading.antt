-- What was consumed piece by piece of a reader that tells what it has left, and what a load of a file then answers.
use Rattle.std.proofs.Common.{◌≡◌, ℕ, List, [], ◌++◌, length, Option, Some, None, IfSome, refl, sym, ap, subst, ◌∙◌, append_assoc, length-append, ◌≤◌, ◌<◌, ◌+◌, ◌∷◌, Result, Ok, Err, inr, arith}
use Rattle.std.proofs.lemmas.List.{append-nil}
use Rattle.std.specs.Io.KnownBytes.{Consumes, Keeps, IsAtEnd, ReadConsumes}
use Rattle.det_host.proofs.Sending.{kept_still}
use Rattle.det_host.specs.Outside.{Request, Loads, Asks}
use Rattle.det_host.specs.FileReading.{Opens, LosesAtMost, ReadsWithin}
use Rattle.det_host.specs.declared.loader.LoadError.{LoadError}
use Rattle.det_host.specs.declared.loader.LoadError.TheVariants.{Failed, TooLarge, Memory}

pub nothing_consumed : (known : Option (List ℕ)) → Consumes known known []
nothing_consumed None = tt
nothing_consumed (Some xs) = refl

pub consumed_more : (old mid new : Option (List ℕ)) (a b : List ℕ) → Consumes old mid a → Consumes mid new b → Consumes old new (a ++ b)
consumed_more None mid new a b h g = tt
consumed_more (Some xs) None new a b h g = absurd h
consumed_more (Some xs) (Some ys) None a b h g = absurd g
consumed_more (Some xs) (Some ys) (Some zs) a b h g = h ∙ ap (λ (u : List ℕ). a ++ u) g ∙ sym (append_assoc a b zs)

pub consumed_still : (old mid new : Option (List ℕ)) (a : List ℕ) → Consumes old mid a → Keeps mid new → Consumes old new a
consumed_still None mid new a h g = tt
consumed_still (Some xs) None new a h g = absurd h
consumed_still (Some xs) (Some ys) None a h g = absurd g
consumed_still (Some xs) (Some ys) (Some zs) a h g = h ∙ ap (λ (u : List ℕ). a ++ u) (sym g)

pub consumed_all : (old new : Option (List ℕ)) (a : List ℕ) → Consumes old new a → IsAtEnd new → IfSome old (λ xs. a ≡ xs)
consumed_all None new a h g = tt
consumed_all (Some xs) None a h g = absurd h
consumed_all (Some xs) (Some ys) a h g = sym (h ∙ ap (λ (u : List ℕ). a ++ u) g ∙ append-nil a)

pub consumed_at_most : (old mid new : Option (List ℕ)) (a : List ℕ) (k most : ℕ) → length a + k ≤ most → Consumes old mid a → LosesAtMost k mid new → LosesAtMost most old new
consumed_at_most old mid new a k most le h (b, g) = (a ++ b, (omega (arith, length-append a b, g.0), consumed_more old mid new a b h g.1))

pub consumed_beyond : (old new : Option (List ℕ)) (a : List ℕ) (room : ℕ) → room < length a → Consumes old new a → IfSome old (λ xs. room < length xs)
consumed_beyond None new a room lt h = tt
consumed_beyond (Some xs) None a room lt h = absurd h
consumed_beyond (Some xs) (Some ys) a room lt h = subst (λ (t : List ℕ). room < length t) (sym h) (omega (arith, length-append a ys))

-- a stop that is not for the size says nothing of a file's bytes
pub stopped : {V : Type 0} (items : V → List ℕ) (told : Option (List ℕ)) (room : ℕ) (e : LoadError) → ((read : ℕ) → e ≡ TooLarge read → ⊥) → Loads items told room (Err e)
stopped items told room Failed h = tt
stopped items told room (TooLarge read) h = absurd (h read refl)
stopped items told room Memory h = tt

told_opened : {V : Type 0} (items : V → List ℕ) (bytes : List ℕ) (left : Option (List ℕ)) (room : ℕ) (r : Result V LoadError) → left ≡ Some bytes → Loads items left room r
    → Loads items (Some bytes) room r
told_opened items bytes left room r o h = subst (λ (t : Option (List ℕ)). Loads items t room r) o h

-- what holds of the bytes that are left of a file that was just opened holds of the bytes that it is told to have
pub loads_opened : {V : Type 0} (items : V → List ℕ) (held left : Option (List ℕ)) (room : ℕ) (r : Result V LoadError) → Opens held left → Loads items left room r
    → Loads items held room r
loads_opened items None left room (Ok v) o h = (h.0, tt)
loads_opened items None left room (Err Failed) o h = tt
loads_opened items None left room (Err (TooLarge read)) o h = (h.0, tt)
loads_opened items None left room (Err Memory) o h = tt
loads_opened items (Some bytes) left room r o h = told_opened items bytes left room r o h

loses_opened : (held left new : Option (List ℕ)) (most : ℕ) → Opens held left → LosesAtMost most left new → LosesAtMost most held new
loses_opened None left new most o h = (h.0, (h.1.0, tt))
loses_opened (Some bytes) left new most o h = subst (λ (t : Option (List ℕ)). LosesAtMost most t new) o h

loses_within : {V : Type 0} (held old new : Option (List ℕ)) (most : ℕ) (r : Result V LoadError) → LosesAtMost most held new → ReadsWithin most held old new r
loses_within held old new most (Ok v) h = h
loses_within held old new most (Err Failed) h = inr h
loses_within held old new most (Err (TooLarge read)) h = h
loses_within held old new most (Err Memory) h = inr h

pub reads_opened : {V : Type 0} (held old left new : Option (List ℕ)) (most : ℕ) (r : Result V LoadError) → Opens held left → LosesAtMost most left new
    → ReadsWithin most held old new r
reads_opened held old left new most r o h = loses_within held old new most r (loses_opened held left new most o h)

pub nothing_read : (known : Option (List ℕ)) → Keeps known known
nothing_read None = tt
nothing_read (Some xs) = refl

pub asks_made : {V : Type 0} (old new : List Request) (request : Request) (r : Result V LoadError) → new ≡ old ++ request ∷ [] → Asks old new request r
asks_made old new request (Ok v) h = h
asks_made old new request (Err Failed) h = h
asks_made old new request (Err (TooLarge read)) h = h
asks_made old new request (Err Memory) h = inr h

-- a reader that gave nothing, again and again, and then answers
consumed_then : (old mid new : Option (List ℕ)) (a : List ℕ) → Keeps old mid → Consumes mid new a → Consumes old new a
consumed_then None mid new a h g = tt
consumed_then (Some xs) None new a h g = absurd h
consumed_then (Some xs) (Some ys) None a h g = absurd g
consumed_then (Some xs) (Some ys) (Some zs) a h g = sym h ∙ g

pub read_then : {E : Type 0} (old mid new : Option (List ℕ)) (r : Result ℕ E) (buffer : List ℕ) → Keeps old mid → ReadConsumes mid new r buffer → ReadConsumes old new r buffer
read_then old mid new (Ok n) buffer h g = (consumed_then old mid new _ h g.0, g.1)
read_then old mid new (Err e) buffer h g = kept_still old mid new h g
