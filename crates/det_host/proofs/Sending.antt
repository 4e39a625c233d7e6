-- What a writer that tells its bytes was sent piece by piece.
use Rattle.std.proofs.Common.{ℕ, ◌+◌, ◌-◌, List, [], ◌++◌, length, take, drop, Option, Some, None, refl, sym, ap, subst, ◌∙◌, append_assoc, arith}
use Rattle.std.proofs.Math.Seq.{take-add}
use Rattle.std.proofs.lemmas.List.{append-nil, take_all, length-drop}
use Rattle.std.specs.Io.KnownBytes.{Appends, Keeps}
use Rattle.det_host.specs.Outside.{Takes}

pub nothing_sent : (known : Option (List ℕ)) → Appends known known []
nothing_sent None = tt
nothing_sent (Some xs) = sym (append-nil xs)

sent_both : (old mid new : Option (List ℕ)) (a b : List ℕ) → Appends old mid a → Appends mid new b → Appends old new (a ++ b)
sent_both None mid new a b h g = tt
sent_both (Some xs) None new a b h g = absurd h
sent_both (Some xs) (Some ys) None a b h g = absurd g
sent_both (Some xs) (Some ys) (Some zs) a b h g = g ∙ ap (λ (u : List ℕ). u ++ b) h ∙ append_assoc xs a b

-- the first n of the bytes behind the first k
pub sent_more : (old mid new : Option (List ℕ)) (bytes : List ℕ) (k n : ℕ) → Appends old mid (take k bytes)
    → Appends mid new (take n (take (length bytes - k) (drop k bytes))) → Appends old new (take (k + n) bytes)
sent_more old mid new bytes k n h g =
    let rest = take_all (length bytes - k) (drop k bytes) (omega (arith, length-drop k bytes)) in
    let next = subst (λ (t : List ℕ). Appends mid new (take n t)) rest g in
    subst (λ (t : List ℕ). Appends old new t) (sym (take-add k n bytes)) (sent_both old mid new (take k bytes) (take n (drop k bytes)) h next)

pub kept_after : (old mid new : Option (List ℕ)) (a : List ℕ) → Appends old mid a → Keeps mid new → Appends old new a
kept_after None mid new a h g = tt
kept_after (Some xs) None new a h g = absurd h
kept_after (Some xs) (Some ys) None a h g = absurd g
kept_after (Some xs) (Some ys) (Some zs) a h g = g ∙ h

pub takes_sent : (old new : Option (List ℕ)) (a : List ℕ) → Appends old new a → Takes old new a
takes_sent None new a h = tt
takes_sent (Some xs) None a h = absurd h
takes_sent (Some xs) (Some ys) a h = ap (λ (u : List ℕ). Some u) h

-- a writer that took nothing, again and again, and then some bytes
pub kept_same : (known : Option (List ℕ)) → Keeps known known
kept_same None = tt
kept_same (Some xs) = refl

pub kept_still : (old mid new : Option (List ℕ)) → Keeps old mid → Keeps mid new → Keeps old new
kept_still None mid new h g = tt
kept_still (Some xs) None new h g = absurd h
kept_still (Some xs) (Some ys) None h g = absurd g
kept_still (Some xs) (Some ys) (Some zs) h g = g ∙ h

pub sent_then : (old mid new : Option (List ℕ)) (a : List ℕ) → Keeps old mid → Appends mid new a → Appends old new a
sent_then None mid new a h g = tt
sent_then (Some xs) None new a h g = absurd h
sent_then (Some xs) (Some ys) None a h g = absurd g
sent_then (Some xs) (Some ys) (Some zs) a h g = g ∙ ap (λ (u : List ℕ). u ++ a) h
