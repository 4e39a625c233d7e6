-- A space put at a path keeps a tree sound, also where memory ran out.
use Rattle.std.proofs.Common.{◌≡◌, ℕ, ◌-◌, ◌≤◌, ◌<◌, true, List, length, get_or, sym, subst}
use Rattle.std.specs.Prelude.{Result, Ok, Err, OnOk, OnErr}
use Rattle.space_model.specs.Space.{Space}
use Rattle.space_model.specs.Path.{with_space, is_root}
use Rattle.space_model.specs.Sound.{IsSoundAt}
use Rattle.space_model.proofs.Sound.{with_space_sound}

pub put_keeps : {X E : Type 0} (r : Result X E) (p : List ℕ) (fuel : ℕ) (new s t : Space) → length p ≤ 8 → ((k : ℕ) → get_or p k 0 < 65536) → OnOk r (t ≡ with_space p new s) → OnErr r (t ≡ s)
    → IsSoundAt 8 true fuel s → IsSoundAt (8 - length p) (is_root true p) fuel new → IsSoundAt 8 true fuel t
put_keeps (Ok x) p fuel new s t long fit ok err before one = subst (IsSoundAt 8 true fuel) (sym ok) (with_space_sound p 8 true fuel new s long fit one before)
put_keeps (Err e) p fuel new s t long fit ok err before one = subst (IsSoundAt 8 true fuel) (sym err) before
