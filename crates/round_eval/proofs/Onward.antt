-- A space that goes on where it stands: local events of a tree.
use Rattle.std.proofs.Common.{◌≡◌, ℕ, pred, ◌-◌, List, [], get_or, Some, None, refl, sym, subst, arith}
use Rattle.std.specs.Prelude.{Option, IfSome}
use Rattle.space_model.specs.Space.{Top, Space, space, Children, over}
use Rattle.space_model.specs.Event.{Follows}
use Rattle.det_core.proofs.Paths.{HasFirst}
use Rattle.det_laws.specs.Leads.{Reaches}
use Rattle.det_laws.proofs.Leading.{child_reaches}
use Rattle.det_laws.proofs.Local.{local_reaches}

-- the space itself
pub here_reaches : (levels n : ℕ) (t u : Top) (s : Space) (cs : Children) → space t cs ≡ s → Follows levels n t u → Reaches levels s n (space u cs)
here_reaches levels n t u s cs is follows =
    let all : levels - 0 ≡ levels = omega arith in
    subst (λ x. Reaches levels x n (space u cs)) is
    (local_reaches n [] levels (space t cs) (space t cs) u refl (subst (λ k. Follows k n t u) (sym all) follows))

-- its child at the first number of a path
pub below_reaches : (p : List ℕ) (levels below : ℕ) (u : Top) (s c w : Space) (cs : Children) (n : ℕ) → below ≡ pred levels → HasFirst p u s cs (Some c)
    → Reaches below c n w → Reaches levels s n (space u (over (get_or p 0 0) (λ _. w) cs))
below_reaches p levels below u s c w cs n e h reached =
    let inner : Reaches (pred levels) c n w = subst (λ k. Reaches k c n w) e reached in
    subst (λ x. Reaches levels x n (space u (over (get_or p 0 0) (λ _. w) cs))) h.is (child_reaches levels (get_or p 0 0) u cs c w n (sym h.found) inner)

pub if_some_weaker : {T : Type 0} (o : Option T) (P Q : T → Type 0) → ((x : T) → P x → Q x) → IfSome o P → IfSome o Q
if_some_weaker None P Q f h = tt
if_some_weaker (Some x) P Q f h = f x h
