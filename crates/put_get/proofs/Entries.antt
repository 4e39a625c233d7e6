-- What a call does to a child, by what stands under its number.
use Rattle.std.proofs.Common.{◌≡◌, ℕ, ◌+◌, Option, Some, None, sym, ◌∙◌, ap}
use Rattle.std.specs.Prelude.{option_map}
use Rattle.call_model.specs.declared.Transfer.{Transfer}
use Rattle.space_model.specs.Space.{Space, space, Children, none, Top, top_of, children_of, find, over, put_child}
use Rattle.space_model.specs.Call.{edit, change, below}
use Rattle.space_model.specs.Beginning.{fresh_top}
use Rattle.space_model.specs.Meeting.{or_fresh}
use Rattle.space_model.specs.Part.{Part, child_after}
use Rattle.space_model.proofs.Children.{over_itself}
use Rattle.space_model.proofs.Entries.{put_there}

-- a child with a part of a call, by what was found
abbrev with_part : Part → Top → Option Space → Space
with_part p u o = space (p (or_fresh u (option_map top_of o))) (below o)

pub part_there : (p : Part) (n : ℕ) (u : Top) (c w : Space) (cs ds : Children) → Some c ≡ find n cs → ds ≡ over n (λ _. w) cs → w ≡ space (p (top_of c)) (children_of c)
    → ds ≡ edit (change n (p (or_fresh u (option_map top_of (find n cs))))) cs
part_there p n u c w cs ds at written is =
    written ∙ sym (put_there n w c cs (sym at)) ∙ ap (λ s. put_child n s cs) is ∙ ap (λ o. put_child n (with_part p u o) cs) at

pub part_missing : (p : Part) (n : ℕ) (u : Top) (c : Space) (cs ds : Children) → None ≡ find n cs → ds ≡ put_child n c cs → c ≡ space (p (fresh_top (u.fuel + u.used))) none
    → ds ≡ edit (change n (p (or_fresh u (option_map top_of (find n cs))))) cs
part_missing p n u c cs ds at put is = put ∙ ap (λ s. put_child n s cs) is ∙ ap (λ o. put_child n (with_part p u o) cs) at

-- a child that is as it was
pub given_same : (n : ℕ) (c w : Space) (cs ds : Children) → Some c ≡ find n cs → ds ≡ over n (λ _. w) cs → w ≡ c → ds ≡ cs
given_same n c w cs ds at written is = written ∙ ap (λ s. over n (λ _. s) cs) is ∙ over_itself n c cs (sym at)

-- the same of a Put
pub given_there : (x : Transfer) (u : Top) (c w : Space) (cs ds : Children) → Some c ≡ find x.child cs → ds ≡ over x.child (λ _. w) cs → w ≡ space (child_after x u (top_of c)) (children_of c)
    → ds ≡ edit (change x.child (child_after x u (or_fresh u (option_map top_of (find x.child cs))))) cs
given_there x u = part_there (child_after x u) x.child u

pub given_missing : (x : Transfer) (u : Top) (c : Space) (cs ds : Children) → None ≡ find x.child cs → ds ≡ put_child x.child c cs → c ≡ space (child_after x u (fresh_top (u.fuel + u.used))) none
    → ds ≡ edit (change x.child (child_after x u (or_fresh u (option_map top_of (find x.child cs))))) cs
given_missing x u = part_missing (child_after x u) x.child u
