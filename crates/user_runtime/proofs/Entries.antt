-- A child whose top a call changes, by what stands under its number.
use Rattle.std.proofs.Common.{◌≡◌, ℕ, ◌+◌, Option, Some, None, sym, ◌∙◌, ap}
use Rattle.std.specs.Prelude.{option_map}
use Rattle.space_model.specs.Space.{Space, space, Children, none, Top, top_of, children_of, find, over, put_child}
use Rattle.space_model.specs.Call.{edit, change, below}
use Rattle.space_model.specs.Beginning.{fresh_top}
use Rattle.space_model.specs.Meeting.{or_fresh}
use Rattle.space_model.specs.Part.{Part}
use Rattle.space_model.proofs.Children.{over_itself}
use Rattle.space_model.proofs.Entries.{put_there}

-- the child after a part, by what was found
abbrev with_part : Part → Top → Option Space → Space
with_part p u o = space (p (or_fresh u (option_map top_of o))) (below o)

pub given_there : (n : ℕ) (p : Part) (u : Top) (c w : Space) (cs ds : Children) → Some c ≡ find n cs → ds ≡ over n (λ _. w) cs → w ≡ space (p (top_of c)) (children_of c)
    → ds ≡ edit (change n (p (or_fresh u (option_map top_of (find n cs))))) cs
given_there n p u c w cs ds at written is =
    written ∙ sym (put_there n w c cs (sym at)) ∙ ap (λ s. put_child n s cs) is ∙ ap (λ o. put_child n (with_part p u o) cs) at

pub given_missing : (n : ℕ) (p : Part) (u : Top) (c : Space) (cs ds : Children) → None ≡ find n cs → ds ≡ put_child n c cs → c ≡ space (p (fresh_top (u.fuel + u.used))) none
    → ds ≡ edit (change n (p (or_fresh u (option_map top_of (find n cs))))) cs
given_missing n p u c cs ds at put is = put ∙ ap (λ s. put_child n s cs) is ∙ ap (λ o. put_child n (with_part p u o) cs) at

-- a child that is as it was
pub given_same : (n : ℕ) (c w : Space) (cs ds : Children) → Some c ≡ find n cs → ds ≡ over n (λ _. w) cs → w ≡ c → ds ≡ cs
given_same n c w cs ds at written is = written ∙ ap (λ s. over n (λ _. s) cs) is ∙ over_itself n c cs (sym at)

-- a child that is read, by what a look-up found
pub read_there : (n : ℕ) (t c : Top) (s : Space) (cs : Children) → Some s ≡ find n cs → c ≡ top_of s → c ≡ or_fresh t (option_map top_of (find n cs))
read_there n t c s cs at is = is ∙ ap (λ o. or_fresh t (option_map top_of o)) at

pub read_missing : (n : ℕ) (t : Top) (cs : Children) → None ≡ find n cs → fresh_top (t.fuel + t.used) ≡ or_fresh t (option_map top_of (find n cs))
read_missing n t cs at = ap (λ o. or_fresh t (option_map top_of o)) at
