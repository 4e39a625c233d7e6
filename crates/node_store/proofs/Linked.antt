-- Links between nodes stay between these nodes.
use Rattle.std.proofs.Common.{◌≡◌, ℕ, Option, Some, Result, Ok, Err, ap, sym, subst, ◌∙◌, List}
use Rattle.std.specs.Prelude.{IfOk, OnErr, OnOk}
use Rattle.std.specs.Global.{Vec}
use Rattle.link_model.specs.Carrying.{with_one_more}
use Rattle.node_link.specs.Linked.{Linked, link_of, with_link}
use Rattle.node_store.specs.Lists.{AreLinked, NodesView, carried_over}

pub between : (nodes : ℕ) (links : Option Linked) (before behind : Linked) → AreLinked nodes links → links ≡ Some before → behind.nodes ≡ before.nodes → behind.nodes ≡ nodes
between nodes links before behind are is same = let there : before.nodes ≡ nodes = subst (AreLinked nodes) is are in same ∙ there

pub as_it_was : {E : Type 0} (r : Result (Vec ℕ) E) (given parcel : List ℕ) → given ≡ parcel → IfOk r (λ v. v.items ≡ given) → IfOk r (λ v. v.items ≡ parcel)
as_it_was r given parcel same = subst (λ (bytes : List ℕ). IfOk r (λ v. v.items ≡ bytes)) same

-- the nodes as they were, by their links
as_seen : (lists : List (List (List ℕ))) (before : Linked) (links : Option Linked) (now : NodesView) → record { lists = lists; links = links } ≡ now → links ≡ Some before → record { lists = lists; links = Some before } ≡ now
as_seen lists before links now seen is = ap (λ (l : Option Linked). record { lists = lists; links = l }) (sym is) ∙ seen

-- a parcel has gone over one of them
pub one_over : {V E : Type 0} (r : Result V E) (lists : List (List (List ℕ))) (before behind : Linked) (links : Option Linked) (now : NodesView) (from to : ℕ) → record { lists = lists; links = links } ≡ now → links ≡ Some before
    → OnOk r (behind ≡ with_link before from to (with_one_more (link_of before from to))) → OnOk r (record { lists = lists; links = Some behind } ≡ record now { links = carried_over now.links from to })
one_over (Ok v) lists before behind links now from to seen is grown =
    ap (λ (l : Linked). record { lists = lists; links = Some l }) grown
    ∙ ap (λ (n : NodesView). record n { links = carried_over n.links from to }) (as_seen lists before links now seen is)
one_over (Err e) lists before behind links now from to seen is grown = tt

-- none has, and all is as it was
pub none_over : {V E : Type 0} (r : Result V E) (lists : List (List (List ℕ))) (before behind : Linked) (links : Option Linked) (now : NodesView) → record { lists = lists; links = links } ≡ now → links ≡ Some before
    → OnErr r (behind ≡ before) → OnErr r (record { lists = lists; links = Some behind } ≡ now)
none_over (Ok v) lists before behind links now seen is same = tt
none_over (Err e) lists before behind links now seen is same = ap (λ (l : Linked). record { lists = lists; links = Some l }) same ∙ as_seen lists before links now seen is
