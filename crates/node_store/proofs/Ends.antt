-- The lists of nodes, after pages were added at both ends, and after they were taken out again.
use Rattle.std.proofs.Common.{◌≡◌, ℕ, ◌<◌, List, [], length, take, get_or, set, Result, Ok, Err, sym, ap, subst, ◌∙◌, arith, inl, inr}
use Rattle.std.specs.Prelude.{OnErr, OnOk, IfOk}
use Rattle.std.proofs.Math.Seq.{take-append_seam}
use Rattle.std.proofs.lemmas.Bool.{cases_eq}
use Rattle.std.proofs.lemmas.List.{get_or-set_same, get_or-set_other, get_or_default, set-get_or, set-set, length-set}
use Rattle.space_model.specs.Space.{Top}
use Rattle.parcel_model.specs.Parcel.{TopOf}
use Rattle.parcel_model.specs.Packing.{parcel_of}
use Rattle.parcel_model.specs.Residents.{with_residents}
use Rattle.parcel_model.specs.Sent.{pages_sent}
use Rattle.parcel_model.proofs.Longer.{grown, over_longer}
use Rattle.node_store.specs.Lists.{list_of, with_both, after_sending}

-- an element that was read is the list of its node
pub list_is : (nodes : List (List (List ℕ))) (i : ℕ) (d : List (List ℕ)) → i < length nodes → get_or nodes i d ≡ list_of nodes i
list_is nodes i d lt = get_or_default nodes i d [] lt

-- ---- one node is both ends

pub both_one : (nodes : List (List (List ℕ))) (from to : ℕ) (pages x d : List (List ℕ)) → from ≡ to → to < length nodes → x ≡ with_residents (get_or nodes to d) pages → set nodes to x ≡ with_both nodes from to pages
both_one nodes from to pages x d same lt is =
    let added : List (List ℕ) = with_residents (list_of nodes to) pages in
    let here : x ≡ added = is ∙ ap (λ (k : List (List ℕ)). with_residents k pages) (list_is nodes to d lt) in
    ap (set nodes to) here
    ∙ sym (set-set nodes to added added)
    ∙ ap (λ (i : ℕ). set (set nodes to added) i (with_residents (list_of nodes i) pages)) (sym same)

-- ---- what was added is taken out again

first_pages : (known pages : List (List ℕ)) → take (length known) (with_residents known pages) ≡ known
first_pages known pages = let l = grown known pages in ap (take (length known)) l.behind ∙ take-append_seam known l.more

-- of the four elements that are read, each has its default
pub back : (nodes : List (List (List ℕ))) (from to count : ℕ) (pages x y z d e f g : List (List ℕ)) → to < length nodes → from < length nodes
    → count ≡ length (get_or nodes to d) → x ≡ with_residents (get_or nodes to e) pages → y ≡ get_or (set nodes to x) from f → z ≡ take count (get_or (set (set nodes to x) from y) to g)
    → set (set (set nodes to x) from y) to z ≡ nodes
back nodes from to count pages x y z d e f g lt below len is unchanged kept =
    let one = set nodes to x in
    let known = list_of nodes to in
    let held : from < length one = omega (arith, length-set {A = List (List ℕ)}, below) in
    let same : set one from y ≡ one = ap (set one from) (unchanged ∙ get_or_default one from f [] held) ∙ set-get_or one from [] in
    let added : x ≡ with_residents known pages = is ∙ ap (λ (k : List (List ℕ)). with_residents k pages) (list_is nodes to e lt) in
    let found : get_or (set one from y) to g ≡ x = ap (λ (l : List (List (List ℕ))). get_or l to g) same ∙ get_or-set_same nodes to x g lt in
    let many : count ≡ length known = len ∙ ap (λ (k : List (List ℕ)). length k) (list_is nodes to d lt) in
    let first : z ≡ known = kept ∙ ap (λ (n : ℕ). take n (get_or (set one from y) to g)) many ∙ ap (take (length known)) (found ∙ added) ∙ first_pages known pages in
    ap (λ (l : List (List (List ℕ))). set l to z) same
    ∙ set-set nodes to x z
    ∙ ap (set nodes to) first
    ∙ set-get_or nodes to []

pub if_refused : {X E : Type 0} (r : Result X E) {P Q : Type 0} → (P → Q) → OnErr r P → OnErr r Q
if_refused (Ok x) f h = tt
if_refused (Err e) f h = f h

-- ---- what the node has that a parcel goes to

pub list_after : (nodes : List (List (List ℕ))) (from to : ℕ) (pages : List (List ℕ)) → from < length nodes → to < length nodes → list_of (with_both nodes from to pages) to ≡ with_residents (list_of nodes to) pages
list_after nodes from to pages below lt =
    let x : List (List ℕ) = with_residents (list_of nodes to) pages in
    let y : List (List ℕ) = with_residents (list_of nodes from) pages in
    let held : from < length (set nodes to x) = omega (arith, length-set {A = List (List ℕ)}, below) in
    elim (cases_eq to from) [
      | inl same ↦ ap (λ (i : ℕ). get_or (set (set nodes to x) from y) i []) same ∙ get_or-set_same (set nodes to x) from y [] held ∙ ap (λ (i : ℕ). with_residents (list_of nodes i) pages) (sym same)
      | inr differs ↦ get_or-set_other (set nodes to x) from to y [] differs ∙ get_or-set_same nodes to x [] lt
    ]

-- ---- parcels there

pub arrives : {V E : Type 0} (items : V → List ℕ) (nodes new : List (List (List ℕ))) (from to : ℕ) (t : Top) (r : Result V E) → from < length nodes → to < length nodes
    → OnOk r (new ≡ after_sending nodes from to t) → IfOk r (λ v. TopOf (list_of nodes to) (items v) t) → IfOk r (λ v. TopOf (list_of new to) (items v) t)
arrives items nodes new from to t (Ok v) below lt after h =
    let sent : List (List ℕ) = pages_sent (parcel_of (list_of nodes to) t) in
    let known : list_of new to ≡ with_residents (list_of nodes to) sent = ap (λ (l : List (List (List ℕ))). list_of l to) after ∙ list_after nodes from to sent below lt in
    subst (λ (k : List (List ℕ)). TopOf k (items v) t) (sym known) (over_longer (list_of nodes to) (with_residents (list_of nodes to) sent) (items v) t (grown (list_of nodes to) sent) h)
arrives items nodes new from to t (Err e) below lt after h = tt

-- ---- the nodes stay

length-both : (nodes : List (List (List ℕ))) (from to : ℕ) (pages : List (List ℕ)) → length (with_both nodes from to pages) ≡ length nodes
length-both nodes from to pages = omega (arith, length-set {A = List (List ℕ)})

pub as_many : {V E : Type 0} (nodes new : List (List (List ℕ))) (from to : ℕ) (t : Top) (r : Result V E) → OnOk r (new ≡ after_sending nodes from to t) → OnErr r (new ≡ nodes) → length new ≡ length nodes
as_many nodes new from to t (Ok v) after same = ap (λ (l : List (List (List ℕ))). length l) after ∙ length-both nodes from to (pages_sent (parcel_of (list_of nodes to) t))
as_many nodes new from to t (Err e) after same = ap (λ (l : List (List (List ℕ))). length l) same
