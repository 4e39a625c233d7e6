-- A link that stands in its place, or is made there.
use Rattle.std.proofs.Common.{◌≡◌, ℕ, zero, suc, ◌<◌, List, [], ◌∷◌, Option, Some, None, Result, Ok, Err, get_or, length, refl, sym, ap, ◌∙◌, arith}
use Rattle.std.specs.Prelude.{OnOk, OnErr, slice_index_or, slice_set}
use Rattle.std.proofs.lemmas.List.{set-get_or}
use Rattle.std.proofs.lemmas.Result.{on_ok_weaker, on_err_weaker}
use Rattle.link_model.specs.Carrying.{Carrier, new_carrier, with_one_more}
use Rattle.node_link.specs.Linked.{Linked, link_of, made_or_new, place_of, with_link}

pub made_ok : {X E : Type 0} (r : Result X E) (slot : Option Carrier) (link new : Carrier) (seed : ℕ) → slot ≡ Some link → OnOk r (new ≡ with_one_more link) → OnOk r (Some new ≡ Some (with_one_more (made_or_new seed slot)))
made_ok (Ok x) slot link new seed is ok = ap Some (ok ∙ ap (λ (o : Option Carrier). with_one_more (made_or_new seed o)) (sym is))
made_ok (Err e) slot link new seed is ok = ok

pub made_err : {X E : Type 0} (r : Result X E) (slot : Option Carrier) (link new : Carrier) → slot ≡ Some link → OnErr r (new ≡ link) → OnErr r (Some new ≡ slot)
made_err (Ok x) slot link new is err = err
made_err (Err e) slot link new is err = ap Some err ∙ sym is

pub new_ok : (slot : Option Carrier) (link new : Carrier) (seed : ℕ) → ((l : Carrier) → slot ≡ Some l → ⊥) → link ≡ new_carrier seed → new ≡ with_one_more link → Some new ≡ Some (with_one_more (made_or_new seed slot))
new_ok None link new seed none made ok = ap Some (ok ∙ ap with_one_more made)
new_ok (Some l) link new seed none made ok = absurd (none l refl)

-- which number stands past a list does not matter within
within : (xs : List (Option Carrier)) (i : ℕ) (a b : Option Carrier) → i < length xs → get_or xs i a ≡ get_or xs i b
within [] i a b low = absurd (omega (arith, low))
within (x ∷ xs) zero a b low = refl
within (x ∷ xs) (suc i) a b low = within xs i a b (omega (arith, low))

pub placed_ok : {X E : Type 0} (r : Result X E) (xs : List (Option Carrier)) (i : ℕ) (slot new : Option Carrier) (seed : ℕ) → i < length xs → slot ≡ get_or xs i slot
    → OnOk r (new ≡ Some (with_one_more (made_or_new seed slot))) → OnOk r (slice_set xs i new ≡ slice_set xs i (Some (with_one_more (made_or_new seed (slice_index_or xs i None)))))
placed_ok r xs i slot new seed low there = on_ok_weaker r (λ e. ap (slice_set xs i) (e ∙ ap (λ (o : Option Carrier). Some (with_one_more (made_or_new seed o))) (there ∙ within xs i slot None low)))

pub placed_err : {X E : Type 0} (r : Result X E) (xs : List (Option Carrier)) (i : ℕ) (slot new : Option Carrier) → slot ≡ get_or xs i slot → OnErr r (new ≡ slot) → OnErr r (slice_set xs i new ≡ xs)
placed_err r xs i slot new there = on_err_weaker r (λ e. ap (slice_set xs i) (e ∙ there) ∙ set-get_or xs i slot)

pub linked_ok : {X E : Type 0} (r : Result X E) (l now : Linked) (from to place : ℕ) (links : List (Option Carrier)) → l ≡ now → place ≡ place_of from to
    → OnOk r (links ≡ slice_set l.links place (Some (with_one_more (made_or_new l.seed (slice_index_or l.links place None)))))
    → OnOk r (record l { links = links } ≡ with_link now from to (with_one_more (link_of now from to)))
linked_ok r l now from to place links same at = on_ok_weaker r (λ e.
    ap (λ (xs : List (Option Carrier)). record l { links = xs }) (e ∙ ap (λ (k : ℕ). slice_set l.links k (Some (with_one_more (made_or_new l.seed (slice_index_or l.links k None))))) at)
    ∙ ap (λ (m : Linked). with_link m from to (with_one_more (link_of m from to))) same)

pub linked_err : {X E : Type 0} (r : Result X E) (l now : Linked) (links : List (Option Carrier)) → l ≡ now → OnErr r (links ≡ l.links) → OnErr r (record l { links = links } ≡ now)
linked_err r l now links same = on_err_weaker r (λ e. ap (λ (xs : List (Option Carrier)). record l { links = xs }) e ∙ same)
