-- The sums over the spaces that are left.
use Rattle.std.proofs.Common.{◌≡◌, ℕ, ◌+◌, ◌^◌, ◌%◌, ◌<◌, List, [], ◌∷◌, ◌++◌, length, refl, sym, ap, ◌∙◌, subst, arith}
use Rattle.std.specs.Prelude.{codes}
use Rattle.std.specs.List.{flat_map, sum_by}
use Rattle.std.specs.Fmt.{decimal}
use Rattle.std.specs.Map.{values_of}
use Rattle.std.proofs.lemmas.List.Sums.{sum_by-cons}
use Rattle.std.specs.declared.boxed.Box.{Box}
use Rattle.std.specs.declared.alloc.Global.{Global}
use Rattle.space_model.specs.Space.{Space, space, Top, top_of, children_of, console_bytes}
use Rattle.space_model.specs.Encoding.{size_of, sizes}
use Rattle.report_model.specs.Report.{console_of, stop_text}
use Rattle.report_model.specs.Summary.{summary, tops_of, tops_below, count_of}
use Rattle.space_tree.specs.Kept.{children_in}

-- the tops of a space in its box
abbrev pub tops_in : Box Space Global → List Top
tops_in b = tops_of b.value

abbrev pub sizes_in : List (Box Space Global) → ℕ
sizes_in [] = 0
sizes_in (b ∷ bs) = size_of b.value + sizes_in bs

sizes_of_values : (es : List (ℕ × Box Space Global)) → sizes_in (values_of es) ≡ sizes (children_in es)
unfolding size_of
sizes_of_values [] = refl
sizes_of_values (e ∷ es) = ap (λ n. size_of e.1.value + n) (sizes_of_values es)

-- the children together are smaller than the space
pub smaller_first : (t : Top) (es : List (ℕ × Box Space Global)) (s : Space) → space t (children_in es) ≡ s → sizes_in (values_of es) < size_of s
unfolding size_of
smaller_first t es s e = let same = sizes_of_values es in subst (λ r. sizes_in (values_of es) < size_of r) e (omega (arith, same))

tops_of_values : (es : List (ℕ × Box Space Global)) → flat_map tops_in (values_of es) ≡ tops_below (children_in es)
unfolding tops_of
tops_of_values [] = refl
tops_of_values (e ∷ es) = ap (λ ts. tops_of e.1.value ++ ts) (tops_of_values es)

-- a space, then those of its children
tops_first : (t : Top) (es : List (ℕ × Box Space Global)) (s : Space) → space t (children_in es) ≡ s → t ∷ flat_map tops_in (values_of es) ≡ tops_of s
unfolding tops_of
tops_first t es s e = ap (λ ts. t ∷ ts) (tops_of_values es) ∙ ap tops_of e

pub spaces_first : (t : Top) (es : List (ℕ × Box Space Global)) (s : Space) → space t (children_in es) ≡ s → 1 + length (flat_map tops_in (values_of es)) ≡ length (tops_of s)
spaces_first t es s e = omega (arith, ap length (tops_first t es s e))

pub used_first : (t : Top) (es : List (ℕ × Box Space Global)) (s : Space) (n : ℕ) → space t (children_in es) ≡ s → n ≡ t.used → n + sum_by (λ u. u.used) (flat_map tops_in (values_of es)) ≡ sum_by (λ u. u.used) (tops_of s)
used_first t es s n e same =
    ap (λ k. k + sum_by (λ u. u.used) (flat_map tops_in (values_of es))) same
    ∙ sym (sum_by-cons (λ u. u.used) t (flat_map tops_in (values_of es)))
    ∙ ap (sum_by (λ u. u.used)) (tops_first t es s e)

count_of_entries : (es : List (ℕ × Box Space Global)) → count_of (children_in es) ≡ length es
count_of_entries [] = refl
count_of_entries (e ∷ es) = omega (arith, count_of_entries es)

-- nothing is left
pub whole : (n total : ℕ) → n < 2 ^ 64 → (n + 0) % 2 ^ 64 ≡ total % 2 ^ 64 → n ≡ total % 2 ^ 64
whole n total fits e = omega arith

-- the line of these parts
pub summary_of : (t : Top) (es : List (ℕ × Box Space Global)) (s : Space) (threads spaces used console : ℕ) (root text : List ℕ) → space t (children_in es) ≡ s → threads ≡ length es
    → spaces ≡ length (tops_of s) % 2 ^ 64 → used ≡ sum_by (λ u. u.used) (tops_of s) % 2 ^ 64 → console ≡ length (console_bytes t.devices) → root ≡ stop_text t.status
    → text ≡ codes "threads " ++ (decimal threads ++ (codes " spaces " ++ (decimal spaces ++ (codes " used " ++ (decimal used ++ (codes " console " ++ (decimal console ++ (codes " root " ++ (root ++ 10 ∷ [])))))))))
    → text ≡ summary s
unfolding summary
summary_of t es s threads spaces used console root text e n ns nu nc nr is =
    let threads_of : threads ≡ count_of (children_of s) = n ∙ sym (count_of_entries es) ∙ ap (λ r. count_of (children_of r)) e in
    let console_is : console ≡ length (console_of s) = nc ∙ ap (λ r. length (console_of r)) e in
    let root_is : root ≡ stop_text (top_of s).status = nr ∙ ap (λ r. stop_text (top_of r).status) e in
    is ∙ (λ i. codes "threads " ++ (decimal (threads_of i) ++ (codes " spaces " ++ (decimal (ns i) ++ (codes " used " ++ (decimal (nu i)
    ++ (codes " console " ++ (decimal (console_is i) ++ (codes " root " ++ (root_is i ++ 10 ∷ []))))))))))
