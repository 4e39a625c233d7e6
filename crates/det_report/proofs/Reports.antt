-- A space's report as its text grows: its line, then the reports of its children one after the other.
use Rattle.std.proofs.Common.{◌≡◌, ◌<◌, ℕ, List, [], ◌∷◌, ◌++◌, Bool, true, false, cond, refl, sym, ap, ◌∙◌, subst, arith, append_assoc}
use Rattle.std.proofs.lemmas.List.{append-nil}
use Rattle.std.specs.Fmt.{decimal}
use Rattle.std.specs.declared.boxed.Box.{Box}
use Rattle.std.specs.declared.alloc.Global.{Global}
use Rattle.space_model.specs.Stop.{is_stopped}
use Rattle.space_model.specs.Space.{Space, space, Top, is_settled, are_settled}
use Rattle.space_model.specs.Encoding.{size_of, sizes}
use Rattle.report_model.specs.Report.{report_of, reports_of, line, path_text, state_text, digest_part}
use Rattle.space_tree.specs.Kept.{children_in}
use Rattle.det_report.specs.Paths.{steps_of, path_in_line, line_behind}

pub path_in_line_steps : (path : List ℕ) → path_in_line (steps_of path) ≡ path_text path
path_in_line_steps [] = refl
path_in_line_steps (n ∷ ns) = refl

pub steps_of_child : (path : List ℕ) (n : ℕ) → steps_of path ++ 47 ∷ decimal n ≡ steps_of (path ++ n ∷ [])
steps_of_child [] n = sym (append-nil (47 ∷ decimal n))
steps_of_child (m ∷ path) n = append_assoc (47 ∷ decimal m) (steps_of path) (47 ∷ decimal n) ∙ ap (λ t. (47 ∷ decimal m) ++ t) (steps_of_child path n)

-- what stands behind `old` is the report of s but for these children
pub record IsLeft (digest : Bool) (steps old : List ℕ) (s : Space) (text : List ℕ) (es : List (ℕ × Box Space Global)) : Type 0 where
  pub settled : are_settled (children_in es) ≡ true
  pub below : sizes (children_in es) < size_of s
  pub rest : (path : List ℕ) → steps ≡ steps_of path → text ++ reports_of digest path (children_in es) ≡ old ++ report_of digest path s

both : (a b : Bool) → cond a b false ≡ true → (a ≡ true) × (b ≡ true)
both true b e = (refl, e)
both false b e = cc

pub is_top_settled : (t : Top) (s : Space) (es : List (ℕ × Box Space Global)) → space t (children_in es) ≡ s → is_settled s ≡ true → is_stopped t.status ≡ true
is_top_settled t s es e h = (both _ _ (ap is_settled e ∙ h)).0

line_first : (digest : Bool) (t : Top) (es : List (ℕ × Box Space Global)) (path old : List ℕ) → (old ++ line digest path t) ++ reports_of digest path (children_in es) ≡ old ++ report_of digest path (space t (children_in es))
unfolding report_of
line_first digest t es path old = append_assoc old (line digest path t) (reports_of digest path (children_in es))

pub left_first : (digest : Bool) (t : Top) (s : Space) (es : List (ℕ × Box Space Global)) (steps old text : List ℕ) → space t (children_in es) ≡ s → is_settled s ≡ true → text ≡ old ++ line_behind digest steps t → IsLeft digest steps old s text es
unfolding size_of
left_first digest t s es steps old text e h is = subst (λ r. IsLeft digest steps old r text es) e record {
  settled = (both _ _ (ap is_settled e ∙ h)).1;
  below = omega arith;
  rest = λ path same. ap (λ v. v ++ reports_of digest path (children_in es)) (is ∙ ap (λ v. old ++ (v ++ (state_text t ++ (digest_part digest t ++ 10 ∷ [])))) (ap path_in_line same ∙ path_in_line_steps path)) ∙ line_first digest t es path old;
}

pub left_child : (digest : Bool) (e : ℕ × Box Space Global) (es : List (ℕ × Box Space Global)) (steps old text : List ℕ) (s : Space) → IsLeft digest steps old s text (e ∷ es) → (size_of e.1.value < size_of s) × (is_settled e.1.value ≡ true)
unfolding size_of
left_child digest e es steps old text s h = (omega (arith, h.below), (both _ _ h.settled).0)

child_first : (digest : Bool) (e : ℕ × Box Space Global) (es : List (ℕ × Box Space Global)) (path text : List ℕ) → text ++ reports_of digest path (children_in (e ∷ es)) ≡ (text ++ report_of digest (path ++ e.0 ∷ []) e.1.value) ++ reports_of digest path (children_in es)
unfolding report_of
child_first digest e es path text = sym (append_assoc text (report_of digest (path ++ e.0 ∷ []) e.1.value) (reports_of digest path (children_in es)))

pub left_next : (digest : Bool) (e : ℕ × Box Space Global) (es : List (ℕ × Box Space Global)) (steps old text after : List ℕ) (s : Space) → IsLeft digest steps old s text (e ∷ es)
    → ((path : List ℕ) → steps ++ 47 ∷ decimal e.0 ≡ steps_of path → after ≡ text ++ report_of digest path e.1.value) → IsLeft digest steps old s after es
unfolding size_of
left_next digest e es steps old text after s h g = record {
  settled = (both _ _ h.settled).1;
  below = omega (arith, h.below);
  rest = λ path same.
      let child : after ≡ text ++ report_of digest (path ++ e.0 ∷ []) e.1.value = g (path ++ e.0 ∷ []) (ap (λ v. v ++ 47 ∷ decimal e.0) same ∙ steps_of_child path e.0) in
      ap (λ v. v ++ reports_of digest path (children_in es)) child ∙ sym (child_first digest e es path text) ∙ h.rest path same;
}

pub left_none : (digest : Bool) (steps old text : List ℕ) (s : Space) → IsLeft digest steps old s text [] → (path : List ℕ) → steps ≡ steps_of path → text ≡ old ++ report_of digest path s
unfolding report_of
left_none digest steps old text s h path same = sym (append-nil text) ∙ h.rest path same
