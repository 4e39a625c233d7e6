-- The lines of a text as an array, line by line.
use Rattle.std.proofs.Common.{◌≡◌, ℕ, ◌≤◌, List, [], ◌∷◌, ◌++◌, length, ◌∙◌, append_assoc, arith}
use Rattle.std.specs.Prelude.{Some, OnOk, Result, Ok, Err}
use Rattle.json.specs.Json.{document}
use Rattle.json.specs.Token.{Token}
use Rattle.json.specs.Tree.{ItemsHaveNumbers, items_depth, items_tokens, json_tokens}
use Rattle.json.specs.Written.{Writes, Written}
use Rattle.json.proofs.Printed.Trees.{document-print}
use Rattle.text_lines.specs.Lines.{lines_of, lines_with_returns}
use Rattle.explain_lines.specs.Objects.{json_text, json_value, line_object, objects_of}
use Rattle.explain_lines.specs.Written.{IsLonger}

-- ---- an array is read back

no_numbers : (lines : List (List ℕ)) → ItemsHaveNumbers (objects_of lines)
no_numbers [] = tt
no_numbers (line ∷ lines) = ((tt, (tt, tt)), no_numbers lines)

flat : (lines : List (List ℕ)) → items_depth (objects_of lines) ≤ 1
flat [] = omega arith
flat (line ∷ lines) = let h = flat lines in omega arith

pub reads_back : (text : List ℕ) → document (json_text text) ≡ Some (json_value text)
unfolding json_value
reads_back text = document-print (json_value text) (no_numbers (lines_of text)) (let h = flat (lines_of text) in omega arith)

-- ---- line by line

-- what stands there, and the tokens that are left, are what stood there and all tokens
pub record EndsAs (old now : Written) (left all : List Token) : Type 0 where
  pub before : now.before ≡ old.before
  pub tokens : now.tokens ++ left ≡ old.tokens ++ all

pub begins : (old now : Written) (text : List ℕ) → now.before ≡ old.before → now.tokens ≡ old.tokens ++ Token.begin_array ∷ [] → EndsAs old now (items_tokens (objects_of (lines_of text))) (json_tokens (json_value text))
unfolding json_value
begins old now text before tokens = record { before = before; tokens = rw tokens (simp append_assoc) }

-- a line more
pub goes_on : (old now next : Written) (text line after : List ℕ) (all : List Token) → lines_of text ≡ line ∷ lines_of after → IsLonger now next (json_tokens (line_object line)) → EndsAs old now (items_tokens (objects_of (lines_of text))) all
    → EndsAs old next (items_tokens (objects_of (lines_of after))) all
goes_on old now next text line after all first longer so_far = record {
  before = longer.before ∙ so_far.before;
  tokens = rw (longer.tokens, append_assoc) (rw first at so_far.tokens);
}

-- no line more
pub ends : {E : Type 0} (r : Result (Unit {0}) E) (old now last : Written) (text : List ℕ) (all : List Token) → length text ≡ 0 → EndsAs old now (items_tokens (objects_of (lines_of text))) all → Writes r now last Token.end_array
    → OnOk r (IsLonger old last all)
unfolding lines_with_returns
ends (Ok x) old now last [] all none so_far writes = record { before = writes.room.0 ∙ so_far.before; tokens = writes.ok ∙ so_far.tokens }
ends (Ok x) old now last (b ∷ bs) all none so_far writes = absurd (omega (arith, none))
ends (Err e) old now last text all none so_far writes = tt
