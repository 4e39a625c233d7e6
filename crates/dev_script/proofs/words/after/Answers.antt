use Rattle.std.proofs.Common.{◌≡◌, ℕ, List, ◌++◌, refl, sym, ap, ◌∙◌}
use Rattle.std.specs.Prelude.{◌≢◌, Option, Some, None, option_map, MatchOption}
use Rattle.std.proofs.lemmas.Bool.Decides.{Decides-eqb}
use Rattle.std.proofs.lemmas.Slice.Eq.{strip_prefix_is}
use denote.Ref.{Bor}
use Rattle.script_model.specs.Reading.{after}
use Rattle.script_model.proofs.Words.{after_word, is_after}
use Rattle.dev_script.proofs.words.after.Goals as goal

none_after : (word line : List ℕ) → ((rest : List ℕ) → line ≢ word ++ rest) → (o : Option (List ℕ)) → after word line ≡ o → None ≡ o
none_after word line never None e = refl
none_after word line never (Some rest) e = absurd (never rest (is_after word line rest e))

by_cases : (word line : List ℕ) (r : Option (Bor (List ℕ))) → MatchOption r ((rest : List ℕ) → line ≢ word ++ rest) (λ x. line ≡ word ++ x.now) → option_map (λ x. x.now) r ≡ after word line
by_cases word line None h = none_after word line h (after word line) refl
by_cases word line (Some rest) h = sym (ap (after word) h ∙ after_word word rest.now)

pub returns : goal.returns
returns c = by_cases c.args.word.now c.args.line.now c.strip_prefix.result (strip_prefix_is Decides-eqb c.args.line.now c.args.word.now c.strip_prefix.result c.strip_prefix.ensures.cases)
