use Rattle.std.proofs.Common.{ℕ, List, ◌∷◌, ◌∙◌, ap, sym}
use Rattle.explain_words.proofs.Hexadecimal.{behind_prefix, none_without_prefix}
use Rattle.explain_words.proofs.question.address_in.Goals as goal

pub returns-in-Some : goal.returns-in-Some
returns-in-Some c =
    let h = c.in-Some.ensures in
    c.hexadecimal_in.ensures ∙ behind_prefix c.args.text.now c.in-Some.digits.now (h.cases.1.1 ∙ ap (λ (l : List ℕ). 48 ∷ 120 ∷ l) (sym h.cases.2))

pub returns-in-None : goal.returns-in-None
returns-in-None c = let h = c.in-None.ensures in none_without_prefix c.args.text.now h.cases
