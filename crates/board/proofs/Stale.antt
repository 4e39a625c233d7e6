-- Results that are of the job in their slot, and results that are not.
use Rattle.std.proofs.Common.{◌≡◌, ℕ, Option, Some, None, refl, sym, ap, ◌∙◌, subst}
use Rattle.std.specs.Prelude.{option_map, IsSome}
use Rattle.board.specs.declared.job.Out.{Out}
use Rattle.board.specs.declared.done.Done.{Done}
use Rattle.board.specs.Jobs.{out_at, Sets}
use Rattle.board.specs.Value.{Shown}
use Rattle.board.specs.Steps.{IsStart, IsOfJob, IsDropped, IsStale}

-- the number of the ticket of a job, where there is one
abbrev pub ticket_of : Option Out → Option ℕ
ticket_of o = option_map (λ (x : Out). x.ticket) o

abbrev its_job : Shown → Done → Option Out
its_job b d = out_at b.out d.slot

pub no_job : (old new : Shown) (d : Done) → None ≡ ticket_of (its_job old d) → new ≡ old → IsStale old d None new
no_job old new d told same = go (its_job old d) refl told
  where
    go : (o : Option Out) → its_job old d ≡ o → None ≡ ticket_of o → IsStale old d None new
    go None is nothing = record {
      other = λ o of. let there = of.out in cc;
      kept = told;
      dropped = subst (λ x. IsDropped x d old new) (sym is) same;
    }
    go (Some o) is nothing = cc

pub other_ticket : (old new : Shown) (d : Done) (k : ℕ) → Some k ≡ ticket_of (its_job old d) → (k ≡ d.ticket → ⊥) → new ≡ old → IsStale old d (Some k) new
other_ticket old new d k told differs same = go (its_job old d) refl told
  where
    go : (o : Option Out) → its_job old d ≡ o → Some k ≡ ticket_of o → IsStale old d (Some k) new
    go None is its = cc
    go (Some o) is its =
        let number : k ≡ o.ticket = cc in
        record {
          other = λ p of.
              let there = of.out in
              let one : p ≡ o = cc in
              differs (number ∙ sym (ap (λ (x : Out). x.ticket) one) ∙ of.ticket);
          kept = told;
          dropped = subst (λ x. IsDropped x d old new) (sym is) ((λ e. absurd (differs (number ∙ e))), (λ ne. same));
        }

pub other_start : (old new : Shown) (d : Done) (k : ℕ) → Some k ≡ ticket_of (its_job old d) → k ≡ d.ticket → ((o : Out) → its_job old d ≡ Some o → IsStart old.tree o d → ⊥)
    → Sets d.slot None old.out new.out → new ≡ record old { out = new.out } → IsStale old d (Some k) new
other_start old new d k told number no_start sets others = go (its_job old d) refl told
  where
    go : (o : Option Out) → its_job old d ≡ o → Some k ≡ ticket_of o → IsStale old d (Some k) new
    go None is its = cc
    go (Some o) is its =
        let same : k ≡ o.ticket = cc in
        record {
          other = λ p of. no_start p of.out of.start;
          kept = told;
          dropped = subst (λ x. IsDropped x d old new) (sym is) ((λ e. (sets, others)), (λ ne. absurd (ne (sym same ∙ number))));
        }

pub of_job : (old : Shown) (d : Done) (k : ℕ) (o : Out) → Some k ≡ ticket_of (its_job old d) → k ≡ d.ticket → its_job old d ≡ Some o → IsStart old.tree o d → IsOfJob old d o
of_job old d k o told number is start =
    let its : Some k ≡ Some o.ticket = told ∙ ap ticket_of is in
    let same : k ≡ o.ticket = cc in
    record { out = is; ticket = sym same ∙ number; start = start }

pub has_job : (o : Option Out) (k : ℕ) → Some k ≡ ticket_of o → IsSome o
has_job None k told = cc
has_job (Some o) k told = refl
