-- A caller that waits: for a child that is missing, which has no files; and that it may pay behind the wait.
use Rattle.std.proofs.Common.{◌≡◌, ℕ, sym, subst, ◌∙◌, ap}
use Rattle.instruction_model.specs.Outcome.{Registers, with_register}
use Rattle.space_model.specs.Space.{Space, space, Children, Top, top_of}
use Rattle.space_model.specs.Event.{MayPay}
use Rattle.space_model.specs.Beginning.{fresh_top}
use Rattle.space_model.specs.Runtime.{stop_part, files_part, after_wait}
use Rattle.space_model.proofs.NoFiles.{none_taken_over, none_left_out}

-- nothing is taken over from it, and a3 is 0
fresh_files : (fuel : ℕ) (t : Top) → record t { registers = with_register t.registers 13 0 } ≡ files_part (fresh_top fuel) t
fresh_files fuel t =
    ap (λ n. record t { registers = with_register t.registers 13 n }) (sym (none_left_out t.memory))
    ∙ ap (λ m. record (files_part (fresh_top fuel) t) { memory = m }) (sym (none_taken_over t.memory))

-- the caller after it has set a3 to 0 and told how a fresh child stopped
pub missing_waited : (fuel : ℕ) (t v u : Top) (r : Registers) → v ≡ t → r ≡ with_register v.registers 13 0 → u ≡ stop_part (fresh_top fuel) (record v { registers = r }) → u ≡ after_wait (fresh_top fuel) t
unfolding after_wait
missing_waited fuel t v u r view set told =
    told ∙ ap (λ x. stop_part (fresh_top fuel) (record v { registers = x })) set
    ∙ ap (stop_part (fresh_top fuel)) (fresh_files fuel v)
    ∙ ap (after_wait (fresh_top fuel)) view

-- a caller that has waited may pay as before
pub waited_pays : (c t u : Top) (s : Space) (cs : Children) → space t cs ≡ s → MayPay (top_of s) → u ≡ after_wait c t → MayPay u
unfolding after_wait
waited_pays c t u s cs view pays is =
    let before : MayPay t = subst (λ x. MayPay (top_of x)) (sym view) pays in
    subst MayPay (sym is) (record { running = before.running; fuel = before.fuel; limit = before.limit })
