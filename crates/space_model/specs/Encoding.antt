-- How tops and spaces are encoded, as the types of code that stand for them ask, and how large a space is.
-- Our choice: a restatement for proofs.
use Rattle.std.specs.Prelude.{◌≡◌, ℕ, ◌+◌, ◌≤◌, List, [], ◌∷◌, ◌++◌, Option, Some, None, ◌⊎◌, refl, map, suc}
use Rattle.std.proofs.Common.{arith, sym, ◌∙◌, inl, inr, append_assoc}
use Rattle.std.specs.Coded.{Coded, coded_ℕ, coded_list, coded_option, coded×, coded⊎, code_by}
use base.Stored.{coded_via}
use denote.Param.Weighed.{most}
use Rattle.std.proofs.lemmas.List.{append-nil}
use Rattle.memory_model.specs.Memory.{Memory, coded_memory}
use Rattle.instruction_model.specs.Outcome.{Registers}
use Rattle.space_model.specs.declared.Status.{Status}
use Rattle.space_model.specs.declared.Status.TheVariants.{Running, Stopped}
use Rattle.space_model.specs.declared.Cause.{Cause}
use Rattle.space_model.specs.declared.Cause.TheVariants.{FetchMisaligned, FetchFault, Illegal, Breakpoint, LoadMisaligned, LoadFault, StoreMisaligned, StoreFault, Badcall, Conflict, Limit, Fuel, Ret, Fresh}
use Rattle.space_model.specs.Stop.{cause_number, cause_of}
use Rattle.device_model.specs.Devices.{Devices, coded_devices}
use Rattle.space_model.specs.Space.{Top, Space, space, Children, none, child, children_from}

pub cause_of-cause_number : (c : Cause) → cause_of (cause_number c) ≡ c
cause_of-cause_number FetchMisaligned = refl
cause_of-cause_number FetchFault = refl
cause_of-cause_number Illegal = refl
cause_of-cause_number Breakpoint = refl
cause_of-cause_number LoadMisaligned = refl
cause_of-cause_number LoadFault = refl
cause_of-cause_number StoreMisaligned = refl
cause_of-cause_number StoreFault = refl
cause_of-cause_number Badcall = refl
cause_of-cause_number Conflict = refl
cause_of-cause_number Limit = refl
cause_of-cause_number Fuel = refl
cause_of-cause_number Ret = refl
cause_of-cause_number Fresh = refl

abbrev pub coded_cause : Coded Cause
coded_cause = code_by ℕ coded_ℕ cause_number cause_of cause_of-cause_number

abbrev pub status_parts : Status → Option (Cause × ℕ)
status_parts Running = None
status_parts (Stopped cause value) = Some (cause, value)

abbrev pub status_from : Option (Cause × ℕ) → Status
status_from None = Running
status_from (Some p) = Stopped p.0 p.1

pub status_from-status_parts : (s : Status) → status_from (status_parts s) ≡ s
status_from-status_parts Running = refl
status_from-status_parts (Stopped cause value) = refl

abbrev pub coded_status : Coded Status
coded_status = code_by (Option (Cause × ℕ)) (coded_option (coded× coded_cause coded_ℕ)) status_parts status_from status_from-status_parts

-- A space is told apart by its tops and numbers in the order in which a reader meets them.
abbrev pub Token : Type 0
Token = Top ⊎ Option ℕ

mutual
  pub tokens : Space → List Token
  tokens (space t cs) = inl t ∷ child_tokens cs

  pub child_tokens : Children → List Token
  child_tokens none = inr None ∷ []
  child_tokens (child n s rest) = inr (Some n) ∷ (tokens s ++ child_tokens rest)

mutual
  unfolding tokens

  pub same_space : (s r : Space) (xs ys : List Token) → tokens s ++ xs ≡ tokens r ++ ys → (s ≡ r) × (xs ≡ ys)
  same_space (space t cs) (space u ds) xs ys e =
      let tops : t ≡ u = cc in
      let rest : child_tokens cs ++ xs ≡ child_tokens ds ++ ys = cc in
      let h = same_children cs ds xs ys rest in
      (let same : cs ≡ ds = h.0 in cc, h.1)

  same_children : (cs ds : Children) (xs ys : List Token) → child_tokens cs ++ xs ≡ child_tokens ds ++ ys → (cs ≡ ds) × (xs ≡ ys)
  same_children none none xs ys e = (refl, cc)
  same_children none (child m r ds) xs ys e = cc
  same_children (child n s cs) none xs ys e = cc
  same_children (child n s cs) (child m r ds) xs ys e =
      let numbers : n ≡ m = cc in
      let rest : (tokens s ++ child_tokens cs) ++ xs ≡ (tokens r ++ child_tokens ds) ++ ys = cc in
      let joined : tokens s ++ (child_tokens cs ++ xs) ≡ tokens r ++ (child_tokens ds ++ ys) = sym (append_assoc (tokens s) (child_tokens cs) xs) ∙ rest ∙ append_assoc (tokens r) (child_tokens ds) ys in
      let first = same_space s r _ _ joined in
      let others = same_children cs ds xs ys first.1 in
      (let one : s ≡ r = first.0 in let two : cs ≡ ds = others.0 in cc, others.1)

pub same_tokens : (s r : Space) → tokens s ≡ tokens r → s ≡ r
same_tokens s r e = (same_space s r [] [] (append-nil (tokens s) ∙ e ∙ sym (append-nil (tokens r)))).0

abbrev pub coded_registers : Coded Registers
coded_registers = code_by (ℕ × List ℕ) (coded× coded_ℕ (coded_list coded_ℕ)) (λ r. (r.pc, r.x)) (λ p. record { pc = p.0; x = p.1 }) (λ _. refl)

abbrev pub coded_top : Coded Top
coded_top = code_by (Registers × (Memory × (Option Memory × (Option ℕ × (ℕ × (ℕ × (Status × Option Devices)))))))
    (coded× coded_registers (coded× coded_memory (coded× (coded_option coded_memory) (coded× (coded_option coded_ℕ) (coded× coded_ℕ (coded× coded_ℕ (coded× coded_status (coded_option coded_devices))))))))
    (λ t. (t.registers, (t.memory, (t.snapshot, (t.limit, (t.fuel, (t.used, (t.status, t.devices))))))))
    (λ p. record { registers = p.0; memory = p.1.0; snapshot = p.1.1.0; limit = p.1.1.1.0; fuel = p.1.1.1.1.0; used = p.1.1.1.1.1.0; status = p.1.1.1.1.1.1.0; devices = p.1.1.1.1.1.1.1 })
    (λ _. refl)

abbrev pub coded_space : Coded Space
coded_space = coded_via (coded_list (coded⊎ coded_top (coded_option coded_ℕ))) tokens same_tokens

-- how many spaces a tree has
unfoldable mutual
  pub size_of : Space → ℕ
  size_of (space t cs) = suc (sizes cs)

  pub sizes : Children → ℕ
  sizes none = 0
  sizes (child n s rest) = size_of s + sizes rest

-- no child is as large as its parent
pub most_le_sizes : (t : Top) (es : List (ℕ × Space)) → most (λ s. size_of s + 1) (map (λ e. e.1) es) ≤ size_of (space t (children_from es))
unfolding size_of
most_le_sizes t [] = omega arith
most_le_sizes t (e ∷ es) = omega (arith, most_le_sizes t es)
