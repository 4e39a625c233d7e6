-- What a word spells has registers and immediates of its format.
use Rattle.std.proofs.Common.{◌≡◌, ℕ, ◌<◌, ◌^◌, ◌%◌, true, false, cond, Option, Some, List, [], ◌∷◌, arith, IfSome, subst}
use Rattle.std.proofs.lemmas.Bool.Decides.{nat_tests}
use Rattle.instruction_model.specs.Word.{rd, rs1, rs2, immediate_i, immediate_s, immediate_b, immediate_u, immediate_j}
use Rattle.instruction_model.specs.declared.Instruction.{Instruction}
use Rattle.instruction_model.specs.Instruction.{Row, takes, listing, first_of, instruction_of, IsSpelled}
use Rattle.instruction_model.specs.Form.{HasFields, IsSigned}

infixr 40 ◌&◌
abbrev ◌&◌ : {A B : Type 0} → A → B → A × B
a & b = (a, b)

AllRows : (Row → Type 0) → List Row → Type 0
AllRows P [] = Unit {0}
AllRows P (r ∷ rows) = P r × AllRows P rows

signed_i : (w : ℕ) → w < 2 ^ 32 → IsSigned 12 (immediate_i w)
signed_i w h = (grind (arith, nat_tests), grind (arith, nat_tests))

signed_s : (w : ℕ) → w < 2 ^ 32 → IsSigned 12 (immediate_s w)
signed_s w h = (grind (arith, nat_tests), grind (arith, nat_tests))

signed_b : (w : ℕ) → w < 2 ^ 32 → IsSigned 13 (immediate_b w) × (immediate_b w % 2 ≡ 0)
signed_b w h = ((grind (arith, nat_tests), grind (arith, nat_tests)), grind (arith, nat_tests))

signed_j : (w : ℕ) → w < 2 ^ 32 → IsSigned 21 (immediate_j w) × (immediate_j w % 2 ≡ 0)
signed_j w h = ((grind (arith, nat_tests), grind (arith, nat_tests)), grind (arith, nat_tests))

below_32 : (n : ℕ) → n % 32 < 32
below_32 n = omega arith

upper_fields : (w : ℕ) → w < 2 ^ 32 → (rd w < 32) × (immediate_u w < 2 ^ 32) × (immediate_u w % 2 ^ 12 ≡ 0)
upper_fields w h = (omega arith, omega arith, omega arith)

jump_fields : (w : ℕ) → w < 2 ^ 32 → (rd w < 32) × IsSigned 21 (immediate_j w) × (immediate_j w % 2 ≡ 0)
jump_fields w h = let j = signed_j w h in (omega arith, j.0, j.1)

branch_fields : (w : ℕ) → w < 2 ^ 32 → (rs1 w < 32) × (rs2 w < 32) × IsSigned 13 (immediate_b w) × (immediate_b w % 2 ≡ 0)
branch_fields w h = let b = signed_b w h in (omega arith, omega arith, b.0, b.1)

store_fields : (w : ℕ) → w < 2 ^ 32 → (rs1 w < 32) × (rs2 w < 32) × IsSigned 12 (immediate_s w)
store_fields w h = (omega arith, omega arith, signed_s w h)

immediate_fields : (w : ℕ) → w < 2 ^ 32 → (rd w < 32) × (rs1 w < 32) × IsSigned 12 (immediate_i w)
immediate_fields w h = (omega arith, omega arith, signed_i w h)

register_fields : (w : ℕ) → w < 2 ^ 32 → (rd w < 32) × (rs1 w < 32) × (rs2 w < 32)
register_fields w h = (omega arith, omega arith, omega arith)

abbrev MakesFields : Row → Type 0
MakesFields r = (w : ℕ) → w < 2 ^ 32 → HasFields (r.makes w)

no_fields : (w : ℕ) → w < 2 ^ 32 → Unit {0}
no_fields w h = tt

rows_make : AllRows MakesFields listing
unfolding AllRows
rows_make =
    upper_fields & upper_fields & jump_fields & immediate_fields
    & branch_fields & branch_fields & branch_fields & branch_fields & branch_fields & branch_fields
    & immediate_fields & immediate_fields & immediate_fields & immediate_fields & immediate_fields
    & store_fields & store_fields & store_fields
    & immediate_fields & immediate_fields & immediate_fields & immediate_fields & immediate_fields & immediate_fields
    & register_fields & register_fields & register_fields
    & register_fields & register_fields & register_fields & register_fields & register_fields & register_fields & register_fields & register_fields & register_fields & register_fields
    & no_fields & no_fields & no_fields
    & tt

-- what holds of what each row makes of a word holds of what the first does that takes it
first_has : (P : Instruction → Type 0) (rows : List Row) (w : ℕ) → AllRows (λ r. P (r.makes w)) rows → IfSome (first_of rows w) P
unfolding AllRows
first_has P [] w h = tt
first_has P (r ∷ rows) w h =
    elim (takes r.form w) as (λ b. IfSome (cond b (Some (r.makes w)) (first_of rows w)) P) [ true ↦ h.0 | false ↦ first_has P rows w h.1 ]

at_word : (rows : List Row) (w : ℕ) → w < 2 ^ 32 → AllRows MakesFields rows → AllRows (λ r. HasFields (r.makes w)) rows
unfolding AllRows
at_word [] w h all = tt
at_word (r ∷ rows) w h all = (all.0 w h, at_word rows w h all.1)

instruction_of-fields : (w : ℕ) → w < 2 ^ 32 → IfSome (instruction_of w) HasFields
unfolding instruction_of
instruction_of-fields w h = first_has HasFields listing w (at_word listing w h rows_make)

pub has_fields : (i : Instruction) → IsSpelled i → HasFields i
has_fields i s = let f = instruction_of-fields s.0 s.1 in let e : instruction_of s.0 ≡ Some i = s.2 in let P : Option Instruction → Type 0 = λ o. IfSome o HasFields in subst P e f
