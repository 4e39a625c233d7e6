-- Which formats have the permissions of an image, and so how many spellings it has.
use Rattle.std.proofs.Common.{◌≡◌, ℕ, zero, suc, ◌/◌, ◌%◌, ◌<◌, true, List, [], ◌∷◌, get_or, inl, inr, refl, sym, ap, arith}
use Rattle.std.specs.Prelude.{◌≢◌, ◌↔◌, ◌⊎◌, slice_index}
use Rattle.std.specs.List.{Contains}
use Rattle.std.proofs.lemmas.Bool.{cond_both, cases_eq, eqb-true, eq-eqb}
use Rattle.std.proofs.lemmas.List.Sums.{AllPass-from_list_all, list_all-from_AllPass}
use Rattle.image_model.specs.declared.format.Format.{Format}
use Rattle.image_model.specs.declared.format.Format.TheVariants.{Dti1, Dti2}
use Rattle.image_model.specs.Image.{Segment, Image, has_permission, has_permissions, format_of, spelling, AreInBoth, IsImage, ImageOf}

-- ---- DTI2 has all permissions, and DTI1 those that are in both

pub all_in_dti2 : (ss : List Segment) → has_permissions Dti2 ss ≡ true
all_in_dti2 [] = refl
all_in_dti2 (s ∷ ss) = all_in_dti2 ss

pub has_format_of : (i : Image) → has_permissions (format_of i) i.segments ≡ true
has_format_of i = cond_both (has_permissions Dti1 i.segments) Dti1 Dti2 (λ f. has_permissions f i.segments ≡ true) (λ e. e) (λ _. all_in_dti2 i.segments)

abbrev both : List ℕ
both = 0 ∷ 2 ∷ 5 ∷ 7 ∷ []

in_both : (p : ℕ) → has_permission Dti1 p ≡ true → Contains both p
in_both p e =
    let alike : p / 4 ≡ p % 2 = eqb-true _ _ e in
    elim (cases_eq p 0) [
      | inl none ↦ (0, omega arith, sym none)
      | inr some ↦ elim (cases_eq p 2) [
        | inl writes ↦ (1, omega arith, sym writes)
        | inr alone ↦ elim (cases_eq p 5) [
          | inl reads ↦ (2, omega arith, sym reads)
          | inr more ↦ (3, omega arith, omega arith)
        ]
      ]
    ]

in_dti1 : (p k : ℕ) → k < 4 → get_or both k p ≡ p → has_permission Dti1 p ≡ true
in_dti1 p zero lt e = eq-eqb _ _ (omega arith)
in_dti1 p (suc zero) lt e = eq-eqb _ _ (omega arith)
in_dti1 p (suc (suc zero)) lt e = eq-eqb _ _ (omega arith)
in_dti1 p (suc (suc (suc zero))) lt e = eq-eqb _ _ (omega arith)
in_dti1 p (suc (suc (suc (suc k)))) lt e = absurd (omega arith)

are_in_both : (ss : List Segment) → has_permissions Dti1 ss ≡ true → AreInBoth ss
are_in_both ss e =
    let each = AllPass-from_list_all (λ (s : Segment). has_permission Dti1 s.permission) ss e in
    λ k d lt. in_both _ (each k d lt)

are_in_dti1 : (ss : List Segment) → AreInBoth ss → has_permissions Dti1 ss ≡ true
are_in_dti1 ss h = list_all-from_AllPass (λ (s : Segment). has_permission Dti1 s.permission) ss (λ k d lt. let c = h k d lt in in_dti1 _ c.0 c.1 c.2)

-- ---- spellings

pub different : (i : Image) → spelling Dti1 i ≢ spelling Dti2 i
different i e = absurd (omega (arith, ap (λ (bytes : List ℕ). slice_index bytes 3) e))

spelled : (format : Format) (bytes : List ℕ) (i : Image) → IsImage i → has_permissions format i.segments ≡ true → bytes ≡ spelling format i → ImageOf bytes i
spelled format bytes i h has e = record { sound = h; format = format; permissions = has; spelled = e }

by_format : (format : Format) (bytes : List ℕ) (i : Image) → has_permissions format i.segments ≡ true → bytes ≡ spelling format i → ((AreInBoth i.segments) × (bytes ≡ spelling Dti1 i)) ⊎ (bytes ≡ spelling Dti2 i)
by_format Dti1 bytes i has e = inl (are_in_both i.segments has, e)
by_format Dti2 bytes i has e = inr e

pub two : (bytes : List ℕ) (i : Image) → IsImage i → AreInBoth i.segments → ImageOf bytes i ↔ ((bytes ≡ spelling Dti1 i) ⊎ (bytes ≡ spelling Dti2 i))
two bytes i h both_have = (
  λ o. elim (by_format o.format bytes i o.permissions o.spelled) [
    | inl first ↦ inl first.1
    | inr second ↦ inr second
  ],
  λ c. elim c [
    | inl first ↦ spelled Dti1 bytes i h (are_in_dti1 i.segments both_have) first
    | inr second ↦ spelled Dti2 bytes i h (all_in_dti2 i.segments) second
  ],
)

pub one : (bytes : List ℕ) (i : Image) → IsImage i → (AreInBoth i.segments → ⊥) → ImageOf bytes i ↔ (bytes ≡ spelling Dti2 i)
one bytes i h none = (
  λ o. elim (by_format o.format bytes i o.permissions o.spelled) [
    | inl first ↦ absurd (none first.0)
    | inr second ↦ second
  ],
  λ e. spelled Dti2 bytes i h (all_in_dti2 i.segments) e,
)
