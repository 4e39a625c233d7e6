-- An image of a root's memory, and its spellings in the formats DTI1 and DTI2.
-- Our choice: the formats.
use Rattle.std.specs.Prelude.{◌≡◌, ℕ, ◌+◌, ◌-◌, ◌*◌, ◌/◌, ◌%◌, ◌^◌, ◌≤◌, ◌<◌, ◌==◌, Bool, true, if◌then◌else◌, List, [], ◌∷◌, ◌++◌, length, All, Contains, refl, codes}
use Rattle.std.specs.Int.{w16, w32, to_le_bytes}
use Rattle.std.specs.List.{flat_map, list_all}
use Rattle.std.specs.Coded.{Coded, coded_ℕ, coded_list, coded×, code_by}
use Rattle.memory_model.specs.Sizes.{page_size, greatest_permission}
use Rattle.image_model.specs.declared.format.Format.{Format}
use Rattle.image_model.specs.declared.format.Format.TheVariants.{Dti1, Dti2}

-- bytes that stand from an address on, and the permission of each page that they touch
pub record Segment : Type 0 where
  pub address : ℕ
  pub permission : ℕ
  pub content : List ℕ

-- where the root begins, its stack pointer, and what its memory has
pub record Image : Type 0 where
  pub entry : ℕ
  pub stack : ℕ
  pub segments : List Segment

abbrev pub coded_segment : Coded Segment
coded_segment = code_by (ℕ × (ℕ × List ℕ)) (coded× coded_ℕ (coded× coded_ℕ (coded_list coded_ℕ))) (λ s. (s.address, (s.permission, s.content))) (λ p. record { address = p.0; permission = p.1.0; content = p.1.1 }) (λ _. refl)

abbrev pub coded_image : Coded Image
coded_image = code_by (ℕ × (ℕ × List Segment)) (coded× coded_ℕ (coded× coded_ℕ (coded_list coded_segment))) (λ i. (i.entry, (i.stack, i.segments))) (λ p. record { entry = p.0; stack = p.1.0; segments = p.1.1 }) (λ _. refl)

-- ---- the formats: they differ in their marks and in the permissions that they write

abbrev pub mark : Format → List ℕ
mark Dti1 = codes "DTI1"
mark Dti2 = codes "DTI2"

-- the greatest byte that stands for a permission
abbrev pub greatest_byte : Format → ℕ
greatest_byte Dti1 = 3
greatest_byte Dti2 = greatest_permission

-- the permission that a byte stands for; in DTI1 what may be read may be executed too
abbrev pub permission_of : Format → ℕ → ℕ
permission_of Dti1 byte = byte + 4 * (byte % 2)
permission_of Dti2 byte = byte

-- the byte that stands for a permission
abbrev pub permission_byte : Format → ℕ → ℕ
permission_byte Dti1 p = p % 4
permission_byte Dti2 p = p

-- a permission that a byte stands for: all of them, but in DTI1 those alone that let execute exactly what they let read
abbrev pub has_permission : Format → ℕ → Bool
has_permission Dti1 p = p / 4 == p % 2
has_permission Dti2 p = true

-- the same of all segments
abbrev pub has_permissions : Format → List Segment → Bool
has_permissions format ss = list_all (λ s. has_permission format s.permission) ss

-- the format in which an image is written: DTI1 where it has the permissions, else DTI2
abbrev pub format_of : Image → Format
format_of i = if has_permissions Dti1 i.segments then Dti1 else Dti2

-- ---- spellings, little endian

-- address, permission, length, bytes
abbrev pub segment_bytes : Format → Segment → List ℕ
segment_bytes format s = to_le_bytes w32 s.address ++ permission_byte format s.permission ∷ (to_le_bytes w32 (length s.content) ++ s.content)

-- the mark, entry, stack pointer, count, and each segment
abbrev pub spelling : Format → Image → List ℕ
spelling format i = mark format ++ (to_le_bytes w32 i.entry ++ (to_le_bytes w32 i.stack ++ (to_le_bytes w16 (length i.segments) ++ flat_map (segment_bytes format) i.segments)))

-- the spelling that is written
abbrev pub image_bytes : Image → List ℕ
image_bytes i = spelling (format_of i) i

-- each permission is one that both formats have: 0, 2, 5 or 7
abbrev pub AreInBoth : List Segment → Type 0
AreInBoth ss = All (λ s. Contains (0 ∷ 2 ∷ 5 ∷ 7 ∷ []) s.permission) ss

-- ---- what has a spelling

-- the page of the last byte
abbrev pub last_page : Segment → ℕ
last_page s = (s.address + length s.content - 1) / page_size

-- a segment whose first page is this page or one above it
pub record IsSegment (page : ℕ) (s : Segment) : Type 0 where
  pub order : page ≤ s.address / page_size
  pub permission : s.permission ≤ greatest_permission
  pub filled : 0 < length s.content
  pub short : length s.content < 2 ^ 32
  pub range : s.address + length s.content ≤ 2 ^ 32

-- each segment begins in a page above the last page of the one before
abbrev pub AreSegments : ℕ → List Segment → Type 0
AreSegments page [] = Unit {0}
AreSegments page (s ∷ ss) = IsSegment page s × AreSegments (last_page s + 1) ss

pub record IsImage (i : Image) : Type 0 where
  pub entry : i.entry < 2 ^ 32
  pub stack : i.stack < 2 ^ 32
  pub count : length i.segments ≤ 64
  pub segments : AreSegments 0 i.segments

-- ---- the grammar

-- the bytes are the spelling of the image in a format that has its permissions
pub record ImageOf (bytes : List ℕ) (i : Image) : Type 0 where
  pub sound : IsImage i
  pub format : Format
  pub permissions : has_permissions format i.segments ≡ true
  pub spelled : bytes ≡ spelling format i
