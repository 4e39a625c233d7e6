-- Names of files, byte by byte, and headers of files.
use Rattle.std.proofs.Common.{◌≡◌, ℕ, ◌-◌, ◌≤◌, List, [], ◌∷◌, ◌++◌, length, length-append, take, Option, Some, None, refl, ap, ap₂, ◌∙◌, arith}
use Rattle.std.specs.Prelude.{replicate}
use Rattle.file_model.specs.File.{File}
use Rattle.file_model.specs.Slots.{with_padding}
use Rattle.file_image.specs.declared.writing.Header.{Header}
use Rattle.file_image.specs.Writes.{Describes, IsHeader}
use Rattle.explain_core.specs.Contents.{file_text, shown_file, slot_text}
use Rattle.explain_core.specs.Headers.{shown_header}

-- the bytes of a name, before the zeros behind it
own_bytes : (name rest : List ℕ) → take (length name) (name ++ rest) ≡ name
own_bytes [] rest = refl
own_bytes (b ∷ name) rest = ap (λ bs. b ∷ bs) (own_bytes name rest)

own_name : (name padded : List ℕ) (n : ℕ) → padded ≡ with_padding name → n ≡ length name → take n padded ≡ name
own_name name padded n is count = ap₂ take count is ∙ own_bytes name (replicate (32 - length name) 0)

-- a header shows what its file does
pub described : (h : Header) (f : File) → Describes h f → shown_header h ≡ shown_file f
described h f d =
    let name = own_name f.name h.name h.name_length d.name d.name_length in
    λ i. record { name = name i; version = d.version i; length = d.length i; base = d.base i; append = d.append i; conflicted = d.conflicted i; deleted = d.deleted i }

pub short : (o : Option File) (h : Header) → IsHeader o (Some h) → length h.name ≡ 32 → h.name_length ≤ 32
short None h is long = absurd is
short (Some f) h is long =
    let count = is.name_length in
    let sum = length-append f.name (replicate (32 - length f.name) 0) in
    let all : length h.name ≡ length (f.name ++ replicate (32 - length f.name) 0) = ap length is.name in
    omega (arith, long, count, sum, all)

-- and so does its slot
same_shown : (o : Option File) (h : Header) → IsHeader o (Some h) → (f : File) × (o ≡ Some f) × (shown_header h ≡ shown_file f)
same_shown None h is = absurd is
same_shown (Some f) h is = (f, refl, described h f is)

pub slot_used : (slot : ℕ) (o : Option File) (h : Header) → IsHeader o (Some h) → file_text slot (shown_header h) ≡ slot_text slot o
slot_used slot None h is = absurd is
slot_used slot (Some f) h is = ap (file_text slot) (described h f is)

pub slot_free : (slot : ℕ) (o : Option File) → IsHeader o None → [] ≡ slot_text slot o
slot_free slot None is = refl
slot_free slot (Some f) is = absurd is
