-- What reading from left to right gives is in the grammar; segments of an image are short.
use Rattle.std.proofs.Common.{ℕ, ◌+◌, ◌<◌, ◌^◌, List, [], ◌∷◌, length, All, Result, Ok, Err}
use Rattle.std.specs.Prelude.{IfOk}
use Rattle.std.specs.List.{AllByRecursion}
use Rattle.std.proofs.lemmas.List.Elements.{All-from_recursion}
use Rattle.image_model.specs.Image as model
use Rattle.image_model.specs.Image.{ImageOf, AreSegments, last_page}
use Rattle.image_model.specs.Reading.{IsBytes, image_of}
use Rattle.image_model.proofs.Images.{image_takes}
use Rattle.fault_model.specs.declared.fault.Fault.{Fault}
use Rattle.fault_model.specs.Gives.{Gives}
use Rattle.image_model.specs.declared.error.ImageError.{ImageError}
use Rattle.image_file.specs.declared.image.Segment.{Segment}
use Rattle.image_file.specs.View.{segment_view, segment_views}

pub is_found : (bytes : List ℕ) (r : Result model.Image (Fault ImageError)) → IsBytes bytes → Gives (λ i. i) r (image_of bytes) → IfOk r (λ i. ImageOf bytes i)
is_found bytes (Ok i) fits given = image_takes bytes i fits given
is_found bytes (Err e) fits given = tt

short_each : (page : ℕ) (ss : List Segment) → AreSegments page (segment_views ss) → AllByRecursion (λ s. length (segment_view s).content < 2 ^ 32) ss
short_each page [] h = tt
short_each page (s ∷ ss) h = (h.0.short, short_each (last_page (segment_view s) + 1) ss h.1)

pub are_short : (ss : List Segment) → AreSegments 0 (segment_views ss) → All (λ s. length (segment_view s).content < 2 ^ 32) ss
are_short ss h = All-from_recursion (λ s. length (segment_view s).content < 2 ^ 32) ss (short_each 0 ss h)
