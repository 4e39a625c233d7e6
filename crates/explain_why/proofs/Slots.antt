-- Files in conflict, by the headers that the code reads.
use Rattle.std.proofs.Common.{◌≡◌, ℕ, true, false, List, take, Option, Some, None, refl, sym, ap, ◌∙◌}
use Rattle.std.specs.Prelude.{option_and_then, if◌then◌else◌}
use Rattle.file_model.specs.File.{File}
use Rattle.file_image.specs.declared.writing.Header.{Header}
use Rattle.file_image.specs.Writes.{IsHeader}
use Rattle.explain_core.proofs.Names.{described}

-- the name of a file, where it is in conflict
abbrev name_if : Option File → Option (List ℕ)
name_if o = option_and_then (λ f. if f.conflicted then Some f.name else None) o

pub named : (o : Option File) (h : Header) (name : List ℕ) → IsHeader o (Some h) → h.conflicted ≡ true → name ≡ take h.name_length h.name → Some name ≡ name_if o
named None h name is so bytes = absurd is
named (Some f) h name is so bytes =
    let flag : f.conflicted ≡ true = sym is.conflicted ∙ so in
    let same : name ≡ f.name = bytes ∙ ap (λ x. x.name) (described h f is) in
    rw (flag, same) refl

pub unnamed : (o : Option File) (h : Header) → IsHeader o (Some h) → h.conflicted ≡ false → None ≡ name_if o
unnamed None h is so = absurd is
unnamed (Some f) h is so =
    let flag : f.conflicted ≡ false = sym is.conflicted ∙ so in
    rw flag refl

pub free : (o : Option File) → IsHeader o None → None ≡ name_if o
free None is = refl
free (Some f) is = absurd is
