-- What reading from left to right gives is in the grammar.
use Rattle.std.proofs.Common.{ℕ, List, Result, Ok, Err, subst, ◌∙◌}
use Rattle.std.specs.Prelude.{IfOk}
use Rattle.space_model.specs.Space.{Top}
use Rattle.fault_model.specs.declared.fault.Fault.{Fault}
use Rattle.fault_model.specs.Gives.{Gives}
use Rattle.parcel_model.specs.declared.error.ParcelError.{ParcelError}
use Rattle.parcel_model.specs.Parcel.{TopOf}
use Rattle.parcel_model.specs.Reading.{IsBytes, top_at}
use Rattle.parcel_model.proofs.Parcels.{top_takes, top_reads}
use Rattle.node_parcel.specs.Meant.{read_top}
use Rattle.node_parcel.proofs.Meaning.{read_is}

pub is_exact : (known : List (List ℕ)) (bytes : List ℕ) (r : Result Top (Fault ParcelError)) → Gives (λ t. t) r (read_top known bytes) → Gives (λ t. t) r (top_at known bytes)
is_exact known bytes r h = subst (λ (s : Result Top ParcelError). Gives (λ t. t) r s) (read_is known bytes) h

is_in : (known : List (List ℕ)) (bytes : List ℕ) (r : Result Top (Fault ParcelError)) → IsBytes bytes → Gives (λ t. t) r (top_at known bytes) → IfOk r (λ t. TopOf known bytes t)
is_in known bytes (Ok t) fits given = top_takes known bytes t fits given
is_in known bytes (Err e) fits given = tt

pub is_found : (known : List (List ℕ)) (bytes : List ℕ) (r : Result Top (Fault ParcelError)) → IsBytes bytes → Gives (λ t. t) r (read_top known bytes) → IfOk r (λ t. TopOf known bytes t)
is_found known bytes r fits given = is_in known bytes r fits (is_exact known bytes r given)

pub is_only : (known : List (List ℕ)) (bytes : List ℕ) (r : Result Top (Fault ParcelError)) (t : Top) → TopOf known bytes t → Gives (λ t. t) r (read_top known bytes) → Gives (λ t. t) r (Ok t)
is_only known bytes r t h given = subst (λ (s : Result Top ParcelError). Gives (λ t. t) r s) (read_is known bytes ∙ top_reads known bytes t h) given
