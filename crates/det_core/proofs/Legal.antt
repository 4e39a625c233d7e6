-- Histories that grow.
use Rattle.std.proofs.Common.{List, [], ◌∷◌, ◌++◌, refl, subst, sym}
use Rattle.space_model.specs.Space.{Space}
use Rattle.node_places.specs.Places.{Places}
use Rattle.det_core.specs.declared.entry.Entry.{Entry}
use Rattle.det_core.specs.Legal.{Happens, Leads}

-- more entries
pub leads-append : (es fs : List Entry) (s t u : Space) (ps qs rs : Places) → Leads s ps es t qs → Leads t qs fs u rs → Leads s ps (es ++ fs) u rs
leads-append [] fs s t u ps qs rs same rest = subst (λ x. Leads x ps fs u rs) (sym same.0) (subst (λ x. Leads t x fs u rs) (sym same.1) rest)
leads-append (e ∷ es) fs s t u ps qs rs led rest = (led.0, led.1, led.2, leads-append es fs led.0 t u led.1 qs rs led.3 rest)

-- one entry
pub leads-one : (e : Entry) (s t : Space) (ps qs : Places) → Happens e s ps t qs → Leads s ps (e ∷ []) t qs
leads-one e s t ps qs happens = (t, qs, happens, (refl, refl))

-- one more entry
pub legal-append : (es : List Entry) (e : Entry) (s t u : Space) (ps qs rs : Places) → Leads s ps es t qs → Happens e t qs u rs → Leads s ps (es ++ e ∷ []) u rs
legal-append es e s t u ps qs rs led happens = leads-append es (e ∷ []) s t u ps qs rs led (leads-one e t u qs rs happens)
