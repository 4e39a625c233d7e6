use Rattle.std.proofs.Common.{sym, ◌∙◌}
use Rattle.page_store.specs.Bytes.{bytes_of}
use Rattle.node_parcel.proofs.Kept.{number_is}
use Rattle.node_parcel.proofs.residents.Residents.has_at.Goals as goal

pub returns-in-Some : goal.returns-in-Some
returns-in-Some c = λ t. number_is c.args.self.now (bytes_of c.args.page.now) c.args.number c.bounds.ensures c.in-Some.ensures.there (sym c.in-Some.ensures.some ∙ c.has_bytes_of.ensures.0 t)
