use Rattle.std.proofs.Common.{◌+◌, ◌%◌, ◌^◌, refl, ap, ◌∙◌}
use Rattle.file_model.specs.Reconcile.{with_conflict}
use Rattle.file_model.proofs.Headers.{same_written}
use Rattle.file_image.specs.Lookup.{file_in}
use Rattle.file_image.proofs.Parts.{own_content, own_name}
use Rattle.file_image.proofs.taking.mark_conflicted.Goals as goal

pub returns-clause-bytes : goal.returns-clause-bytes
returns-clause-bytes g c =
    let b = g.P.FileBytes.bytes c.args.parent.now in
    let f = with_conflict (file_in b c.args.to) in
    let r = c.read_header-header.ensures in
    c.write_header.ensures.bytes f (record {
      name = r.name;
      name_length = r.name_length;
      version = c.next_version.ensures ∙ ap (λ v. (v + 1) % 2 ^ 32) r.version;
      base = r.base;
      length = r.length;
      length_at_base = r.length_at_base;
      append = r.append;
      conflicted = refl;
      deleted = refl;
    })
    ∙ same_written b c.args.to f (own_name b c.args.to c.requires.to) (own_content b c.args.to)

pub write_header-requires-clause-ready : goal.write_header-requires-clause-ready
write_header-requires-clause-ready g c = g.met.P.FileBytes.header_ready c.args.parent.now c.args.to c.requires.ready
