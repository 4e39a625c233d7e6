use Rattle.std.proofs.Common.{◌≡◌, ◌+◌, ◌%◌, ◌^◌, cond, ap, ◌∙◌, arith, length}
use Rattle.file_model.specs.Operations.{with_content}
use Rattle.file_image.specs.Lookup.{file_in}
use Rattle.file_image.proofs.Contents.{length_new, content_written}
use Rattle.file_image.proofs.putting.write_content.Goals as goal

pub returns-clause-bytes : goal.returns-clause-bytes
returns-clause-bytes g c =
    let b = g.B.FileBytes.bytes c.args.bytes.now in
    let f = file_in b c.args.slot in
    let r = c.read_header-header.ensures in
    let e : c.start_of-start.result ≡ cond c.args.add (length f.content) 0 = c.start_of-start.ensures ∙ ap (λ n. cond c.args.add n 0) r.length in
    content_written b (g.B.FileBytes.bytes c.write_header.new.bytes) (g.B.FileBytes.bytes c.write_bytes.new.bytes) c.args.slot c.args.part.now c.args.add c.start_of-start.result c.requires.slot e
    (c.write_header.ensures.bytes (with_content c.args.part.now c.args.add f) (record {
      name = r.name;
      name_length = r.name_length;
      version = c.next_version.ensures ∙ ap (λ v. (v + 1) % 2 ^ 32) r.version;
      base = r.base;
      length = length_new f c.args.part.now c.args.add c.start_of-start.result e;
      length_at_base = r.length_at_base;
      append = r.append;
      conflicted = r.conflicted;
      deleted = r.deleted;
    }))
    c.write_bytes.ensures.bytes

pub write_header-requires-clause-ready : goal.write_header-requires-clause-ready
write_header-requires-clause-ready g c = g.met.B.FileBytes.header_ready c.args.bytes.now c.args.slot c.requires.ready

pub write_bytes-requires-clause-content : goal.write_bytes-requires-clause-content
write_bytes-requires-clause-content g c = λ more. g.met.B.FileBytes.ready_on c.args.bytes.now c.write_header.new.bytes c.args.slot c.write_header.ensures.kept c.requires.ready

pub write_bytes-requires-clause-beyond : goal.write_bytes-requires-clause-beyond
write_bytes-requires-clause-beyond g c = λ more.
    let s = g.met.B.FileBytes.spared_on c.args.bytes.now c.write_header.new.bytes c.args.slot c.write_header.ensures.kept in
    omega (arith, s, c.requires.all)
