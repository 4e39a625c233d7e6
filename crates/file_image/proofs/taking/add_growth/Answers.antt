use Rattle.std.proofs.Common.{◌≡◌, ◌+◌, ◌-◌, ◌%◌, ◌^◌, ap, ◌∙◌, arith, length}
use Rattle.file_model.specs.Reconcile.{with_addition}
use Rattle.file_image.specs.Lookup.{file_in}
use Rattle.file_image.proofs.Parts.{short_file}
use Rattle.file_image.proofs.Growth.{grew_from, grown_fits, length-joint_content, growth_is, growth_written}
use Rattle.file_image.proofs.taking.add_growth.Goals as goal

pub overflow_sub-count : goal.overflow_sub-count
overflow_sub-count g c =
    let e = grew_from (file_in (g.C.FileBytes.bytes c.args.child.now) c.args.slot) (file_in (g.P.FileBytes.bytes c.args.parent.now) c.args.to) c.requires.joinable in
    omega (arith, e, c.length_at_base-from.ensures, c.length.ensures)

pub overflow_add-header : goal.overflow_add-header
overflow_add-header g c =
    let e = grown_fits (file_in (g.C.FileBytes.bytes c.args.child.now) c.args.slot) (file_in (g.P.FileBytes.bytes c.args.parent.now) c.args.to) c.requires.joinable in
    omega (arith, e, c.length_at_base-from.ensures, c.length.ensures, c.read_header-header.ensures.length)

pub copy_bytes-requires : goal.copy_bytes-requires
copy_bytes-requires g c =
    let e = grown_fits (file_in (g.C.FileBytes.bytes c.args.child.now) c.args.slot) (file_in (g.P.FileBytes.bytes c.args.parent.now) c.args.to) c.requires.joinable in
    let h = grew_from (file_in (g.C.FileBytes.bytes c.args.child.now) c.args.slot) (file_in (g.P.FileBytes.bytes c.args.parent.now) c.args.to) c.requires.joinable in
    let s = short_file (g.C.FileBytes.bytes c.args.child.now) c.args.slot c.requires.slot in
    let n = c.read_header-header.ensures.length in
    record {
      slot = c.requires.to.within;
      within = omega (arith, e, n, c.length_at_base-from.ensures, c.length.ensures);
      from = omega (arith, s, h, c.length_at_base-from.ensures, c.length.ensures, c.requires.slot.within);
      ready = g.met.P.FileBytes.ready_on c.args.parent.now c.write_header.new.bytes c.args.to c.write_header.ensures.kept c.requires.ready;
      beyond = (let z = g.met.P.FileBytes.spared_on c.args.parent.now c.write_header.new.bytes c.args.to c.write_header.ensures.kept in omega (arith, z, c.requires.all));
    }

pub returns-clause-bytes : goal.returns-clause-bytes
returns-clause-bytes g c =
    let p = g.P.FileBytes.bytes c.args.parent.now in
    let d = g.C.FileBytes.bytes c.args.child.now in
    let child = file_in d c.args.slot in
    let r = c.read_header-header.ensures in
    let n : c.length.result - c.length_at_base-from.result ≡ length child.content - c.length_at_base-from.result = ap (λ m. m - c.length_at_base-from.result) c.length.ensures in
    let l : c.read_header-header.result.length + (c.length.result - c.length_at_base-from.result) ≡ length (file_in p c.args.to).content + (length child.content - child.length_at_base) =
    omega (arith, c.length.ensures, c.length_at_base-from.ensures, r.length) in
    growth_written p (g.P.FileBytes.bytes c.write_header.new.bytes) (g.P.FileBytes.bytes c.copy_bytes.new.parent) c.args.to c.read_header-header.result.length child _ c.requires.to r.length
    (growth_is d c.args.slot c.length_at_base-from.result (c.length.result - c.length_at_base-from.result) c.length_at_base-from.ensures n)
    (c.write_header.ensures.bytes (with_addition child (file_in p c.args.to)) (record {
      name = r.name;
      name_length = r.name_length;
      version = c.next_version.ensures ∙ ap (λ v. (v + 1) % 2 ^ 32) r.version;
      base = r.base;
      length = l ∙ length-joint_content child (file_in p c.args.to);
      length_at_base = r.length_at_base;
      append = r.append;
      conflicted = r.conflicted;
      deleted = r.deleted;
    }))
    c.copy_bytes.ensures.bytes

pub write_header-requires-clause-ready : goal.write_header-requires-clause-ready
write_header-requires-clause-ready g c = g.met.P.FileBytes.header_ready c.args.parent.now c.args.to c.requires.ready
