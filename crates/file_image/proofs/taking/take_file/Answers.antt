use Rattle.std.proofs.Common.{◌≡◌, ℕ, ◌+◌, ◌-◌, ◌*◌, ◌<◌, drop, refl, ap, sym, ◌∙◌, arith}
use Rattle.file_model.specs.Slots.{with_bytes, bytes_from, with_slot, slot_start}
use Rattle.file_model.specs.Reconcile.{child_file}
use Rattle.file_model.proofs.Bytes.{drop-bytes_from}
use Rattle.file_image.specs.Lookup.{file_in}
use Rattle.file_image.proofs.Parts.{content_behind, own_content, short_file}
use Rattle.file_image.proofs.taking.take_file.Goals as goal

pub overflow_sub-header : goal.overflow_sub-header
overflow_sub-header g c =
    let z = g.met.P.FileBytes.spared_on c.args.parent.now c.write_header.new.bytes c.args.to c.write_header.ensures.kept in
    omega (arith, z, c.spare-spare.ensures, c.requires.spared.few, c.read_header-header.ensures.length)

pub overflow_add-spare : goal.overflow_add-spare
overflow_add-spare g c =
    let s = short_file (g.C.FileBytes.bytes c.args.child.now) c.args.slot c.requires.slot in
    let z = g.met.P.FileBytes.spared_on c.args.parent.now c.write_header.new.bytes c.args.to c.write_header.ensures.kept in
    omega (arith, s, z, c.spare-spare.ensures, c.requires.spared.few)

pub overflow_add-slot-2 : goal.overflow_add-slot-2
overflow_add-slot-2 g c =
    let s = short_file (g.C.FileBytes.bytes c.args.child.now) c.args.slot c.requires.slot in
    let z = g.met.P.FileBytes.spared_on c.args.parent.now c.write_header.new.bytes c.args.to c.write_header.ensures.kept in
    omega (arith, s, z, c.spare-spare.ensures, c.requires.spared.few, c.requires.slot.within)

pub copy_bytes-requires : goal.copy_bytes-requires
copy_bytes-requires g c =
    let s = short_file (g.C.FileBytes.bytes c.args.child.now) c.args.slot c.requires.slot in
    let n = c.read_header-header.ensures.length in
    let z = g.met.P.FileBytes.spared_on c.args.parent.now c.write_header.new.bytes c.args.to c.write_header.ensures.kept in
    let w = c.spare-spare.ensures in
    record {
      slot = c.requires.to;
      within = omega (arith, s, n, z, w, c.requires.spared.few);
      from = omega (arith, s, n, z, w, c.requires.spared.few, c.requires.slot.within);
      ready = g.met.P.FileBytes.ready_on c.args.parent.now c.write_header.new.bytes c.args.to c.write_header.ensures.kept c.requires.ready;
      beyond = omega (arith, z, w);
    }

pub returns-clause-bytes : goal.returns-clause-bytes
unfolding with_slot
returns-clause-bytes g c =
    let p = g.P.FileBytes.bytes c.args.parent.now in
    let h : ℕ → ℕ = g.P.FileBytes.bytes c.write_header.new.bytes in
    let d = g.C.FileBytes.bytes c.args.child.now in
    let content = (file_in d c.args.slot).content in
    let f = child_file (file_in d c.args.slot) c.args.base c.args.length_at_base in
    let r = c.read_header-header.ensures in
    let spare = c.spare-spare.result in
    let at = slot_start c.args.to + 4096 in
    let z : spare ≡ g.P.FileBytes.spared c.args.parent.now c.args.to = c.spare-spare.ensures ∙ g.met.P.FileBytes.spared_on c.args.parent.now c.write_header.new.bytes c.args.to c.write_header.ensures.kept in
    let x : bytes_from d (65536 * c.args.slot + 4096 + spare) (c.read_header-header.result.length - spare) ≡ drop spare content =
    sym (drop-bytes_from d (65536 * c.args.slot + 4096) c.read_header-header.result.length spare)
    ∙ ap (drop spare) (ap (bytes_from d (65536 * c.args.slot + 4096)) r.length ∙ sym (own_content d c.args.slot)) in
    let a : slot_start c.args.to + (4096 + spare) ≡ at + spare = omega arith in
    let behind : with_bytes h (at + spare) (drop spare content) ≡ with_bytes h at content = λ i y. content_behind h at spare content (omega (arith, z, c.requires.spared.few))
    (λ j below. let m : j < g.P.FileBytes.spared c.args.parent.now c.args.to = omega (arith, z, below) in g.met.P.FileBytes.spared_stays c.args.parent.now c.write_header.new.bytes c.args.to j c.write_header.ensures.kept m ∙ c.requires.spared.same j m) y i in
    c.copy_bytes.ensures.bytes
    ∙ ap (with_bytes h (slot_start c.args.to + (4096 + spare))) x
    ∙ ap (λ o. with_bytes h o (drop spare content)) a
    ∙ behind
    ∙ ap (λ (y : ℕ → ℕ). with_bytes y at content)
    (c.write_header.ensures.bytes f (record {
      name = r.name;
      name_length = r.name_length;
      version = r.version;
      base = refl;
      length = r.length;
      length_at_base = refl;
      append = r.append;
      conflicted = r.conflicted;
      deleted = r.deleted;
    }))

pub write_header-requires-clause-ready : goal.write_header-requires-clause-ready
write_header-requires-clause-ready g c = g.met.P.FileBytes.header_ready c.args.parent.now c.args.to c.requires.ready
