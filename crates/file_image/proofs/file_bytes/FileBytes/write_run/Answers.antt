use Rattle.std.proofs.Common.{◌≡◌, ◌+◌, ◌/◌, cond, nat_eq, take, get_or, ap, sym, ◌∙◌, arith}
use Rattle.file_model.specs.Sizes.{slot_size}
use Rattle.file_model.specs.Slots.{with_bytes}
use Rattle.file_model.proofs.Bytes.{nothing_at, with_bytes_more}
use Rattle.file_image.proofs.Parts.{take_all}
use Rattle.file_image.proofs.file_bytes.FileBytes.write_run.Goals as goal

pub loop-i-init : goal.loop-i-init
loop-i-init g c = record {
  bytes = λ a. sym (nothing_at (g.Self.FileBytes.bytes c.args.self.now) c.args.offset a);
  header = c.requires.header;
  content = c.requires.content;
  beyond = c.requires.beyond;
  kept = g.met.Self.FileBytes.keeps_itself c.args.self.now;
}

pub set-requires-clause-header : goal.set-requires-clause-header
set-requires-clause-header g c =
    let e : (c.args.offset + c.loop-i.i) / slot_size ≡ c.args.offset / slot_size = omega (arith, c.requires.page) in
    ap (g.Self.FileBytes.has_header c.loop-i.self) e ∙ c.loop-i.invariant.header

pub set-requires-clause-content : goal.set-requires-clause-content
set-requires-clause-content g c = λ high.
    let e : (c.args.offset + c.loop-i.i) / slot_size ≡ c.args.offset / slot_size = omega (arith, c.requires.page) in
    ap (g.Self.FileBytes.is_ready c.loop-i.self) e ∙ c.loop-i.invariant.content (omega (arith, c.requires.page, high))

pub set-requires-clause-beyond : goal.set-requires-clause-beyond
set-requires-clause-beyond g c = λ high.
    let e : (c.args.offset + c.loop-i.i) / slot_size ≡ c.args.offset / slot_size = omega (arith, c.requires.page) in
    let s : g.Self.FileBytes.spared c.loop-i.self ((c.args.offset + c.loop-i.i) / slot_size) ≡ g.Self.FileBytes.spared c.loop-i.self (c.args.offset / slot_size) = ap (g.Self.FileBytes.spared c.loop-i.self) e in
    let b = c.loop-i.invariant.beyond (omega (arith, c.requires.page, high)) in
    omega (arith, c.requires.page, s, b)

pub loop-i-preserved : goal.loop-i-preserved
loop-i-preserved g c = record {
  bytes = λ a. c.set.ensures.bytes a
      ∙ ap (λ x. cond (nat_eq a (c.args.offset + c.loop-i.i)) (get_or c.args.run.now c.loop-i.i 0) x) (c.loop-i.invariant.bytes a)
      ∙ with_bytes_more (g.Self.FileBytes.bytes c.args.self.now) c.args.offset c.args.run.now c.loop-i.i a (omega arith);
  header = g.met.Self.FileBytes.header_on c.loop-i.self c.set.new.self (c.args.offset / slot_size) c.set.ensures.kept c.loop-i.invariant.header;
  content = λ high. g.met.Self.FileBytes.ready_on c.loop-i.self c.set.new.self (c.args.offset / slot_size) c.set.ensures.kept (c.loop-i.invariant.content high);
  beyond = λ high.
      let s = g.met.Self.FileBytes.spared_on c.loop-i.self c.set.new.self (c.args.offset / slot_size) c.set.ensures.kept in
      let b = c.loop-i.invariant.beyond high in
      omega (arith, s, b);
  kept = g.met.Self.FileBytes.keeps_on c.args.self.now c.loop-i.self c.set.new.self c.loop-i.invariant.kept c.set.ensures.kept;
}

pub returns-clause-bytes : goal.returns-clause-bytes
returns-clause-bytes g c = λ a.
    let w : take c.loop-i.i c.args.run.now ≡ c.args.run.now = take_all c.loop-i.i c.args.run.now (omega arith) in
    c.loop-i.invariant.bytes a ∙ ap (λ xs. with_bytes (g.Self.FileBytes.bytes c.args.self.now) c.args.offset xs a) w

pub returns-clause-kept : goal.returns-clause-kept
returns-clause-kept g c = c.loop-i.invariant.kept
