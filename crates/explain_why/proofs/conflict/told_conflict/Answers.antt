use Rattle.std.proofs.Common.{◌++◌, codes, ap, ◌∙◌, subst}
use Rattle.std.specs.Prelude.{slice_index, string_bytes}
use Rattle.memory_model.specs.Memory.{byte_at}
use Rattle.space_model.specs.Space.{Top}
use Rattle.explain_core.specs.declared.watching.Watched.TheVariants.{Byte}
use Rattle.explain_why.specs.Origin.{TellsOrigin}
use Rattle.explain_why.specs.Texts.{bytes_text}
use Rattle.explain_why.specs.Why.{all_events}
use Rattle.explain_why.proofs.Joins.{conflict_told}
use Rattle.explain_why.proofs.conflict.told_conflict.Goals as goal

pub returns-clause-told : goal.returns-clause-told
returns-clause-told c =
    let root = c.args.root.now in
    let p = c.args.path.now.items in
    let q = c.args.below.now.items in
    let a = c.args.address in
    let number = c.register-call.ensures ∙ ap (λ (t : Top). let r = t.registers in slice_index r.x 17) c.space.view_is in
    let childs = c.byte-2.ensures ∙ ap (λ (t : Top). byte_at t.memory a) c.joined.view_is in
    let parents = c.byte-3.ensures ∙ ap (λ (t : Top). byte_at t.memory a) c.space.view_is in
    let snapshots = c.byte.ensures in
    let row = c.in_ok-bytes.ensures ∙ (λ i. bytes_text (snapshots i) (childs i) (parents i)) in
    let by_child = subst (λ (t : Top). TellsOrigin root (Byte a) q all_events (byte_at t.memory a) (codes "child changed by") c.in_ok-by_child.by_child.items) c.joined.view_is c.in_ok-by_child.ensures.child in
    let by_parent = subst (λ (t : Top). TellsOrigin root (Byte a) p all_events (byte_at t.memory a) (codes "parent changed by") c.in_ok-by_child.by_parent.items) c.space.view_is c.in_ok-by_child.ensures.parent in
    conflict_told root p q c.args.sides.now.parent.now c.args.sides.now.child.now c.args.sides.now.snapshot.now.memory c.register-call.result a (string_bytes c.in_ok-head.head) (string_bytes c.in_ok-bytes.bytes) c.in_ok-by_child.by_child.items c.in_ok-by_child.by_parent.items
    c.into_bytes-text.result.items c.extend_from_slice.new.self.items c.extend_from_slice-2.new.self.items c.extend_from_slice-3.new.self.items
    number c.in_ok-head.ensures row by_child by_parent (ap (λ v. v.items) c.into_bytes-text.ensures.value)
    (c.in_ok-extend_from_slice.ensures.items ∙ ap (λ v. c.into_bytes-text.result.items ++ v) c.as_bytes.ensures.value)
    (c.in_ok-extend_from_slice-2.ensures.items ∙ ap (λ v. c.extend_from_slice.new.self.items ++ v) c.deref.ensures.value)
    (c.in_ok-extend_from_slice-3.ensures.items ∙ ap (λ v. c.extend_from_slice-2.new.self.items ++ v) c.deref-2.ensures.value)
