use Rattle.std.proofs.Common.{◌≡◌, ◌≤◌, ◌∙◌, Some, None, refl, sym, ap, arith}
use Rattle.std.specs.Box.{with_value}
use Rattle.space_model.specs.Space.{children_from}
use Rattle.space_model.specs.Encoding.{size_of, sizes}
use Rattle.space_tree.specs.Kept.{children_in, unboxed}
use Rattle.space_tree.proofs.Boxes.{found}
use Rattle.space_tree.proofs.Copies.{child_back, one_more, no_other, all_copied}
use Rattle.space_tree.proofs.Sizes.{child_size}
use Rattle.space_tree.proofs.copying.+copy.Goals as goal
use Rattle.space_tree.proofs.copying.+copy.Goals.{copy_entries-in-Some+in_ok-new+in_ok-insert+in-Some-1, copy_entries-in-Some+in_ok-new+in_ok-insert+in-None-1, copy_entries-in_default}

pub copy_entry-copy_tree-requires : goal.copy_entry-copy_tree-requires
copy_entry-copy_tree-requires t c =
    let b = c.in-Some.child.now in
    let cs = children_in c.args.entries.now.entries in
    let small : size_of b.value ≤ sizes cs = child_size c.args.number b.value cs (found c.args.number (Some b) cs c.args.entries.now.entries refl c.in-Some.ensures.value) in
    (rw c.deref_mut.ensures.value (omega (arith, small)), tt)

pub copy_entry-returns-in_err-copy_tree-in-Some-clause-same : goal.copy_entry-returns-in_err-copy_tree-in-Some-clause-same
copy_entry-returns-in_err-copy_tree-in-Some-clause-same t c =
    let b = c.in-Some.child.now in
    let w = c.copy_tree.new.space in
    child_back c.args.number b w c.args.entries.now.entries (c.get_mut.follows.lender (with_value b w)).entries c.in-Some.ensures.value (c.copy_tree.ensures.same ∙ c.deref_mut.ensures.value) (c.get_mut.follows.holds (with_value b w)).0

pub copy_entry-returns-in_ok-copy_tree-in-Some-clause-same : goal.copy_entry-returns-in_ok-copy_tree-in-Some-clause-same
copy_entry-returns-in_ok-copy_tree-in-Some-clause-same t c =
    let b = c.in-Some.child.now in
    let w = c.copy_tree.new.space in
    child_back c.args.number b w c.args.entries.now.entries (c.get_mut.follows.lender (with_value b w)).entries c.in-Some.ensures.value (c.copy_tree.ensures.same ∙ c.deref_mut.ensures.value) (c.get_mut.follows.holds (with_value b w)).0

pub copy_entry-returns-in_ok-copy_tree-in-Some-clause-equal : goal.copy_entry-returns-in_ok-copy_tree-in-Some-clause-equal
copy_entry-returns-in_ok-copy_tree-in-Some-clause-equal t c =
    let es = c.args.entries.now.entries in
    ap Some (c.in_ok-copy_tree-in-Some.ensures.equal ∙ c.deref_mut.ensures.value) ∙ found c.args.number (Some c.in-Some.child.now) (children_in es) es refl c.in-Some.ensures.value

pub copy_entry-returns-in-None-clause-equal : goal.copy_entry-returns-in-None-clause-equal
copy_entry-returns-in-None-clause-equal t c =
    let es = c.args.entries.now.entries in
    found c.args.number None (children_in es) es refl c.in-None.ensures.value

pub copy_entries-copy_entry-requires : goal.copy_entries-copy_entry-requires
copy_entries-copy_entry-requires t c =
    let same : sizes (children_in c.loop-number.entries.entries) ≡ sizes (children_in c.args.entries.now.entries) = ap (λ es. sizes (children_from es)) c.loop-number.invariant.same in
    (omega (arith, same), tt)

pub copy_entries-loop-number-preserved : goal.copy_entries-loop-number-preserved
copy_entries-loop-number-preserved t c = record {
  same = c.copy_entry.ensures.same ∙ c.loop-number.invariant.same;
  copied = elim c.match-branch-3.branch [
    | copy_entries-in-Some+in_ok-new+in_ok-insert+in-Some-1 w ↦
        ap (λ m. unboxed m.entries) w.copies-is
        ∙ one_more c.args.entries.now _ _ _ _ _ _ _ c.keys.ensures.rising (c.deref-number-items.ensures.value ∙ c.in_ok-numbers.ensures.numbers) c.loop-number-test.true c.loop-number.invariant.same
        (sym w.in-Some.is ∙ c.in_ok-copy.ensures.equal) w.in_ok-new.ensures.ok c.loop-number.invariant.copied w.in_ok-insert.ensures.entries
    | copy_entries-in-Some+in_ok-new+in_ok-insert+in-None-1 w ↦
        ap (λ m. unboxed m.entries) w.copies-is
        ∙ one_more c.args.entries.now _ _ _ _ _ _ _ c.keys.ensures.rising (c.deref-number-items.ensures.value ∙ c.in_ok-numbers.ensures.numbers) c.loop-number-test.true c.loop-number.invariant.same
        (sym w.in-Some.is ∙ c.in_ok-copy.ensures.equal) w.in_ok-new.ensures.ok c.loop-number.invariant.copied w.in_ok-insert.ensures.entries
    | copy_entries-in_default w ↦
        absurd (no_other c.args.entries.now _ _ _ c.keys.ensures.rising (c.deref-number-items.ensures.value ∙ c.in_ok-numbers.ensures.numbers) c.loop-number-test.true c.loop-number.invariant.same (sym w.in_default.is ∙ c.in_ok-copy.ensures.equal))
  ];
}

pub copy_entries-returns-clause-equal : goal.copy_entries-returns-clause-equal
copy_entries-returns-clause-equal t c =
    all_copied c.args.entries.now c.loop-number.copies.entries c.deref-number-items.result.now c.loop-number.number-index (c.deref-number-items.ensures.value ∙ c.in_ok-numbers.ensures.numbers) (omega arith) c.loop-number.invariant.copied
