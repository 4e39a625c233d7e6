use Rattle.parcel_model.specs.Parcel.{entry_spelling}
use Rattle.parcel_model.specs.Sent.{page_of_entry}
use Rattle.node_parcel.proofs.InRows.{bare_written, bare_not_sent, one_written}
use Rattle.node_parcel.proofs.packing.put_row.Goals as goal

pub returns-then-page-end-clause-written : goal.returns-then-page-end-clause-written
returns-then-page-end-clause-written c =
    bare_written c.args.known.now c.args.memory.now.memory c.args.page c.bare_end-end.result _ c.args.out.now.items _ c.bare_end-end.ensures.above c.requires.used c.bare_end-end.ensures.zero c.bare_end-end.ensures.permission c.perm.ensures c.in_ok-put_bare.ensures

pub returns-then-page-end-clause-whole : goal.returns-then-page-end-clause-whole
returns-then-page-end-clause-whole c =
    bare_not_sent c.args.known.now c.args.memory.now.memory c.args.page c.bare_end-end.result c.args.whole.now.items c.bare_end-end.ensures.above c.requires.used c.bare_end-end.ensures.zero c.bare_end-end.ensures.permission

pub returns-clause-written : goal.returns-clause-written
returns-clause-written c = one_written entry_spelling c.args.known.now c.args.memory.now.memory c.args.page c.args.out.now.items _ c.requires.used c.in_ok-put_entry.ensures.written

pub returns-clause-whole : goal.returns-clause-whole
returns-clause-whole c = one_written page_of_entry c.args.known.now c.args.memory.now.memory c.args.page c.args.whole.now.items _ c.requires.used c.in_ok-put_entry.ensures.whole
