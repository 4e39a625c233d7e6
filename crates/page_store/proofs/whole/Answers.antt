use Rattle.page_store.proofs.whole.Goals as goal

pub returns-clause-whole : goal.returns-clause-whole
returns-clause-whole c = record { sized = c.told-bytes; small = c.fits-bytes }
