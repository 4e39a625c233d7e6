use Rattle.board.proofs.together.run_together.Given as goal

-- the book that was just opened
abbrev pub ghosts-run_named : goal.ghosts-run_named
ghosts-run_named g a = record { book = a.book.seen.book }
