use Rattle.q_threads_tests.proofs.published.each_turn_of_a_drive_is_shown.Given as goal

-- the two ledgers of each book that is made there
abbrev pub ghosts-watched-P-Ledger : goal.ghosts-watched-P-Ledger
ghosts-watched-P-Ledger g a = record { name = a.unbooked.packets.name; parts = a.unbooked.packets.parts }

abbrev pub ghosts-watched-B-Ledger : goal.ghosts-watched-B-Ledger
ghosts-watched-B-Ledger g a = record { name = a.unbooked.bytes.name; parts = a.unbooked.bytes.parts }
