use Rattle.q_threads_tests.proofs.ports.each_number_of_gauges_reads_and_learns.Given as goal

-- the two ledgers of each book that is made there
abbrev pub ghosts-gauged-P-Ledger : goal.ghosts-gauged-P-Ledger
ghosts-gauged-P-Ledger g a = record { name = a.unbooked.packets.name; parts = a.unbooked.packets.parts }

abbrev pub ghosts-gauged-B-Ledger : goal.ghosts-gauged-B-Ledger
ghosts-gauged-B-Ledger g a = record { name = a.unbooked.bytes.name; parts = a.unbooked.bytes.parts }
