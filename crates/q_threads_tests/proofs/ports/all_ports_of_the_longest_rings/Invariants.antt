use Rattle.q_threads_tests.proofs.ports.all_ports_of_the_longest_rings.Given as goal

-- the two ledgers of the book that is made there
abbrev pub ghosts-gauged-P-Ledger : goal.ghosts-gauged-P-Ledger
ghosts-gauged-P-Ledger g a = record { name = a.unbooked.packets.name; parts = a.unbooked.packets.parts }

abbrev pub ghosts-gauged-B-Ledger : goal.ghosts-gauged-B-Ledger
ghosts-gauged-B-Ledger g a = record { name = a.unbooked.bytes.name; parts = a.unbooked.bytes.parts }
