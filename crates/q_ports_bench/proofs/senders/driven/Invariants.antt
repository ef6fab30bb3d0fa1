use Rattle.q_ports_bench.proofs.senders.driven.Given as goal

-- The two ledgers of the book that is made there.
abbrev pub ghosts-booked-P-Ledger : goal.ghosts-booked-P-Ledger
ghosts-booked-P-Ledger g a = record { name = a.packets.name; parts = a.packets.parts }

abbrev pub ghosts-booked-B-Ledger : goal.ghosts-booked-B-Ledger
ghosts-booked-B-Ledger g a = record { name = a.bytes.name; parts = a.bytes.parts }
