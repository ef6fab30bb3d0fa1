use Rattle.q_ports.proofs.running.run_with_ports.Given as goal

-- The two ledgers of the book that is made there.
abbrev pub ghosts-run_booked-P-Ledger : goal.ghosts-run_booked-P-Ledger
ghosts-run_booked-P-Ledger g a = record { name = a.packets.name; parts = a.packets.parts }

abbrev pub ghosts-run_booked-B-Ledger : goal.ghosts-run_booked-B-Ledger
ghosts-run_booked-B-Ledger g a = record { name = a.bytes.name; parts = a.bytes.parts }
