use Rattle.std.proofs.Common.{◌≡◌, ℕ, length, false, subst, arith}
use Rattle.q_ports.specs.Offered.{Offered}
use Rattle.q_ports.proofs.DriveLemmas.{offered-nothing}
use Rattle.q_ports.proofs.sender.keep.Goals as goal

pub returns-clause-offered : goal.returns-clause-offered
returns-clause-offered c tries =
    let many : length c.args.load.items ≡ c.len.result = omega (arith, c.len.ensures, c.args.load.ok.0) in
    subst (λ (n : ℕ). Offered tries false c.args.port c.args.load.items c.args.port n) many (offered-nothing tries c.args.port c.args.load.items)
