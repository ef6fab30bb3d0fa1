use Rattle.std.proofs.Common.{◌≡◌, pos, ◌+ℤ◌, ap, ◌∙◌, arith, rules, SFits, w64, to_z, of_z}
use Rattle.std.proofs.lemmas.Int.{ints}
use Rattle.q_fqcodel.specs.Entry.{Entry}
use Rattle.q_fqcodel.specs.Quanta.{given}
use Rattle.q_fqcodel.proofs.QuantaLemmas.{given_is}
use Rattle.q_fqcodel.proofs.entry.Entry.granted.Goals as goal

pub returns : goal.returns
returns c =
    let e : Entry = record { flow = c.self.inside.flow; credits = c.self.inside.credits } in
    let fits : SFits w64 e.credits = search rules in
    let z : to_z w64 (of_z w64 (to_z w64 (of_z w64 e.credits) +ℤ to_z w64 c.args.quantum)) ≡ e.credits +ℤ pos c.args.quantum =
    omega (arith, ints, fits, c.requires, ap (λ (x : Entry). x.credits) c.self.view_is, c.ranges.quantum) in
    given_is c.args.quantum e _ z ∙ ap (given c.args.quantum 1) c.self.view_is
