use Rattle.std.proofs.Common.{◌∙◌, ◌++◌, ap}
use Rattle.q_model.specs.declared.row.Row.{Row}
use Rattle.q_drive.specs.Texts.{arrived_line, drained_text, given_up_line, settled_line, totals_line}
use Rattle.q_drive.proofs.Reporting.{in-turn}
use Rattle.q_drive.proofs.ending.put_driven.Goals as goal

pub returns : goal.returns
returns c =
    let d = c.args.driven.now in
    let old = c.args.output.now in
    let settled = settled_line d.settled in
    let arrived = arrived_line d.device.device.tree.top.arrived in
    let given_up = given_up_line d.given_up in
    let drained = drained_text d.drained in
    let is_arrived = c.put_arrived.ensures.text ∙ ap (λ (r : Row). c.put_settled.new.output ++ arrived_line r.arrived) c.totals.ensures in
    let two = in-turn old c.put_settled.new.output c.put_arrived.new.output settled arrived c.put_settled.ensures.text is_arrived in
    let three = in-turn old c.put_arrived.new.output c.put_given_up.new.output (settled ++ arrived) given_up two c.put_given_up.ensures.text in
    let four = in-turn old c.put_given_up.new.output c.put_drained.new.output (settled ++ arrived ++ given_up) drained three c.put_drained.ensures.text in
    in-turn old c.put_drained.new.output c.put_totals.new.output (settled ++ arrived ++ given_up ++ drained) (totals_line c.args.show d) four c.put_totals.ensures
