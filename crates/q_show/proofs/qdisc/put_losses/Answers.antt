use Rattle.std.proofs.Common.{◌≡◌, ◌++◌, ◌∙◌, [], ap}
use Rattle.std.specs.Prelude.{codes}
use Rattle.q_show.specs.ShowText.{ecn_text, setting}
use Rattle.q_show.proofs.Chains.{two_put}
use Rattle.q_show.proofs.qdisc.put_losses.Goals as goal

pub returns-clause-text : goal.returns-clause-text
returns-clause-text c =
    let batch : c.put_setting.new.text ≡ c.put_ecn.new.text ++ setting (codes "drop_batch") c.args.drop_batch [] =
    c.put_setting.ensures.text ∙ ap (λ n. c.put_ecn.new.text ++ setting (codes "drop_batch") n []) c.from.ensures in
    two_put c.put_ecn.new.text c.put_setting.new.text c.args.text.now (ecn_text c.args.ecn) (setting (codes "drop_batch") c.args.drop_batch []) c.put_ecn.ensures.text batch
