use Rattle.std.proofs.Common.{subst}
use Rattle.std.specs.Prelude.{All}
use Rattle.std.proofs.lemmas.List.Elements.{All-tail}
use Rattle.q_tree.specs.answers.Ways.{IsShare}
use Rattle.q_device.proofs.promises.service.slack_on.Goals as goal

pub lack_at-slack-requires-in-loop-share-clause-share : goal.lack_at-slack-requires-in-loop-share-clause-share
lack_at-slack-requires-in-loop-share-clause-share c =
    All-tail IsShare c.in-Some.first.now c.in-Some.rest.now (subst (λ ss. All IsShare ss) c.in-Some.ensures.cases.0 c.requires.shares) c.loop-share.share-index
    (record { quantum = 0; quanta = 0; classes = 0 }) c.loop-share-test.true
