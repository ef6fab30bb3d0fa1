-- What a new qdisc is made with, beside what its own scripts show.
use Rattle.std.specs.Prelude.{◌≡◌, [], ◌∷◌, Some, refl}
use Rattle.q_model.specs.Node.{Drr}
use Rattle.q_model.specs.declared.kind.Kind.TheVariants as kind
use Rattle.q_worked_examples.proofs.scripts.Script.{run, add_root}
use Rattle.q_worked_examples.proofs.SharedRules.{shared_rules}

-- a drr counts with packets up to the mtu
made_drr : (run (add_root (Some 1) kind.Drr ∷ [])).device.tree.root.own.discipline ≡
    Drr (record { max_len = 1514; classes = []; active = []; turns = 0 })
unfolding shared_rules
made_drr = refl
