use Rattle.std.proofs.Common.{◌∙◌, sym, ap, Some, option_map}
use Rattle.std.proofs.lemmas.Option.{slice_get-map}
use Rattle.q_model.specs.declared.class_id.ClassId.{ClassId}
use Rattle.q_model.specs.Views.{class_ids, class_kind}
use Rattle.q_tree.proofs.answers.ShowLemmas.{there}
use Rattle.q_tree.proofs.node.Node.class_view.Goals as goal

pub class_kind-requires : goal.class_kind-requires
class_kind-requires c = there c.args.self.now c.args.j c.in_ok-class.class (sym c.class_id.ensures ∙ c.in_ok-class.was)

pub returns : goal.returns
returns c =
    ap (λ k. Some (record { class = c.in_ok-class.class; kind = k })) c.class_kind.ensures
    ∙ ap (option_map (λ (i : ClassId). record { class = i; kind = class_kind c.args.self.now.own.discipline i.minor })) (sym c.in_ok-class.was ∙ c.class_id.ensures)
    ∙ sym (slice_get-map (λ (i : ClassId). record { class = i; kind = class_kind c.args.self.now.own.discipline i.minor }) (class_ids c.args.self.now) c.args.j)
