use Rattle.std.proofs.Common.{◌∙◌, Bool, ap, sym}
use Rattle.std.specs.List.{list_all, list_any}
use Rattle.q_model.specs.declared.class_view.ClassView.{ClassView}
use Rattle.q_model.specs.Views.{class_views}
use Rattle.q_setup.specs.Alike.{same_share}
use Rattle.q_setup.proofs.AlikeLemmas.{all_behind, drop-past, not_all, within}
use Rattle.q_setup.proofs.alike.has_classes.Goals as goal

pub returns-in_default : goal.returns-in_default
returns-in_default c =
    let there : ClassView → Bool = λ k. list_any (same_share k) (class_views c.args.node.now.1) in
    sym (ap (λ ks. list_all there ks) (drop-past (class_views c.args.of.now.1) c.loop-j.j (sym c.class.ensures ∙ c.in_default.is))) ∙ c.loop-j.invariant.left

pub returns-then-not-has_class : goal.returns-then-not-has_class
returns-then-not-has_class c =
    let there : ClassView → Bool = λ k. list_any (same_share k) (class_views c.args.node.now.1) in
    sym (not_all there (class_views c.args.of.now.1) c.loop-j.j c.in-Some.class (sym c.class.ensures ∙ c.in-Some.is) (sym c.has_class.ensures ∙ c.if-not-has_class.true))
    ∙ c.loop-j.invariant.left

pub loop-j-preserved : goal.loop-j-preserved
loop-j-preserved c =
    let there : ClassView → Bool = λ k. list_any (same_share k) (class_views c.args.node.now.1) in
    let classes = class_views c.args.of.now.1 in
    let here = sym c.class.ensures ∙ c.in-Some.is in
    record {
      left = all_behind there classes c.loop-j.j c.in-Some.class here (sym c.has_class.ensures ∙ c.if-not-has_class.false) ∙ c.loop-j.invariant.left;
      few = within classes c.loop-j.j c.in-Some.class here;
    }
