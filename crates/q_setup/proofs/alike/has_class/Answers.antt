use Rattle.std.proofs.Common.{◌∙◌, ap, sym}
use Rattle.std.specs.List.{list_any}
use Rattle.q_model.specs.Views.{class_views}
use Rattle.q_setup.specs.Alike.{same_share}
use Rattle.q_setup.proofs.AlikeLemmas.{any_at, any_from, drop-past, within}
use Rattle.q_setup.proofs.alike.has_class.Goals as goal

pub returns-in_default : goal.returns-in_default
returns-in_default c =
    let classes = class_views c.args.node.now.1 in
    sym (ap (λ ks. list_any (same_share c.args.class.now) ks) (drop-past classes c.loop-j.j (sym c.class.ensures ∙ c.in_default.is))) ∙ c.loop-j.invariant.left

pub returns-then-same_share : goal.returns-then-same_share
returns-then-same_share c =
    sym (any_at (same_share c.args.class.now) (class_views c.args.node.now.1) c.loop-j.j c.in-Some.other
    (sym c.class.ensures ∙ c.in-Some.is) (sym c.same_share.ensures ∙ c.if-same_share.true))

pub loop-j-preserved : goal.loop-j-preserved
loop-j-preserved c =
    let classes = class_views c.args.node.now.1 in
    let here = sym c.class.ensures ∙ c.in-Some.is in
    record {
      left = any_from (same_share c.args.class.now) classes c.loop-j.j c.in-Some.other here (sym c.same_share.ensures ∙ c.if-same_share.false) ∙ c.loop-j.invariant.left;
      few = within classes c.loop-j.j c.in-Some.other here;
    }
