use Rattle.std.proofs.Common.{◌≡◌, ◌∙◌, ◌++◌, ◌∷◌, [], sym, ap, Some, None, Ok, option_map, arith}
use Rattle.std.specs.Prelude.{unwrap_or}
use Rattle.q_model.specs.declared.place.Place.TheVariants as place
use Rattle.q_model.specs.Find.{path_of, place_path}
use Rattle.q_model.specs.Node.{shape}
use Rattle.q_model.specs.QdiscCommands.{place_checks}
use Rattle.q_model.specs.Refusals.{done_unless}
use Rattle.q_tree.proofs.commands.GraftLemmas.{way-none, way-classless, way-classful, way-there}
use Rattle.q_tree.proofs.commands.TargetLemmas.{path-short, reached-at}
use Rattle.q_tree.specs.commands.Planning.{root_of}
use Rattle.q_tree.proofs.commands.planner.Planner.way_in.Goals as goal

pub returns-in_default : goal.returns-in_default
returns-in_default c =
    let root = root_of c.args.self.now in
    way-none c.in-Class.class root (unwrap_or (place_path (place.Class c.in-Class.class) (shape root)) []) (sym c.qdisc.ensures ∙ ap (option_map (λ x. (x.0.items, x.1.now))) c.in_default.is)
    ∙ ap (λ p. done_unless (place_checks p (shape root)) (unwrap_or (place_path p (shape root)) [])) (sym c.in-Class.is)

pub returns-then-is_classless : goal.returns-then-is_classless
returns-then-is_classless c =
    let root = root_of c.args.self.now in
    way-classless c.in-Class.class root (unwrap_or (place_path (place.Class c.in-Class.class) (shape root)) []) c.in-Some.path.items c.in-Some.parent.now
    (sym c.qdisc.ensures ∙ ap (option_map (λ x. (x.0.items, x.1.now))) c.in-Some.is) (sym c.is_classless.ensures ∙ c.if-is_classless.true)
    ∙ ap (λ p. done_unless (place_checks p (shape root)) (unwrap_or (place_path p (shape root)) [])) (sym c.in-Class.is)

pub returns-in_default-class_place : goal.returns-in_default-class_place
returns-in_default-class_place c =
    let root = root_of c.args.self.now in
    way-classful c.in-Class.class root (unwrap_or (place_path (place.Class c.in-Class.class) (shape root)) []) c.in-Some.path.items c.in-Some.parent.now
    (sym c.qdisc.ensures ∙ ap (option_map (λ x. (x.0.items, x.1.now))) c.in-Some.is) None (sym c.is_classless.ensures ∙ c.if-is_classless.false)
    (sym c.class_place.ensures ∙ c.in_default-class_place.is)
    ∙ ap (λ p. done_unless (place_checks p (shape root)) (unwrap_or (place_path p (shape root)) [])) (sym c.in-Class.is)

pub push-requires : goal.push-requires
push-requires c =
    let root = root_of c.args.self.now in
    let is = reached-at root (path_of c.in-Class.class.major (shape root)) c.in-Some.path.items c.in-Some.parent.now (sym c.qdisc.ensures ∙ ap (option_map (λ x. (x.0.items, x.1.now))) c.in-Some.is) in
    (omega arith, path-short c.in-Some.path.items root c.in-Some.parent.now is.there c.args.self.now.qdiscs.levels)

pub returns : goal.returns
returns c =
    let root = root_of c.args.self.now in
    let found = sym c.qdisc.ensures ∙ ap (option_map (λ x. (x.0.items, x.1.now))) c.in-Some.is in
    let child = sym c.class_place.ensures ∙ c.in-Some-class_place.is in
    let way : unwrap_or (place_path (place.Class c.in-Class.class) (shape root)) [] ≡ c.in-Some.path.items ++ c.in-Some-class_place.child ∷ [] =
    ap (λ o. unwrap_or o []) (way-there c.in-Class.class root [] c.in-Some.path.items c.in-Some.parent.now found c.in-Some-class_place.child child) in
    ap Ok (c.push.ensures.items ∙ sym way)
    ∙ way-classful c.in-Class.class root (unwrap_or (place_path (place.Class c.in-Class.class) (shape root)) []) c.in-Some.path.items c.in-Some.parent.now
    found (Some c.in-Some-class_place.child) (sym c.is_classless.ensures ∙ c.if-is_classless.false) child
    ∙ ap (λ p. done_unless (place_checks p (shape root)) (unwrap_or (place_path p (shape root)) [])) (sym c.in-Class.is)
