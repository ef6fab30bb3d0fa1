use Rattle.std.proofs.Common.{◌≡◌, ◌<◌, ◌∙◌, List, Some, arith, ap, length, refl, subst, sym}
use Rattle.std.specs.Prelude.{slice_get}
use Rattle.std.proofs.lemmas.List.{length_push}
use Rattle.std.proofs.lemmas.Option.{slice_get_read}
use Rattle.q_model.specs.Node.{Node}
use Rattle.q_model.specs.Route.{Route, route}
use Rattle.q_tree.specs.Kept.{Kept}
use Rattle.q_tree.specs.route.Ahead.{ahead}
use Rattle.q_tree.specs.Seen.{children_seen}
use Rattle.q_tree.proofs.answers.FindLemmas.{children-read}
use Rattle.q_tree.proofs.route.RouteLemmas.{child-depth, child-size, children-depth, children-size, ends-refused, through-some, way-from}
use Rattle.q_tree.proofs.node.Node.+go.Goals as goal

pub returns-in-Refused : goal.returns-in-Refused
returns-in-Refused t c =
    c.refuse.ensures
    ∙ ends-refused c.args.way.now c.in-Refused.cause
    ∙ ap (λ (r : Route). ahead c.args.way.now.path r)
    (c.in-Refused.ensures.goes ∙ way-from c.args.packet.now c.self.inside c.args.self.now c.self.inside.filters c.self.view_is refl)

pub offset_bounds-children-place : goal.offset_bounds-children-place
offset_bounds-children-place t c =
    let kids : children_seen c.self.inside.discipline ≡ c.children.result.now = children-read c.self.inside c.args.self.now (children_seen
    c.self.inside.discipline) c.self.view_is refl ∙ sym c.children.ensures in
    let there : c.in-Child.place < length c.children.result.now = subst (λ (xs : List (Node Kept)). c.in-Child.place < length xs) kids
    (c.in-Child.ensures.there c.in-Child.place refl) in
    omega (arith, there, c.children.type_inv)

pub bounds-children-place : goal.bounds-children-place
bounds-children-place t c =
    let kids : children_seen c.self.inside.discipline ≡ c.children.result.now = children-read c.self.inside c.args.self.now (children_seen
    c.self.inside.discipline) c.self.view_is refl ∙ sym c.children.ensures in
    subst (λ (xs : List (Node Kept)). c.in-Child.place < length xs) kids (c.in-Child.ensures.there c.in-Child.place refl)

pub go-requires : goal.go-requires
go-requires t c =
    let kids : children_seen c.self.inside.discipline ≡ c.children.result.now = children-read c.self.inside c.args.self.now (children_seen
    c.self.inside.discipline) c.self.view_is refl ∙ sym c.children.ensures in
    let there : c.in-Child.place < length c.children.result.now = subst (λ (xs : List (Node Kept)). c.in-Child.place < length xs) kids
    (c.in-Child.ensures.there c.in-Child.place refl) in
    let at : slice_get c.children.result.now c.in-Child.place ≡ Some c.index-children-place.result = slice_get_read c.children.result.now (length
    c.children.result.now) c.in-Child.place c.index-children-place.result refl there c.index-children-place.is in
    let smaller = children-size c.self.inside c.args.self.now c.children.result.now c.self.view_is (sym kids) in
    let deeper = children-depth c.self.inside c.args.self.now c.children.result.now c.self.view_is (sym kids) in
    let path = ap (λ (r : Route). length r.path) c.push.ensures ∙ length_push c.args.way.now.path c.in-Child.place in (
      omega (arith, child-size c.children.result.now c.in-Child.place c.index-children-place.result at, smaller, c.decreases),
      (
        omega (arith, child-depth c.children.result.now c.in-Child.place c.index-children-place.result at, deeper, path, c.requires.room),
        ap (λ (r : Route). r.refusal) c.push.ensures ∙ c.requires.open,
      ),
    )

pub returns-in-Child : goal.returns-in-Child
returns-in-Child t c =
    let kids : children_seen c.self.inside.discipline ≡ c.children.result.now = children-read c.self.inside c.args.self.now (children_seen
    c.self.inside.discipline) c.self.view_is refl ∙ sym c.children.ensures in
    let there : c.in-Child.place < length c.children.result.now = subst (λ (xs : List (Node Kept)). c.in-Child.place < length xs) kids
    (c.in-Child.ensures.there c.in-Child.place refl) in
    let at : slice_get c.children.result.now c.in-Child.place ≡ Some c.index-children-place.result = slice_get_read c.children.result.now (length
    c.children.result.now) c.in-Child.place c.index-children-place.result refl there c.index-children-place.is in
    c.go.ensures
    ∙ ap (λ (r : Route). ahead r.path (route c.args.packet.now c.index-children-place.result)) c.push.ensures
    ∙ through-some c.args.way.now c.args.packet.now (children_seen c.self.inside.discipline) c.in-Child.place c.index-children-place.result
    (ap (λ (xs : List (Node Kept)). slice_get xs c.in-Child.place) kids ∙ at)
    ∙ ap (λ (r : Route). ahead c.args.way.now.path r)
    (c.in-Child.ensures.goes ∙ way-from c.args.packet.now c.self.inside c.args.self.now c.self.inside.filters c.self.view_is refl)
