use Rattle.std.proofs.Common.{rules, ◌∙◌, ◌+◌, ◌++◌, sym, ap, arith}
use Rattle.std.specs.Prelude.{drop}
use Rattle.std.specs.List.{flat_map}
use Rattle.std.proofs.lemmas.Option.{slice_get_within}
use Rattle.q_session.specs.Shown.{counted}
use Rattle.q_session.proofs.ListedLemmas.{text-first, text-none}
use Rattle.q_session.proofs.Writing.{writing-end, writing-fails, writing-next}
use Rattle.q_session.proofs.showing.put_listed_at.Goals as goal

pub returns-in_err-make_room : goal.returns-in_err-make_room
returns-in_err-make_room g c = writing-fails c.loop-listed.invariant c.from_residual.result (search rules) (search rules)

pub overflow_add-j : goal.overflow_add-j
overflow_add-j g c =
    let within = slice_get_within (g.L.Listed.of_node (counted c.args.node.now.1)) c.loop-listed.j c.in-Some.listed (sym c.find.ensures.found ∙ c.in-Some.is) in
    omega (arith, within, c.find.ensures.few c.requires.lawful)

pub loop-listed-smaller : goal.loop-listed-smaller
loop-listed-smaller g c =
    let within = slice_get_within (g.L.Listed.of_node (counted c.args.node.now.1)) c.loop-listed.j c.in-Some.listed (sym c.find.ensures.found ∙ c.in-Some.is) in
    omega (arith, within)

pub loop-listed-preserved : goal.loop-listed-preserved
loop-listed-preserved g c =
    let line = g.L.Listed.line in
    let all = g.L.Listed.of_node (counted c.args.node.now.1) in
    let first = text-first line all c.loop-listed.j c.in-Some.listed (sym c.find.ensures.found ∙ c.in-Some.is) in
    let put = c.put.ensures.text ∙ ap (λ l. c.make_room.new.self ++ l) (c.as_bytes.ensures.bytes ∙ c.text.ensures) in
    writing-next c.loop-listed.invariant (line c.in-Some.listed) (flat_map line (drop (c.loop-listed.j + 1) all)) (search rules) first put

pub returns : goal.returns
returns g c =
    writing-end c.loop-listed.invariant
    (text-none g.L.Listed.line (g.L.Listed.of_node (counted c.args.node.now.1)) c.loop-listed.j (sym c.find.ensures.found ∙ c.in_default.is))
