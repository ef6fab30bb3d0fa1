use Rattle.std.proofs.Common.{◌∙◌, ◌≤◌, ◌-◌, ◌++◌, ◌∷◌, [], length, sym, ap, arith}
use Rattle.std.proofs.lemmas.List.{length-drop}
use Rattle.q_device.specs.log.LastNoted.{last_of}
use Rattle.q_device.proofs.log.LastLemmas.{last-none, last-room}
use Rattle.q_device.proofs.log.last_events.push_last.Goals as goal

-- no place keeps nothing
pub returns-then-places-eq0-clause-items : goal.returns-then-places-eq0-clause-items
returns-then-places-eq0-clause-items g c =
    let items = c.args.events.now.items in
    last-none items c.args.event (omega (arith, c.requires.within, c.if-places-eq0.true)) ∙ ap (λ n. last_of n (items ++ c.args.event ∷ [])) (sym c.if-places-eq0.true)

pub push_back_reserved-requires : goal.push_back_reserved-requires
push_back_reserved-requires g c =
    let items = c.args.events.now.items in
    omega (
      arith,
      c.requires.capacity,
      c.requires.within,
      c.if-places-eq0.false,
      c.make_way.ensures.capacity,
      ap (λ xs. length xs) c.make_way.ensures.items,
      length-drop (length items - (c.args.places - 1)) items,
    )

pub returns-clause-items : goal.returns-clause-items
returns-clause-items g c =
    let items = c.args.events.now.items in
    let some : 1 ≤ c.args.places = omega (arith, c.if-places-eq0.false) in
    c.push_back_reserved.ensures.items ∙ ap (λ xs. xs ++ c.args.event ∷ []) c.make_way.ensures.items ∙ last-room c.args.places items c.args.event some
