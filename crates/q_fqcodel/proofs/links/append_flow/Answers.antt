use Rattle.std.proofs.Common.{ℤ, w64, ◌≡◌, ◌≢◌, ◌+◌, ◌<◌, List, length, set, ap, ◌∙◌, sym, subst}
use Rattle.std.proofs.lemmas.Int.{to_z-of_z}
use Rattle.q_fqcodel.specs.Links.{link_of, led_on, entries_in, IsLine, KeepsLines}
use Rattle.q_fqcodel.specs.declared.link.Link.{Link}
use Rattle.q_fqcodel.proofs.LinkLemmas.{first_entries, first_line, first_keeps, next_entries, next_line, next_keeps, tail_within}
use Rattle.q_fqcodel.proofs.links.append_flow.Goals as goal
use Rattle.q_fqcodel.proofs.links.append_flow.Goals.{After-write, After-write_next}

-- the flow's own link is written
alone : (c : After-write) → c.write.new.links.items ≡ set c.args.links.now.items c.args.flow (record { credits = c.args.credits; next = 0; place = c.args.place })
alone c =
    c.write.ensures
    ∙ ap (set c.args.links.now.items c.args.flow)
    (c.last.ensures ∙ ap (λ (z : ℤ). record { credits = z; next = 0; place = c.args.place }) (to_z-of_z w64 c.args.credits c.ranges.credits))

pub returns-then-list-eq0-clause-entries : goal.returns-then-list-eq0-clause-entries
returns-then-list-eq0-clause-entries c =
    ap (λ (l : List Link). entries_in l (record { head = c.args.flow; tail = c.args.flow; count = 1 })) (alone (goal.at.returns-then-list-eq0-clause-entries c).After-write)
    ∙ first_entries c.args.links.now.items c.args.place c.args.list c.args.flow c.args.credits 0 c.requires.within c.requires.free c.requires.listed c.requires.linked c.if-list-eq0.true

pub returns-then-list-eq0-clause-linked : goal.returns-then-list-eq0-clause-linked
returns-then-list-eq0-clause-linked c =
    subst (λ (l : List Link). IsLine l c.args.place (record { head = c.args.flow; tail = c.args.flow; count = 1 })) (sym (alone (goal.at.returns-then-list-eq0-clause-linked c).After-write))
    (first_line c.args.links.now.items c.args.place c.args.list c.args.flow c.args.credits 0 c.requires.within c.requires.free c.requires.listed c.requires.linked c.if-list-eq0.true)

pub returns-then-list-eq0-clause-others : goal.returns-then-list-eq0-clause-others
returns-then-list-eq0-clause-others c =
    subst (λ (l : List Link). KeepsLines c.args.place c.args.links.now.items l) (sym (alone (goal.at.returns-then-list-eq0-clause-others c).After-write))
    (first_keeps c.args.links.now.items c.args.place c.args.list c.args.flow c.args.credits 0 c.requires.within c.requires.free c.requires.listed c.requires.linked)

inside : (c : After-write) → c.args.list.count ≢ 0 → c.args.list.tail < length c.write.new.links.items
inside c some =
    subst (λ (l : List Link). c.args.list.tail < length l) (sym (alone c))
    (tail_within c.args.links.now.items c.args.place c.args.list c.args.flow c.args.credits 0 c.requires.within c.requires.free c.requires.listed c.requires.linked some)

pub write_next-requires : goal.write_next-requires
write_next-requires c = inside (goal.at.write_next-requires c).After-write c.if-list-eq0.false

-- both writes
written : (c : After-write_next) (one : c.write.new.links.items ≡ set c.args.links.now.items c.args.flow
    (record { credits = c.args.credits; next = 0; place = c.args.place }))
    → c.write_next.new.links.items ≡ set (set c.args.links.now.items c.args.flow
    (record { credits = c.args.credits; next = 0; place = c.args.place })) c.args.list.tail
    (led_on c.args.flow (link_of (set c.args.links.now.items c.args.flow (record { credits = c.args.credits; next = 0; place = c.args.place })) c.args.list.tail))
written c one =
    c.write_next.ensures ∙ ap (λ (l : List Link). set l c.args.list.tail (led_on c.args.flow (link_of l c.args.list.tail))) one

pub returns-clause-entries : goal.returns-clause-entries
returns-clause-entries c =
    ap (λ (l : List Link). entries_in l (record { head = c.args.list.head; tail = c.args.flow; count = c.args.list.count + 1 }))
    (written (goal.at.returns-clause-entries c).After-write_next (alone (goal.at.returns-clause-entries c).After-write))
    ∙ next_entries c.args.links.now.items c.args.place c.args.list c.args.flow c.args.credits 0 c.requires.within c.requires.free c.requires.listed c.requires.linked c.if-list-eq0.false

pub returns-clause-linked : goal.returns-clause-linked
returns-clause-linked c =
    subst (λ (l : List Link). IsLine l c.args.place (record { head = c.args.list.head; tail = c.args.flow; count = c.args.list.count + 1 }))
    (sym (written (goal.at.returns-clause-linked c).After-write_next (alone (goal.at.returns-clause-linked c).After-write)))
    (next_line c.args.links.now.items c.args.place c.args.list c.args.flow c.args.credits 0 c.requires.within c.requires.free c.requires.listed c.requires.linked c.if-list-eq0.false)

pub returns-clause-others : goal.returns-clause-others
returns-clause-others c =
    subst (λ (l : List Link). KeepsLines c.args.place c.args.links.now.items l) (sym (written (goal.at.returns-clause-others c).After-write_next (alone (goal.at.returns-clause-others c).After-write)))
    (next_keeps c.args.links.now.items c.args.place c.args.list c.args.flow c.args.credits 0 c.requires.within c.requires.free c.requires.listed c.requires.linked c.if-list-eq0.false)
