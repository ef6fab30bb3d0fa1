use Rattle.std.proofs.Common.{◌≡◌, ◌++◌, List, [], ◌∷◌, length, set, drop, ap, ap₂, ◌∙◌, sym, subst₂, subst, arith}
use Rattle.std.proofs.lemmas.List.{length-set}
use Rattle.q_fqcodel.specs.Links.{link_of, led_on, entries_in, IsLine, KeepsLines}
use Rattle.q_fqcodel.specs.declared.ends.Ends.{Ends}
use Rattle.q_fqcodel.specs.declared.link.Link.{Link}
use Rattle.q_fqcodel.proofs.LinkLemmas.{head_within, tail_there, turned_entries, turned_line, turned_keeps}
use Rattle.q_fqcodel.proofs.links.move_first_to_end.Goals as goal
use Rattle.q_fqcodel.proofs.links.move_first_to_end.Goals.{After-write_credits, After-write_next}

pub read-front-requires : goal.read-front-requires
read-front-requires c = head_within c.args.links.now.items c.requires.linked.0 c.args.list (omega (arith, c.requires.several)) c.requires.linked.1

pub write_credits-requires : goal.write_credits-requires
write_credits-requires c =
    omega (arith, c.requires.own, head_within c.args.links.now.items c.requires.linked.0 c.args.list (omega (arith, c.requires.several)) c.requires.linked.1)

-- the first has its credits
paid : (c : After-write_credits)
    → c.write_credits.new.links.items ≡ set c.args.links.now.items c.args.list.head (record (link_of c.args.links.now.items c.args.list.head) { credits = c.args.entry.credits })
paid c =
    c.write_credits.ensures
    ∙ ap (λ n. set c.args.links.now.items n (record (link_of c.args.links.now.items n) { credits = c.args.entry.credits })) (sym c.requires.own)

pub write_next-requires : goal.write_next-requires
write_next-requires c =
    omega (
      arith,
      tail_there c.args.links.now.items c.requires.linked.0 c.args.list (omega (arith, c.requires.several)) c.requires.linked.1,
      ap length c.write_credits.ensures,
      length-set c.args.links.now.items c.args.entry.flow (record (link_of c.args.links.now.items c.args.entry.flow) { credits = c.args.entry.credits }),
    )

abbrev front : After-write_next → Link
front c = link_of c.args.links.now.items c.args.list.head

abbrev first : After-write_next → List Link
first c = set c.args.links.now.items c.args.list.head (record (front c) { credits = c.args.entry.credits })

-- both writes
written : (c : After-write_next) (one : c.write_credits.new.links.items ≡ first c)
    → c.write_next.new.links.items ≡ set (first c) c.args.list.tail (led_on c.args.list.head (link_of (first c) c.args.list.tail))
written c one = c.write_next.ensures ∙ ap (λ (l : List Link). set l c.args.list.tail (led_on c.args.list.head (link_of l c.args.list.tail))) one

-- the ends of the list then
ends : (c : After-write_next) → ◌≡◌ {A = Ends} (record { head = c.read-front.result.next; tail = c.args.list.head; count = c.args.list.count })
    (record { head = (front c).next; tail = c.args.list.head; count = c.args.list.count })
ends c = ap (λ (x : Link). record { head = x.next; tail = c.args.list.head; count = c.args.list.count }) c.read-front.ensures

pub returns-clause-entries : goal.returns-clause-entries
returns-clause-entries c =
    let d = (goal.at.returns-clause-entries c).After-write_next in
    let one = paid (goal.at.returns-clause-entries c).After-write_credits in
    ap₂ (λ (l : List Link) (e : Ends). entries_in l e) (written d one) (ends d)
    ∙ turned_entries c.args.links.now.items c.requires.linked.0 c.args.list c.args.entry.credits c.requires.several c.requires.linked.1
    ∙ ap (λ n. drop 1 (entries_in c.args.links.now.items c.args.list) ++ record { flow = n; credits = c.args.entry.credits } ∷ []) c.requires.own

pub returns-clause-linked : goal.returns-clause-linked
returns-clause-linked c place line =
    let d = (goal.at.returns-clause-linked c).After-write_next in
    let one = paid (goal.at.returns-clause-linked c).After-write_credits in
    subst₂ (λ (l : List Link) (e : Ends). IsLine l place e) (sym (written d one)) (sym (ends d)) (turned_line c.args.links.now.items place c.args.list c.args.entry.credits c.requires.several line)

pub returns-clause-others : goal.returns-clause-others
returns-clause-others c place line =
    let d = (goal.at.returns-clause-others c).After-write_next in
    let one = paid (goal.at.returns-clause-others c).After-write_credits in
    subst (λ (l : List Link). KeepsLines place c.args.links.now.items l) (sym (written d one)) (turned_keeps c.args.links.now.items place c.args.list c.args.entry.credits c.requires.several line)
