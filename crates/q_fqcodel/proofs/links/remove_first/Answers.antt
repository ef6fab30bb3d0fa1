use Rattle.std.proofs.Common.{◌≡◌, ◌-◌, List, set, ap, ap₂, ◌∙◌, sym, subst, subst₂}
use Rattle.q_fqcodel.specs.Links.{no_link, link_of, link_at, entries_in, IsLine, KeepsLines}
use Rattle.q_fqcodel.specs.declared.ends.Ends.{Ends}
use Rattle.q_fqcodel.specs.declared.link.Link.{Link}
use Rattle.q_fqcodel.proofs.LinkLemmas.{head_within, removed_entries, removed_line, removed_keeps, freed_at}
use Rattle.q_fqcodel.proofs.links.remove_first.Goals as goal
use Rattle.q_fqcodel.proofs.links.remove_first.Goals.{After-write}

pub read-first-requires : goal.read-first-requires
read-first-requires c = head_within c.args.links.now.items c.requires.linked.0 c.args.list c.requires.some c.requires.linked.1

pub write-requires : goal.write-requires
write-requires c = head_within c.args.links.now.items c.requires.linked.0 c.args.list c.requires.some c.requires.linked.1

written : (c : After-write) → c.write.new.links.items ≡ set c.args.links.now.items c.args.list.head no_link
written c = c.write.ensures ∙ ap (set c.args.links.now.items c.args.list.head) c.unlisted.ensures

-- the ends of what is left
rest : (c : After-write) → ◌≡◌ {A = Ends} (record { head = c.read-first.result.next; tail = c.args.list.tail; count = c.args.list.count - 1 })
    (record { head = (link_of c.args.links.now.items c.args.list.head).next; tail = c.args.list.tail; count = c.args.list.count - 1 })
rest c = ap (λ (x : Link). record { head = x.next; tail = c.args.list.tail; count = c.args.list.count - 1 }) c.read-first.ensures

pub returns-clause-entries : goal.returns-clause-entries
returns-clause-entries c =
    let d = (goal.at.returns-clause-entries c).After-write in
    ap₂ (λ (l : List Link) (e : Ends). entries_in l e) (written d) (rest d)
    ∙ removed_entries c.args.links.now.items c.requires.linked.0 c.args.list c.requires.some c.requires.linked.1

pub returns-clause-linked : goal.returns-clause-linked
returns-clause-linked c place line =
    let d = (goal.at.returns-clause-linked c).After-write in
    subst₂ (λ (l : List Link) (e : Ends). IsLine l place e) (sym (written d)) (sym (rest d)) (removed_line c.args.links.now.items place c.args.list c.requires.some line)

pub returns-clause-free : goal.returns-clause-free
returns-clause-free c =
    ap (λ (l : List Link). link_at l c.args.list.head) (written (goal.at.returns-clause-free c).After-write)
    ∙ freed_at c.args.links.now.items c.requires.linked.0 c.args.list c.requires.some c.requires.linked.1

pub returns-clause-others : goal.returns-clause-others
returns-clause-others c place line =
    subst (λ (l : List Link). KeepsLines place c.args.links.now.items l) (sym (written (goal.at.returns-clause-others c).After-write))
    (removed_keeps c.args.links.now.items place c.args.list c.requires.some line)
