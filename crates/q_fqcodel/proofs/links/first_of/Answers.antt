use Rattle.std.proofs.Common.{◌<◌, List, slice_get, ap, ◌∙◌, sym, arith, Some}
use Rattle.q_fqcodel.specs.Entry.{Entry}
use Rattle.q_fqcodel.specs.declared.link.Link.{Link}
use Rattle.q_fqcodel.proofs.LinkLemmas.{head_within, front_entry, no_entries}
use Rattle.q_fqcodel.proofs.links.first_of.Goals as goal

pub returns-then-list-eq0 : goal.returns-then-list-eq0
returns-then-list-eq0 c = ap (λ (l : List Entry). slice_get l 0) (sym (no_entries c.args.links.now.items c.args.list c.if-list-eq0.true))

pub read-link-requires : goal.read-link-requires
read-link-requires c = head_within c.args.links.now.items c.requires.0 c.args.list (omega (arith, c.if-list-eq0.false)) c.requires.1

pub returns : goal.returns
returns c =
    let some : 0 < c.args.list.count = omega (arith, c.if-list-eq0.false) in
    ap (λ (e : Entry). Some e) (c.entry.ensures ∙ ap (λ (x : Link). record { flow = c.args.list.head; credits = x.credits }) c.read-link.ensures)
    ∙ ap (λ (l : List Entry). slice_get l 0) (sym (front_entry c.args.links.now.items c.requires.0 c.args.list some c.requires.1))
