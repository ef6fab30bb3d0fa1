use Rattle.std.proofs.Common.{◌≡◌, ℕ, get_or, set, sym, ap, ◌∙◌}
use Rattle.std.proofs.lemmas.List.{get_or_read}
use Rattle.q_fqcodel.specs.Pool.{no_list}
use Rattle.q_fqcodel.specs.declared.flow_list.FlowList.{FlowList}
use Rattle.q_fqcodel.proofs.pool.write_rest.Goals as goal

pub returns : goal.returns
returns c =
    let lists = c.args.lists.now.items in
    let was = c.index_mut-list.result.now in
    let read : was ≡ get_or lists c.args.flow no_list = get_or_read lists c.args.flow was c.requires.within c.index_mut-list.ensures.value no_list in
    let same : was.tail ≡ c.args.rest.tail = ap (λ (l : FlowList). l.tail) read ∙ sym c.requires.tail in
    ap (λ (n : ℕ). set lists c.args.flow (record c.args.rest { tail = n })) same
