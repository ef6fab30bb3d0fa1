use Rattle.std.proofs.Common.{◌≡◌, ℕ, get_or, set, sym, ap, ◌∙◌}
use Rattle.std.proofs.lemmas.List.{get_or_read}
use Rattle.q_fqcodel.specs.Pool.{no_list}
use Rattle.q_fqcodel.specs.declared.flow_list.FlowList.{FlowList}
use Rattle.q_fqcodel.proofs.pool.write_longer.Goals as goal

pub returns-else-longer-eq1 : goal.returns-else-longer-eq1
returns-else-longer-eq1 c =
    let lists = c.args.lists.now.items in
    let was = c.index_mut-list.result.now in
    let read : was ≡ get_or lists c.args.flow no_list = get_or_read lists c.args.flow was c.requires.within c.index_mut-list.ensures.value no_list in
    let same : was.head ≡ c.args.longer.head = ap (λ (l : FlowList). l.head) read ∙ sym (c.requires.head c.if-longer-eq1.false) in
    ap (λ (n : ℕ). set lists c.args.flow (record c.args.longer { head = n })) same
