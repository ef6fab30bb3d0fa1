use Rattle.std.proofs.Common.{◌∙◌, ◌++◌, ap}
use Rattle.q_spelling.proofs.Spelled.{address_spelled}
use Rattle.q_spelling.proofs.addresses.put_address_word.Goals as goal

pub returns-clause-text : goal.returns-clause-text
returns-clause-text c = c.put_address.ensures.text ∙ ap (λ l. c.args.text.now ++ l) (address_spelled c.args.version c.args.address)
