use Rattle.std.proofs.Common.{◌∙◌, ◌++◌, [], ◌∷◌, ap, codes}
use Rattle.q_line.specs.Spelling.{given, handle_word, kind_words, place_words, some_place_words}
use Rattle.q_spelling.specs.Words.{device_name}
use Rattle.q_spelling.proofs.Spelled.{line}
use Rattle.q_spelling.proofs.commands.command_text.Goals as goal

pub returns-in-QdiscAdd : goal.returns-in-QdiscAdd
returns-in-QdiscAdd c =
    let q = c.in-QdiscAdd in
    rw q.is (line (codes "tc") (codes "qdisc" ∷ codes "add" ∷ codes "dev" ∷ device_name ∷ []) (place_words q.place ++ (given (codes "handle") handle_word q.handle ++ kind_words q.kind))
    c.put.new.self c.put_qdisc.new.text (c.put.ensures.text ∙ ap (λ l. l ++ codes "tc qdisc add dev eth0") c.new-text.ensures) c.put_qdisc.ensures.text)

pub returns-in-QdiscChange : goal.returns-in-QdiscChange
returns-in-QdiscChange c =
    let q = c.in-QdiscChange in
    rw q.is (line (codes "tc") (codes "qdisc" ∷ codes "change" ∷ codes "dev" ∷ device_name ∷ []) (some_place_words q.place ++ (given (codes "handle") handle_word q.handle ++ kind_words q.kind))
    c.put-in-QdiscChange.new.self c.put_qdisc-in-QdiscChange.new.text (c.put-in-QdiscChange.ensures.text ∙ ap (λ l. l ++ codes "tc qdisc change dev eth0") c.new-text.ensures) c.put_qdisc-in-QdiscChange.ensures.text)
