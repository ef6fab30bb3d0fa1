use Rattle.std.proofs.Common.{rules, ◌≡◌, ◌∙◌, sym, ap, subst, []}
use Rattle.logbook.specs.Pages.{Book}
use Rattle.q_ports.specs.Rows.{Continues, RowHistorySeen}
use Rattle.q_ports.specs.Rules.{head_of}
use Rattle.q_ports.specs.Views.{WriterSeen, writer_seen, appending, showing}
use Rattle.q_ports.proofs.Boards.{continues-self}
use Rattle.q_ports.proofs.publisher.Publisher.publish.Goals as goal

pub invariant_of-self-2 : goal.invariant_of-self-2
invariant_of-self-2 g c =
    let head = c.self.invariant.0 ∙ ap (λ (b : Book). head_of b) (sym c.add.ensures.book) in
    let before = c.self.inside.writer in
    let front = c.add.new.self in
    let appended : c.append.new.self ≡ appending before front = search rules in
    let shows : c.replace_with.new.dest ≡ showing c.append.new.self = search rules in
    let after : c.replace_with.new.dest ≡ writer_seen front [] = shows ∙ ap (λ (w : WriterSeen). showing w) (appended ∙ ap (λ (w : WriterSeen). appending w front) c.self.invariant.1) in
    let shown : c.replace_with.new.dest.shown ≡ front = ap (λ (w : WriterSeen). w.shown) after in
    (head, after ∙ sym (ap (λ (w : WriterSeen). writer_seen w.shown []) after), subst (λ (f : RowHistorySeen). Continues f front) (sym shown) (continues-self front))
