-- A drr over fifos whose walk was interrupted after some grants: asked as it is then, it comes to what the whole walk comes to.
use Rattle.std.proofs.Common.{◌≡◌, ℕ, ◌∙◌, List, [], ◌∷◌, refl, sym, ap, subst, None}
use Rattle.q_packet.specs.declared.stamped.Stamped.{Stamped}
use Rattle.q_codel.specs.declared.limit.Limit.{Limit}
use Rattle.q_drr.specs.Schedule.{Schedule}
use Rattle.q_drr.proofs.ServingLemmas.{IsServing}
use Rattle.q_model.specs.Ask.{Asked, ask, ask_discipline, head_of}
use Rattle.q_model.specs.Node as spec
use Rattle.q_model.specs.Node.{Node, none, shape}
use Rattle.q_tree.specs.departure.AskSteps.{answers, own_of}
use Rattle.q_tree.specs.departure.Holding.{packet_held}
use Rattle.q_tree.specs.Kept.{Kept}
use Rattle.q_tree.specs.Seen.{children_seen, discipline_seen, seen}
use Rattle.q_tree.specs.declared.node.Discipline.{Discipline}
use Rattle.q_tree.specs.declared.node.Node.TheInside.{Inside}
use Rattle.q_tree.proofs.departure.AskForms.{ask-none}
use Rattle.q_tree.proofs.disciplines.DrrGoesOn.{AreQuiet, IsLeftSame, IsQuietAnswer, drr-goes-on}

pub record IsFifoAlone (c : Node Kept) : Type 0 where
  pub limit : Limit
  pub queue : List Stamped
  pub is : c.own.discipline ≡ spec.Fifo limit queue
  pub free : c.own.held ≡ None
  pub alone : c.below ≡ none

fifo-quiet : (now : ℕ) (c : Node Kept) → IsFifoAlone c → IsQuietAnswer (ask now (shape c))
fifo-quiet now c h =
    subst (λ (m : Node Kept). IsQuietAnswer (ask now (shape m)))
    (λ i. record c { own = record c.own { discipline = sym h.is i; held = sym h.free i }; below = sym h.alone i }) (record { peeked = refl; rises = refl })

abbrev pub AreFifos : List (Node Kept) → Type 0
AreFifos [] = Unit {0}
AreFifos (c ∷ ns) = IsFifoAlone c × AreFifos ns

fifos-quiet : (now : ℕ) (ns : List (Node Kept)) → AreFifos ns → AreQuiet (answers now ns)
fifos-quiet now [] h = tt
fifos-quiet now (c ∷ ns) h = (fifo-quiet now c h.0, fifos-quiet now ns h.1)

pub node-goes-on : (now : ℕ) (k : Kept) (a : Inside) (d : Discipline) (s later : Schedule) (turns : ℕ) → packet_held a.held ≡ None
    → discipline_seen a.discipline ≡ spec.Drr s → discipline_seen d ≡ spec.Drr later → children_seen d ≡ children_seen a.discipline
    → AreFifos (children_seen a.discipline) → IsServing (head_of s (answers now (children_seen a.discipline))) s later turns
    → IsLeftSame k (ask now (shape (seen a))) (ask now (shape (seen (record a { discipline = d }))))
node-goes-on now k a d s later turns free is then kids fifos h =
    let ns : List (Node Kept) = children_seen a.discipline in
    let answer : List (Node Kept) → spec.Discipline → Asked = λ ms x. ask_discipline now (own_of a.handle a.filters x) (answers now ms) x in
    let before : ask now (shape (seen a)) ≡ answer ns (spec.Drr s) = ask-none now a free ∙ ap (answer ns) is in
    let after : ask now (shape (seen (record a { discipline = d }))) ≡ answer ns (spec.Drr later) =
    ask-none now (record a { discipline = d }) free ∙ ap (λ ms. answer ms (discipline_seen d)) kids ∙ ap (answer ns) then in
    subst (λ (x : Asked). IsLeftSame k x (ask now (shape (seen (record a { discipline = d }))))) (sym before)
    (subst (λ (y : Asked). IsLeftSame k (answer ns (spec.Drr s)) y) (sym after)
    (drr-goes-on k (own_of a.handle a.filters (spec.Drr s)) s later (answers now ns) turns h (fifos-quiet now ns fifos)))
