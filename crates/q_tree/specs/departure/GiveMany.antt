-- Departures one after another for which nothing is lost or marked, which a node counts together.
-- tc-prio(8), tc-tbf(8), tc-drr(8), tc-pfifo(8).
use Rattle.std.specs.Prelude.{◌≡◌, ℕ, ◌<◌, ◌^◌, ◌++◌, List, [], ◌∷◌, None, drop, length, map}
use Rattle.q_packet.specs.Descriptor.{Descriptor}
use Rattle.q_model.specs.declared.totals.Totals.{Totals}
use Rattle.q_model.specs.Beneath.{totals_in}
use Rattle.q_model.specs.Node as spec
use Rattle.q_tree.specs.Bursts.{with_sends}
use Rattle.q_tree.specs.departure.AskSteps.{CanAsk}
use Rattle.q_tree.specs.departure.GiveSteps.{IsGivenOne, IsQuickIn}
use Rattle.q_tree.specs.departure.Holding.{packet_held}
use Rattle.q_tree.specs.Kept.{Kept}
use Rattle.q_tree.specs.Seen.{IsKept, children_seen, discipline_seen, seen}
use Rattle.q_tree.specs.declared.node.Discipline.{Discipline}
use Rattle.q_tree.specs.declared.node.Node.TheInside.{Inside}

-- the node gave these packets one after another
abbrev pub AreGivenSteps : ℕ → List Descriptor → spec.Node Kept → spec.Node Kept → Type 0
AreGivenSteps now [] before after = after ≡ before
AreGivenSteps now (p ∷ ps) before after = (mid : spec.Node Kept) × IsGivenOne now p before mid × AreGivenSteps now ps mid after

-- and the first places tell of them. What is behind those stays.
pub record AreGivenAlong {A : Type 0} (told : Descriptor → A) (now : ℕ) (sent : Totals) (places after : List A) (old new : spec.Node Kept) : Type 0 where
  pub packets : List Descriptor
  pub totals : sent ≡ totals_in packets
  pub places_are : after ≡ map told packets ++ drop (length packets) places
  pub steps : AreGivenSteps now packets old new

-- A node of which the discipline has given these packets, and which has not counted them yet: counted together, they went one after another.
pub record AreGivenBelow (now : ℕ) (ps : List Descriptor) (a : Inside) (d : Discipline) : Type 0 where
  pub asks : CanAsk now (seen (record a { row = with_sends (totals_in ps) a.row; discipline = d }))
  pub kept : IsKept (record a { row = with_sends (totals_in ps) a.row; discipline = d })
  pub steps : AreGivenSteps now ps (seen a) (seen (record a { row = with_sends (totals_in ps) a.row; discipline = d }))

-- this is the node of the discipline, and holds no packet
pub record IsGiving (now : ℕ) (d : Discipline) (a : Inside) : Type 0 where
  pub asks : CanAsk now (seen a)
  pub kept : IsKept a
  pub free : packet_held a.held ≡ None
  pub discipline : a.discipline ≡ d
  pub packets : a.row.arrived.packets < 2 ^ 64
  pub bytes : a.row.arrived.bytes < 2 ^ 64

-- there is such a node
pub record CanGiveEach (now : ℕ) (d : Discipline) : Type 0 where
  pub node : Inside
  pub is : IsGiving now d node
  pub quick : IsQuickIn None (children_seen d) (discipline_seen d)

-- what the discipline of each such node comes to
pub record AreGivenIn {A : Type 0} (told : Descriptor → A) (now : ℕ) (sent : Totals) (places after : List A) (d e : Discipline) : Type 0 where
  pub packets : List Descriptor
  pub totals : sent ≡ totals_in packets
  pub places_are : after ≡ map told packets ++ drop (length packets) places
  pub steps : (a : Inside) → IsGiving now d a → AreGivenBelow now packets a e
