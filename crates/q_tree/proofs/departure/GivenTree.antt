-- A tree whose root gives a packet with nothing lost or marked: it is a poll.
use Rattle.std.proofs.Common.{◌≡◌, ℕ, ◌<◌, ◌≤◌, ◌^◌, refl, sym, arith}
use Rattle.q_packet.specs.Descriptor.{Descriptor}
use Rattle.q_model.specs.declared.row.Row.{Row}
use Rattle.q_model.specs.Ask.{ask}
use Rattle.q_model.specs.Node.{Node, shape}
use Rattle.q_model.specs.Step.{poll}
use Rattle.q_model.specs.Work.{booked}
use Rattle.q_tree.specs.arrival.Arrivals.{CanCount}
use Rattle.q_tree.specs.Bursts.{IsGivenAlone}
use Rattle.q_tree.specs.departure.AskSteps.{CanShow, with_shown}
use Rattle.q_tree.specs.departure.GiveSteps.{IsGivenOne, alone}
use Rattle.q_tree.specs.departure.PopSteps.{IsAmong, with_sent}
use Rattle.q_tree.specs.Kept.{Kept, kept}
use Rattle.q_tree.specs.TreeSeen.{IsIndexedDevice, tree_seen}
use Rattle.q_tree.specs.declared.tree.Tree.TheInside.{Inside}
use Rattle.q_tree.proofs.commands.TreeIndex.{still-indexed}
use Rattle.q_tree.proofs.counters.Quiet.{shown-nothing}
use Rattle.q_tree.proofs.departure.SendLemmas.{sent-among, sent-form, sent-kept, sent-tree}
use Rattle.q_tree.proofs.TreeLemmas.{can-book-top, top-row}

module _ (now : ℕ) (p : Descriptor) (a : Inside) (k : IsIndexedDevice a) (later : a.clock ≤ now) (low : now ≤ 2 ^ 62)
    (packets : a.top.arrived.packets < 2 ^ 64) (bytes : a.top.arrived.bytes < 2 ^ 64) (m : Node Kept) (g : IsGivenOne now p a.root m) where
  fit : CanShow (alone p) a.top
  fit = can-book-top a k.device now later low (alone p) g.shown (booked kept a.root (ask now (shape a.root)).peeked) refl packets bytes

  quiet : a.top ≡ with_shown (alone p) a.top
  quiet = shown-nothing (alone p) a.top refl refl

  pub given-among : IsAmong p a.top.queued
  given-among = sent-among a k.device now later low (alone p) g.shown m g.after fit a.top quiet p refl

  pub given-room : CanCount a.top.sent p
  given-room =
      let row = top-row a k.device in
      record {
        packets = omega (arith, row.balanced.packets, given-among.packets, packets);
        bytes = omega (arith, row.balanced.bytes, given-among.bytes, bytes);
      }

  module _ (row : Row) (row_is : row ≡ with_sent p a.top) where
    pub given-tree : tree_seen (record a { clock = now; top = row; root = m }) ≡ (poll kept now (tree_seen a)).device
    given-tree = sent-tree a k.device now later low (alone p) g.shown m g.after fit a.top quiet p refl row row_is (record a { clock = now; top = row; root = m }) refl

    pub given-indexed : IsIndexedDevice (record a { clock = now; top = row; root = m })
    given-indexed = still-indexed a (record a { clock = now; top = row; root = m }) k
        (sent-kept a k.device now later low (alone p) g.shown m g.after fit a.top quiet p refl row row_is (record a { clock = now; top = row; root = m }) refl g.arrived)
        refl (sent-form a k.device now later low (alone p) g.shown m g.after fit a.top quiet p refl)

  pub given-alone : IsGivenAlone kept now p (tree_seen a)
  given-alone = record { packet = sym g.shown.packet; losses = sym g.told.lost }
