-- Packets that a node gives one after another, and counts together.
use Rattle.std.proofs.Common.{◌≡◌, ℕ, ◌<◌, ◌≤◌, ◌^◌, ◌∙◌, List, [], ◌∷◌, ◌++◌, length, refl, sym, ap, subst, Some, arith}
use Rattle.q_packet.specs.Descriptor.{Descriptor}
use Rattle.q_model.specs.declared.row.Row.{Row}
use Rattle.q_model.specs.declared.totals.Totals.{Totals}
use Rattle.q_model.specs.Ask.{ask, take_from}
use Rattle.q_model.specs.Beneath.{beneath_own, totals_in}
use Rattle.q_model.specs.Conserved.{IsBalanced}
use Rattle.q_model.specs.Lawful.{IsLawfulOwn}
use Rattle.q_model.specs.Node.{Node, shape}
use Rattle.q_model.specs.Step.{DeviceState, poll}
use Rattle.q_model.specs.Work.{Worked, booked}
use Rattle.q_invariants.specs.Kept.{IsLawfulRoot}
use Rattle.q_invariants.proofs.sums.Told.{booked-lawful, each-booked}
use Rattle.q_tree.specs.arrival.KeepSteps.{no_sink}
use Rattle.q_tree.specs.Bursts.{AreGiven, polled_each, with_sends}
use Rattle.q_tree.specs.commands.DisciplineChanges.{IsUnchanged}
use Rattle.q_tree.specs.departure.AskSteps.{CanAsk, CanAskIn, answer_of}
use Rattle.q_tree.specs.departure.GiveMany.{AreGivenBelow, AreGivenSteps, IsGiving}
use Rattle.q_tree.specs.departure.GiveSteps.{IsGivenOne, alone}
use Rattle.q_tree.specs.departure.PopSteps.{with_sent}
use Rattle.q_tree.specs.departure.SendSteps.{IsSentIn}
use Rattle.q_tree.specs.Kept.{Kept, kept}
use Rattle.q_tree.specs.Seen.{IsKept, seen}
use Rattle.q_tree.specs.TreeSeen.{IsIndexedDevice, tree_seen}
use Rattle.q_tree.specs.declared.node.Discipline.{Discipline}
use Rattle.q_tree.specs.declared.node.Node.TheInside as node
use Rattle.q_tree.specs.declared.tree.Tree.TheInside.{Inside}
use Rattle.q_tree.proofs.arrival.BurstArrivals.{both, none-more}
use Rattle.q_tree.proofs.arrival.Keeping.{same-kept, same-node}
use Rattle.q_tree.proofs.counters.Quiet.{shown-nothing}
use Rattle.q_tree.proofs.departure.Asking.{answered, taken-told}
use Rattle.q_tree.proofs.departure.BurstSends.{IsSentBurst, IsWithinTotals, less-both, none-less, row-one}
use Rattle.q_tree.proofs.departure.GivenTree.{given-alone, given-indexed, given-tree}
use Rattle.q_tree.proofs.departure.Peeks.{can-book, can-in, shown-here, told-here}
use Rattle.q_tree.proofs.departure.SendForms.{IsSentAs, one-sent}
use Rattle.q_tree.proofs.departure.SendLemmas.{left-some}
use Rattle.q_tree.proofs.TreeLemmas.{top-row}

-- ---- a row

row-both : (r : Row) (ps qs : List Descriptor) → with_sends (totals_in qs) (with_sends (totals_in ps) r) ≡ with_sends (totals_in (ps ++ qs)) r
row-both r ps qs = λ i. record r { sent = both r.sent ps qs i; queued = less-both r.queued ps qs i }

row-none : (r : Row) → with_sends (totals_in []) r ≡ r
row-none r = sym (λ i. record r { sent = none-more r.sent i; queued = sym (none-less r.queued) i })

row-more : (r : Row) (ps : List Descriptor) (p : Descriptor) → with_sends (totals_in (ps ++ p ∷ [])) r ≡ with_sent p (with_sends (totals_in ps) r)
row-more r ps p = sym (row-both r ps (p ∷ [])) ∙ row-one (with_sends (totals_in ps) r) p

-- no more is sent than was queued
pub sends-within : (r : Row) (t : Totals) → IsBalanced r → IsBalanced (with_sends t r) → IsWithinTotals t r.queued
sends-within r t old new = record { packets = omega (arith, old.packets, new.packets); bytes = omega (arith, old.bytes, new.bytes) }

-- ---- a node

steps-more : (now : ℕ) (ps : List Descriptor) (p : Descriptor) (n m k : Node Kept) → AreGivenSteps now ps n m → IsGivenOne now p m k → AreGivenSteps now (ps ++ p ∷ []) n k
steps-more now [] p n m k h one = (k, subst (λ (x : Node Kept). IsGivenOne now p x k) h one, refl)
steps-more now (q ∷ ps) p n m k h one = (h.0, h.1, steps-more now ps p h.0 m k h.2 one)

-- it stays lawful
lawful-gone : (now : ℕ) (p : Descriptor) (n : Node Kept) (can : CanAsk now n) → (ask now (shape n)).shown ≡ Some p → IsLawfulRoot can.mtu now (booked kept n (take_from now (shape n)).node)
lawful-gone now p n can shows =
    let w : Worked = (ask now (shape n)).taken in
    let told = taken-told now n can in
    let lawful = (answered now n can).lawful_taken in
    subst (λ (x : Worked). IsLawfulRoot can.mtu now (booked kept n x)) (sym (left-some now n p shows)) (
      subst (IsLawfulOwn can.mtu now w.own) (sym (each-booked kept beneath_own n.below w.below told.2)) lawful.0,
      booked-lawful kept can.mtu now n.below w.below told.2 lawful.1,
    )

module _ (now : ℕ) (a : node.Inside) where
  abbrev at : List Descriptor → Discipline → node.Inside
  at ps d = record a { row = with_sends (totals_in ps) a.row; discipline = d }

  pub gives-begin : IsKept a → CanAsk now (seen a) → AreGivenBelow now [] a a.discipline
  gives-begin k can =
      let same : at [] a.discipline ≡ a = λ i. record a { row = row-none a.row i } in
      record {
        asks = subst (λ (x : node.Inside). CanAsk now (seen x)) (sym same) can;
        kept = subst IsKept (sym same) k;
        steps = ap seen same;
      }

  -- where the next one is not given
  pub gives-same : (ps : List Descriptor) (d e : Discipline) → AreGivenBelow now ps a d → IsUnchanged d e → AreGivenBelow now ps a e
  gives-same ps d e h same =
      let stays : seen (at ps e) ≡ seen (at ps d) = same-node (at ps d) (seen (at ps d)) refl e same in
      record {
        asks = subst (CanAsk now) (sym stays) h.asks;
        kept = same-kept (at ps d) (seen (at ps d)) refl e same h.kept;
        steps = subst (λ (n : Node Kept). AreGivenSteps now ps (seen a) n) (sym stays) h.steps;
      }

  module _ (ps : List Descriptor) (d e : Discipline) (p : Descriptor) {d0 : Discipline} (is : IsGiving now d0 a) (h : AreGivenBelow now ps a d)
      (q : IsSentIn (answer_of now a.handle a.filters d) d e (alone p) no_sink no_sink) where
    abbrev row : Row
    row = with_sends (totals_in ps) a.row

    sent : IsSentAs now (seen (at ps d)) (at (ps ++ p ∷ []) e)
    sent =
        one-sent now (at ps d) (seen (at ps d)) h.kept refl h.asks is.free e (alone p) q row
        (can-book now (at ps d) (seen (at ps d)) h.kept refl h.asks is.free (alone p) q.children.shown is.packets is.bytes)
        (shown-nothing (alone p) row refl refl) p refl (with_sends (totals_in (ps ++ p ∷ [])) a.row) (row-more a.row ps p)

    shows : (ask now (shape (seen (at ps d)))).shown ≡ Some p
    shows = sym (shown-here now (at ps d) (seen (at ps d)) h.kept refl h.asks is.free (alone p) q.children.shown).packet

    one : IsGivenOne now p (seen (at ps d)) (seen (at (ps ++ p ∷ []) e))
    one = record {
      after = sent.after;
      arrived = refl;
      shown = shown-here now (at ps d) (seen (at ps d)) h.kept refl h.asks is.free (alone p) q.children.shown;
      packet = refl;
      signals = refl;
      told = told-here now (at ps d) (seen (at ps d)) h.kept refl h.asks is.free no_sink no_sink q.children.told;
    }

    pub gives-more : AreGivenBelow now (ps ++ p ∷ []) a e
    gives-more = record {
      asks = record {
        mtu = h.asks.mtu;
        least = h.asks.least;
        moment = h.asks.moment;
        lawful = subst (IsLawfulRoot h.asks.mtu now) (sym sent.after) (lawful-gone now p (seen (at ps d)) h.asks shows);
      };
      kept = sent.stays;
      steps = steps-more now ps p (seen a) (seen (at ps d)) (seen (at (ps ++ p ∷ []) e)) h.steps one;
    }

-- where none was given, the node is as it was
pub gives-none : (now : ℕ) (a : node.Inside) (ps : List Descriptor) (e : Discipline) → length ps ≡ 0 → AreGivenBelow now ps a e
    → IsKept (record a { discipline = e }) × (seen (record a { discipline = e }) ≡ seen a)
gives-none now a [] e none h =
    let same : record a { row = with_sends (totals_in []) a.row; discipline = e } ≡ record a { discipline = e } = λ i. record a { row = row-none a.row i; discipline = e } in
    (subst IsKept same h.kept, sym (ap seen same) ∙ h.steps)
gives-none now a (p ∷ ps) e none h = absurd (omega (arith, none))

-- the next one can be asked for
pub gives-ask : (now : ℕ) (a : node.Inside) (ps : List Descriptor) (d : Discipline) {d0 : Discipline} → IsGiving now d0 a → AreGivenBelow now ps a d → CanAskIn now d
gives-ask now a ps d {d0} is h =
    let b : node.Inside = record a { row = with_sends (totals_in ps) a.row; discipline = d } in
    can-in now b (seen b) h.kept refl h.asks (omega (arith, h.kept.balanced.packets, is.packets)) (omega (arith, h.kept.balanced.bytes, is.bytes))

-- ---- the tree

abbrev pub ended : ℕ → List Descriptor → Inside → Node Kept → Inside
ended now [] a m = record a { root = m }
ended now (p ∷ ps) a m = record a { clock = now; top = with_sends (totals_in (p ∷ ps)) a.top; root = m }

pub ended-some : (now : ℕ) (ps : List Descriptor) (a : Inside) (m : Node Kept) → 1 ≤ length ps → ended now ps a m ≡ record a { clock = now; top = with_sends (totals_in ps) a.top; root = m }
ended-some now [] a m some = absurd (omega (arith, some))
ended-some now (p ∷ ps) a m some = refl

abbrev first : ℕ → Descriptor → Inside → Node Kept → Inside
first now p a m = record a { clock = now; top = with_sends (totals_in (p ∷ [])) a.top; root = m }

ended-more : (now : ℕ) (p : Descriptor) (ps : List Descriptor) (a : Inside) (x m : Node Kept) → ended now ps (first now p a x) m ≡ ended now (p ∷ ps) a m
ended-more now p [] a x m = refl
ended-more now p (q ∷ qs) a x m = λ i. record a { clock = now; top = row-both a.top (p ∷ []) (q ∷ qs) i; root = m }

pub steps-sent : (now : ℕ) (ps : List Descriptor) (a : Inside) (m : Node Kept) → IsIndexedDevice a → a.clock ≤ now → now ≤ 2 ^ 62
    → a.top.arrived.packets < 2 ^ 64 → a.top.arrived.bytes < 2 ^ 64 → AreGivenSteps now ps a.root m → IsSentBurst now ps a (ended now ps a m)
steps-sent now [] a m k later low packets bytes h =
    let same : record a { root = m } ≡ a = λ i. record a { root = h i } in
    record { indexed = subst IsIndexedDevice (sym same) k; after = ap tree_seen same; each = tt }
steps-sent now (p ∷ ps) a m k later low packets bytes h =
    let x : Node Kept = h.0 in
    let b : Inside = first now p a x in
    let row : b.top ≡ with_sent p a.top = row-one a.top p in
    let gone : tree_seen b ≡ (poll kept now (tree_seen a)).device = given-tree now p a k later low packets bytes x h.1 b.top row in
    let rest = steps-sent now ps b m (given-indexed now p a k later low packets bytes x h.1 b.top row) (omega arith) low packets bytes h.2 in
    subst (IsSentBurst now (p ∷ ps) a) (ended-more now p ps a x m) (record {
      indexed = rest.indexed;
      after = rest.after ∙ ap (λ (d : DeviceState Kept). polled_each kept now (length ps) d) gone;
      each = (given-alone now p a k later low packets bytes x h.1, subst (λ (d : DeviceState Kept). AreGiven kept now ps d) gone rest.each);
    })

module _ (now : ℕ) (a : Inside) (m : Node Kept) (sent : Totals) (ps : List Descriptor) (k : IsIndexedDevice a) (later : a.clock ≤ now) (low : now ≤ 2 ^ 62)
    (packets : a.top.arrived.packets < 2 ^ 64) (bytes : a.top.arrived.bytes < 2 ^ 64) (totals : sent ≡ totals_in ps) (some : 1 ≤ sent.packets) (steps : AreGivenSteps now ps a.root m) where
  pub sent-some : IsSentBurst now ps a (record a { clock = now; top = with_sends sent a.top; root = m })
  sent-some =
      subst (λ (t : Totals). IsSentBurst now ps a (record a { clock = now; top = with_sends t a.top; root = m })) (sym totals)
      (subst (IsSentBurst now ps a) (ended-some now ps a m (omega (arith, some, ap (λ (t : Totals). t.packets) totals))) (steps-sent now ps a m k later low packets bytes steps))

  pub sent-within : IsWithinTotals sent a.top.queued
  sent-within = sends-within a.top sent (top-row a k.device).balanced (top-row (record a { clock = now; top = with_sends sent a.top; root = m }) sent-some.indexed.device).balanced
