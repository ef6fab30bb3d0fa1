-- A tree of the code that is edited as a command has planned: its numbers stay those of a tree with whole histories.
use Rattle.std.proofs.Common.{◌≡◌, ℕ, ◌≤◌, ◌<◌, ◌^◌, ◌∙◌, List, length, sym, ap, subst, Ok, arith}
use Rattle.q_model.specs.declared.row.Row.{Row}
use Rattle.q_model.specs.declared.totals.Totals.{Totals}
use Rattle.q_model.specs.Beneath.{beneath, totals_in}
use Rattle.q_model.specs.Node.{Node, Shape, shape}
use Rattle.q_model.specs.Tally.{Counts, counts_in, history, noted, totals}
use Rattle.q_model.specs.TreeState.{TreeState, plan, with_edit}
use Rattle.q_model.proofs.ShrinkLemmas.{totals_for_history}
use Rattle.q_model.proofs.ShrinkSteps.{with_edit-stands}
use Rattle.q_invariants.proofs.ask.Answer.{one}
use Rattle.q_invariants.proofs.edit.Edits.{edit-keeps}
use Rattle.q_invariants.proofs.sums.Counted.{bytes}
use Rattle.q_invariants.proofs.sums.Weights.{weigh-count}
use Rattle.q_tree.specs.commands.Commands.{IsPlanned, device_edited}
use Rattle.q_tree.specs.commands.Editing.{CanDrop, edited_by, notes_of, removed_at, with_dropped}
use Rattle.q_tree.specs.Kept.{Kept, kept}
use Rattle.q_tree.specs.TreeSeen.{tree_seen, IsKeptDevice}
use Rattle.q_tree.specs.declared.commands.edit.Edit.{Edit}
use Rattle.q_tree.specs.declared.tree.Tree.TheInside.{Inside}
use Rattle.q_tree.proofs.commands.EditLemmas.{IsAnswer, Loses, can-drop, edited-loses, noted-purged, same-total}
use Rattle.q_tree.proofs.commands.Plans.{numbers-after}
use Rattle.q_tree.proofs.counters.Rows.{counts_in_row, same-totals, weigh-bytes}
use Rattle.q_tree.proofs.TreeLemmas.{same-shape, top-row}
use Rattle.q_model.specs.Step.{DeviceState}

module _ (a : Inside) (k : IsKeptDevice a) (e : Edit) (path : List ℕ) (now : ℕ) (later : a.clock ≤ now) (low : now ≤ 2 ^ 62) (p : IsPlanned e path now (tree_seen a).tree.device a.root)
    (lost : Totals) (lost_is : IsAnswer lost (totals_in (removed_at e path a.root))) where
  same : totals_in (removed_at e path a.root) ≡ lost
  same = sym (same-total lost (totals_in (removed_at e path a.root)) lost_is)

  loses : Loses (removed_at e path a.root) a.root (edited_by e path a.root)
  loses = edited-loses e path a.root p.ready p.there

  pub room : a.top.arrived.packets < 2 ^ 64 → a.top.arrived.bytes < 2 ^ 64 → CanDrop lost a.top
  room packets_fit bytes_fit =
      subst (λ t. CanDrop t a.top) same (can-drop (removed_at e path a.root) a.root (edited_by e path a.root) a.top (top-row a k).queued loses packets_fit bytes_fit)

  module _ (r : Row) (row_is : r ≡ with_dropped lost a.top) (root : Node Kept) (root_is : root ≡ edited_by e path a.root) where
    counts : record { counts = counts_in_row r; places = 0 } ≡ noted kept (tree_seen a).tree.top (notes_of e path a.root)
    counts =
        ap (λ (x : Row). record { counts = counts_in_row x; places = 0 }) (row_is ∙ ap (λ t. with_dropped t a.top) (sym same))
        ∙ sym (noted-purged (tree_seen a).tree.top (removed_at e path a.root))

    pub after : tree_seen (record a { clock = now; top = r; root = root }) ≡ device_edited e path now (tree_seen a)
    after = λ j. record {
      clock = now;
      tree = record { device = (tree_seen a).tree.device; top = counts j; root = root_is j };
    }

    plan-is : plan k.history.device now p.command (shape k.history.root) ≡ Ok p.edit
    plan-is =
        ap (λ (s : Shape). plan k.history.device now p.command s) (sym (same-shape a k))
        ∙ ap (λ (s : TreeState Counts). plan s.device now p.command (shape a.root)) (sym k.same)
        ∙ p.planned

    pub stays : IsKeptDevice (record a { clock = now; top = r; root = root })
    stays = record {
      history = with_edit history p.edit k.history;
      keeps = edit-keeps k.history a.clock now p.command p.edit k.keeps later low p.ranges plan-is;
      same = ap (λ (d : DeviceState Counts). d.tree) (numbers-after e path now (tree_seen a) (tree_seen (record a { clock = now; top = r; root = root })) p after) ∙ ap (with_edit totals p.edit) k.same
          ∙ sym (with_edit-stands history totals counts_in totals_for_history p.edit k.history);
      queued =
          same-totals r.queued (totals_in (beneath root))
          (omega (
            arith,
            ap (λ (x : Row). x.queued.packets) row_is,
            ap (λ (t : Totals). t.packets) same,
            ap (λ (t : Totals). t.packets) k.queued,
            loses.conserved one,
            weigh-count (beneath a.root),
            weigh-count (beneath (edited_by e path a.root)),
            weigh-count
                (removed_at e path a.root),
            ap (λ (n : Node Kept). length (beneath n)) root_is,
          ))
          (omega (
            arith,
            ap (λ (x : Row). x.queued.bytes) row_is,
            ap (λ (t : Totals). t.bytes) same,
            ap (λ (t : Totals). t.bytes) k.queued,
            loses.conserved bytes,
            weigh-bytes (beneath a.root),
            weigh-bytes (beneath (edited_by e path a.root)),
            weigh-bytes
                (removed_at e path a.root),
            ap (λ (n : Node Kept). (totals_in (beneath n)).bytes) root_is,
          ));
      within = record {
        packets = omega (arith, ap (λ (x : Row). x.arrived.packets) row_is, ap (λ (n : Node Kept). n.memory.counts.arrived.packets) root_is, loses.arrived.packets, k.within.packets);
        bytes = omega (arith, ap (λ (x : Row). x.arrived.bytes) row_is, ap (λ (n : Node Kept). n.memory.counts.arrived.bytes) root_is, loses.arrived.bytes, k.within.bytes);
      };
    }
