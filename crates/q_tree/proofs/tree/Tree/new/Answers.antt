use Rattle.std.proofs.Common.{◌≡◌, ◌∙◌, ◌<◌, ◌^◌, [], sym, ap, ap₂, subst, arith}
use Rattle.std.specs.Prelude.{None, suc}
use Rattle.std.specs.List.{sum}
use Rattle.q_codel.specs.declared.limit.Limit.TheVariants.{Packets}
use Rattle.q_model.specs.Beneath.{beneath, beneath_own, totals_in}
use Rattle.q_model.specs.Find.{addresses_own}
use Rattle.q_model.specs.Make.{Device}
use Rattle.q_model.specs.Node as spec
use Rattle.q_model.specs.Node.{Own, Forest, each, each_memory}
use Rattle.q_model.specs.declared.row.Row.{Row}
use Rattle.q_model.specs.Tally.{Counts}
use Rattle.q_invariants.proofs.sizes.EditSizes.{nodes_own}
use Rattle.q_tree.specs.Kept.{Kept}
use Rattle.q_tree.specs.Seen.{IsCountedWithin}
use Rattle.q_tree.proofs.counters.Rows.{counts_in_row}
use Rattle.q_tree.proofs.tree.Tree.new.Goals as goal
use Rattle.q_tree.proofs.TreeLemmas.{new-device}

pub invariant_of-result : goal.invariant_of-result
invariant_of-result c =
    let d : Device = record { mtu = c.args.mtu; txqueuelen = c.args.txqueuelen } in
    let own : c.fifo.result.own ≡ record { handle = None; discipline = spec.Fifo (Packets c.args.txqueuelen) []; held = None; since = 0; filters = [] } =
    c.fifo.ensures.own ∙ ap (λ n. record { handle = None; discipline = spec.Fifo (Packets n) []; held = None; since = 0; filters = [] }) c.from.ensures in
    let empty : beneath c.fifo.result ≡ [] = ap₂ (λ (o : Own) (x : Forest Kept). beneath_own o (each beneath_own x)) own c.fifo.ensures.alone in
    let most : c.args.mtu < 2 ^ 16 = omega (arith, c.ranges) in
    record {
      device =
          new-device d _ c.requires most c.zero.ensures
          (λ i. record {
            device = d;
            top = counts_in_row (c.none.ensures i);
            root = record
                { own = own i; memory = c.fifo.ensures.counts i; below = each_memory (λ (k : Kept). k.counts) (c.fifo.ensures.alone i) };
          })
          (ap (λ (r : Row). r.queued) c.none.ensures ∙ sym (ap totals_in empty))
          (subst (λ (k : Counts). IsCountedWithin k.arrived c.none.result.arrived) (sym c.fifo.ensures.counts) (record { packets = omega arith; bytes = omega arith }));
      handles = c.new.ensures ∙ sym (ap₂ (λ (o : Own) (x : Forest Kept). addresses_own o (each addresses_own x)) own c.fifo.ensures.alone);
      room = λ more. absurd (omega (arith, more, ap (λ (x : Forest Kept). suc (sum (each nodes_own x))) c.fifo.ensures.alone));
    }
