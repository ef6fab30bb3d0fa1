use Rattle.std.proofs.Common.{◌≡◌, ◌∙◌, ap, arith, map}
use Rattle.q_model.specs.declared.filter.Filter.{Filter}
use Rattle.q_tree.specs.filters.FieldValues.{dport_values, dst_values, family_values, proto_values, sport_values, src_values}
use Rattle.q_tree.proofs.filters.field_index.FieldIndex.mark.Goals as goal
use Rattle.q_tree.proofs.filters.FieldIndexLemmas.{field-more, length-more, length-values}

pub returns : goal.returns
returns c = λ filters h long.
    let f : Filter = c.args.filter.now in
    let is : c.filter-filter.result.now ≡ f = c.filter-filter.ensures in
    record {
      few = omega (arith, length-more filters f, long, c.requires.few);
      families = field-more family_values c.mark.new.self filters f c.of_family.result (c.of_family.ensures ∙ ap family_values is)
          (c.mark.ensures (map family_values filters) h.families (length-values family_values filters ∙ long));
      protos = field-more proto_values c.mark-2.new.self filters f c.of_byte.result (c.of_byte.ensures ∙ ap proto_values is)
          (c.mark-2.ensures (map proto_values filters) h.protos (length-values proto_values filters ∙ long));
      srcs = field-more src_values c.mark-3.new.self filters f c.of_prefix.result (c.of_prefix.ensures ∙ ap src_values is)
          (c.mark-3.ensures (map src_values filters) h.srcs (length-values src_values filters ∙ long));
      dsts = field-more dst_values c.mark-4.new.self filters f c.of_prefix-2.result (c.of_prefix-2.ensures ∙ ap dst_values is)
          (c.mark-4.ensures (map dst_values filters) h.dsts (length-values dst_values filters ∙ long));
      sports = field-more sport_values c.mark-5.new.self filters f c.of_port.result (c.of_port.ensures ∙ ap sport_values is)
          (c.mark-5.ensures (map sport_values filters) h.sports (length-values sport_values filters ∙ long));
      dports = field-more dport_values c.mark-6.new.self filters f c.of_port-2.result (c.of_port-2.ensures ∙ ap dport_values is)
          (c.mark-6.ensures (map dport_values filters) h.dports (length-values dport_values filters ∙ long));
    }
