-- An index of filters by field: for each value of a field the filters that take it.
-- Nothing here is of a standard.
use Rattle.std.specs.Prelude.{◌≤◌, List, length, map}
use Rattle.q_model.specs.declared.filter.Filter.{Filter}
use Rattle.q_tree.specs.filters.FieldSets.{IsCutBy, IsFieldOf}
use Rattle.q_tree.specs.filters.FieldValues.{dport_values, dst_values, family_values, proto_values, sport_values, src_values}
use Rattle.q_tree.specs.declared.filters.field_index.FieldIndex.{FieldIndex}

pub record IsFieldIndexOf (index : FieldIndex) (filters : List Filter) : Type 0 where
  pub few : length filters ≤ 256
  pub families : IsFieldOf index.families (map family_values filters)
  pub protos : IsFieldOf index.protos (map proto_values filters)
  pub srcs : IsFieldOf index.srcs (map src_values filters)
  pub dsts : IsFieldOf index.dsts (map dst_values filters)
  pub sports : IsFieldOf index.sports (map sport_values filters)
  pub dports : IsFieldOf index.dports (map dport_values filters)

-- each field has room for this filter
pub record IsCutFor (index : FieldIndex) (f : Filter) : Type 0 where
  pub family : IsCutBy index.families (family_values f)
  pub proto : IsCutBy index.protos (proto_values f)
  pub src : IsCutBy index.srcs (src_values f)
  pub dst : IsCutBy index.dsts (dst_values f)
  pub sport : IsCutBy index.sports (sport_values f)
  pub dport : IsCutBy index.dports (dport_values f)
