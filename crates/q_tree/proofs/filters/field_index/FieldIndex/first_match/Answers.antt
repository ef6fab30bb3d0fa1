use Rattle.std.proofs.Common.{◌≡◌, ◌∙◌, ap, ap₂, map, subst, ℕ}
use Rattle.std.specs.Prelude.{◌&&◌}
use Rattle.q_packet.specs.Key.{IsKey, Key}
use Rattle.q_tree.specs.filters.FieldSets.{takes_at}
use Rattle.q_tree.specs.filters.FieldValues.{dport_values, dst_values, family_values, proto_values, sport_values, src_values}
use Rattle.q_tree.specs.filters.FilterSets.{holds}
use Rattle.q_tree.proofs.filters.field_index.FieldIndex.first_match.Goals as goal
use Rattle.q_tree.proofs.filters.FieldIndexLemmas.{first-found, in_all}

pub returns : goal.returns
returns c = λ filters h.
    let key = c.args.packet.now.key in
    let same : _ ≡ key = c.key.view_is ∙ c.key-key.ensures in
    let family : c.from.result ≡ key.family = c.from.ensures ∙ ap (λ (k : Key). k.family) same in
    let proto : c.from-2.result ≡ key.proto = c.from-2.ensures ∙ ap (λ (k : Key). k.proto) same in
    let sport : c.from-3.result ≡ key.sport = c.from-3.ensures ∙ ap (λ (k : Key). k.sport) same in
    let dport : c.from-4.result ≡ key.dport = c.from-4.ensures ∙ ap (λ (k : Key). k.dport) same in
    let is : (j : ℕ) → holds c.both-all.result j ≡ in_all filters key j = λ j.
    c.both-all.ensures j
    ∙ ap₂ (λ a b. a && b)
    (c.both-numbers.ensures j
    ∙ ap₂ (λ a b. a && b) (c.takers-families.ensures (map family_values filters) h.families j ∙ ap (takes_at (map family_values filters) j) family)
    (c.takers-protos.ensures (map proto_values filters) h.protos j ∙ ap (takes_at (map proto_values filters) j) proto))
    (c.both-places.ensures j
    ∙ ap₂ (λ a b. a && b)
    (c.both-addresses.ensures j
    ∙ ap₂ (λ a b. a && b) (c.takers-srcs.ensures (map src_values filters) h.srcs j ∙ ap (λ (k : Key). takes_at (map src_values filters) j k.src) same)
    (c.takers-dsts.ensures (map dst_values filters) h.dsts j ∙ ap (λ (k : Key). takes_at (map dst_values filters) j k.dst) same))
    (c.both-ports.ensures j
    ∙ ap₂ (λ a b. a && b) (c.takers-sports.ensures (map sport_values filters) h.sports j ∙ ap (takes_at (map sport_values filters) j) sport)
    (c.takers-dports.ensures (map dport_values filters) h.dports j ∙ ap (takes_at (map dport_values filters) j) dport))) in
    first-found c.args.packet.now filters c.both-all.result c.first.result (subst IsKey same c.key.invariant) h.few is c.first.ensures.there c.first.ensures.before
