-- An address of the version of the packet's other one agrees with it, in either place.
use Rattle.std.proofs.Common.{◌≡◌, ◌∙◌, rules, sym, Option, Some, None, IfSome, option_map}
use Rattle.std.specs.Option.{option_or}
use Rattle.q_words.specs.Addresses.{Address}
use Rattle.q_line.specs.Grammar.{packet_version}
use Rattle.q_line.specs.Reading.{IsAgreed}
use Rattle.q_line.specs.declared.packet_draft.PacketDraft.{PacketDraft}
use Rattle.q_line.proofs.packet_draft.PacketDraft.own_address.Goals as goal

agreed_source : (p : PacketDraft) (a : Address) → IsAgreed p → IfSome (packet_version p) (λ v. a.version ≡ v) → IsAgreed (record p { src_ip = Some a })
agreed_source p a = by_addresses p.src_ip p.dst_ip
  where
    by_addresses : (s d : Option Address) → IfSome s (λ (x : Address). IfSome d (λ (y : Address). x.version ≡ y.version))
        → IfSome (option_map (λ (x : Address). x.version) (option_or s d)) (λ v. a.version ≡ v) → IfSome d (λ (y : Address). a.version ≡ y.version)
    by_addresses (Some s) (Some d) agreed same = same ∙ agreed
    by_addresses None (Some d) agreed same = same
    by_addresses s None agreed same = tt

agreed_destination : (p : PacketDraft) (a : Address) → IfSome (packet_version p) (λ v. a.version ≡ v) → IsAgreed (record p { dst_ip = Some a })
agreed_destination p a = by_address p.src_ip p.dst_ip
  where
    by_address : (s d : Option Address) → IfSome (option_map (λ (x : Address). x.version) (option_or s d)) (λ v. a.version ≡ v) → IfSome s (λ (x : Address). x.version ≡ a.version)
    by_address (Some s) d same = sym same
    by_address None d same = tt

pub returns-in_default-clause-source : goal.returns-in_default-clause-source
returns-in_default-clause-source c = agreed_source c.args.self.now c.in_ok-found.found c.requires (search rules)

pub returns-in_default-clause-destination : goal.returns-in_default-clause-destination
returns-in_default-clause-destination c = agreed_destination c.args.self.now c.in_ok-found.found (search rules)
