-- What an fq_codel holds of the packet that it sends, where CoDel dropped others for it or marked it.
use Rattle.std.proofs.Common.{◌≡◌, ℕ, ◌∙◌, Option, Some, None, refl, sym, ap, option_map, option_and_then}
use Rattle.std.specs.Prelude.{true, is_some, unwrap_or}
use Rattle.std.specs.Option.{option_map_or}
use Rattle.std.proofs.lemmas.Option.{none-some, same_Some}
use Rattle.q_packet.specs.Descriptor.{Descriptor}
use Rattle.q_packet.specs.declared.stamped.Stamped.{Stamped}
use Rattle.q_codel.specs.Codel.{sent}
use Rattle.q_codel.specs.declared.codel.Taken.{Taken}
use Rattle.q_fqcodel.specs.FqState.{Flow, FqState}
use Rattle.q_fqcodel.specs.Take.{sender, packet_sent, head_sent, sent_from}
use Rattle.q_tree.specs.departure.Holding.{held_with}
use Rattle.q_tree.proofs.departure.HeldLemmas.{some-there, placed}
use Rattle.q_tree.proofs.disciplines.TakeCounts.{packet_of}

-- when the packet arrived that is sent
arrived-at : (head : Option Stamped) (at : ℕ) → Some at ≡ option_map (λ (s : Stamped). s.at) head → at ≡ option_map_or (λ (s : Stamped). s.at) head 0
arrived-at None at is = absurd (none-some at (sym is))
arrived-at (Some s) at is = same_Some at s.at is

-- a flow whose packet arrived at some time sends one
sends : (head : Option Stamped) (f : Stamped → Taken) (at : ℕ) → Some at ≡ option_map (λ (s : Stamped). s.at) head → is_some (packet_of (option_map f head)) ≡ true
sends None f at is = absurd (none-some at (sym is))
sends (Some s) f at is = refl

sender-sends : (now : ℕ) (o : Option Flow) (at : ℕ)
    → Some at ≡ option_map (λ (s : Stamped). s.at) (option_and_then (λ (f : Flow). sent f.codel now f.queue) o)
    → is_some (packet_of (option_and_then (packet_sent now) o)) ≡ true
unfolding packet_sent
sender-sends now None at is = absurd (none-some at (sym is))
sender-sends now (Some f) at is = sends (sent f.codel now f.queue) _ at is

late-sends : (now : ℕ) (s : FqState) (at : ℕ) → Some at ≡ option_map (λ (s : Stamped). s.at) (head_sent now s) → is_some (packet_of (sent_from now s)) ≡ true
unfolding head_sent sent_from
late-sends now s at is = sender-sends now (sender s) at is

pub late-held : (now : ℕ) (s : FqState) (o : Option Descriptor) (place old : Descriptor) (at : ℕ) → o ≡ packet_of (sent_from now s)
    → place ≡ unwrap_or o old → Some at ≡ option_map (λ (s : Stamped). s.at) (head_sent now s)
    → Some (record { packet = place; at = at }) ≡ held_with o (option_map_or (λ (s : Stamped). s.at) (head_sent now s) 0)
late-held now s o place old at given is time =
    let there = some-there o (ap is_some given ∙ late-sends now s at time) in
    placed o there.0 place old at (option_map_or (λ (s : Stamped). s.at) (head_sent now s) 0) there.1 is (arrived-at (head_sent now s) at time)
