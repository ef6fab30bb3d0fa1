-- What is lost is what refused and dropped grow by, note by note.
use Rattle.std.proofs.Common.{◌≡◌, ◌∙◌, Bool, true, false, List, [], ◌∷◌, ◌++◌, map, sym, ap, subst, Option, Some, None}
use Rattle.std.proofs.lemmas.List.{append-nil}
use Rattle.std.proofs.lemmas.List.Elements.{filter_map-append}
use Rattle.std.specs.Prelude.{not, if◌then◌else◌}
use Rattle.std.specs.List.{filter}
use Rattle.std.specs.Option.{option_to_list}
use Rattle.q_packet.specs.Cause.{is_refusal}
use Rattle.q_packet.specs.Descriptor.{Descriptor}
use Rattle.q_codel.specs.declared.loss.Loss.{Loss}
use Rattle.q_model.specs.Beneath.{totals_in}
use Rattle.q_model.specs.Step.{loss_in, losses_in}
use Rattle.q_model.specs.Tally.{Note, Arrived, Sent, Lost, Marked, Granted, Spent, FlowGranted, FlowGave, Counts, with_packet, noted}
use Rattle.q_model.specs.TreeState.{noted_by_put, take_packet, noted_by_take, given}
use Rattle.q_tree.specs.arrival.Arrivals.{plus}
use Rattle.q_tree.specs.Kept.{Kept, kept}
use Rattle.q_tree.proofs.counters.Rows.{plus-none, plus-with_packet}
use Rattle.q_tree.specs.Laws.{refused_of, dropped_of, HasCountedLosses, PutCountsItsLosses, PeekCountsItsLosses, TakeCountsItsLosses}

refusals : (k : Kept) (notes : List Note) → (noted kept k notes).counts.refused ≡ plus k.counts.refused (refused_of (losses_in notes))
refusals k [] = sym (plus-none k.counts.refused)
refusals k (Arrived p ∷ notes) = refusals (kept.more k (Arrived p)) notes
refusals k (Sent p ∷ notes) = refusals (kept.more k (Sent p)) notes
refusals k (Lost p cause ∷ notes) = by (is_refusal cause) (λ c. refusals (record k { counts = c }) notes) where
  by : (b : Bool) → ((c : Counts) → (noted kept (record k { counts = c }) notes).counts.refused ≡ plus c.refused (refused_of (losses_in notes)))
      → (noted kept (record k {
        counts = if b then record k.counts { refused = with_packet k.counts.refused p } else record k.counts
            { dropped = with_packet k.counts.dropped p };
      }) notes).counts.refused
      ≡ plus k.counts.refused (totals_in (map (λ (l : Loss). l.packet)
      (if b then record { packet = p; cause = cause } ∷ filter (λ (l : Loss). is_refusal l.cause) (losses_in notes) else filter
      (λ (l : Loss). is_refusal l.cause) (losses_in notes))))
  by true on =
      on (record k.counts { refused = with_packet k.counts.refused p }) ∙ plus-with_packet k.counts.refused p
      (map (λ (l : Loss). l.packet) (filter (λ (l : Loss). is_refusal l.cause) (losses_in notes)))
  by false on = on (record k.counts { dropped = with_packet k.counts.dropped p })
refusals k (Marked p ∷ notes) = refusals (kept.more k (Marked p)) notes
refusals k (Granted class times ∷ notes) = refusals (kept.more k (Granted class times)) notes
refusals k (Spent bytes ∷ notes) = refusals (kept.more k (Spent bytes)) notes
refusals k (FlowGranted flow times ∷ notes) = refusals (kept.more k (FlowGranted flow times)) notes
refusals k (FlowGave flow bytes ∷ notes) = refusals (kept.more k (FlowGave flow bytes)) notes

drops : (k : Kept) (notes : List Note) → (noted kept k notes).counts.dropped ≡ plus k.counts.dropped (dropped_of (losses_in notes))
drops k [] = sym (plus-none k.counts.dropped)
drops k (Arrived p ∷ notes) = drops (kept.more k (Arrived p)) notes
drops k (Sent p ∷ notes) = drops (kept.more k (Sent p)) notes
drops k (Lost p cause ∷ notes) = by (is_refusal cause) (λ c. drops (record k { counts = c }) notes) where
  by : (b : Bool) → ((c : Counts) → (noted kept (record k { counts = c }) notes).counts.dropped ≡ plus c.dropped (dropped_of (losses_in notes)))
      → (noted kept (record k {
        counts = if b then record k.counts { refused = with_packet k.counts.refused p } else record k.counts
            { dropped = with_packet k.counts.dropped p };
      }) notes).counts.dropped
      ≡ plus k.counts.dropped (totals_in (map (λ (l : Loss). l.packet)
      (if not b then record { packet = p; cause = cause } ∷ filter (λ (l : Loss). not (is_refusal l.cause)) (losses_in notes) else filter
      (λ (l : Loss). not (is_refusal l.cause)) (losses_in notes))))
  by true on = on (record k.counts { refused = with_packet k.counts.refused p })
  by false on =
      on (record k.counts { dropped = with_packet k.counts.dropped p }) ∙ plus-with_packet k.counts.dropped p
      (map (λ (l : Loss). l.packet) (filter (λ (l : Loss). not (is_refusal l.cause)) (losses_in notes)))
drops k (Marked p ∷ notes) = drops (kept.more k (Marked p)) notes
drops k (Granted class times ∷ notes) = drops (kept.more k (Granted class times)) notes
drops k (Spent bytes ∷ notes) = drops (kept.more k (Spent bytes)) notes
drops k (FlowGranted flow times ∷ notes) = drops (kept.more k (FlowGranted flow times)) notes
drops k (FlowGave flow bytes ∷ notes) = drops (kept.more k (FlowGave flow bytes)) notes

all-counted : (k : Kept) (notes : List Note) → HasCountedLosses (losses_in notes) k.counts (noted kept k notes).counts
all-counted k notes = record { refused = refusals k notes; dropped = drops k notes }

pub put-counts : PutCountsItsLosses
put-counts now p s = all-counted s.top (Arrived p ∷ noted_by_put now p s)

pub peek-counts : PeekCountsItsLosses
peek-counts now s = all-counted s.top (noted_by_take now s)

-- the packet that is sent is no loss
sent-is-none : (notes : List Note) (o : Option Descriptor) → losses_in (notes ++ map Sent (option_to_list o)) ≡ losses_in notes
sent-is-none notes None = ap losses_in (append-nil notes)
sent-is-none notes (Some p) = filter_map-append loss_in notes (Sent p ∷ []) ∙ append-nil (losses_in notes)

pub take-counts : TakeCountsItsLosses
take-counts now s =
    subst (λ losses. HasCountedLosses losses s.top.counts (take_packet kept now s).top.counts) (sent-is-none (noted_by_take now s) (given now s))
    (all-counted s.top (noted_by_take now s ++ map Sent (option_to_list (given now s))))
