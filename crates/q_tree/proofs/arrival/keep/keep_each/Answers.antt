use Rattle.std.proofs.Common.{◌≡◌, ℕ, ◌+◌, ◌∙◌, List, [], ◌∷◌, ◌++◌, map, refl, sym, ap, subst, arith}
use Rattle.std.specs.Prelude.{IfSome, slice_get, slice_index_or, take}
use Rattle.std.proofs.lemmas.List.{map_push, take_more}
use Rattle.std.proofs.lemmas.Bool.{false≢true}
use Rattle.std.proofs.lemmas.List.Elements.{All-push, All-same}
use Rattle.q_packet.specs.Descriptor.{Descriptor}
use Rattle.q_packet.specs.Stored.{descriptor}
use Rattle.q_packet.specs.declared.stored_packet.StoredPacket.{StoredPacket}
use Rattle.q_codel.specs.Bursts.{HasWidths, IsShort}
use Rattle.q_model.specs.declared.filter.Filter.{Filter}
use Rattle.q_model.specs.declared.totals.Totals.{Totals}
use Rattle.q_model.specs.Beneath.{totals_in}
use Rattle.q_tree.specs.arrival.KeepSteps.{AreKeptBelow, CanBeKeptIn, IsKeptIn}
use Rattle.q_tree.specs.Bursts.{with_arrivals}
use Rattle.q_tree.specs.Seen.{seen}
use Rattle.q_tree.specs.declared.node.Node.TheInside.{Inside}
use Rattle.q_tree.proofs.arrival.ArrivedNodes.{can-come-in}
use Rattle.q_tree.proofs.arrival.KeepingComes.{next-is, none-next, still-can}
use Rattle.q_tree.proofs.arrival.KeepingMany.{below-begins, below-more, below-same, can-next, next-fits, totals-more}
use Rattle.q_tree.proofs.arrival.keep.keep_each.Goals as goal

abbrev some : StoredPacket
some = record { src_high = 0; src_low = 0; dst_high = 0; dst_low = 0; number = 0; port = 0; buf = 0; hash = 0; len = 0; sport = 0; dport = 0; proto = 0; family = 0; prio = 0; ecn = 0 }

pub loop-i-init : goal.loop-i-init
loop-i-init c = (
  λ a is. subst (λ d. AreKeptBelow c.args.now c.args.mtu [] a d) is.discipline (below-begins c.args.now c.args.mtu a is.kept is.can.lawful),
  (λ k d h. absurd (omega (arith, h))),
  (λ k d h. absurd (omega (arith, h))),
  refl,
  omega arith,
)

pub keep_one-requires : goal.keep_one-requires
keep_one-requires c =
    let a : Inside = c.requires.ready.node in
    let is = c.requires.ready.is in
    let x : StoredPacket = slice_index_or c.args.packets.now c.loop-i.i some in
    let ps : List Descriptor = map descriptor (take c.loop-i.i c.args.packets.now) in
    let here = c.loop-i.invariant.0 a is in
    let short = c.is_short.ensures.means c.if-not-is_short.false in
    let can = can-next c.args.now c.args.mtu a ps c.loop-i.discipline (descriptor x) here (short.in_range.len, short.short)
    (next-fits c.args.now c.args.mtu c.loop-i.i a c.args.packets.now c.args.filters.now c.args.discipline.now x c.loop-i.bytes is c.loop-i-test.true c.is_short.ensures.widths c.loop-i.invariant.4 c.loop-i.invariant.3) in
    let b : Inside = record a { row = with_arrivals (totals_in ps) a.row; discipline = c.loop-i.discipline } in
    record { ready = can-come-in c.args.now (descriptor x) b (seen b) here.kept refl can }

pub returns-then-not-keep_one-clause-after : goal.returns-then-not-keep_one-clause-after
returns-then-not-keep_one-clause-after c = λ a is.
    subst (λ (n : ℕ). AreKeptBelow c.args.now c.args.mtu (map descriptor (take n c.args.packets.now)) a c.keep_one.new.self) (sym (ap (λ (t : Totals). t.packets) c.totals-then-not-keep_one.ensures))
    (below-same c.args.now c.args.mtu a (map descriptor (take c.loop-i.i c.args.packets.now)) c.loop-i.discipline c.keep_one.new.self (c.loop-i.invariant.0 a is) (c.if-not-keep_one.ensures.same refl))

pub returns-then-not-is_short-clause-below : goal.returns-then-not-is_short-clause-below
returns-then-not-is_short-clause-below c =
    let Next : StoredPacket → Type 0 = λ x. IsShort c.args.mtu x → CanBeKeptIn (descriptor x) c.args.filters.now c.loop-i.discipline → ⊥ in
    subst (λ (n : ℕ). IfSome (slice_get c.args.packets.now n) Next) (sym (ap (λ (t : Totals). t.packets) c.totals.ensures))
    (next-is Next c.args.packets.now c.loop-i.i some c.loop-i-test.true (λ short can. c.is_short.ensures.comes c.if-not-is_short.true short))

pub returns-then-not-keep_one-clause-below : goal.returns-then-not-keep_one-clause-below
returns-then-not-keep_one-clause-below c =
    let x : StoredPacket = slice_index_or c.args.packets.now c.loop-i.i some in
    let Next : StoredPacket → Type 0 = λ y. IsShort c.args.mtu y → CanBeKeptIn (descriptor y) c.args.filters.now c.keep_one.new.self → ⊥ in
    subst (λ (n : ℕ). IfSome (slice_get c.args.packets.now n) Next) (sym (ap (λ (t : Totals). t.packets) c.totals-then-not-keep_one.ensures))
    (next-is Next c.args.packets.now c.loop-i.i some c.loop-i-test.true (λ short can. false≢true (c.if-not-keep_one.ensures.comes
    (still-can (descriptor x) c.args.filters.now c.loop-i.discipline c.keep_one.new.self (c.if-not-keep_one.ensures.same refl) can))))

pub returns-clause-below : goal.returns-clause-below
returns-clause-below c =
    let Next : StoredPacket → Type 0 = λ x. IsShort c.args.mtu x → CanBeKeptIn (descriptor x) c.args.filters.now c.loop-i.discipline → ⊥ in
    none-next Next c.args.packets.now c.totals-2.result.packets (omega (arith, ap (λ (t : Totals). t.packets) c.totals-2.ensures))

pub loop-i-preserved : goal.loop-i-preserved
loop-i-preserved c =
    let i = c.loop-i.i in
    let cs = c.args.packets.now in
    let x : StoredPacket = slice_index_or cs i some in
    let firsts = take i cs in
    let ps : List Descriptor = map descriptor firsts in
    let more : take (i + 1) cs ≡ firsts ++ x ∷ [] = take_more cs i some c.loop-i-test.true in
    let all : ps ++ descriptor x ∷ [] ≡ map descriptor (take (i + 1) cs) = sym (ap (λ (xs : List StoredPacket). map descriptor xs) more ∙ map_push descriptor firsts x) in
    let short = c.is_short.ensures.means c.if-not-is_short.false in (
      λ a is.
          subst (λ (qs : List Descriptor). AreKeptBelow c.args.now c.args.mtu qs a c.keep_one.new.self) all
          (below-more c.args.now c.args.mtu a ps c.loop-i.discipline (descriptor x) (c.loop-i.invariant.0 a is) (short.in_range.len, short.short)
          (next-fits c.args.now c.args.mtu i a cs c.args.filters.now c.args.discipline.now x c.loop-i.bytes is c.loop-i-test.true c.is_short.ensures.widths c.loop-i.invariant.4 c.loop-i.invariant.3)
          c.keep_one.new.self (subst (λ (fs : List Filter). IsKeptIn c.args.now (descriptor x) fs c.loop-i.discipline c.keep_one.new.self) (sym is.filters_are) (c.if-not-keep_one.ensures.kept refl))),
      All-same (IsShort c.args.mtu) (take (i + 1) cs) (firsts ++ x ∷ []) more (All-push (IsShort c.args.mtu) firsts x c.loop-i.invariant.1 short),
      All-same HasWidths (take (i + 1) cs) (firsts ++ x ∷ []) more (All-push HasWidths firsts x c.loop-i.invariant.2 c.is_short.ensures.widths),
      ap (λ (n : ℕ). record { packets = i + 1; bytes = c.loop-i.bytes + n }) c.from-bytes.ensures ∙ totals-more ps (descriptor x) i c.loop-i.bytes c.loop-i.invariant.3 ∙ ap totals_in all,
      omega (arith, c.loop-i.invariant.4, c.is_short.ensures.widths.len, c.from-bytes.ensures),
    )
