-- A node beneath which a packet is put: it stays lawful, and a class of a drr wakes or stays awake.
use Rattle.std.proofs.Common.{◌≡◌, ℕ, ◌+◌, ◌≤◌, List, ◌∷◌, map, set, length, refl, sym, ap, subst, Option, Some, option_map, ◌∙◌, arith}
use Rattle.std.specs.Prelude.{Bool, true, All, ◌<◌, ◌==◌, slice_get, is_some}
use Rattle.std.specs.List.{position}
use Rattle.std.proofs.lemmas.List.{map-set, length-set}
use Rattle.std.proofs.lemmas.List.Elements.{All-cons, All-set}
use Rattle.std.proofs.lemmas.Option.{slice_get-map}
use Rattle.q_packet.specs.Descriptor.{Descriptor}
use Rattle.q_bucket.specs.Level.{TokenBucket}
use Rattle.q_drr.specs.Schedule.{Class, Schedule}
use Rattle.q_model.specs.declared.filter.Filter.{Filter}
use Rattle.q_model.specs.Find.{class_in}
use Rattle.q_model.specs.Numbers.{IsWithin}
use Rattle.q_model.specs.Node.{Discipline, Fifo, Prio, Tbf, Drr, FqCodel, Own, Shape, children}
use Rattle.q_model.specs.Beneath.{beneath, is_empty, packets_in}
use Rattle.q_model.specs.Lawful.{IsLawfulOwn, IsLawfulDrr}
use Rattle.q_model.specs.Put.{put_beneath}
use Rattle.q_model.specs.Work.{Worked, Work, quiet, settled_class, settled}
use Rattle.q_invariants.specs.Kept.{IsLawfulRoot}
use Rattle.q_invariants.specs.Weights.{plain, weigh}
use Rattle.q_invariants.proofs.ask.Answer.{waiting}
use Rattle.q_invariants.proofs.put.DrrSettled.{class-settled, drr-settled, settled-packets}
use Rattle.q_invariants.proofs.put.PutHere.{IsPut, put-parts}
use Rattle.q_invariants.proofs.put.PutQueue.{longer-lengths}
use Rattle.q_invariants.proofs.sums.Lengths.{HasLength, IsShort, short-among}
use Rattle.q_invariants.proofs.sums.Sums.{in_children, weigh-waiting, weigh-holds}
use Rattle.q_invariants.proofs.sums.Weights.{weigh-cons}
use Rattle.q_invariants.proofs.tree.Members.{All-at}
use Rattle.q_invariants.proofs.tree.Quiet.{quiets, beneath-quiet, beneath-quiets, quiets-lawful, set-at}
use Rattle.q_invariants.proofs.tree.Ways.{CanPass}

module _ (mtu now : ℕ) (least : 1 ≤ mtu) (p : Descriptor) (fits : IsWithin 1 mtu p.len) (handle : Option ℕ) (held : Option Descriptor) (filters : List Filter) (since : ℕ) where
  abbrev own_of : Discipline → Own
  own_of d = record { handle = handle; discipline = d; held = held; since = since; filters = filters }

  module _ (i : ℕ) (before after : List Worked) (c m : List Descriptor)
      (at : slice_get (map beneath before) i ≡ Some c) (becomes : map beneath after ≡ set (map beneath before) i m)
      (more : (w : Descriptor → ℕ) → weigh w m ≤ w (plain p) + weigh w c) (all_more : (w : Descriptor → ℕ) → in_children w after ≤ w (plain p) + in_children w before) where
    as_many : length (map beneath after) ≡ length (map beneath before)
    as_many = ap length becomes ∙ length-set (map beneath before) i m

    lengths : (d e : Discipline) → packets_in e ≡ packets_in d → IsLawfulOwn mtu now (own_of d) (map beneath before) → All (HasLength mtu) (waiting (own_of e) after)
    lengths d e same h = longer-lengths mtu p (waiting (own_of d) before) (waiting (own_of e) after) fits
        (λ w. omega (arith, all_more w, weigh-waiting w (own_of d) before, weigh-waiting w (own_of e) after, ap (weigh w) same)) h.lengths

    prio-settled : (priomap : List ℕ) → IsLawfulOwn mtu now (own_of (Prio priomap)) (map beneath before) → IsLawfulOwn mtu now (own_of (Prio priomap)) (map beneath after)
    prio-settled priomap h = record {
      discipline = record {
        least = omega (arith, h.discipline.least, as_many);
        most = omega (arith, h.discipline.most, as_many);
        each = h.discipline.each;
        bands = subst (λ (n : ℕ). All (λ band. band < n) priomap) (sym as_many) h.discipline.bands;
      };
      lengths = lengths (Prio priomap) (Prio priomap) refl h;
      held = h.held;
      filters = h.filters;
      in_order = h.in_order;
      named = subst (λ (n : ℕ). All (λ (f : Filter). is_some (class_in n f.minor (Prio priomap)) ≡ true) filters) (sym as_many) h.named;
    }

    tbf-settled : (b : TokenBucket) (limit : ℕ) → p.len ≤ b.burst → IsLawfulOwn mtu now (own_of (Tbf b limit)) (map beneath before) → IsLawfulOwn mtu now (own_of (Tbf b limit)) (map beneath after)
    tbf-settled b limit passes h =
        let child : All (IsShort b.burst) c = All-at (λ packets. All (IsShort b.burst) packets) (map beneath before) i c h.discipline.short at in
        let new_child : All (IsShort b.burst) m =
        short-among b.burst (p ∷ c) m (λ w. omega (arith, more w, weigh-cons w p c)) (All-cons (IsShort b.burst) p c passes child) in
        record {
          discipline = record {
            level = h.discipline.level;
            last = h.discipline.last;
            one = as_many ∙ h.discipline.one;
            short = subst (λ (xs : List (List Descriptor)). All (λ packets. All (IsShort b.burst) packets) xs) (sym becomes)
                (All-set (λ packets. All (IsShort b.burst) packets) (map beneath before) i m new_child h.discipline.short);
          };
          lengths = lengths (Tbf b limit) (Tbf b limit) refl h;
          held = h.held;
          filters = h.filters;
          in_order = h.in_order;
          named = h.named;
        }

    drr-put : (s : Schedule) → IsLawfulOwn mtu now (own_of (Drr s)) (map beneath before) → IsLawfulOwn mtu now (own_of (Drr (settled_class i (length m == 0) s))) (map beneath after)
    drr-put s h =
        let emptied : Bool = length m == 0 in
        record {
          discipline = subst (IsLawfulDrr mtu (settled_class i emptied s)) (sym becomes) (drr-settled mtu s (map beneath before) i c m h.discipline least at);
          lengths = lengths (Drr s) (Drr (settled_class i emptied s)) refl h;
          held = λ some. tt;
          filters = h.filters;
          in_order = h.in_order;
          named = subst (λ (cs : List Class). All (λ (f : Filter). is_some (position (λ (c : Class). f.minor == c.name) cs) ≡ true) filters) (sym (class-settled i emptied s)) h.named;
        }

    pub own-settled : (d : Discipline) → CanPass p d → IsLawfulOwn mtu now (own_of d) (map beneath before) → IsLawfulOwn mtu now (settled i (length m == 0) (own_of d)) (map beneath after)
    own-settled (Fifo limit queue) can h = absurd can
    own-settled (FqCodel s) can h = absurd can
    own-settled (Prio priomap) can h = prio-settled priomap h
    own-settled (Tbf b limit) can h = tbf-settled b limit can h
    own-settled (Drr s) can h = drr-put s h

-- a node on the way
pub beneath-put : (mtu now : ℕ) (p : Descriptor) (s : Shape) (i : ℕ) (c : Shape) (w : Work) → 1 ≤ mtu → IsWithin 1 mtu p.len → IsLawfulRoot mtu now s
    → CanPass p s.own.discipline → slice_get (children s) i ≡ Some c → IsPut mtu now p c w
    → IsPut mtu now p s (put_beneath p i s w)
beneath-put mtu now p s i c w least fits h can at put =
    let after : List Worked = set (quiets s) i w.node in
    let own : Own = settled i (is_empty w.node) s.own in
    let here = set-at mtu now (children s) i c w.node at in
    let quiet_at : slice_get (map beneath (quiets s)) i ≡ Some (beneath (quiet c)) =
    slice_get-map beneath (quiets s) i ∙ ap (option_map beneath) (slice_get-map quiet (children s) i ∙ ap (option_map quiet) at) in
    let quiet_is : (f : Descriptor → ℕ) → weigh f (beneath (quiet c)) ≡ weigh f (beneath c) = λ f. ap (weigh f) (beneath-quiet c) in
    let packets = settled-packets i (is_empty w.node) s.own.discipline in
    put-parts mtu now p s own w.rises after (record {
      handle = refl;
      lawful = own-settled mtu now least p fits s.own.handle s.own.held s.own.filters s.own.since i (quiets s) after (beneath (quiet c)) (beneath w.node) quiet_at (map-set beneath (quiets s) i w.node)
          (λ f. omega (arith, put.conserved f, quiet_is f)) (λ f. omega (arith, put.conserved f, here.weighs f)) s.own.discipline can
          (subst (IsLawfulOwn mtu now s.own) (sym (beneath-quiets s)) h.0);
      all = here.lawful (quiets-lawful mtu now s.below h.1) put.lawful;
      told = here.told put.told;
      no_arrival = put.no_arrival;
      nothing_sent = put.nothing_sent;
      nothing_marked = put.nothing_marked;
      conserved = λ f. omega (arith, put.conserved f, here.weighs f, weigh-waiting f s.own (quiets s), weigh-waiting f own after, ap (weigh f) packets);
      held = λ f. omega (arith, put.held f, here.holds f, weigh-holds f s.own (quiets s), weigh-holds f own after);
    })
