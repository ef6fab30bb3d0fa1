-- A take right after a peek leaves the tree that a take alone leaves, its counters and histories too.
use Rattle.std.proofs.Common.{◌≡◌, ℕ, ◌≤◌, ◌^◌, List, [], ◌∷◌, ◌++◌, map, drop, refl, sym, ap, ap₂, ◌∙◌, Option, Some, None}
use Rattle.std.specs.Prelude.{slice_get, is_some, if◌then◌else◌}
use Rattle.std.specs.Option.{option_to_list}
use Rattle.std.proofs.lemmas.List.{append-nil}
use Rattle.std.proofs.lemmas.List.Sums.{fold-append}
use Rattle.q_packet.specs.Descriptor.{Descriptor}
use Rattle.q_model.specs.declared.filter.Filter.{Filter}
use Rattle.q_model.specs.Tally.{Tally, Note, Sent, noted}
use Rattle.q_model.specs.Node.{Discipline, Fifo, Prio, Tbf, Drr, FqCodel, Own, Forest, none, more, Node, Shape, each, shape}
use Rattle.q_model.specs.Beneath.{packets_of}
use Rattle.q_model.specs.Work.{Worked, each_booked}
use Rattle.q_model.specs.Ask.{Asked, holding, ask_fifo, ask_own, ask}
use Rattle.q_model.specs.TreeState.{TreeState, with_work, peek_packet, take_packet}
use Rattle.q_invariants.specs.Kept.{AllLawful, IsLawfulRoot}
use Rattle.q_invariants.proofs.again.SecondPeek.{IsSecond, again, AreStable, again-quiet, node}
use Rattle.q_invariants.proofs.again.SecondPeeks.{forest-stable, ask-stable, told, asked-again, second-peek}
use Rattle.q_invariants.proofs.again.TakeBands.{prio-so}
use Rattle.q_invariants.proofs.again.TakeJoined.{AllJoined, IsJoined, TakesSo, TakeSo, shown-so, tbf-so, drr-so, fq_codel-so}
use Rattle.q_invariants.proofs.sums.Told.{AllTold}

-- ---- every node

module _ (mtu now : ℕ) (least : 1 ≤ mtu) (low : now ≤ 2 ^ 62) where
  node-so : (handle : Option ℕ) (filters : List Filter) (since : ℕ) (held : Option Descriptor) (d : Discipline) (below : List Asked)
      → AreStable now below → TakeSo now below
      → TakesSo now (ask_own now (node now handle filters since d held) below)
  node-so handle filters since (Some p) d below stable all =
      let own : Own = node now handle filters since d (Some p) in
      shown-so now handle filters since (holding own below p) below own (record own { held = None; since = 0 }) (Sent p ∷ []) (again-quiet now own [] below stable) refl refl stable
  node-so handle filters since None (Fifo limit queue) below stable all =
      let own : Own = node now handle filters since (Fifo limit queue) None in
      shown-so now handle filters since (ask_fifo own below limit queue) below own (record own { discipline = Fifo limit (drop 1 queue) }) (map Sent (option_to_list (slice_get (packets_of queue) 0)))
      (again-quiet now own [] below stable) refl refl stable
  node-so handle filters since None (Prio priomap) below stable all = prio-so now handle filters since priomap below stable all
  node-so handle filters since None (Tbf b limit) below stable all = tbf-so now handle filters since below b limit
  node-so handle filters since None (Drr s) below stable all = drr-so now handle filters since below s
  node-so handle filters since None (FqCodel s) below stable all = fq_codel-so now handle filters since below s

  forest-so : (x : Forest (Unit {0})) → AllLawful mtu now x → TakeSo now (each (ask_own now) x)
  forest-so none h = tt
  forest-so (more own m below others) h = (
    node-so own.handle own.filters own.since own.held own.discipline (each (ask_own now) below) (forest-stable mtu now least low below h.1) (forest-so below h.1),
    forest-so others h.2,
  )

  pub ask-so : (s : Shape) → IsLawfulRoot mtu now s → TakesSo now (ask now s)
  ask-so s h =
      node-so s.own.handle s.own.filters s.own.since s.own.held s.own.discipline (each (ask_own now) s.below) (forest-stable mtu now least low s.below h.1) (forest-so s.below h.1)

-- ---- what is remembered

module _ {M : Type 0} (t : Tally M) where
  noted-joined : (m : M) (xs ys zs : List Note) → xs ++ ys ≡ zs → noted t (noted t m xs) ys ≡ noted t m zs
  noted-joined m xs ys zs e = sym (fold-append t.more m xs ys) ∙ ap (noted t m) e

  forest-joined : (x : Forest M) (p q r : Forest (List Note)) → AllTold x p → AllJoined p q r
      → each_booked t (each_booked t x p) q ≡ each_booked t x r
  forest-joined none p q r h j = refl
  forest-joined (more own m below others) none q r h j = absurd h
  forest-joined (more own m below others) (more o xs b os) (more u ys c us) (more v zs d vs) h j =
      ap (λ (w : Own). more w (noted t (noted t m xs) ys) (each_booked t (each_booked t below b) c) (each_booked t (each_booked t others os) us)) j.0
      ∙ ap (λ (k : M). more v k (each_booked t (each_booked t below b) c) (each_booked t (each_booked t others os) us)) (noted-joined m xs ys zs j.1)
      ∙ ap₂ (λ (f g : Forest M). more v (noted t m zs) f g) (forest-joined below b c d h.2 j.2) (forest-joined others os us vs h.3 j.3)
  forest-joined (more own m below others) (more o xs b os) q r h j = absurd j

  -- a tree that is worked on twice, as once
  works-joined : (s : TreeState M) (first second both : List Note) (p q r : Worked) → first ++ second ≡ both
      → AllTold s.root.below p.below → IsJoined p q r
      → with_work t second q (with_work t first p s) ≡ with_work t both r s
  works-joined s first second both p q r e h j =
      ap₂ (λ (top : M) (root : Node M). record s { top = top; root = root }) (noted-joined s.top first second both e)
      (ap (λ (own : Own). record { own = own; memory = noted t (noted t s.root.memory p.memory) q.memory; below = each_booked t (each_booked t s.root.below p.below) q.below }) j.0
      ∙ ap₂ (λ (m : M) (b : Forest M). record { own = r.own; memory = m; below = b }) (noted-joined s.root.memory p.memory q.memory r.memory j.1)
      (forest-joined s.root.below p.below q.below r.below h j.2))

-- ---- a whole tree

module _ {M : Type 0} (t : Tally M) (now : ℕ) (s : TreeState M) (least : 1 ≤ s.device.mtu) (low : now ≤ 2 ^ 62)
    (lawful : IsLawfulRoot s.device.mtu now (shape s.root)) where
  -- what a take makes of a tree that answers so
  abbrev taken_of : Asked → TreeState M → TreeState M
  taken_of a x = with_work t (a.rises ++ map Sent (option_to_list a.shown)) (if is_some a.shown then a.taken else a.peeked) x

  shows : (a : Asked) (x : TreeState M) (o : Option Descriptor) → a.shown ≡ o
      → taken_of a x ≡ with_work t (a.rises ++ map Sent (option_to_list o)) (if is_some o then a.taken else a.peeked) x
  shows a x o e = ap (λ (k : Option Descriptor). with_work t (a.rises ++ map Sent (option_to_list k)) (if is_some k then a.taken else a.peeked) x) e

  pub take-after_peek : take_packet t now (peek_packet t now s) ≡ take_packet t now s
  take-after_peek = ap (λ (x : Asked). taken_of x peeked) same ∙ by a.shown refl
    where
      a : Asked
      a = ask now (shape s.root)

      b : Asked
      b = again now a.peeked

      peeked : TreeState M
      peeked = peek_packet t now s

      same : ask now (shape peeked.root) ≡ b
      same = asked-again t now s least low lawful

      second : IsSecond a b
      second = (ask-stable s.device.mtu now least low (shape s.root) lawful).second

      by : (o : Option Descriptor) → a.shown ≡ o → taken_of b peeked ≡ taken_of a s
      by None e =
          shows b peeked None (second.shown ∙ e) ∙ ap (λ (notes : List Note). with_work t notes b.peeked peeked) (append-nil b.rises)
          ∙ sym (ap (λ (x : Asked). with_work t x.rises x.peeked peeked) same) ∙ second-peek t now s least low lawful
          ∙ sym (shows a s None e ∙ ap (λ (notes : List Note). with_work t notes a.peeked s) (append-nil a.rises))
      by (Some p) e =
          shows b peeked (Some p) (second.shown ∙ e) ∙ ap (λ (notes : List Note). with_work t (notes ++ Sent p ∷ []) b.taken peeked) second.rises
          ∙ works-joined t s a.rises (Sent p ∷ []) (a.rises ++ Sent p ∷ []) a.peeked b.taken a.taken refl (told t now s least low lawful).2
          (ask-so s.device.mtu now least low (shape s.root) lawful p e)
          ∙ sym (shows a s (Some p) e)
