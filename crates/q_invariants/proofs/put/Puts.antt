-- An arrival keeps a tree.
use Rattle.std.proofs.Common.{◌≡◌, ℕ, ◌≤◌, ◌^◌, List, [], ◌∷◌, refl, sym, ap, subst, Option, Some, None, ◌∙◌, arith}
use Rattle.std.specs.Prelude.{Bool, true, false, nat_lt, if◌then◌else◌}
use Rattle.std.specs.Option.{option_map_or}
use Rattle.std.proofs.lemmas.Bool.{ltb-false}
use Rattle.q_packet.specs.Descriptor.{Descriptor}
use Rattle.q_packet.specs.declared.cause.Cause.{Cause}
use Rattle.q_packet.specs.declared.cause.Cause.TheVariants.{TooLong}
use Rattle.q_model.specs.declared.filter.Filter.{Filter}
use Rattle.q_model.specs.Numbers.{IsWithin}
use Rattle.q_model.specs.Tally.{Note, Arrived, Lost, history}
use Rattle.q_model.specs.Node.{Discipline, Fifo, Prio, Tbf, Drr, FqCodel, Forest, Shape, each, shape}
use Rattle.q_model.specs.Beneath.{beneath_own, beneath}
use Rattle.q_model.specs.Conserved.{held_own, held_beneath}
use Rattle.q_model.specs.Route.{way, route}
use Rattle.q_model.specs.Work.{Work, quiet}
use Rattle.q_model.specs.Put.{put_here, put_beneath, put_along}
use Rattle.q_model.specs.TreeState.{TreeState, with_work, put, put_on}
use Rattle.q_model.proofs.ShrinkLemmas.{each-each_memory}
use Rattle.q_invariants.specs.Kept.{IsKeptTree, IsLawfulRoot}
use Rattle.q_invariants.specs.Weights.{weigh}
use Rattle.q_invariants.proofs.ask.Asks.{worked-kept}
use Rattle.q_invariants.proofs.edit.EditLater.{root-later}
use Rattle.q_invariants.proofs.put.PutBeneath.{beneath-put}
use Rattle.q_invariants.proofs.put.PutHere.{IsPut, refused-put}
use Rattle.q_invariants.proofs.put.PutQueue.{fifo-put, fq-put}
use Rattle.q_invariants.proofs.sums.Told.{IsRootTold, root-memory}
use Rattle.q_invariants.proofs.sums.Weights.{arrived-cons, sent-cons, lost-cons, marked-cons, arrived-nil, sent-nil, lost-nil, marked-nil}
use Rattle.q_invariants.proofs.tree.Forests.{lawful-with_memory}
use Rattle.q_invariants.proofs.tree.Quiet.{child-lawful, one-quiet}
use Rattle.q_invariants.proofs.tree.Ways.{CanQueue, way-ends, route-goes}

module _ (mtu now : ℕ) (least : 1 ≤ mtu) (p : Descriptor) (fits : IsWithin 1 mtu p.len) where
  queued : (handle : Option ℕ) (held : Option Descriptor) (filters : List Filter) (since : ℕ) (below : Forest (Unit {0})) (d : Discipline) → CanQueue d
      → (let s : Shape = record {
        own = record { handle = handle; discipline = d; held = held; since = since; filters = filters };
        memory = tt;
        below = below;
      } in IsLawfulRoot mtu now s → IsPut mtu now p s (put_here now p None s))
  queued handle held filters since below (Fifo limit queue) can h = fifo-put mtu now p fits handle held filters since below limit queue h
  queued handle held filters since below (FqCodel q) can h = fq-put mtu now p fits handle held filters since below q h
  queued handle held filters since below (Prio priomap) can h = absurd can
  queued handle held filters since below (Tbf b limit) can h = absurd can
  queued handle held filters since below (Drr s) can h = absurd can

  pub along-put : (path : List ℕ) (refusal : Option Cause) (s : Shape) → route p s ≡ record { path = path; refusal = refusal }
      → IsLawfulRoot mtu now s → IsPut mtu now p s (put_along now p refusal path s)
  along-put [] (Some cause) s e h = refused-put mtu now p s cause h
  along-put [] None s e h =
      queued s.own.handle s.own.held s.own.filters s.own.since s.below s.own.discipline (way-ends p s.own (each (λ own below. way p own below own.discipline) s.below) s.own.discipline e) h
  along-put (i ∷ path) refusal s e h =
      let on = route-goes p s i path refusal e in
      let put = beneath-put mtu now p s i on.child (put_along now p refusal path on.child) least fits h on.passes on.there
      (along-put path refusal on.child on.way (child-lawful mtu now s.below i on.child h.1 on.there)) in
      subst (λ (o : Option Shape). IsPut mtu now p s (option_map_or (λ (child : Shape). put_beneath p i s (put_along now p refusal path child)) o (put_here now p refusal s))) (sym on.there) put

module _ (clock now : ℕ) (s : TreeState (List Note)) (p : Descriptor) (h : IsKeptTree clock s) (later : clock ≤ now) (low : now ≤ 2 ^ 62) (byte : 1 ≤ p.len) where
  here : IsLawfulRoot s.device.mtu now s.root
  here = root-later clock now later s.device.mtu s.root h.lawful

  bare : IsLawfulRoot s.device.mtu now (shape s.root)
  bare = lawful-with_memory s.device.mtu now (λ m. tt) s.root here

  waiting-bare : beneath (shape s.root) ≡ beneath s.root
  waiting-bare = ap (beneath_own s.root.own) (each-each_memory beneath_own (λ m. tt) s.root.below)

  held-bare : held_beneath (shape s.root) ≡ held_beneath s.root
  held-bare = ap (held_own s.root.own) (each-each_memory held_own (λ m. tt) s.root.below)

  told-root : (w : Work) → IsRootTold (quiet (shape s.root)) w.node → IsRootTold s.root w.node
  told-root w t = root-memory (λ m. tt) s.root w.node (root-memory (λ u. []) (shape s.root) w.node t)

  waiting-quiet-root : beneath (quiet (shape s.root)) ≡ beneath s.root
  waiting-quiet-root = ap (beneath_own s.root.own) (each-each_memory beneath_own (λ u. []) (shape s.root).below) ∙ waiting-bare

  held-quiet-root : held_beneath (quiet (shape s.root)) ≡ held_beneath s.root
  held-quiet-root = ap (held_own s.root.own) (each-each_memory held_own (λ u. []) (shape s.root).below) ∙ held-bare

  put-told : (w : Work) → IsPut s.device.mtu now p (shape s.root) w → IsKeptTree now (with_work history (Arrived p ∷ w.rises) w.node s)
  put-told w put = worked-kept clock now s (Arrived p ∷ w.rises) w.node h low (told-root w put.told) put.lawful (record {
    conserved =
        λ f. omega (
          arith,
          put.conserved f,
          put.no_arrival f,
          put.nothing_sent f,
          ap (weigh f) waiting-bare,
          arrived-cons f (Arrived p) w.rises,
          sent-cons f (Arrived p) w.rises,
          lost-cons f (Arrived p) w.rises,
        );
    marks = λ f. omega (arith, put.held f, put.nothing_marked f, put.nothing_sent f, ap (weigh f) held-bare, marked-cons f (Arrived p) w.rises);
  })

  -- one that is too long never reaches the root
  refused-told : IsKeptTree now (with_work history (Arrived p ∷ Lost p TooLong ∷ []) (quiet (shape s.root)) s)
  refused-told =
      let notes : List Note = Lost p TooLong ∷ [] in
      worked-kept clock now s (Arrived p ∷ notes) (quiet (shape s.root)) h low (told-root (record { node = quiet (shape s.root); rises = notes }) (one-quiet (shape s.root)))
      (lawful-with_memory s.device.mtu now (λ u. []) (shape s.root) bare) (record {
        conserved = λ f. omega (
          arith,
          ap (weigh f) waiting-quiet-root,
          arrived-cons f (Arrived p) notes,
          sent-cons f (Arrived p) notes,
          lost-cons f (Arrived p) notes,
          arrived-cons f (Lost p TooLong) [],
          sent-cons f (Lost p TooLong) [],
          lost-cons f (Lost p TooLong) [],
          arrived-nil f,
          sent-nil f,
          lost-nil f,
        );
        marks = λ f. omega (arith, ap (weigh f) held-quiet-root, marked-cons f (Arrived p) notes, marked-cons f (Lost p TooLong) [], marked-nil f);
      })

  by-length : (long : Bool) → nat_lt s.device.mtu p.len ≡ long
      → IsKeptTree now (let w = put_on now p (if long then None else Some (route p (shape s.root))) (shape s.root) in with_work history (Arrived p ∷ w.rises) w.node s)
  by-length true e = refused-told
  by-length false e =
      let r = route p (shape s.root) in
      put-told (put_along now p r.refusal r.path (shape s.root)) (along-put s.device.mtu now h.least_mtu p (byte, ltb-false s.device.mtu p.len e) r.path r.refusal (shape s.root) refl bare)

  pub put-kept : IsKeptTree now (put history now p s)
  put-kept = by-length (nat_lt s.device.mtu p.len) refl
