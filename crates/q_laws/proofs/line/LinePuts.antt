-- What an arrival leaves of the line before a node: it is as it was, or has the packet at its end.
use Rattle.std.proofs.Common.{◌≡◌, ℕ, zero, suc, ◌∙◌, refl, sym, ap, ap₂, subst, List, [], ◌∷◌, ◌++◌, map, set, Option, Some, None, option_to_list}
use Rattle.std.specs.Prelude.{Bool, unwrap_or, slice_get}
use Rattle.std.specs.Option.{option_map_or}
use Rattle.std.proofs.lemmas.List.{append_assoc, map-append}
use Rattle.std.proofs.lemmas.Option.{none-some, same_Some}
use Rattle.q_packet.specs.Descriptor.{Descriptor}
use Rattle.q_packet.specs.declared.cause.Cause.{Cause}
use Rattle.q_packet.specs.declared.stamped.Stamped.{Stamped}
use Rattle.q_model.specs.Beneath.{is_empty, packets_of}
use Rattle.q_model.specs.Node.{Discipline, Fifo, Prio, Tbf, Drr, FqCodel, Own, Forest, none, more, Shape, nodes_in, children, each}
use Rattle.q_model.specs.Put.{queued_in, put_here, put_beneath, put_along}
use Rattle.q_model.specs.Work.{Worked, quiet, settled_in}
use Rattle.q_model.proofs.ShrinkLemmas.{each-each_memory}
use Rattle.q_laws.specs.line.Line.{line_in, line_own, line, BeginsWith}
use Rattle.q_laws.proofs.line.LineAsks.{begins-refl, line-worked}

-- what may be put behind a line
pub begins-after : (held xs ys : List Descriptor) → BeginsWith xs ys → BeginsWith (held ++ xs) (held ++ ys)
begins-after held xs ys h = (h.0, ap (λ zs. held ++ zs) h.1 ∙ sym (append_assoc held xs h.0))

pub line-quiet : (s : Shape) → line (quiet s) ≡ line s
line-quiet s = ap (line_own s.own) (each-each_memory line_own (λ u. []) s.below)

lines-quiet : (x : Forest (Unit {0})) → map line (map quiet (nodes_in x)) ≡ each line_own x
lines-quiet none = refl
lines-quiet (more own m below others) = ap₂ (λ (a : List Descriptor) (b : List (List Descriptor)). a ∷ b) (line-quiet (record { own = own; memory = m; below = below })) (lines-quiet others)

module _ (now : ℕ) (p : Descriptor) where
  queued-line : (d : Discipline) (lines : List (List Descriptor)) → BeginsWith (line_in d lines) (line_in (queued_in p now d) lines)
  queued-line (Fifo limit queue) lines = (p ∷ [], map-append (λ (s : Stamped). s.packet) queue (record { packet = p; at = now } ∷ []))
  queued-line (Prio priomap) lines = begins-refl (unwrap_or (slice_get lines 0) [])
  queued-line (Tbf b limit) lines = begins-refl (unwrap_or (slice_get lines 0) [])
  queued-line (Drr s) lines = begins-refl []
  queued-line (FqCodel s) lines = begins-refl []

  here-line : (refusal : Option Cause) (s : Shape) → BeginsWith (line s) (line (put_here now p refusal s).node)
  here-line (Some cause) s =
      subst (BeginsWith (line s)) (sym (line-worked s.own (put_here now p (Some cause) s).node.memory (map quiet (children s)) ∙ ap (line_own s.own) (lines-quiet s.below))) (begins-refl (line s))
  here-line None s =
      let own : Own = record s.own { discipline = queued_in p now s.own.discipline } in
      subst (BeginsWith (line s)) (sym (line-worked own (put_here now p None s).node.memory (map quiet (children s)) ∙ ap (line_own own) (lines-quiet s.below)))
      (begins-after (option_to_list s.own.held) (line_in s.own.discipline (each line_own s.below)) (line_in own.discipline (each line_own s.below))
      (queued-line s.own.discipline (each line_own s.below)))

  -- the first child, where one became another
  first-set : (cs : List Shape) (i : ℕ) (c : Shape) (m : Worked) → slice_get cs i ≡ Some c → BeginsWith (line c) (line m)
      → BeginsWith (unwrap_or (slice_get (map line (map quiet cs)) 0) []) (unwrap_or (slice_get (map line (set (map quiet cs) i m)) 0) [])
  first-set [] i c m e h = absurd (none-some c e)
  first-set (d ∷ cs) zero c m e h = subst (λ (xs : List Descriptor). BeginsWith xs (line m)) (sym (line-quiet d ∙ ap (λ (x : Shape). line x) (same_Some d c e))) h
  first-set (d ∷ cs) (suc i) c m e h = begins-refl (line (quiet d))

  settled-line : (d : Discipline) (emptied : Bool) (cs : List Shape) (i : ℕ) (c : Shape) (m : Worked) → slice_get cs i ≡ Some c → BeginsWith (line c) (line m)
      → BeginsWith (line_in d (map line (map quiet cs))) (line_in (settled_in i emptied d) (map line (set (map quiet cs) i m)))
  settled-line (Fifo limit queue) emptied cs i c m e h = begins-refl (packets_of queue)
  settled-line (Prio priomap) emptied cs i c m e h = first-set cs i c m e h
  settled-line (Tbf b limit) emptied cs i c m e h = first-set cs i c m e h
  settled-line (Drr s) emptied cs i c m e h = begins-refl []
  settled-line (FqCodel s) emptied cs i c m e h = begins-refl []

  pub along-line : (path : List ℕ) (refusal : Option Cause) (s : Shape) → BeginsWith (line s) (line (put_along now p refusal path s).node)
  along-line [] refusal s = here-line refusal s
  along-line (i ∷ path) refusal s = by (slice_get (children s) i) refl (along-line path refusal)
    where
      by : (o : Option Shape) → slice_get (children s) i ≡ o → ((c : Shape) → BeginsWith (line c) (line (put_along now p refusal path c).node))
          → BeginsWith (line s) (line (option_map_or (λ (child : Shape). put_beneath p i s (put_along now p refusal path child)) o
          (put_here now p refusal s)).node)
      by None e on = here-line refusal s
      by (Some c) e on =
          let m : Worked = (put_along now p refusal path c).node in
          let own : Own = record s.own { discipline = settled_in i (is_empty m) s.own.discipline } in
          subst (BeginsWith (line s)) (sym (line-worked own (put_beneath p i s (put_along now p refusal path c)).node.memory (set (map quiet (children s)) i m)))
          (begins-after (option_to_list s.own.held) (line_in s.own.discipline (each line_own s.below)) (line_in own.discipline (map line (set (map quiet (children s)) i m)))
          (subst (λ (ls : List (List Descriptor)). BeginsWith (line_in s.own.discipline ls) (line_in own.discipline (map line (set (map quiet (children s)) i m)))) (lines-quiet s.below)
          (settled-line s.own.discipline (is_empty m) (children s) i c m e (on c))))
