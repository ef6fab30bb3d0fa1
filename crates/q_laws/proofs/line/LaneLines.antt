-- The line at a node is what is queued in the fifo at the end of a path through first bands.
use Rattle.std.proofs.Common.{◌≡◌, ℕ, ◌∙◌, refl, sym, ap, subst, List, [], ◌∷◌, ◌++◌, flat_map, Option, Some, None, option_map, option_and_then}
use Rattle.std.specs.Prelude.{Bool, true, false, ◌&&◌, ◌==◌, unwrap_or, slice_get, if◌then◌else◌}
use Rattle.std.proofs.lemmas.Bool.{and_parts, eqb-true, false≢true}
use Rattle.std.proofs.lemmas.List.{append-nil}
use Rattle.std.proofs.lemmas.Option.{none-some, slice_get-map}
use Rattle.q_packet.specs.Descriptor.{Descriptor}
use Rattle.q_codel.specs.declared.limit.Limit.{Limit}
use Rattle.q_model.specs.declared.filter.Filter.{Filter}
use Rattle.q_model.specs.Beneath.{beneath, packets_of}
use Rattle.q_model.specs.Find.{node_at}
use Rattle.q_model.specs.Node.{Discipline, Fifo, Prio, Tbf, Drr, FqCodel, Forest, Node, nodes_in, children, each, from_below}
use Rattle.q_invariants.specs.Kept.{IsLawfulRoot}
use Rattle.q_invariants.proofs.tree.Forests.{each-nodes}
use Rattle.q_invariants.proofs.tree.Quiet.{child-lawful}
use Rattle.q_tree.specs.answers.Lanes.{is_prio, limit_of, limit_along}
use Rattle.q_laws.specs.line.Line.{line_own, line}

pub first-line : {M : Type 0} (s c : Node M) → slice_get (children s) 0 ≡ Some c → unwrap_or (slice_get (each line_own s.below) 0) [] ≡ line c
first-line s c e =
    ap (λ ls. unwrap_or (slice_get ls 0) []) (each-nodes line_own s.below)
    ∙ ap (λ (o : Option (List Descriptor)). unwrap_or o []) (slice_get-map (from_below line_own) (nodes_in s.below) 0
    ∙ ap (option_map (from_below line_own)) e)

-- what is known of a path through a first band
pub record IsFirst {M : Type 0} (i : ℕ) (path : List ℕ) (s : Node M) (limit : Limit) : Type 0 where
  pub first : i ≡ 0
  pub prio : is_prio s.own.discipline ≡ true
  pub rest : option_and_then (limit_along path) (slice_get (children s) i) ≡ Some limit

pub is-first : {M : Type 0} (i : ℕ) (path : List ℕ) (s : Node M) (limit : Limit) → limit_along (i ∷ path) s ≡ Some limit → IsFirst i path s limit
is-first i path s limit e = by (i == 0 && is_prio s.own.discipline) refl e
  where
    by : (t : Bool) → (i == 0 && is_prio s.own.discipline) ≡ t
        → (if t then option_and_then (limit_along path) (slice_get (children s) i) else None) ≡ Some limit → IsFirst i path s limit
    by false is e = absurd (none-some limit e)
    by true is e =
        let both = and_parts (i == 0) (is_prio s.own.discipline) is in
        record { first = eqb-true i 0 both.0; prio = both.1; rest = e }

-- what is queued at the end of a path
pub record EndsAt {M : Type 0} (path : List ℕ) (n : Node M) (packets : List Descriptor) : Type 0 where
  pub at : Node M
  pub there : node_at path n ≡ Some at
  pub queued : packets ≡ beneath at

module _ {M : Type 0} (mtu now : ℕ) where
  module _ (handle : Option ℕ) (filters : List Filter) (since : ℕ) (m : M) (below : Forest M) where
    abbrev node : Discipline → Option Descriptor → Node M
    node d held = record {
      own = record { handle = handle; discipline = d; held = held; since = since; filters = filters };
      memory = m;
      below =
          below;
    }

    here-line : (held : Option Descriptor) (d : Discipline) (limit : Limit) → limit_of d ≡ Some limit → IsLawfulRoot mtu now (node d held)
        → line (node d held) ≡ beneath (node d held)
    here-line (Some p) (Fifo most queue) limit is h = absurd (h.0.held refl)
    here-line None (Fifo most queue) limit is h =
        sym (ap (λ (below : List (List Descriptor)). packets_of queue ++ flat_map (λ (ps : List Descriptor). ps) below) h.0.discipline.none
        ∙ append-nil (packets_of queue))
    here-line held (Prio priomap) limit is h = absurd (none-some limit is)
    here-line held (Tbf b most) limit is h = absurd (none-some limit is)
    here-line held (Drr s) limit is h = absurd (none-some limit is)
    here-line held (FqCodel s) limit is h = absurd (none-some limit is)

    prio-line : (held : Option Descriptor) (d : Discipline) (c : Node M) → is_prio d ≡ true → slice_get (nodes_in below) 0 ≡ Some c
        → IsLawfulRoot mtu now (node d held) → line (node d held) ≡ line c
    prio-line (Some p) (Prio priomap) c is there h = absurd (h.0.held refl)
    prio-line None (Prio priomap) c is there h = first-line (node (Prio priomap) None) c there
    prio-line held (Fifo limit queue) c is there h = absurd (false≢true is)
    prio-line held (Tbf b limit) c is there h = absurd (false≢true is)
    prio-line held (Drr s) c is there h = absurd (false≢true is)
    prio-line held (FqCodel s) c is there h = absurd (false≢true is)

  pub lane-line : (path : List ℕ) (n : Node M) (limit : Limit) → IsLawfulRoot mtu now n → limit_along path n ≡ Some limit → EndsAt path n (line n)
  lane-line [] n limit h is = record {
    at = n;
    there = refl;
    queued =
        here-line n.own.handle n.own.filters n.own.since n.memory n.below n.own.held n.own.discipline limit is h;
  }
  lane-line (i ∷ path) n limit h is = along (is-first i path n limit is) (λ c law rest. lane-line path c limit law rest)
    where
      along : IsFirst i path n limit → ((c : Node M) → IsLawfulRoot mtu now c → limit_along path c ≡ Some limit → EndsAt path c (line c))
          → EndsAt (i ∷ path) n (line n)
      along f on = by (slice_get (children n) i) refl f.rest
        where
          by : (o : Option (Node M)) → slice_get (children n) i ≡ o → option_and_then (limit_along path) o ≡ Some limit → EndsAt (i ∷ path) n (line n)
          by None e is = absurd (none-some limit is)
          by (Some c) e is =
              let there : slice_get (children n) 0 ≡ Some c = subst (λ k. slice_get (children n) k ≡ Some c) f.first e in
              let r = on c (child-lawful mtu now n.below i c h.1 e) is in
              record {
                at = r.at;
                there = ap (option_and_then (node_at path)) e ∙ r.there;
                queued = prio-line n.own.handle n.own.filters n.own.since n.memory n.below n.own.held n.own.discipline c f.prio there h ∙ r.queued;
              }
