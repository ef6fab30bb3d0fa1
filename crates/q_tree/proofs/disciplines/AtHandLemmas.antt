-- What a prio has at hand, band by band.
use Rattle.std.proofs.Common.{◌≡◌, ℕ, zero, suc, ◌+◌, ◌≤◌, ◌<◌, ◌∙◌, List, [], ◌∷◌, map, drop, length, refl, sym, ap, subst, arith, Option, Some, None, option_and_then}
use Rattle.std.specs.Prelude.{true, false, not, cond, is_some, IfSome, IsSomeAnd, slice_get, slice_index_or}
use Rattle.std.proofs.lemmas.List.{drop_more, drop_all}
use Rattle.std.proofs.lemmas.Bool.{false≢true}
use Rattle.q_packet.specs.Descriptor.{Descriptor}
use Rattle.q_model.specs.Node.{Node, side_by_side, each}
use Rattle.q_model.specs.Node as spec
use Rattle.q_model.specs.Pop.{Popping, first_ready, pop, pop_own}
use Rattle.q_invariants.proofs.tree.Forests.{each-side}
use Rattle.q_model.specs.Pop.{first_shown}
use Rattle.q_tree.specs.Kept.{Kept}
use Rattle.q_tree.specs.Seen.{seen, discipline_seen, children_seen}
use Rattle.q_tree.specs.declared.node.Node.TheInside.{Inside}
use Rattle.q_tree.specs.departure.Holding.{packet_held, since_held}

next : (n : ℕ) → 1 + n ≡ suc n
next n = omega arith

pub first-some : (b : Popping) (bs : List Popping) (p : Descriptor) → b.shown ≡ Some p → first_shown (b ∷ bs) ≡ Some p
first-some b bs p e = ap (λ (o : Option Descriptor). option_and_then (λ (x : Popping). x.shown) (slice_get (b ∷ bs) (cond (not (is_some o)) (1 + first_ready bs) 0))) e ∙ e

pub first-none : (b : Popping) (bs : List Popping) → b.shown ≡ None → first_shown (b ∷ bs) ≡ first_shown bs
first-none b bs e =
    ap (λ (o : Option Descriptor). option_and_then (λ (x : Popping). x.shown) (slice_get (b ∷ bs) (cond (not (is_some o)) (1 + first_ready bs) 0))) e
    ∙ ap (λ n. option_and_then (λ (x : Popping). x.shown) (slice_get (b ∷ bs) n)) (next (first_ready bs))

-- the bands from this place on
pub front-of : (ns : List (Node Kept)) (i : ℕ) (x : Node Kept) → i < length ns → x ≡ slice_index_or ns i x → map pop (drop i ns) ≡ pop x ∷ map pop (drop (i + 1) ns)
front-of ns i x inside is = ap (map pop) (drop_more ns i x inside) ∙ ap (λ (y : Node Kept). pop y ∷ map pop (drop (i + 1) ns)) (sym is)

pub found : (ns : List (Node Kept)) (i : ℕ) (x : Node Kept) (p : Descriptor) → i < length ns → x ≡ slice_index_or ns i x
    → first_shown (map pop (drop i ns)) ≡ first_shown (map pop ns) → (pop x).shown ≡ Some p → Some p ≡ first_shown (map pop ns)
found ns i x p inside is same e = sym (first-some (pop x) (map pop (drop (i + 1) ns)) p e) ∙ sym (ap first_shown (front-of ns i x inside is)) ∙ same

pub passed : (ns : List (Node Kept)) (i : ℕ) (x : Node Kept) → i < length ns → x ≡ slice_index_or ns i x
    → first_shown (map pop (drop i ns)) ≡ first_shown (map pop ns) → (pop x).shown ≡ None
    → first_shown (map pop (drop (i + 1) ns)) ≡ first_shown (map pop ns)
passed ns i x inside is same e = sym (first-none (pop x) (map pop (drop (i + 1) ns)) e) ∙ sym (ap first_shown (front-of ns i x inside is)) ∙ same

pub nobody : (ns : List (Node Kept)) (i : ℕ) → length ns ≤ i → first_shown (map pop (drop i ns)) ≡ first_shown (map pop ns) → None ≡ first_shown (map pop ns)
nobody ns i past same = sym (ap (λ (xs : List (Node Kept)). first_shown (map pop xs)) (drop_all i ns past)) ∙ same

-- a prio that holds nothing has what its bands have
pub prio-shown : (a : Inside) (n : Node Kept) (ns : List (Node Kept)) (priomap : List ℕ) → seen a ≡ n → packet_held a.held ≡ None
    → discipline_seen a.discipline ≡ spec.Prio priomap → ns ≡ children_seen a.discipline → first_shown (map pop ns) ≡ (pop n).shown
prio-shown a n ns priomap view none is kids =
    ap (λ xs. first_shown (map pop xs)) kids
    ∙ sym (ap first_shown (each-side pop_own (children_seen a.discipline)))
    ∙ sym (ap (λ (o : Option Descriptor). (pop_own
    (record { handle = a.handle; discipline = spec.Prio priomap; held = o; since = since_held a.held; filters = a.filters })
    (each pop_own (side_by_side (children_seen a.discipline)))).shown) none)
    ∙ sym (ap (λ d. (pop_own (record {
      handle = a.handle;
      discipline = d;
      held = packet_held a.held;
      since = since_held a.held;
      filters =
          a.filters;
    }) (each pop_own (side_by_side (children_seen a.discipline)))).shown) is)
    ∙ ap (λ (m : Node Kept). (pop m).shown) view

pub none-held : (o : Option Descriptor) → false ≡ is_some o → o ≡ None
none-held None e = refl
none-held (Some p) e = absurd (false≢true e)

pub some-held : (o : Option Descriptor) → true ≡ is_some o → (p : Descriptor) × (o ≡ Some p)
some-held None e = absurd (false≢true (sym e))
some-held (Some p) e = (p, refl)

pub there-at : (ns : List (Node Kept)) (i : ℕ) (x : Node Kept) → i < length ns → x ≡ slice_index_or ns i x → slice_get ns i ≡ Some x
there-at [] i x inside is = absurd (omega (arith, inside))
there-at (n ∷ ns) zero x inside is = ap Some (sym is)
there-at (n ∷ ns) (suc i) x inside is = there-at ns i x (omega (arith, inside)) is

-- a packet that is shown, of which the length is known
pub shown-len : (o : Option Descriptor) (r : Option ℕ) (n : ℕ) → IfSome r (λ len. IsSomeAnd o (λ (p : Descriptor). p.len ≡ len)) → r ≡ Some n → (p : Descriptor) × (o ≡ Some p) × (p.len ≡ n)
shown-len o r n some is = from o (subst (λ x. IfSome x (λ len. IsSomeAnd o (λ (p : Descriptor). p.len ≡ len))) is some)
  where
    from : (o : Option Descriptor) → IsSomeAnd o (λ (p : Descriptor). p.len ≡ n) → (p : Descriptor) × (o ≡ Some p) × (p.len ≡ n)
    from None h = absurd h
    from (Some p) h = (p, refl, h)
