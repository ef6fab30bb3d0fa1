-- What is known of a node's packets, as the code finds it: by the kind of the node, band by band, and at the front of a drr.
use Rattle.std.proofs.Common.{◌≡◌, ℕ, ◌+◌, ◌<◌, ◌≤◌, ◌∙◌, refl, sym, ap, ap₂, subst, List, ◌∷◌, map, drop, length, Option, Some, None, option_map, option_and_then, eq-eqb}
use Rattle.std.specs.Prelude.{true, slice_get, slice_index_or, All}
use Rattle.std.specs.Option.{option_map_or}
use Rattle.std.proofs.lemmas.List.{drop_more, drop_all}
use Rattle.std.proofs.lemmas.List.Elements.{All-head}
use Rattle.std.proofs.lemmas.Option.{slice_get-map}
use Rattle.q_packet.specs.Descriptor.{Descriptor}
use Rattle.q_drr.specs.Schedule.{Entry, Schedule, IsEntry, IsLawful, front_of, has_class, deficit_of}
use Rattle.q_drr.proofs.LookupLemmas.{deficit_here}
use Rattle.q_drr.proofs.TakeLemmas.{Front, front_is}
use Rattle.q_model.specs.Node.{Discipline, Node, side_by_side, each}
use Rattle.q_model.specs.Route.{class_at}
use Rattle.q_invariants.proofs.tree.Forests.{each-side}
use Rattle.q_tree.specs.answers.ReadyAt.{at_hand, no_packet, with_band, with_bands, paid, of_class, outlook_in, outlook_own, outlook}
use Rattle.q_tree.specs.Kept.{Kept}
use Rattle.q_tree.specs.Seen.{seen, discipline_seen, children_seen}
use Rattle.q_tree.specs.declared.node.Node.TheInside.{Inside}
use Rattle.q_tree.specs.declared.answers.ready_at.Outlook.{Outlook}
use Rattle.q_tree.specs.departure.Holding.{packet_held}

pub no-held : (o : Option Descriptor) → ((p : Descriptor) → o ≡ Some p → ⊥) → o ≡ None
no-held None h = refl
no-held (Some p) h = absurd (h p refl)

-- a node that holds nothing, by its discipline and its children
pub outlook-is : (now : ℕ) (a : Inside) (n : Node Kept) (ns : List (Node Kept)) (d : Discipline) → seen a ≡ n → packet_held a.held ≡ None
    → discipline_seen a.discipline ≡ d → ns ≡ children_seen a.discipline
    → outlook_in now (map (outlook now) ns) d ≡ outlook now n
outlook-is now a n ns d view bare is kids =
    ap₂ (λ xs k. outlook_in now (map (outlook now) xs) k) kids (sym is)
    ∙ sym (ap (λ os. outlook_in now os (discipline_seen a.discipline)) (each-side (outlook_own now) (children_seen a.discipline)))
    ∙ sym (ap (λ (o : Option Descriptor). option_map_or (λ (p : Descriptor). at_hand now p.len) o
    (outlook_in now (each (outlook_own now) (side_by_side (children_seen a.discipline))) (discipline_seen a.discipline))) bare)
    ∙ ap (outlook now) view

-- the bands from this place on
pub band-next : (now : ℕ) (ns : List (Node Kept)) (i : ℕ) (x : Node Kept) (o : Outlook) → i < length ns → x ≡ slice_index_or ns i x
    → with_bands o (map (outlook now) (drop i ns)) ≡ with_bands (with_band o (outlook now x)) (map (outlook now) (drop (i + 1) ns))
band-next now ns i x o inside is =
    ap (λ xs. with_bands o (map (outlook now) xs)) (drop_more ns i x inside)
    ∙ ap (λ (y : Node Kept). with_bands o (outlook now y ∷ map (outlook now) (drop (i + 1) ns))) (sym is)

pub bands-end : (now : ℕ) (ns : List (Node Kept)) (i : ℕ) (o : Outlook) → length ns ≤ i → with_bands o (map (outlook now) (drop i ns)) ≡ o
bands-end now ns i o past = ap (λ (xs : List (Node Kept)). with_bands o (map (outlook now) xs)) (drop_all i ns past)

-- the class in front is known, and has the deficit of its entry
pub front-known : (s : Schedule) (n : ℕ) → IsLawful s → front_of s ≡ Some n → has_class n s.classes ≡ true
front-known s n lawful e =
    let f : Front n s = front_is n s (sym e) in
    let entry = All-head (IsEntry s.max_len s.classes) f.first f.rest (subst (λ (es : List Entry). All (IsEntry s.max_len s.classes) es) f.is lawful.entries) in
    sym (ap (λ m. has_class m s.classes) f.class) ∙ entry.there

pub of-front : (s : Schedule) (n : ℕ) (os : List Outlook) → front_of s ≡ Some n
    → of_class s os (slice_get s.active 0) ≡ option_map_or (paid (deficit_of n s.active)) (option_and_then (slice_get os) (class_at n s)) no_packet
of-front s n os e =
    let f : Front n s = front_is n s (sym e) in
    let owed : deficit_of n s.active ≡ f.first.deficit = ap (deficit_of n) f.is ∙ deficit_here n f.first f.rest (eq-eqb n f.first.class (sym f.class)) in
    ap (λ (es : List Entry). of_class s os (slice_get es 0)) f.is
    ∙ ap₂ (λ d m. option_map_or (paid d) (option_and_then (slice_get os) (class_at m s)) no_packet) (sym owed) f.class

-- the child in this place, if one stands there
pub of-place : (now deficit : ℕ) (ns : List (Node Kept)) (i : ℕ) (o : Option (Node Kept)) → slice_get ns i ≡ o
    → option_map_or (paid deficit) (slice_get (map (outlook now) ns) i) no_packet ≡ option_map_or (λ (n : Node Kept). paid deficit (outlook now n)) o no_packet
of-place now deficit ns i o e = ap (λ x. option_map_or (paid deficit) x no_packet) (slice_get-map (outlook now) ns i ∙ ap (option_map (outlook now)) e) ∙ by o
  where
    by : (x : Option (Node Kept)) → option_map_or (paid deficit) (option_map (outlook now) x) no_packet ≡ option_map_or (λ (n : Node Kept). paid deficit (outlook now n)) x no_packet
    by None = refl
    by (Some n) = refl

-- the front class has no child, or this one
pub no-place : (now : ℕ) (s : Schedule) (n : ℕ) (ns : List (Node Kept)) → front_of s ≡ Some n → class_at n s ≡ None → of_class s (map (outlook now) ns) (slice_get s.active 0) ≡ no_packet
no-place now s n ns front e =
    of-front s n (map (outlook now) ns) front
    ∙ ap (λ (i : Option ℕ). option_map_or (paid (deficit_of n s.active)) (option_and_then (slice_get (map (outlook now) ns)) i) no_packet) e

pub at-front : (now : ℕ) (s : Schedule) (n : ℕ) (ns : List (Node Kept)) → front_of s ≡ Some n → (i : ℕ) → class_at n s ≡ Some i → (o : Option (Node Kept)) → slice_get ns i ≡ o
    → of_class s (map (outlook now) ns) (slice_get s.active 0) ≡ option_map_or (λ (c : Node Kept). paid (deficit_of n s.active) (outlook now c)) o no_packet
at-front now s n ns front i e o is =
    of-front s n (map (outlook now) ns) front
    ∙ ap (λ (k : Option ℕ). option_map_or (paid (deficit_of n s.active)) (option_and_then (slice_get (map (outlook now) ns)) k) no_packet) e
    ∙ of-place now (deficit_of n s.active) ns i o is
