-- An edit that suits a tree: what it is put in place of which node, and that the whole tree is then lawful and counted.
use Rattle.std.proofs.Common.{◌≡◌, ℕ, ◌≤◌, Bool, true, false, List, [], ◌∷◌, length, map, refl, sym, ap, subst, ◌∙◌, Option, Some, None, Ok, Err, arith}
use Rattle.std.specs.Prelude.{slice_get, option_map, option_and_then, Result, if◌then◌else◌}
use Rattle.std.specs.List.{list_any}
use Rattle.std.specs.Option.{option_map_or}
use Rattle.std.proofs.lemmas.Option.{none-some}
use Rattle.std.proofs.lemmas.List.{length-map}
use Rattle.q_packet.specs.Descriptor.{Descriptor}
use Rattle.q_model.specs.declared.refusal.Refusal.{Refusal}
use Rattle.q_model.proofs.ShrinkLemmas.{each-each_memory, nodes_in-each_memory, child-with_memory}
use Rattle.q_model.specs.Tally.{Note, history}
use Rattle.q_model.specs.Node.{Node, Shape, children, shape, blank}
use Rattle.q_model.specs.Beneath.{beneath_own, beneath}
use Rattle.q_model.specs.Find.{node_at}
use Rattle.q_model.specs.Edit.{Child, Edit, Graft, Remake, keeps, beneath_removed, packets_removed, lost_by, edited, remade}
use Rattle.q_model.specs.Refusals.{Check, first_refusal, done_unless}
use Rattle.q_model.specs.QdiscCommands.{at_target}
use Rattle.q_invariants.specs.Kept.{IsCountedRoot, IsLawfulRoot}
use Rattle.q_invariants.proofs.edit.EditAbove.{Becomes, becomes-edited}
use Rattle.q_invariants.proofs.edit.EditChildren.{kids, gone, gone_is}
use Rattle.q_invariants.proofs.edit.EditNew.{IsNew, becomes-new}
use Rattle.q_invariants.proofs.edit.EditRemade.{Remakes, becomes-remade}
use Rattle.q_invariants.proofs.tree.Forests.{each-nodes}

-- ---- a tree and its shape

module _ {M : Type 0} where
  pub beneath-shape : (n : Node M) → beneath (shape n) ≡ beneath n
  beneath-shape n = ap (beneath_own n.own) (each-each_memory beneath_own (λ m. tt) n.below)

  pub children-shape : (n : Node M) → children (shape n) ≡ map shape (children n)
  children-shape n = nodes_in-each_memory (λ m. tt) n.below

  pub length-shape : (n : Node M) → length (children (shape n)) ≡ length (children n)
  length-shape n = ap length (children-shape n) ∙ length-map (children n) shape

  pub beneath-children : (n : Node M) → map beneath (children (shape n)) ≡ map beneath (children n)
  beneath-children n = sym (each-nodes beneath_own (shape n).below) ∙ each-each_memory beneath_own (λ m. tt) n.below ∙ each-nodes beneath_own n.below

  pub node_at-shape : (path : List ℕ) (n : Node M) → node_at path (shape n) ≡ option_map shape (node_at path n)
  node_at-shape [] n = refl
  node_at-shape (i ∷ path) n =
      ap (option_and_then (node_at path)) (child-with_memory (λ m. tt) n i) ∙ below (slice_get (children n) i) (node_at-shape path)
    where
      below : (o : Option (Node M)) → ((c : Node M) → node_at path (shape c) ≡ option_map shape (node_at path c))
          → option_and_then (node_at path) (option_map shape o) ≡ option_map shape (option_and_then (node_at path) o)
      below None rec = refl
      below (Some c) rec = rec c

-- ---- an edit that suits

-- what was beneath the children of a node that are not among these
abbrev pub gone_from : List Child → Node (List Note) → List Descriptor
gone_from below old = gone (λ j. list_any (keeps j) below) 0 (map beneath (children old))

abbrev pub Suits : ℕ → ℕ → Option ℕ → Node (List Note) → Edit → Type 0
Suits mtu now fresh root (Graft path new) = IsNew mtu now fresh new
Suits mtu now fresh root (Remake path own below) =
    (old : Node (List Note)) → node_at path root ≡ Some old → IsLawfulRoot mtu now old → IsCountedRoot old → Remakes mtu now (gone_from below old) old own (kids history (children old) below)

removed-gone : (below : List Child) (old : Node (List Note)) → beneath_removed below (shape old) ≡ gone_from below old
removed-gone below old =
    gone_is (λ j. list_any (keeps j) below) 0 (children (shape old)) ∙ ap (gone (λ j. list_any (keeps j) below) 0) (beneath-children old)

module _ (mtu now : ℕ) (fresh : Option ℕ) (positive : 1 ≤ mtu) (root : Node (List Note)) (lawful : IsLawfulRoot mtu now root) (counted : IsCountedRoot root) where
  -- what is found where nothing stands, and where a node does
  found_none : (path : List ℕ) (f : Shape → List Descriptor) → node_at path root ≡ None → option_map_or f (node_at path (shape root)) [] ≡ []
  found_none path f e = ap (λ o. option_map_or f o []) (node_at-shape path root ∙ ap (option_map shape) e)

  found_some : (path : List ℕ) (f : Shape → List Descriptor) (old : Node (List Note)) → node_at path root ≡ Some old → option_map_or f (node_at path (shape root)) [] ≡ f (shape old)
  found_some path f old e = ap (λ o. option_map_or f o []) (node_at-shape path root ∙ ap (option_map shape) e)

  weakened : (purged : List Descriptor) (old new : Node (List Note)) → Becomes mtu now None purged old new → Becomes mtu now fresh purged old new
  weakened purged old new h = record {
    conserved = h.conserved;
    held = h.held;
    lawful = h.lawful;
    counted = h.counted;
    handles = λ k. omega (arith, h.handles k);
  }

  pub becomes-suited : (edit : Edit) → Suits mtu now fresh root edit → Becomes mtu now fresh (packets_removed edit (shape root)) root (edited history (lost_by edit (shape root)) edit root)
  becomes-suited (Graft path new) suits =
      let purged : List Descriptor = packets_removed (Graft path new) (shape root) in
      becomes-edited mtu now fresh purged positive (λ old. blank history new) path root lawful counted
      (λ old e old_lawful old_counted. becomes-new mtu now fresh new suits purged old (found_some path (λ (k : Shape). beneath k) old e ∙ beneath-shape old))
      (found_none path (λ (k : Shape). beneath k))
  becomes-suited (Remake path own below) suits =
      let purged : List Descriptor = packets_removed (Remake path own below) (shape root) in
      let f : Node (List Note) → Node (List Note) = remade history own below (lost_by (Remake path own below) (shape root)) in
      becomes-edited mtu now fresh purged positive f path root lawful counted
      (λ old e old_lawful old_counted.
      let is : purged ≡ gone_from below old = found_some path (beneath_removed below) old e ∙ removed-gone below old in
      weakened purged old (f old)
      (becomes-remade mtu now purged old own (kids history (children old) below) old_counted
      (subst (λ (p : List Descriptor). Remakes mtu now p old own (kids history (children old) below)) (sym is) (suits old e old_lawful old_counted))))
      (found_none path (beneath_removed below))

-- ---- what a plan says

pub refused_not_done : (refusal : Refusal) (edit : Edit) → ◌≡◌ {A = Result Edit Refusal} (Err refusal) (Ok edit) → ⊥
refused_not_done refusal edit e = cc

-- a command that is done is refused by none of its checks
pub done_is : {A : Type 0} (checks : List Check) (a edit : A) → done_unless checks a ≡ Ok edit → (first_refusal checks ≡ None) × (a ≡ edit)
done_is {A} checks a edit e = go (first_refusal checks) e
  where
    go : (o : Option Refusal) → ◌≡◌ {A = Result A Refusal} (option_map_or (λ (refusal : Refusal). Err refusal) o (Ok a)) (Ok edit) → (o ≡ None) × (a ≡ edit)
    go None e = (refl, cc)
    go (Some refusal) e = absurd cc

pub check_passed : (c : Check) (checks : List Check) → first_refusal (c ∷ checks) ≡ None → (c.holds ≡ false) × (first_refusal checks ≡ None)
check_passed c checks e = go c.holds e
  where
    go : (t : Bool) → (if t then Some c.refusal else first_refusal checks) ≡ None → (t ≡ false) × (first_refusal checks ≡ None)
    go true e = absurd (none-some c.refusal (sym e))
    go false e = (refl, e)

-- an edit of a node is one of a node that is there
pub record AtTarget (found : Option (List ℕ)) (f : List ℕ → Shape → Result Edit Refusal) (root : Shape) (edit : Edit) : Type 0 where
  pub path : List ℕ
  pub node : Shape
  pub found_is : found ≡ Some path
  pub node_is : node_at path root ≡ Some node
  pub edit_is : f path node ≡ Ok edit

pub target_there : (refusal : Refusal) (found : Option (List ℕ)) (f : List ℕ → Shape → Result Edit Refusal) (root : Shape) (edit : Edit)
    → at_target refusal found f root ≡ Ok edit → AtTarget found f root edit
target_there refusal None f root edit e = absurd (refused_not_done refusal edit e)
target_there refusal (Some path) f root edit e = go (node_at path root) refl e
  where
    go : (o : Option Shape) → node_at path root ≡ o → option_map_or (f path) o (Err refusal) ≡ Ok edit → AtTarget (Some path) f root edit
    go None at e = absurd (refused_not_done refusal edit e)
    go (Some n) at e = record { path = path; node = n; found_is = refl; node_is = at; edit_is = e }
