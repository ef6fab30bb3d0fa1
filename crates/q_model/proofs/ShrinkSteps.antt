-- Puts, takes and commands on a tree whose nodes remember something else.
use Rattle.std.proofs.Common.{◌≡◌, ℕ, ◌∙◌, List, [], ◌∷◌, ◌++◌, map, refl, sym, ap, ap₂, Option, Some, None}
use Rattle.std.specs.Prelude.{slice_get, option_map}
use Rattle.std.specs.Option.{option_map_or, option_to_list}
use Rattle.q_packet.specs.Descriptor.{Descriptor}
use Rattle.q_model.specs.Tally.{Tally, Note, Arrived, Sent, noted}
use Rattle.q_model.specs.Node.{Node, Shape, children, with_memory, shape, blank}
use Rattle.q_model.specs.Work.{Worked}
use Rattle.q_model.specs.Edit.{Edit, Graft, Remake, remade, above, edited_at, edited, lost_by}
use Rattle.q_model.specs.Make.{Device}
use Rattle.q_model.specs.TreeState.{TreeState, peek_packet, new_tree, with_work, put, put_work, take_packet, with_edit}
use Rattle.q_model.specs.Ask.{ask, take_from}
use Rattle.q_model.specs.Shrink.{StandsFor, remembering}
use Rattle.q_model.proofs.ShrinkLemmas.{noted-stands, shape-with_memory, blank-stands, booked-stands, child-with_memory, remade-stands, above-stands}

module _ {M N : Type 0} (t : Tally M) (u : Tally N) (f : M → N) (h : StandsFor t u f) where
  -- at the child that the path leads to, or at none
  pub at_child : (notes : List Note) (g : Node M → Node M) (k : Node N → Node N) (i : ℕ) (n : Node M) (c : Option (Node M))
      → ((x : Node M) → with_memory f (g x) ≡ k (with_memory f x))
      → with_memory f (option_map_or (λ child. above t notes i (g child) n) c n) ≡ option_map_or
      (λ child. above u notes i (k child) (with_memory f n)) (option_map (with_memory f) c) (with_memory f n)
  at_child notes g k i n None e = refl
  at_child notes g k i n (Some c) e = above-stands t u f h notes i (g c) n ∙ ap (λ x. above u notes i x (with_memory f n)) (e c)

  pub edited_at-stands : (notes : List Note) (g : Node M → Node M) (k : Node N → Node N) → ((x : Node M) → with_memory f (g x) ≡ k (with_memory f x))
      → (path : List ℕ) (n : Node M) → with_memory f (edited_at t notes g path n) ≡ edited_at u notes k path (with_memory f n)
  edited_at-stands notes g k e [] n = e n
  edited_at-stands notes g k e (i ∷ path) n =
      at_child notes (edited_at t notes g path) (edited_at u notes k path) i n (slice_get (children n) i) (edited_at-stands notes g k e path)
      ∙ sym (ap (λ c. option_map_or (λ child. above u notes i (edited_at u notes k path child) (with_memory f n)) c (with_memory f n)) (child-with_memory f n i))

  pub edited-stands : (notes : List Note) (edit : Edit) (n : Node M) → with_memory f (edited t notes edit n) ≡ edited u notes edit (with_memory f n)
  edited-stands notes (Graft path new) n = edited_at-stands notes (λ old. blank t new) (λ old. blank u new) (λ x. blank-stands t u f h new) path n
  edited-stands notes (Remake path own below) n =
      edited_at-stands notes (remade t own below notes) (remade u own below notes) (remade-stands t u f h own below notes) path n

  pub new_tree-stands : (d : Device) → remembering f (new_tree t d) ≡ new_tree u d
  new_tree-stands d = ap₂ (λ a b. record { device = d; top = a; root = b }) h.nothing (blank-stands t u f h (Rattle.q_model.specs.Make.implicit_pfifo d))

  pub with_work-stands : (notes : List Note) (w : Worked) (s : TreeState M) → remembering f (with_work t notes w s) ≡ with_work u notes w (remembering f s)
  with_work-stands notes w s = ap₂ (λ a b. record { device = s.device; top = a; root = b }) (noted-stands t u f h s.top notes) (booked-stands t u f h s.root w)

  pub put-stands : (now : ℕ) (p : Descriptor) (s : TreeState M) → remembering f (put t now p s) ≡ put u now p (remembering f s)
  put-stands now p s =
      let w = put_work now p s.device (shape s.root) in
      with_work-stands (Arrived p ∷ w.rises) w.node s
      ∙ sym (ap (λ (r : Shape). with_work u (Arrived p ∷ (put_work now p s.device r).rises) (put_work now p s.device r).node (remembering f s)) (shape-with_memory f s.root))

  pub take-stands : (now : ℕ) (s : TreeState M) → remembering f (take_packet t now s) ≡ take_packet u now (remembering f s)
  take-stands now s =
      with_work-stands ((take_from now (shape s.root)).rises ++ map Sent (option_to_list (ask now (shape s.root)).shown)) (take_from now (shape s.root)).node s
      ∙ sym (ap (λ (r : Shape). with_work u ((take_from now r).rises ++ map Sent (option_to_list (ask now r).shown)) (take_from now r).node (remembering f s)) (shape-with_memory f s.root))

  pub peek-stands : (now : ℕ) (s : TreeState M) → remembering f (peek_packet t now s) ≡ peek_packet u now (remembering f s)
  peek-stands now s =
      with_work-stands (ask now (shape s.root)).rises (ask now (shape s.root)).peeked s
      ∙ sym (ap (λ (r : Shape). with_work u (ask now r).rises (ask now r).peeked (remembering f s)) (shape-with_memory f s.root))

  pub with_edit-stands : (edit : Edit) (s : TreeState M) → remembering f (with_edit t edit s) ≡ with_edit u edit (remembering f s)
  with_edit-stands edit s =
      ap₂ (λ a b. record { device = s.device; top = a; root = b }) (noted-stands t u f h s.top (lost_by edit (shape s.root))) (edited-stands (lost_by edit (shape s.root)) edit s.root)
      ∙ sym (ap (λ (r : Shape). record { device = s.device; top = noted u (f s.top) (lost_by edit r); root = edited u (lost_by edit r) edit (with_memory f s.root) }) (shape-with_memory f s.root))
