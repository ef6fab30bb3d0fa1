use Rattle.std.proofs.Common.{◌≡◌, ℕ, ◌-◌, ◌<◌, false, List, map, length, sym, ap, ◌∙◌, subst, arith}
use Rattle.std.specs.List.{remove}
use Rattle.std.proofs.lemmas.List.{with_items_is}
use Rattle.std.proofs.lemmas.List.Edits.{length-remove}
use Rattle.q_drr.specs.declared.ring.Link.{Link}
use Rattle.q_drr.specs.Links.{IsCircle, HaveMovedDown, walk, next_of, is_among, moved_down}
use Rattle.q_drr.proofs.GapLemmas.{gap_closed}
use Rattle.q_drr.proofs.RingLemmas.{same_circle}
use Rattle.q_drr.proofs.ring.Ring.close_gap.Goals as goal

-- the links with one taken out and the others led to where their neighbours stand
record IsClosed (old new : List Link) (gap count front first : ℕ) : Type 0 where
  order : walk (next_of new) count first ≡ map (moved_down gap) (walk (next_of old) count front)
  circle : IsCircle new (walk (next_of new) count first)
  room : length new ≡ length old - 1

closed : (old cut links moved new : List Link) (gap count front first : ℕ) → gap < length old → cut ≡ remove old gap → links ≡ cut → HaveMovedDown gap links moved
    → new ≡ moved → first ≡ moved_down gap front → is_among gap (walk (next_of old) count front) ≡ false → IsCircle old (walk (next_of old) count front) → IsClosed old new gap count front first
closed old cut links moved new gap count front first inside is_cut is_links down is_new is_first absent h =
    let have : HaveMovedDown gap (remove old gap) new = subst (λ ls. HaveMovedDown gap ls new) (is_links ∙ is_cut) (subst (HaveMovedDown gap links) (sym is_new) down) in
    let whole = gap_closed gap old new inside have count front absent h in
    record {
      order = ap (walk (next_of new) count) is_first ∙ whole.0;
      circle = subst (λ k. IsCircle new (walk (next_of new) count k)) (sym is_first) whole.1;
      room = omega (arith, have.len, length-remove old gap inside);
    }

pub invariant_of-self : goal.invariant_of-self
invariant_of-self c =
    let s = c.self.inside in
    (closed s.links.items c.remove.new.self.items _ c.move_links_down.new.links _ c.args.gap s.count s.front _
    (omega (arith, c.requires.inside, ap (λ v. v.room) c.self.view_is)) c.remove.ensures.items c.deref_mut.ensures.value c.move_links_down.ensures
    (with_items_is c.remove.new.self c.move_links_down.new.links (c.move_links_down.ensures.len ∙ c.deref_mut.ensures.len)) c.move_down-self-inside.ensures
    (ap (λ v. is_among c.args.gap v.order) c.self.view_is ∙ c.requires.empty) c.self.invariant).circle

pub returns : goal.returns
returns c =
    let s = c.self.inside in
    let done =
    closed s.links.items c.remove.new.self.items _ c.move_links_down.new.links _ c.args.gap s.count s.front _
    (omega (arith, c.requires.inside, ap (λ v. v.room) c.self.view_is)) c.remove.ensures.items c.deref_mut.ensures.value
    c.move_links_down.ensures
    (with_items_is c.remove.new.self c.move_links_down.new.links (c.move_links_down.ensures.len ∙ c.deref_mut.ensures.len)) c.move_down-self-inside.ensures
    (ap (λ v. is_among c.args.gap v.order) c.self.view_is ∙ c.requires.empty) c.self.invariant in
    same_circle _ _ _ _ (done.order ∙ ap (λ v. map (moved_down c.args.gap) v.order) c.self.view_is) (done.room ∙ ap (λ v. v.room - 1) c.self.view_is)
