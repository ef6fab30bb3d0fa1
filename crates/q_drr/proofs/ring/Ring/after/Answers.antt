use Rattle.std.proofs.Common.{suc, length, Some, sym, ap, ◌∙◌, arith}
use Rattle.std.specs.Prelude.{slice_get}
use Rattle.std.proofs.lemmas.List.{get_or_read}
use Rattle.q_drr.specs.Links.{is_among, next_of, no_link, walk}
use Rattle.q_drr.proofs.RingLemmas.{Neighbours, circle-last, length-walk, neighbours, walk-next}
use Rattle.q_drr.proofs.ring.Ring.after.Goals.{After-self}
use Rattle.q_drr.proofs.ring.Ring.after.Goals as goal

near : (c : After-self) → Neighbours c.self.inside.links.items c.args.place
near c =
    let s = c.self.inside in
    neighbours s.links.items c.args.place (walk (next_of s.links.items) s.count s.front) c.self.invariant
    (ap (λ v. is_among c.args.place v.order) c.self.view_is ∙ c.requires)

pub index-requires : goal.index-requires
index-requires c = let there = (near c).itself in omega (arith, there)

pub returns : goal.returns
returns c = record {
  next = λ k is less.
      let a = (goal.at.returns c).After-self in
      let s = c.self.inside in
      let order = ap (λ v. v.order) c.self.view_is in
      let read = ap (λ r. r.next) (get_or_read s.links.items c.args.place _ (near a).itself c.index.ensures no_link) in
      let size = length-walk (next_of s.links.items) s.count s.front in
      ap (λ ns. slice_get ns (suc k)) (sym order)
      ∙ walk-next (next_of s.links.items) s.count s.front k c.args.place (ap (λ ns. slice_get ns k) order ∙ is)
      (omega (arith, less, size, ap length order))
      ∙ ap Some (sym read);
  around = λ k is last.
      let a = (goal.at.returns c).After-self in
      let s = c.self.inside in
      let order = ap (λ v. v.order) c.self.view_is in
      let read = ap (λ r. r.next) (get_or_read s.links.items c.args.place _ (near a).itself c.index.ensures no_link) in
      ap (λ ns. slice_get ns 0) (sym order)
      ∙ circle-last s.links.items (walk (next_of s.links.items) s.count s.front) c.self.invariant k c.args.place (ap (λ ns. slice_get ns k) order ∙ is)
      (omega (arith, last, ap length order))
      ∙ ap Some (sym read);
}
