use Rattle.std.proofs.Common.{◌≡◌, ◌∙◌, ◌<◌, ◌+◌, Some, ap, arith, length, refl, slice_get, subst, suc, sym}
use Rattle.std.specs.List.{insert}
use Rattle.std.proofs.lemmas.Option.{slice_get_read}
use Rattle.q_tree.specs.filters.FieldSets.{ArePieces, IsFieldOf, IsStart}
use Rattle.q_tree.specs.declared.filters.field_sets.Piece.{Piece}
use Rattle.q_tree.proofs.filters.field_sets.FieldSets.cut_before.Goals as goal
use Rattle.q_tree.proofs.filters.FieldSetLemmas.{IsWithin, field-insert, pieces-insert, start-insert, start-inserted}

abbrev new_piece : goal.In_ok-insert → Piece
new_piece c = record { start = c.args.value; takers = c.index.result.now.takers }

within : (c : goal.In_ok-insert) → IsWithin c.self.inside.pieces.items c.piece_of-place.result c.index.result.now (new_piece c)
within c =
    let items = c.self.inside.pieces.items in
    let place = c.piece_of-place.result in
    let o : Piece = c.index.result.now in
    let low : place < length items = omega (arith, c.piece_of-place.ensures.within, ap length c.self.view_is) in
    let there : slice_get items place ≡ Some o = slice_get_read items (length items) place o refl low c.index.ensures in
    record {
      there = there;
      from = c.piece_of-place.ensures.from o (subst (λ xs. slice_get xs place ≡ Some o) c.self.view_is there);
      takers = refl;
      before = λ q e. c.piece_of-place.ensures.before q (subst (λ xs. slice_get xs (suc place) ≡ Some q) c.self.view_is e);
    }

items_are : (c : goal.In_ok-insert) → c.insert.new.self.items ≡ insert c.self.inside.pieces.items (suc c.piece_of-place.result) (new_piece c)
items_are c =
    let one : c.piece_of-place.result + 1 ≡ suc c.piece_of-place.result = omega arith in
    c.in_ok-insert.ensures.items ∙ ap (λ k. insert c.self.inside.pieces.items k (new_piece c)) one

pub invariant_of-self-2 : goal.invariant_of-self-2
invariant_of-self-2 c =
    subst ArePieces (sym (items_are c)) (pieces-insert c.self.inside.pieces.items c.piece_of-place.result c.index.result.now (new_piece c) (within c) c.self.invariant)

pub returns-clause-kept : goal.returns-clause-kept
returns-clause-kept c = λ ranges field.
    subst (λ xs. IsFieldOf xs ranges) (sym (items_are c))
    (field-insert c.self.inside.pieces.items c.piece_of-place.result c.index.result.now (new_piece c) ranges (within c)
    (subst (λ xs. IsFieldOf xs ranges) (sym c.self.view_is) field))

pub returns-clause-starts : goal.returns-clause-starts
returns-clause-starts c = λ x start.
    subst (λ xs. IsStart xs x) (sym (items_are c))
    (start-insert c.self.inside.pieces.items c.piece_of-place.result c.index.result.now (new_piece c) x (within c)
    (subst (λ xs. IsStart xs x) (sym c.self.view_is) start))

pub returns-clause-cut : goal.returns-clause-cut
returns-clause-cut c =
    subst (λ xs. IsStart xs c.args.value) (sym (items_are c))
    (start-inserted c.self.inside.pieces.items c.piece_of-place.result c.index.result.now (new_piece c) (within c))
