-- Each step at the board keeps its rule.
use Rattle.std.proofs.Common.{◌≡◌, ◌≢◌, ◌∙◌, ℕ, ◌+◌, List, [], ◌∷◌, ◌++◌, set, refl, sym, subst, ⊎_elim}
use Rattle.std.proofs.lemmas.Bool.{false≢true}
use Rattle.std.specs.Prelude.{Result, Ok, Err, IsOk, MatchResult}
use mathlib.Core.Option.{some}
use lib.ListN.{get_elem?}
use Rattle.atomic_table.proofs.Lists.{at_set, at_snoc}
use Rattle.crossbeam_utils.specs.Register.{Admits, TurnsAt, Forks, Merges}
use Rattle.q_ports.specs.declared.board.Board.{Board}
use Rattle.q_ports.specs.declared.board_view.BoardView.{BoardView}
use Rattle.q_ports.specs.Rows.{Continues, RowHistorySeen}
use Rattle.q_ports.specs.Views.{AreContinued, HasBeenShown, IsShared, Reads, knows, last_front, newcomer}
use Rattle.q_ports.proofs.Prefixes.{prefix_self, prefix_trans}

pub continues-self : (f : RowHistorySeen) → Continues f f
continues-self f = record { book = refl; rows = prefix_self f.rows }

pub continues-trans : (f g h : RowHistorySeen) → Continues f g → Continues g h → Continues f h
continues-trans f g h a b = record { book = b.book ∙ a.book; rows = prefix_trans f.rows g.rows h.rows a.rows b.rows }

set-shared : (x : Board) (views : List BoardView) (seat : ℕ) (w : BoardView) → IsShared x views → HasBeenShown x w → IsShared x (set views seat w)
set-shared x views seat w h here j u e =
    ⊎_elim (λ (t : (j ≡ seat) × (w ≡ u)). subst (HasBeenShown x) t.1 here) (λ (t : (j ≢ seat) × (get_elem? views j ≡ some u)). h j u t.1) (at_set views seat j w u e)

newcomer-knows : (x : Board) → HasBeenShown x newcomer
newcomer-knows x k = absurd (false≢true k)

pub admits : Admits IsShared newcomer
admits x views h seat v at = ⊎_elim (h seat v) (λ (e : newcomer ≡ v). subst (HasBeenShown x) e (newcomer-knows x)) (at_snoc views newcomer v seat at)

pub turns : (seat : ℕ) (v : BoardView) (x y : Board) → Continues x.front y.front → TurnsAt IsShared seat v x y Reads
turns seat v x y on views h at =
    let w : BoardView = knows (v.reads + 1) y.front in (
      w,
      (λ j u e. ⊎_elim (λ (t : (j ≡ seat) × (w ≡ u)). subst (HasBeenShown y) t.1 (λ k. continues-self y.front))
          (λ (t : (j ≢ seat) × (get_elem? views j ≡ some u)). λ k. continues-trans u.front x.front y.front (h j u t.1 k) on)
          (at_set views seat j w u e)),
      record { seen = refl; continues = λ k. continues-trans v.front x.front y.front (h seat v at k) on },
    )

pub forks : (seat : ℕ) (v : BoardView) → Forks IsShared seat v v v
forks seat v x views h at j u e =
    ⊎_elim (set-shared x views seat v h (h seat v at) j u) (λ (same : v ≡ u). subst (HasBeenShown x) same (h seat v at)) (at_snoc (set views seat v) v u j e)

pub merges : (seat : ℕ) (v : BoardView) (other : ℕ) (w : BoardView) → Merges IsShared seat v other w (record w { reads = v.reads }) newcomer
merges seat v other w x views h at apart there =
    let both : BoardView = record w { reads = v.reads } in
    let known : HasBeenShown x w =
    ⊎_elim (λ (t : (other ≡ seat) × (both ≡ w)). absurd (apart t.0)) (λ (t : (other ≢ seat) × (get_elem? views other ≡ some w)). h other w t.1)
    (at_set views seat other both w there) in
    set-shared x (set views seat both) other newcomer (set-shared x views seat both h known) (newcomer-knows x)

-- the last of these goes on behind the first
pub last-continues : (f : RowHistorySeen) (fronts : List RowHistorySeen) → AreContinued f fronts → Continues f (last_front f fronts)
last-continues f [] all = continues-self f
last-continues f (g ∷ fronts) all = continues-trans f g (last_front g fronts) all.0 (last-continues g fronts all.1)

-- one more that goes on behind the last
pub continued-push : (f : RowHistorySeen) (fronts : List RowHistorySeen) (g : RowHistorySeen) → AreContinued f fronts → Continues (last_front f fronts) g → AreContinued f (fronts ++ g ∷ [])
continued-push f [] g all on = (on, tt)
continued-push f (h ∷ fronts) g all on = (all.0, continued-push h fronts g all.1 on)

-- what is said of an `Ok`
pub matched : {A B : Type 0} (r : Result A B) (P : Type 0) (Q : B → Type 0) → IsOk r → MatchResult r (λ _. P) Q → P
matched (Ok x) P Q ok h = h
matched (Err e) P Q ok h = absurd (false≢true ok)

-- a front more, or none
pub pending-of : (first : RowHistorySeen) (old new : List RowHistorySeen) (f : RowHistorySeen) (r : Result (Unit {0}) RowHistorySeen)
    → MatchResult r (λ _. new ≡ old ++ f ∷ []) (λ (x : RowHistorySeen). (x ≡ f) × (new ≡ old)) → Continues (last_front first old) f
    → AreContinued first old → AreContinued first new
pending-of first old new f (Ok x) h on all = subst (AreContinued first) (sym h) (continued-push first old f all on)
pending-of first old new f (Err e) h on all = subst (AreContinued first) (sym h.1) all
