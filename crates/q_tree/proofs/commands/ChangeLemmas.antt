-- What the model plans of a change of a qdisc, and that the change that the code makes is this plan.
use Rattle.std.proofs.Common.{◌≡◌, ℕ, zero, suc, ◌+◌, ◌-◌, ◌<◌, ◌≤◌, ◌∙◌, min, Bool, true, false, List, [], ◌∷◌, ◌++◌, append-nil, length, map, take, drop, get_or, replicate, refl, sym, ap, ap₂, subst, Option, Some, None, option_map, Result, Ok, Err, inl, inr, arith}
use Rattle.std.specs.Prelude.{All, IsTrue, is_some, not, nat_lt, unwrap_or, ◌==◌, ◌||◌, if◌then◌else◌}
use Rattle.std.specs.List.{enumerate_from, flat_map, list_any, sum}
use Rattle.std.proofs.lemmas.Bool.{cases_lt, eqb-true, not-false, or_right}
use Rattle.std.proofs.lemmas.List.Elements.{All-cons, All-nil}
use Rattle.std.proofs.lemmas.List.{drop-map, drop_all, length-map, length-replicate, take_all, take_min}
use Rattle.q_codel.specs.declared.limit.Limit.TheVariants.{Packets, Bytes}
use Rattle.q_bucket.specs.Level.{TokenBucket, after_change}
use Rattle.q_fqcodel.specs.FqState as flows
use Rattle.q_fqcodel.specs.FqState.{FqState}
use Rattle.q_model.specs.declared.command.Command.TheVariants.{QdiscChange}
use Rattle.q_model.specs.declared.filter.Filter.{Filter}
use Rattle.q_model.specs.declared.kind.Kind.{Kind}
use Rattle.q_model.specs.declared.kind.Kind.TheVariants as kind
use Rattle.q_model.specs.declared.refusal.Refusal.{Refusal}
use Rattle.q_model.specs.declared.refusal.Refusal.TheVariants.{Busy, CannotChange, NoQdisc, SmallBurst, TooMany}
use Rattle.q_model.specs.declared.place.Place.{Place}
use Rattle.q_model.specs.declared.tbf_limit.TbfLimit.{TbfLimit}
use Rattle.q_model.specs.Beneath.{beneath, beneath_own}
use Rattle.q_model.specs.Edit as model
use Rattle.q_model.specs.Edit.{Child, Kept, New, Retuned, beneath_removed, keeps}
use Rattle.q_model.specs.Find.{count_nodes, node_at}
use Rattle.q_model.specs.Lawful.{IsLawfulDiscipline}
use Rattle.q_model.specs.Make.{Device, implicit_pfifo, limit_bytes, with_options}
use Rattle.q_model.specs.Node.{Discipline, Fifo, Prio, Tbf, Drr, FqCodel, Node, Own, Shape, blank, children, each, shape}
use Rattle.q_model.specs.Options.{FqOptions, PrioSettings}
use Rattle.q_model.specs.QdiscCommands.{at_target, bands_check, leaf_of_tbf, rebanded, relimited, retuned, reshaped, target}
use Rattle.q_model.specs.Ranges.{IsCommand}
use Rattle.q_model.specs.Refusals.{Check, done_unless, most_nodes, refuse}
use Rattle.q_model.specs.TreeState.{plan}
use Rattle.q_invariants.specs.Kept.{IsLawfulRoot}
use Rattle.q_invariants.specs.Sizes.{change_sized, counts, nodes_rebanded, numbers}
use Rattle.q_invariants.proofs.edit.EditChildren.{any-append, gone_is, gone_past, kept_above, kept_from, kept_there, kids, kids-append, kids_all, kids_kept, kids_new, new_keeps}
use Rattle.q_invariants.proofs.edit.EditMade.{new_leaf}
use Rattle.q_invariants.proofs.edit.EditSuits.{beneath-children, children-shape, done_is, length-shape, node_at-shape}
use Rattle.q_invariants.proofs.sizes.EditSizes.{sized-within}
use Rattle.q_invariants.proofs.sizes.MadeSizes.{count-shape}
use Rattle.q_invariants.proofs.sizes.SizedChanges.{length-below, node-lawful, plan-qdisc_change}
use Rattle.q_invariants.proofs.sums.Joined.{joined}
use Rattle.q_invariants.proofs.tree.Forests.{lawful-with_memory}
use Rattle.q_tree.specs.answers.Finding.{reached}
use Rattle.q_tree.specs.arrival.PutSteps.{packets_beneath}
use Rattle.q_tree.specs.commands.Changing.{IsChange, IsRemade, is_new, bfifo_answer, drr_same, fq_codel_answer, leaves_answer, nodes_from, pfifo_answer, tbf_answer}
use Rattle.q_tree.specs.commands.Commands.{IsBounded, IsPlannedFor, IsRefused, takes_none}
use Rattle.q_tree.specs.commands.DisciplineChanges.{AreReady, IsFresh, TakesMore, bands_going, bands_staying, children_after, discipline_after, leaf_limited, leaves_limited, limited, lost_with, rebucketed, remapped, reoptioned}
use Rattle.q_tree.specs.commands.Making.{AreNew, IsNewNode}
use Rattle.q_tree.specs.Kept as own_kept
use Rattle.q_tree.specs.declared.commands.edit.Edit.TheVariants.{DisciplineChange}
use Rattle.q_tree.specs.declared.commands.planned.Planned.{Planned}
use Rattle.q_tree.specs.declared.commands.discipline_change.DisciplineChange as shapes
use Rattle.q_tree.specs.declared.commands.discipline_change.DisciplineChange.TheVariants.{Nothing, SetLimit, SetBucket, SetOptions}
use Rattle.q_tree.proofs.commands.MakingLemmas.{new-counts, nothing-beneath}
use Rattle.q_tree.proofs.commands.Plans.{all-passed, all-stay, few, remade-planned, change-does, same-refusal, shallow}
use Rattle.q_tree.proofs.commands.TargetLemmas.{reached-at, target-none, target-some}

abbrev Counting : Type 0
Counting = Node own_kept.Kept

-- ---- other settings alone

module _ (n : Counting) (plans : List ℕ → Result model.Edit Refusal) (r : shapes.DisciplineChange) (to : Discipline) where
  kids-stay : children n ≡ kids own_kept.kept (children n) (kept_from 0 (length (children (shape n))))
  kids-stay = sym (kids_all own_kept.kept (children n) (length (children (shape n))) (length-shape n))

  retuned-is : ((path : List ℕ) → plans path ≡ Ok (retuned (shape n) path to)) → discipline_after r n.own.discipline (children n) ≡ to
      → children_after r n.own.discipline (children n) ≡ children n → lost_with r n.own.discipline (children n) ≡ [] → AreReady r → IsRemade plans n r
  retuned-is planned becomes stay none ready = record {
    own = record n.own { discipline = to };
    below = kept_from 0 (length (children (shape n)));
    planned = planned;
    own_is = ap (λ d. record n.own { discipline = d }) becomes;
    kids_is = stay ∙ kids-stay;
    lost_is = none ∙ sym (all-stay n);
    ready = ready;
  }

-- ---- the leaf of a tbf

module _ (bytes : ℕ) where
  abbrev with_limit : Own → Own
  with_limit own = record own { discipline = relimited bytes own.discipline }

  leaf-alone : (cs : List Counting) → length cs ≡ 1 → map (leaf_limited bytes) cs ≡ kids own_kept.kept cs (map (leaf_of_tbf bytes) (map shape cs))
  leaf-alone [] e = absurd (omega (arith, e))
  leaf-alone (c ∷ []) e = by (is_some c.own.handle) where
    by : (t : Bool) → (if t then c else record c { own = with_limit c.own }) ∷ [] ≡ kids own_kept.kept (c ∷ []) ((if t then Kept 0 else Retuned 0 (with_limit c.own)) ∷ [])
    by true = refl
    by false = refl
  leaf-alone (c ∷ d ∷ cs) e = absurd (omega (arith, e))

  none-gone : (ss : List Shape) → length ss ≡ 1
      → flat_map (λ (child : ℕ × Shape). if list_any (keeps child.0) (map (leaf_of_tbf bytes) ss) then [] else beneath child.1) (enumerate_from 0 ss) ≡ []
  none-gone [] e = absurd (omega (arith, e))
  none-gone (s ∷ []) e = by (is_some s.own.handle) where
    by : (t : Bool) → (if list_any (keeps 0) ((if t then Kept 0 else Retuned 0 (with_limit s.own)) ∷ []) then [] else beneath s) ++ [] ≡ []
    by true = refl
    by false = refl
  none-gone (s ∷ t ∷ ss) e = absurd (omega (arith, e))

  module _ (n : Counting) (one : length (children (shape n)) ≡ 1) where
    kids-limited : map (leaf_limited bytes) (children n) ≡ kids own_kept.kept (children n) (map (leaf_of_tbf bytes) (children (shape n)))
    kids-limited =
        leaf-alone (children n) (omega (arith, one, length-shape n))
        ∙ ap (λ ss. kids own_kept.kept (children n) (map (leaf_of_tbf bytes) ss)) (sym (children-shape n))

-- ---- each kind but prio

module _ (d : Device) (now : ℕ) (root : Shape) (n : Counting) where
  abbrev pub plans_of : Kind → Discipline → List ℕ → Result model.Edit Refusal
  plans_of k was path = change_sized d now root (shape n) path was k

  pub pfifo-is : (limit : Option ℕ) → IsChange (λ plan. takes_none) (plans_of (kind.Pfifo limit) n.own.discipline) n (pfifo_answer limit n.own.discipline)
  pfifo-is limit = by n.own.discipline refl where
    by : (was : Discipline) → n.own.discipline ≡ was → IsChange (λ plan. takes_none) (plans_of (kind.Pfifo limit) was) n (pfifo_answer limit was)
    by (Fifo (Packets old) queue) is =
        let new = Packets (unwrap_or limit old) in
        (retuned-is n (plans_of (kind.Pfifo limit) (Fifo (Packets old) queue)) (SetLimit new) (Fifo new queue) (λ path. refl) (ap (limited new) is) refl refl tt, λ path t. t)
    by (Fifo (Bytes old) queue) is = λ path. refl
    by (Prio priomap) is = λ path. refl
    by (Tbf bucket old) is = λ path. refl
    by (Drr s) is = λ path. refl
    by (FqCodel s) is = λ path. refl

  pub bfifo-is : (limit : Option ℕ) → IsChange (λ plan. takes_none) (plans_of (kind.Bfifo limit) n.own.discipline) n (bfifo_answer limit n.own.discipline)
  bfifo-is limit = by n.own.discipline refl where
    by : (was : Discipline) → n.own.discipline ≡ was → IsChange (λ plan. takes_none) (plans_of (kind.Bfifo limit) was) n (bfifo_answer limit was)
    by (Fifo (Packets old) queue) is = λ path. refl
    by (Fifo (Bytes old) queue) is =
        let new = Bytes (unwrap_or limit old) in
        (retuned-is n (plans_of (kind.Bfifo limit) (Fifo (Bytes old) queue)) (SetLimit new) (Fifo new queue) (λ path. refl) (ap (limited new) is) refl refl tt, λ path t. t)
    by (Prio priomap) is = λ path. refl
    by (Tbf bucket old) is = λ path. refl
    by (Drr s) is = λ path. refl
    by (FqCodel s) is = λ path. refl

  pub drr-is : IsChange (λ plan. takes_none) (plans_of kind.Drr n.own.discipline) n (drr_same n.own.discipline)
  drr-is = by n.own.discipline refl where
    by : (was : Discipline) → n.own.discipline ≡ was → IsChange (λ plan. takes_none) (plans_of kind.Drr was) n (drr_same was)
    by (Fifo (Packets most) queue) is = λ path. refl
    by (Fifo (Bytes most) queue) is = λ path. refl
    by (Prio priomap) is = λ path. refl
    by (Tbf bucket old) is = λ path. refl
    by (Drr s) is = (retuned-is n (plans_of kind.Drr (Drr s)) Nothing (Drr s) (λ path. refl) is refl refl tt, λ path t. t)
    by (FqCodel s) is = λ path. refl

  module _ (o : FqOptions) (s : FqState) (is : n.own.discipline ≡ FqCodel s) where
    abbrev resettled_to : Discipline
    resettled_to = FqCodel (flows.after_change s (with_options o s.settings))

    flows-by : (other : Bool) → not (unwrap_or o.flows s.settings.flows == s.settings.flows) ≡ other
        → IsChange (λ plan. takes_none) (λ path. done_unless (refuse CannotChange other ∷ []) (retuned (shape n) path resettled_to)) n (done_unless (refuse CannotChange other ∷ []) (SetOptions o))
    flows-by true e = λ path. refl
    flows-by false e =
        let same : unwrap_or o.flows s.settings.flows ≡ s.settings.flows =
        eqb-true (unwrap_or o.flows s.settings.flows) s.settings.flows (not-false (unwrap_or o.flows s.settings.flows == s.settings.flows) e) in (
          retuned-is n (λ path. Ok (retuned (shape n) path resettled_to)) (SetOptions o) resettled_to (λ path. refl)
              (ap (reoptioned o) is ∙ sym (ap (λ k. FqCodel (flows.after_change s (record (with_options o s.settings) { flows = k }))) same)) refl refl tt,
          λ path t. t,
        )

  pub fq_codel-is : (o : FqOptions) → IsChange (λ plan. takes_none) (plans_of (kind.FqCodel o) n.own.discipline) n (fq_codel_answer o n.own.discipline)
  fq_codel-is o = by n.own.discipline refl where
    by : (was : Discipline) → n.own.discipline ≡ was → IsChange (λ plan. takes_none) (plans_of (kind.FqCodel o) was) n (fq_codel_answer o was)
    by (Fifo (Packets most) queue) is = λ path. refl
    by (Fifo (Bytes most) queue) is = λ path. refl
    by (Prio priomap) is = λ path. refl
    by (Tbf bucket old) is = λ path. refl
    by (Drr s) is = λ path. refl
    by (FqCodel s) is = flows-by o s is (not (unwrap_or o.flows s.settings.flows == s.settings.flows)) refl

  module _ (mtu : ℕ) (lawful : IsLawfulRoot mtu now (shape n)) (rate burst : ℕ) (limit : TbfLimit) where
    abbrev bytes : ℕ
    bytes = limit_bytes rate burst limit

    module _ (b : TokenBucket) (old : ℕ) (is : n.own.discipline ≡ Tbf b old) where
      one : length (children (shape n)) ≡ 1
      one = sym (length-below (shape n)) ∙ (subst (IsLawfulDiscipline mtu now (each beneath_own (shape n).below)) is lawful.0.discipline).one

      abbrev new : TokenBucket
      new = after_change b rate burst now

      burst-by : (small : Bool)
          → IsChange (λ plan. takes_none) (λ path. done_unless (refuse SmallBurst small ∷ []) (reshaped now (shape n) path b rate burst bytes)) n
          (done_unless (refuse SmallBurst small ∷ []) (SetBucket new bytes))
      burst-by true = λ path. refl
      burst-by false = (
        record {
          own = record n.own { discipline = Tbf new bytes };
          below = map (leaf_of_tbf bytes) (children (shape n));
          planned = λ path. refl;
          own_is = ap (λ x. record n.own { discipline = rebucketed new bytes x }) is;
          kids_is = ap (λ x. leaves_limited bytes x (children n)) is ∙ kids-limited bytes n one;
          lost_is = sym (none-gone bytes (children (shape n)) one);
          ready = tt;
        },
        λ path t. t,
      )

    pub tbf-is : IsChange (λ plan. takes_none) (plans_of (kind.Tbf rate burst limit) n.own.discipline) n (tbf_answer d.mtu now rate burst limit n.own.discipline)
    tbf-is = by n.own.discipline refl where
      by : (was : Discipline) → n.own.discipline ≡ was → IsChange (λ plan. takes_none) (plans_of (kind.Tbf rate burst limit) was) n (tbf_answer d.mtu now rate burst limit was)
      by (Fifo (Packets most) queue) is = λ path. refl
      by (Fifo (Bytes most) queue) is = λ path. refl
      by (Prio priomap) is = λ path. refl
      by (Tbf b old) is = burst-by b old is (nat_lt burst (min b.burst d.mtu))
      by (Drr s) is = λ path. refl
      by (FqCodel s) is = λ path. refl

-- ---- the bands of a prio

-- the first of some with others behind them, which are as many as are missing
take-front : {A : Type 0} (k : ℕ) (xs ys : List A) → length ys ≡ k - length xs → take k (xs ++ ys) ≡ take k xs ++ ys
take-front zero [] [] e = refl
take-front zero [] (y ∷ ys) e = absurd (omega (arith, e))
take-front (suc k) [] ys e = take_all (suc k) ys (omega (arith, e))
take-front zero (x ∷ xs) [] e = refl
take-front zero (x ∷ xs) (y ∷ ys) e = absurd (omega (arith, e))
take-front (suc k) (x ∷ xs) ys e = ap (λ zs. x ∷ zs) (take-front k xs ys (omega (arith, e)))

drop-front : {A : Type 0} (k : ℕ) (xs ys : List A) → length ys ≡ k - length xs → drop k (xs ++ ys) ≡ drop k xs
drop-front zero [] [] e = refl
drop-front zero [] (y ∷ ys) e = absurd (omega (arith, e))
drop-front (suc k) [] ys e = drop_all (suc k) ys (omega (arith, e))
drop-front zero (x ∷ xs) [] e = append-nil (x ∷ xs)
drop-front zero (x ∷ xs) (y ∷ ys) e = absurd (omega (arith, e))
drop-front (suc k) (x ∷ xs) ys e = drop-front k xs ys (omega (arith, e))

map-replicate : {A B : Type 0} (f : A → B) (k : ℕ) (x : A) → map f (replicate k x) ≡ replicate k (f x)
map-replicate f zero x = refl
map-replicate f (suc k) x = ap (λ ys. f x ∷ ys) (map-replicate f k x)

new-among : (k : ℕ) (s : Shape) → 0 < k → list_any is_new (replicate k (New s)) ≡ true
new-among zero s some = absurd (omega (arith, some))
new-among (suc k) s some = refl

-- what is past the lesser of a number and the length is past the number
drop-min : {A : Type 0} (k : ℕ) (xs : List A) → drop (min (length xs) k) xs ≡ drop k xs
drop-min k xs = elim (cases_lt k (length xs)) [
  | inl lt ↦ ap (λ m. drop m xs) {x = min (length xs) k} {y = k} (omega (arith, lt))
  | inr le ↦ drop_all (min (length xs) k) xs (omega (arith, le)) ∙ sym (drop_all k xs le)
]

counts-shape : (cs : List Counting) → counts (map shape cs) ≡ map count_nodes cs
counts-shape [] = refl
counts-shape (c ∷ cs) = ap₂ (λ k ks. k ∷ ks) (count-shape c) (counts-shape cs)

-- new leaves have counted nothing
new-first : (l : Counting) (ls : List Counting) (s : Shape) (ss : List Shape) → AreNew (l ∷ ls) (s ∷ ss) → IsNewNode l s
new-first l ls s ss new = ap (λ (xs : List Counting). get_or xs 0 l) new

new-rest : (l : Counting) (ls : List Counting) (s : Shape) (ss : List Shape) → AreNew (l ∷ ls) (s ∷ ss) → AreNew ls ss
new-rest l ls s ss new = ap (λ (xs : List Counting). drop 1 xs) new

fresh : (d : Device) (ls : List Counting) (k : ℕ) → AreNew ls (replicate k (implicit_pfifo d)) → All IsFresh ls
fresh d [] k new = All-nil IsFresh
fresh d (l ∷ ls) zero new = absurd (omega (arith, ap length new))
fresh d (l ∷ ls) (suc k) new =
    let is : IsNewNode l (implicit_pfifo d) = new-first l ls (implicit_pfifo d) (replicate k (implicit_pfifo d)) new in
    All-cons IsFresh l ls (record {
      counts = new-counts l (implicit_pfifo d) is;
      alone = nothing-beneath l (implicit_pfifo d) is d.mtu 0 None
          (new_leaf d.mtu 0 None (Packets d.txqueuelen));
    }) (fresh d ls k (new-rest l ls (implicit_pfifo d) (replicate k (implicit_pfifo d)) new))

module _ (d : Device) (n : Counting) (s : PrioSettings) (ls : List Counting) where
  abbrev old : ℕ
  old = length (children (shape n))

  abbrev leaf : Shape
  leaf = implicit_pfifo d

  abbrev front : List Child
  front = kept_from 0 (min old s.bands)

  abbrev behind : List Child
  behind = replicate (s.bands - old) (New leaf)

  pub bands-made-of : 0 < s.bands - old → IsTrue (list_any is_new (front ++ behind))
  bands-made-of some = any-append is_new front behind ∙ or_right (list_any is_new front) (list_any is_new behind) (new-among (s.bands - old) leaf some)

  module _ (new : AreNew ls (replicate (s.bands - old) leaf)) where
    many : length ls ≡ s.bands - length (children n)
    many = omega (arith, ap length new, length-map (replicate (s.bands - old) leaf) (blank own_kept.kept), length-replicate (s.bands - old) leaf, length-shape n)

    kids-rebanded : take s.bands (children n ++ ls) ≡ kids own_kept.kept (children n) (front ++ behind)
    kids-rebanded =
        take-front s.bands (children n) ls many
        ∙ ap₂ (λ xs ys. xs ++ ys)
        (sym (take_min s.bands (children n))
        ∙ ap (λ k. take k (children n)) {x = min s.bands (length (children n))} {y = min old s.bands} (omega (arith, length-shape n))
        ∙ sym (kids_kept own_kept.kept (children n) 0 (min old s.bands)))
        (new ∙ map-replicate (blank own_kept.kept) (s.bands - old) leaf ∙ sym (kids_new own_kept.kept (children n) leaf (s.bands - old)))
        ∙ sym (kids-append own_kept.kept (children n) front behind)

    gone-rebanded : packets_beneath (drop s.bands (children n ++ ls)) ≡ beneath_removed (front ++ behind) (shape n)
    gone-rebanded =
        ap packets_beneath (drop-front s.bands (children n) ls many)
        ∙ ap joined (sym (drop-map beneath s.bands (children n)) ∙ ap (drop s.bands) (sym (beneath-children n)) ∙ sym (drop-min s.bands (map beneath (children (shape n))))
        ∙ ap (λ k. drop (min k s.bands) (map beneath (children (shape n)))) (length-map (children (shape n)) beneath))
        ∙ sym (gone_is (λ j. list_any (keeps j) (front ++ behind)) 0 (children (shape n))
        ∙ gone_past (λ j. list_any (keeps j) (front ++ behind)) 0 (min old s.bands) (map beneath (children (shape n)))
        (λ j le lt. any-append (keeps j) front behind ∙ ap (λ t. t || list_any (keeps j) behind) (kept_there j 0 (min old s.bands) le lt))
        (λ j le. any-append (keeps j) front behind ∙ ap₂ (λ a b. a || b) (kept_above j 0 (min old s.bands) le) (new_keeps j leaf (s.bands - old))))

    -- bands more are new children
    pub more-made : 0 < length ls → IsTrue (list_any is_new (front ++ behind))
    more-made some = bands-made-of (omega (arith, some, many, length-shape n))

    module _ (plans : List ℕ → Result model.Edit Refusal) (r : shapes.DisciplineChange) (priomap : List ℕ) (is : n.own.discipline ≡ Prio priomap)
        (planned : (path : List ℕ) → plans path ≡ Ok (rebanded d (shape n) path s.bands s.priomap)) where
      -- r is the edit of these bands
      pub rebanded-is : discipline_after r n.own.discipline (children n) ≡ remapped s.priomap n.own.discipline
          → children_after r n.own.discipline (children n) ≡ bands_staying s.bands ls n.own.discipline (children n)
          → lost_with r n.own.discipline (children n) ≡ packets_beneath (bands_going s.bands ls n.own.discipline (children n)) → (All IsFresh ls → AreReady r) → IsRemade plans n r
      rebanded-is becomes stay go ready = record {
        own = record n.own { discipline = Prio s.priomap };
        below = front ++ behind;
        planned = planned;
        own_is = ap (λ x. record n.own { discipline = x }) (becomes ∙ ap (remapped s.priomap) is);
        kids_is = stay ∙ ap (λ x. bands_staying s.bands ls x (children n)) is ∙ kids-rebanded;
        lost_is = go ∙ ap (λ x. packets_beneath (bands_going s.bands ls x (children n))) is ∙ gone-rebanded;
        ready = ready (fresh d ls (s.bands - old) new);
      }

pub bands-made : (d : Device) (n : Counting) (s : PrioSettings) (leaves : ℕ) → leaves ≡ s.bands - length (children (shape n)) → 0 < leaves
    → IsTrue (list_any is_new (kept_from 0 (min (length (children (shape n))) s.bands) ++ replicate (s.bands - length (children (shape n))) (New (implicit_pfifo d))))
bands-made d n s leaves is some = bands-made-of d n s [] (omega (arith, is, some))

-- the answer of a prio, once it is known whether a filter names a band that would go, and whether the nodes would be too many
pub leaves-by : (n : Counting) (bands nodes : ℕ) (priomap : List ℕ) → n.own.discipline ≡ Prio priomap → (filters : List Filter) → n.own.filters ≡ filters → (busy over : Bool)
    → list_any (λ (f : Filter). nat_lt bands f.minor) filters ≡ busy → nat_lt most_nodes (nodes + (bands - length (children n)) - nodes_from bands n) ≡ over
    → done_unless (refuse Busy busy ∷ refuse TooMany over ∷ []) (bands - length (children n)) ≡ leaves_answer bands nodes n n.own.discipline
leaves-by n bands nodes priomap is filters are busy over busy_is over_is =
    ap₂ (λ a b. done_unless (refuse Busy a ∷ refuse TooMany b ∷ []) (bands - length (children n))) (sym (ap (list_any (λ (f : Filter). nat_lt bands f.minor)) are ∙ busy_is)) (sym over_is)
    ∙ sym (ap (leaves_answer bands nodes n) is)

module _ (d : Device) (now : ℕ) (root : Shape) (n : Counting) (s : PrioSettings) (nodes : ℕ) (nodes_is : count_nodes root ≡ nodes) where
  abbrev more : ℕ
  more = s.bands - length (children n)

  abbrev checks : List Check
  checks = bands_check s.bands (shape n) ++ numbers (nodes + more - nodes_from s.bands n)

  same-nodes : nodes_rebanded root (shape n) s.bands ≡ nodes + more - nodes_from s.bands n
  same-nodes =
      let going : sum (counts (drop s.bands (children (shape n)))) ≡ nodes_from s.bands n =
      ap (λ ss. sum (counts (drop s.bands ss))) (children-shape n) ∙ ap (λ ss. sum (counts ss)) (drop-map shape s.bands (children n)) ∙ ap sum (counts-shape (drop s.bands (children n))) in
      omega (arith, nodes_is, length-shape n, going)

  pub bands-refused : (refusal : Refusal) → leaves_answer s.bands nodes n n.own.discipline ≡ Err refusal → (path : List ℕ) → plans_of d now root n (kind.Prio s) n.own.discipline path ≡ Err refusal
  bands-refused refusal e path = by n.own.discipline e where
    by : (was : Discipline) → leaves_answer s.bands nodes n was ≡ Err refusal → plans_of d now root n (kind.Prio s) was path ≡ Err refusal
    by (Prio priomap) same =
        ap (λ k. done_unless (bands_check s.bands (shape n) ++ numbers k) (rebanded d (shape n) path s.bands s.priomap)) same-nodes
        ∙ same-refusal checks more (rebanded d (shape n) path s.bands s.priomap) refusal same
    by (Fifo (Packets most) queue) same = cc
    by (Fifo (Bytes most) queue) same = cc
    by (Tbf bucket limit) same = cc
    by (Drr t) same = cc
    by (FqCodel t) same = cc

  -- a prio of which no check holds
  pub record HasRoom (leaves : ℕ) : Type 0 where
    pub priomap : List ℕ
    pub is : n.own.discipline ≡ Prio priomap
    pub leaves_is : leaves ≡ s.bands - length (children (shape n))
    pub planned : (path : List ℕ) → plans_of d now root n (kind.Prio s) n.own.discipline path ≡ Ok (rebanded d (shape n) path s.bands s.priomap)

  pub bands-passed : (leaves : ℕ) → leaves_answer s.bands nodes n n.own.discipline ≡ Ok leaves → HasRoom leaves
  bands-passed leaves e = by n.own.discipline refl e where
    by : (was : Discipline) → n.own.discipline ≡ was → leaves_answer s.bands nodes n was ≡ Ok leaves → HasRoom leaves
    by (Prio priomap) is same =
        let passed = (done_is checks more leaves same).1 in
        record {
          priomap = priomap;
          is = is;
          leaves_is = omega (arith, passed, length-shape n);
          planned = λ path.
              ap (λ x. plans_of d now root n (kind.Prio s) x path) is
              ∙ ap (λ k. done_unless (bands_check s.bands (shape n) ++ numbers k) (rebanded d (shape n) path s.bands s.priomap)) same-nodes
              ∙ all-passed checks more (rebanded d (shape n) path s.bands s.priomap) (same ∙ ap (λ k. Ok k) (sym passed));
        }
    by (Fifo (Packets most) queue) is same = absurd cc
    by (Fifo (Bytes most) queue) is same = absurd cc
    by (Tbf bucket limit) is same = absurd cc
    by (Drr t) is same = absurd cc
    by (FqCodel t) is same = absurd cc

-- ---- the plan of the line

module _ (root : Counting) (bounded : IsBounded root) (d : Device) (now mtu : ℕ) (lawful : IsLawfulRoot mtu now root) (place : Option Place) (handle : Option ℕ) (k : Kind) where
  abbrev found_at : Option (List ℕ)
  found_at = target place handle (shape root)

  abbrev change_at : List ℕ → Shape → Result model.Edit Refusal
  change_at path n = change_sized d now (shape root) n path n.own.discipline k

  abbrev whole : Result model.Edit Refusal
  whole = plan d now (QdiscChange place handle k) (shape root)

  shape-lawful : IsLawfulRoot mtu now (shape root)
  shape-lawful = lawful-with_memory mtu now (λ m. tt) root lawful

  at-plan : whole ≡ at_target NoQdisc found_at change_at (shape root)
  at-plan = plan-qdisc_change (shape root) (shallow root bounded) (few root bounded) d now mtu now shape-lawful place handle k

  pub change-nowhere : reached root found_at ≡ None → whole ≡ Err NoQdisc
  change-nowhere e = at-plan ∙ target-none root found_at NoQdisc change_at e

  module _ (path : List ℕ) (n : Counting) (found : reached root found_at ≡ Some (path, n)) where
    at-node : whole ≡ change_at path (shape n)
    at-node = at-plan ∙ target-some root found_at NoQdisc change_at path n found

    there : node_at path (shape root) ≡ Some (shape n)
    there = node_at-shape path root ∙ ap (option_map shape) (reached-at root found_at path n found).there

    pub change-lawful : IsLawfulRoot mtu now (shape n)
    change-lawful = node-lawful mtu now path (shape root) (shape n) shape-lawful there

    pub change-within : count_nodes n ≤ count_nodes root
    change-within = omega (arith, (sized-within path (shape root) (shape n) there).1, count-shape root, count-shape n)

    pub change-refused : (memory : Result model.Edit Refusal → Type 0) (refusal : Refusal)
        → IsRefused (memory (change_at path (shape n))) (change_at path (shape n)) refusal → IsRefused (memory whole) whole refusal
    change-refused memory refusal h = subst (λ q. IsRefused (memory q) q refusal) (sym at-node) h

    pub change-planned : (memory : Result model.Edit Refusal → Type 0) (r : shapes.DisciplineChange)
        → IsRemade (λ way. change_at way (shape n)) n r × ((way : List ℕ) → TakesMore r → memory (change_at way (shape n))) → (p : Planned)
        → p.path.items ≡ path → p.edit ≡ DisciplineChange r → IsCommand (QdiscChange place handle k)
        → IsPlannedFor (memory whole) (QdiscChange place handle k) p now d root
    change-planned memory r h p way edit ranges =
        subst (λ (q : Planned). IsPlannedFor (memory whole) (QdiscChange place handle k) q now d root) (λ i. record p { edit = sym edit i })
        (remade-planned d root (record p { edit = DisciplineChange r }) h.0.ready n
        (subst (λ x. node_at x root ≡ Some n) (sym way) (reached-at root found_at path n found).there) h.0.own h.0.below h.0.lost_is
        (change-does r n h.0.own h.0.below h.0.own_is h.0.kids_is) (QdiscChange place handle k) ranges now
        (at-node ∙ ap (λ x. change_at x (shape n)) (sym way) ∙ h.0.planned p.path.items) (memory whole) (λ takes. subst memory (sym at-node) (h.1 path takes)))
