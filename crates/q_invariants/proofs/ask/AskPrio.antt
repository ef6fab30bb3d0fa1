-- A prio: the bands in front of the one that shows a packet are peeked, that one gives it, and those behind are not asked.
use Rattle.std.proofs.Common.{◌≡◌, ℕ, zero, suc, ◌+◌, ◌≤◌, List, [], ◌∷◌, ◌++◌, map, take, drop, length, refl, sym, ap, subst, Option, None, option_and_then, option_to_list, flat_map, arith, ◌∙◌}
use Rattle.std.specs.Prelude.{true, All, slice_get, is_some, ◌<◌}
use Rattle.std.specs.List.{position_or_len}
use Rattle.std.proofs.lemmas.List.{length-map}
use Rattle.q_packet.specs.Descriptor.{Descriptor}
use Rattle.q_model.specs.declared.filter.Filter.{Filter}
use Rattle.q_model.specs.Find.{class_in}
use Rattle.q_model.specs.Tally.{Note}
use Rattle.q_model.specs.Node.{Prio, Own}
use Rattle.q_model.specs.Beneath.{beneath}
use Rattle.q_model.specs.Lawful.{IsLawfulDiscipline, IsLawfulOwn, IsLawfulPrio}
use Rattle.q_model.specs.Work.{Worked}
use Rattle.q_model.specs.Ask.{Asked, befores, ask_prio}
use Rattle.q_invariants.specs.Kept.{AreLawful}
use Rattle.q_invariants.specs.Weights.{lost, marked, weigh}
use Rattle.q_invariants.proofs.ask.Answer.{one, IsAnswer, AreAnswers, waiting, is-shown}
use Rattle.q_invariants.proofs.sums.Lengths.{lengths-among}
use Rattle.q_invariants.proofs.sums.Sums.{in_children, held_in_children, weigh-waiting, weigh-holds, befores-lawful, befores-told}
use Rattle.q_invariants.proofs.sums.Weights.{weigh-nil, IsQuiet, quiet-nil, quiet-append, lost-nil, marked-nil, lost-append, marked-append}
use Rattle.q_invariants.proofs.tree.Forests.{AreTold}

-- children that were peeked, and from one of which a packet was taken
pub record ArePassed (mtu now : ℕ) (below : List Asked) (peeked taken : List Worked) (notes : List Note) (packet : Option Descriptor) : Type 0 where
  pub all_peeked : AreLawful mtu now peeked
  pub all_taken : AreLawful mtu now taken
  pub told_peeked : AreTold (befores below) peeked
  pub told_taken : AreTold (befores below) taken
  pub quiet : IsQuiet notes
  pub peeks : (w : Descriptor → ℕ) → in_children w (befores below) ≡ lost w notes + in_children w peeked
  pub gives : (w : Descriptor → ℕ) → in_children w peeked ≡ weigh w (option_to_list packet) + in_children w taken
  pub marks : (w : Descriptor → ℕ) → marked w notes + held_in_children w (befores below) ≤ lost w notes + held_in_children w peeked
  pub marks_given : (w : Descriptor → ℕ) → held_in_children w peeked ≤ weigh w (option_to_list packet) + held_in_children w taken
  pub stays : in_children one peeked ≡ 0 → in_children one (befores below) ≡ 0
  pub as_many_peeked : length peeked ≡ length (befores below)
  pub as_many_taken : length taken ≡ length (befores below)

abbrev pub passed : ℕ → List Asked → List Worked
passed k below = map (λ (a : Asked). a.peeked) (take k below)

abbrev pub unasked : ℕ → List Asked → List Worked
unasked k below = befores (drop (suc k) below)

abbrev pub peeked_to : ℕ → List Asked → List Worked
peeked_to k below = passed k below ++ map (λ (a : Asked). a.peeked) (drop k (take (suc k) below)) ++ unasked k below

abbrev pub taken_at : ℕ → List Asked → List Worked
taken_at k below = passed k below ++ map (λ (a : Asked). a.taken) (drop k (take (suc k) below)) ++ unasked k below

abbrev pub notes_to : ℕ → List Asked → List Note
notes_to k below = flat_map (λ (a : Asked). a.rises) (take (suc k) below)

abbrev pub packet_at : ℕ → List Asked → Option Descriptor
packet_at k below = option_and_then (λ (a : Asked). a.shown) (slice_get below k)

none-passed : (mtu now : ℕ) → ArePassed mtu now [] [] [] [] None
none-passed mtu now = record {
  all_peeked = tt;
  all_taken = tt;
  told_peeked = tt;
  told_taken = tt;
  quiet = quiet-nil;
  peeks = λ w. omega (arith, lost-nil w);
  gives = λ w. omega (arith, weigh-nil w);
  marks = λ w. omega (arith, lost-nil w, marked-nil w);
  marks_given = λ w. omega (arith, weigh-nil w);
  stays = λ none. none;
  as_many_peeked = refl;
  as_many_taken = refl;
}

-- the child whose packet is given, before those that are not asked
one-given : (mtu now : ℕ) (a : Asked) (below : List Asked) → IsAnswer mtu now a → AreAnswers mtu now below
    → ArePassed mtu now (a ∷ below) (a.peeked ∷ befores below) (a.taken ∷ befores below) (a.rises ++ []) a.shown
one-given mtu now a below h all = record {
  all_peeked = (h.lawful_peeked, befores-lawful mtu now below all);
  all_taken = (h.lawful_taken, befores-lawful mtu now below all);
  told_peeked = (h.told_peeked, befores-told mtu now below all);
  told_taken = (h.told_taken, befores-told mtu now below all);
  quiet = quiet-append a.rises [] h.quiet quiet-nil;
  peeks = λ w. omega (arith, h.peeks w, lost-append w a.rises [], lost-nil w);
  gives = λ w. omega (arith, h.gives w);
  marks = λ w. omega (arith, h.marks w, lost-append w a.rises [], lost-nil w, marked-append w a.rises [], marked-nil w);
  marks_given = λ w. omega (arith, h.marks_given w);
  stays = λ none. omega (arith, none, h.stays (omega (arith, none)));
  as_many_peeked = refl;
  as_many_taken = refl;
}

-- one that is passed
one-passed : (mtu now : ℕ) (a : Asked) (below : List Asked) (peeked taken : List Worked) (notes : List Note) (packet : Option Descriptor)
    → IsAnswer mtu now a → ArePassed mtu now below peeked taken notes packet → ArePassed mtu now (a ∷ below) (a.peeked ∷ peeked) (a.peeked ∷ taken) (a.rises ++ notes) packet
one-passed mtu now a below peeked taken notes packet h rest = record {
  all_peeked = (h.lawful_peeked, rest.all_peeked);
  all_taken = (h.lawful_peeked, rest.all_taken);
  told_peeked = (h.told_peeked, rest.told_peeked);
  told_taken = (h.told_peeked, rest.told_taken);
  quiet = quiet-append a.rises notes h.quiet rest.quiet;
  peeks = λ w. omega (arith, h.peeks w, rest.peeks w, lost-append w a.rises notes);
  gives = λ w. omega (arith, rest.gives w);
  marks = λ w. omega (arith, h.marks w, rest.marks w, lost-append w a.rises notes, marked-append w a.rises notes);
  marks_given = λ w. omega (arith, rest.marks_given w);
  stays = λ none. omega (arith, h.stays (omega (arith, none)), rest.stays (omega (arith, none)));
  as_many_peeked = ap suc rest.as_many_peeked;
  as_many_taken = ap suc rest.as_many_taken;
}

are-passed : (mtu now k : ℕ) (below : List Asked) → AreAnswers mtu now below → ArePassed mtu now below (peeked_to k below) (taken_at k below) (notes_to k below) (packet_at k below)
are-passed mtu now zero [] all = none-passed mtu now
are-passed mtu now (suc k) [] all = none-passed mtu now
are-passed mtu now zero (a ∷ below) all = one-given mtu now a below all.0 all.1
are-passed mtu now (suc k) (a ∷ below) all =
    one-passed mtu now a below (peeked_to k below) (taken_at k below) (notes_to k below) (packet_at k below) all.0 (are-passed mtu now k below all.1)

-- a prio looks at how many children it has, and not at what they have
as-many : (mtu now : ℕ) (own : Own) (before after : List Worked) → length after ≡ length before → (priomap : List ℕ) → own.discipline ≡ Prio priomap → own.held ≡ None
    → ((w : Descriptor → ℕ) → weigh w (waiting own after) ≤ weigh w (waiting own before)) → IsLawfulOwn mtu now own (map beneath before) → IsLawfulOwn mtu now own (map beneath after)
as-many mtu now own before after e priomap d none fewer h =
    let same : length (map beneath after) ≡ length (map beneath before) = length-map after beneath ∙ e ∙ sym (length-map before beneath) in
    record {
      discipline = subst (λ x. IsLawfulDiscipline mtu now (map beneath after) x) (sym d)
          (let p : IsLawfulPrio priomap (map beneath before) = subst (λ x. IsLawfulDiscipline mtu now (map beneath before) x) d h.discipline in record {
            least = omega (arith, p.least, same);
            most = omega (arith, p.most, same);
            each = p.each;
            bands = subst (λ (n : ℕ). All (λ band. band < n) priomap) (sym same) p.bands;
          });
      lengths = lengths-among mtu (waiting own before) (waiting own after) fewer h.lengths;
      held = h.held;
      filters = h.filters;
      in_order = h.in_order;
      named = subst (λ (n : ℕ). All (λ (f : Filter). is_some (class_in n f.minor own.discipline) ≡ true) own.filters) (sym same) h.named;
    }

pub prio-answers : (mtu now : ℕ) (handle : Option ℕ) (filters : List Filter) (since : ℕ) (priomap : List ℕ) (below : List Asked)
    → (let own : Own = record { handle = handle; discipline = Prio priomap; held = None; since = since; filters = filters } in
    IsLawfulOwn mtu now own (map beneath (befores below)) → AreAnswers mtu now below → IsAnswer mtu now (ask_prio own below))
prio-answers mtu now handle filters since priomap below h all =
    let own : Own = record { handle = handle; discipline = Prio priomap; held = None; since = since; filters = filters } in
    let k : ℕ = position_or_len (λ (a : Asked). is_some a.shown) below in
    let p = are-passed mtu now k below all in
    let peeks : (w : Descriptor → ℕ) → weigh w (waiting own (befores below)) ≡ lost w (notes_to k below) + weigh w (waiting own (peeked_to k below)) =
    λ w. omega (arith, p.peeks w, weigh-waiting w own (befores below), weigh-waiting w own (peeked_to k below)) in
    let gives : (w : Descriptor → ℕ) → weigh w (waiting own (peeked_to k below)) ≡ weigh w (option_to_list (packet_at k below)) + weigh w (waiting own (taken_at k below)) =
    λ w. omega (arith, p.gives w, weigh-waiting w own (taken_at k below), weigh-waiting w own (peeked_to k below)) in
    is-shown mtu now below (record {
      own = own;
      own_taken = own;
      peeked = peeked_to k below;
      taken = taken_at k below;
      notes = notes_to k below;
      packet = packet_at k below;
    }) (record {
      handle_peeked = refl;
      handle_taken = refl;
      lawful = h;
      lawful_peeked = as-many mtu now own (befores below) (peeked_to k below) p.as_many_peeked priomap refl refl (λ w. omega (arith, peeks w)) h;
      lawful_taken = as-many mtu now own (befores below) (taken_at k below) p.as_many_taken priomap refl refl (λ w. omega (arith, peeks w, gives w)) h;
      all_before = befores-lawful mtu now below all;
      all_peeked = p.all_peeked;
      all_taken = p.all_taken;
      told_before = befores-told mtu now below all;
      told_peeked = p.told_peeked;
      told_taken = p.told_taken;
      quiet = p.quiet;
      peeks = peeks;
      gives = gives;
      marks = λ w. omega (arith, p.marks w, weigh-holds w own (befores below), weigh-holds w own (peeked_to k below));
      marks_given = λ w. omega (arith, p.marks_given w, weigh-holds w own (taken_at k below), weigh-holds w own (peeked_to k below));
      stays = λ none. omega (arith, weigh-waiting one own (befores below), weigh-nil one, p.stays (omega (arith, none, weigh-waiting one own (peeked_to k below))));
    })
