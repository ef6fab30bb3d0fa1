-- What holds of the answer of every node that is asked: what it and the nodes beneath it are before and after, what they
-- note, and the packet that is shown.
use Rattle.std.proofs.Common.{◌≡◌, ℕ, ◌+◌, ◌≤◌, List, [], ◌∷◌, ◌++◌, map, refl, sym, ap, subst, Option, None, arith}
use Rattle.std.specs.Option.{option_to_list}
use Rattle.std.proofs.lemmas.List.{append-nil}
use Rattle.q_packet.specs.Descriptor.{Descriptor}
use Rattle.q_model.specs.Tally.{Note, Sent}
use Rattle.q_model.specs.Node.{Own}
use Rattle.q_model.specs.Beneath.{beneath_own, beneath}
use Rattle.q_model.specs.Conserved.{held_own, held_beneath}
use Rattle.q_model.specs.Lawful.{IsLawfulOwn}
use Rattle.q_model.specs.Work.{Worked, worked}
use Rattle.q_model.specs.Ask.{Asked, befores, Showing, showing, Dequeue, dequeued}
use Rattle.q_invariants.specs.Kept.{AreLawful, IsLawfulRoot}
use Rattle.q_invariants.specs.Weights.{arrived, dropped, lost, marked, sent, weigh}
use Rattle.q_invariants.proofs.sums.Told.{IsRootTold}
use Rattle.q_invariants.proofs.sums.Weights.{IsQuiet, arrived-nil, sent-nil, lost-nil, dropped-nil, marked-nil, arrived-append, sent-append, lost-append, dropped-append, marked-append, arrived-given, sent-given, lost-given, dropped-given, marked-given}
use Rattle.q_invariants.proofs.tree.Forests.{each-side, AreTold, lawful-side, told-side}
use Rattle.q_model.specs.Since.{since_of}

-- a peek leaves a packet where there was one
abbrev pub one : Descriptor → ℕ
one p = 1

pub record IsAnswer (mtu now : ℕ) (a : Asked) : Type 0 where
  pub lawful_before : IsLawfulRoot mtu now a.before
  pub lawful_peeked : IsLawfulRoot mtu now a.peeked
  pub lawful_taken : IsLawfulRoot mtu now a.taken
  pub told_before : IsRootTold a.before a.before
  pub told_peeked : IsRootTold a.before a.peeked
  pub told_taken : IsRootTold a.before a.taken
  pub quiet : IsQuiet a.rises
  pub peeks : (w : Descriptor → ℕ) → weigh w (beneath a.before) ≡ lost w a.rises + weigh w (beneath a.peeked)
  pub gives : (w : Descriptor → ℕ) → weigh w (beneath a.peeked) ≡ weigh w (option_to_list a.shown) + weigh w (beneath a.taken)
  pub marks : (w : Descriptor → ℕ) → marked w a.rises + weigh w (held_beneath a.before) ≤ lost w a.rises + weigh w (held_beneath a.peeked)
  pub marks_given : (w : Descriptor → ℕ) → weigh w (held_beneath a.peeked) ≤ weigh w (option_to_list a.shown) + weigh w (held_beneath a.taken)
  pub stays : weigh one (beneath a.peeked) ≡ 0 → weigh one (beneath a.before) ≡ 0

abbrev pub AreAnswers : ℕ → ℕ → List Asked → Type 0
AreAnswers mtu now [] = Unit {0}
AreAnswers mtu now (a ∷ below) = IsAnswer mtu now a × AreAnswers mtu now below

-- notes of what a node did that are of no packet
pub record IsSilent (notes : List Note) : Type 0 where
  pub no_arrival : (w : Descriptor → ℕ) → arrived w notes ≡ 0
  pub nothing_sent : (w : Descriptor → ℕ) → sent w notes ≡ 0
  pub nothing_lost : (w : Descriptor → ℕ) → lost w notes ≡ 0
  pub nothing_dropped : (w : Descriptor → ℕ) → dropped w notes ≡ 0
  pub nothing_marked : (w : Descriptor → ℕ) → marked w notes ≡ 0

pub silent-nil : IsSilent []
silent-nil = record { no_arrival = arrived-nil; nothing_sent = sent-nil; nothing_lost = lost-nil; nothing_dropped = dropped-nil; nothing_marked = marked-nil }

pub silent-append : (ms ns : List Note) → IsSilent ms → IsSilent ns → IsSilent (ms ++ ns)
silent-append ms ns a b = record {
  no_arrival = λ w. omega (arith, arrived-append w ms ns, a.no_arrival w, b.no_arrival w);
  nothing_sent = λ w. omega (arith, sent-append w ms ns, a.nothing_sent w, b.nothing_sent w);
  nothing_lost = λ w. omega (arith, lost-append w ms ns, a.nothing_lost w, b.nothing_lost w);
  nothing_dropped = λ w. omega (arith, dropped-append w ms ns, a.nothing_dropped w, b.nothing_dropped w);
  nothing_marked = λ w. omega (arith, marked-append w ms ns, a.nothing_marked w, b.nothing_marked w);
}

pub beneath-worked : (own : Own) (notes : List Note) (ns : List Worked) → beneath (worked own notes ns) ≡ beneath_own own (map beneath ns)
beneath-worked own notes ns = ap (beneath_own own) (each-side beneath_own ns)

pub held-worked : (own : Own) (notes : List Note) (ns : List Worked) → held_beneath (worked own notes ns) ≡ held_own own (map held_beneath ns)
held-worked own notes ns = ap (held_own own) (each-side held_own ns)

pub lawful-worked : (mtu now : ℕ) (own : Own) (notes : List Note) (ns : List Worked) → IsLawfulOwn mtu now own (map beneath ns) → AreLawful mtu now ns → IsLawfulRoot mtu now (worked own notes ns)
lawful-worked mtu now own notes ns h all = (subst (IsLawfulOwn mtu now own) (sym (each-side beneath_own ns)) h, lawful-side mtu now ns all)

-- the packets of a node with these children, and those held
abbrev pub waiting : Own → List Worked → List Descriptor
waiting own ns = beneath_own own (map beneath ns)

abbrev pub holds : Own → List Worked → List Descriptor
holds own ns = held_own own (map held_beneath ns)

-- a node before it is asked, while it shows a packet, and once that is taken: what each has, and what is told
pub record IsAsked (mtu now : ℕ) (own own_peeked own_taken : Own) (below : List Asked) (peeked taken : List Worked) (rises : List Note) (shown : Option Descriptor) : Type 0 where
  pub handle_peeked : own_peeked.handle ≡ own.handle
  pub handle_taken : own_taken.handle ≡ own.handle
  pub lawful : IsLawfulOwn mtu now own (map beneath (befores below))
  pub lawful_peeked : IsLawfulOwn mtu now own_peeked (map beneath peeked)
  pub lawful_taken : IsLawfulOwn mtu now own_taken (map beneath taken)
  pub all_before : AreLawful mtu now (befores below)
  pub all_peeked : AreLawful mtu now peeked
  pub all_taken : AreLawful mtu now taken
  pub told_before : AreTold (befores below) (befores below)
  pub told_peeked : AreTold (befores below) peeked
  pub told_taken : AreTold (befores below) taken
  pub quiet : IsQuiet rises
  pub peeks : (w : Descriptor → ℕ) → weigh w (waiting own (befores below)) ≡ lost w rises + weigh w (waiting own_peeked peeked)
  pub gives : (w : Descriptor → ℕ) → weigh w (waiting own_peeked peeked) ≡ weigh w (option_to_list shown) + weigh w (waiting own_taken taken)
  pub marks : (w : Descriptor → ℕ) → marked w rises + weigh w (holds own (befores below)) ≤ lost w rises + weigh w (holds own_peeked peeked)
  pub marks_given : (w : Descriptor → ℕ) → weigh w (holds own_peeked peeked) ≤ weigh w (option_to_list shown) + weigh w (holds own_taken taken)
  pub stays : weigh one (waiting own_peeked peeked) ≡ 0 → weigh one (waiting own (befores below)) ≡ 0

-- the whole answer, where the node notes `mine` besides
abbrev pub answer_of : Own → Own → Own → List Asked → List Worked → List Worked → List Note → List Note → List Note → Option Descriptor → Asked
answer_of own own_peeked own_taken below peeked taken rises notes notes_taken shown = record {
  before = worked own [] (befores below);
  peeked = worked own_peeked notes peeked;
  shown = shown;
  taken = worked own_taken notes_taken taken;
  rises = rises;
}

pub is-answer : (mtu now : ℕ) (own own_peeked own_taken : Own) (below : List Asked) (peeked taken : List Worked) (rises mine : List Note) (shown : Option Descriptor)
    → IsAsked mtu now own own_peeked own_taken below peeked taken rises shown → IsSilent mine
    → IsAnswer mtu now (answer_of own own_peeked own_taken below peeked taken rises (rises ++ mine) (rises ++ mine ++ map Sent (option_to_list shown)) shown)
is-answer mtu now own own_peeked own_taken below peeked taken rises mine shown h silent =
    let given : List Note = map Sent (option_to_list shown) in
    let all : List Note = rises ++ mine ++ given in
    let b0 = beneath-worked own [] (befores below) in
    let b1 = beneath-worked own_peeked (rises ++ mine) peeked in
    let b2 = beneath-worked own_taken all taken in
    let h0 = held-worked own [] (befores below) in
    let h1 = held-worked own_peeked (rises ++ mine) peeked in
    let h2 = held-worked own_taken all taken in
    record {
      lawful_before = lawful-worked mtu now own [] (befores below) h.lawful h.all_before;
      lawful_peeked = lawful-worked mtu now own_peeked (rises ++ mine) peeked h.lawful_peeked h.all_peeked;
      lawful_taken = lawful-worked mtu now own_taken all taken h.lawful_taken h.all_taken;
      told_before = (
        record {
          conserved = λ w. omega (arith, arrived-nil w, sent-nil w, lost-nil w);
          marks = λ w. omega (arith, marked-nil w, sent-nil w, dropped-nil w);
        },
        refl,
        told-side (befores below) (befores below) h.told_before,
      );
      told_peeked = (
        record {
          conserved = λ w. omega (
            arith,
            ap (weigh w) b0,
            ap (weigh w) b1,
            h.peeks w,
            h.quiet.no_arrival w,
            h.quiet.nothing_sent w,
            silent.no_arrival w,
            silent.nothing_sent w,
            silent.nothing_lost w,
            arrived-append w rises mine,
            sent-append w rises mine,
            lost-append w rises mine,
          );
          marks = λ w. omega (
            arith,
            ap (weigh w) h0,
            ap (weigh w) h1,
            h.marks w,
            h.quiet.all_dropped w,
            silent.nothing_dropped w,
            silent.nothing_marked w,
            marked-append w rises mine,
            dropped-append w rises mine,
          );
        },
        h.handle_peeked,
        told-side (befores below) peeked h.told_peeked,
      );
      told_taken = (
        record {
          conserved = λ w. omega (
            arith,
            ap (weigh w) b0,
            ap (weigh w) b2,
            h.peeks w,
            h.gives w,
            h.quiet.no_arrival w,
            h.quiet.nothing_sent w,
            silent.no_arrival w,
            silent.nothing_sent w,
            silent.nothing_lost w,
            arrived-append w rises mine,
            sent-append w rises mine,
            lost-append w rises mine,
            arrived-append w (rises ++ mine) given,
            sent-append w (rises ++ mine) given,
            lost-append w (rises ++ mine) given,
            arrived-given w shown,
            sent-given w shown,
            lost-given w shown,
          );
          marks = λ w. omega (
            arith,
            ap (weigh w) h0,
            ap (weigh w) h2,
            h.marks w,
            h.marks_given w,
            h.quiet.all_dropped w,
            h.quiet.nothing_sent w,
            silent.nothing_dropped w,
            silent.nothing_marked w,
            silent.nothing_sent w,
            marked-append w rises mine,
            dropped-append w rises mine,
            sent-append w rises mine,
            marked-append w (rises ++ mine) given,
            sent-append w (rises ++ mine) given,
            dropped-append w (rises ++ mine) given,
            marked-given w shown,
            sent-given w shown,
            dropped-given w shown,
          );
        },
        h.handle_taken,
        told-side (befores below) taken h.told_taken,
      );
      quiet = h.quiet;
      peeks = λ w. omega (arith, ap (weigh w) b0, ap (weigh w) b1, h.peeks w);
      gives = λ w. omega (arith, ap (weigh w) b1, ap (weigh w) b2, h.gives w);
      marks = λ w. omega (arith, ap (weigh w) h0, ap (weigh w) h1, h.marks w);
      marks_given = λ w. omega (arith, ap (weigh w) h1, ap (weigh w) h2, h.marks_given w);
      stays = λ e. omega (arith, ap (weigh one) b0, h.stays (omega (arith, e, ap (weigh one) b1)));
    }

-- one that shows what it has at hand
pub is-shown : (mtu now : ℕ) (below : List Asked) (s : Showing) → IsAsked mtu now s.own s.own s.own_taken below s.peeked s.taken s.notes s.packet → IsAnswer mtu now (showing below s)
is-shown mtu now below s h =
    subst (λ (notes : List Note). IsAnswer mtu now
    (answer_of s.own s.own s.own_taken below s.peeked s.taken s.notes notes (notes ++ map Sent (option_to_list s.packet)) s.packet))
    (append-nil s.notes)
    (is-answer mtu now s.own s.own s.own_taken below s.peeked s.taken s.notes [] s.packet h silent-nil)

-- one that dequeues it
pub is-dequeued : (mtu now : ℕ) (own : Own) (below : List Asked) (d : Dequeue)
    → IsAsked mtu now own (record d.after { held = d.packet; since = since_of d.packet d.since }) (record d.after { held = None; since = 0 }) below
    d.children d.children d.rises d.packet
    → IsSilent d.mine → IsAnswer mtu now (dequeued own below d)
is-dequeued mtu now own below d h silent =
    is-answer mtu now own (record d.after { held = d.packet; since = since_of d.packet d.since }) (record d.after { held = None; since = 0 }) below
    d.children d.children d.rises d.mine d.packet h silent
