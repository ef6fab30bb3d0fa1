use Rattle.std.proofs.Common.{◌≡◌, ◌∙◌, sym, ap, arith, Some, option_map, ◌≤◌}
use Rattle.std.specs.Prelude.{sum_by}
use Rattle.std.proofs.lemmas.Option.{slice_get_within}
use Rattle.q_drr.specs.Schedule.{Class, quantum_of}
use Rattle.q_drr.proofs.DifferLemmas.{differ_from_pairs}
use Rattle.q_invariants.proofs.tree.Members.{All-at}
use Rattle.q_tree.specs.answers.Ways.{share_among}
use Rattle.q_tree.proofs.answers.WayLemmas.{IsAt, IsNamed, is-at, is-named, named-has}
use Rattle.q_tree.proofs.answers.ways.share_in.Goals as goal

pub quantum-requires : goal.quantum-requires
quantum-requires c =
    let classes = c.args.active.now.classes in
    named-has classes c.args.place c.in_ok-class.class (differ_from_pairs (λ (k : Class). k.name) classes c.class_at.ensures.lawful.classes_differ) (sym c.class_at.ensures.value ∙ c.in_ok-class.was)

pub returns-clause-value : goal.returns-clause-value
returns-clause-value c =
    let classes = c.args.active.now.classes in
    let n : IsNamed classes c.args.place c.in_ok-class.class = is-named classes c.args.place c.in_ok-class.class (sym c.class_at.ensures.value ∙ c.in_ok-class.was) in
    let at : IsAt classes c.args.place n.class = is-at classes c.args.place n.class (differ_from_pairs (λ (k : Class). k.name) classes c.class_at.ensures.lawful.classes_differ) n.there in
    ap (λ q. Some (record { quantum = q; quanta = c.quanta_of.result; classes = c.count.result })) (c.quantum.ensures ∙ ap (λ k. quantum_of k classes) (sym n.named) ∙ at.quantum)
    ∙ ap (λ q. Some (record { quantum = n.class.quantum; quanta = q; classes = c.count.result })) c.quanta_of.ensures.value
    ∙ ap (λ k. Some (record { quantum = n.class.quantum; quanta = sum_by (λ (c : Class). c.quantum) classes; classes = k })) c.count.ensures.value
    ∙ sym (ap (option_map (λ (k : Class). share_among k classes)) n.there)

pub returns-clause-ranges : goal.returns-clause-ranges
returns-clause-ranges c =
    let classes = c.args.active.now.classes in
    let n : IsNamed classes c.args.place c.in_ok-class.class = is-named classes c.args.place c.in_ok-class.class (sym c.class_at.ensures.value ∙ c.in_ok-class.was) in
    let at : IsAt classes c.args.place n.class = is-at classes c.args.place n.class (differ_from_pairs (λ (k : Class). k.name) classes c.class_at.ensures.lawful.classes_differ) n.there in
    let quantum : c.quantum.result ≡ n.class.quantum = c.quantum.ensures ∙ ap (λ k. quantum_of k classes) (sym n.named) ∙ at.quantum in
    let positive : 1 ≤ n.class.quantum = All-at (λ (k : Class). 1 ≤ k.quantum) classes c.args.place n.class c.class_at.ensures.lawful.quanta n.there in
    let inside = slice_get_within classes c.args.place n.class n.there in
    record {
      positive = omega (arith, quantum, positive);
      part = omega (arith, quantum, at.part, c.quanta_of.ensures.value);
      some = omega (arith, inside, c.count.ensures.value);
      few = c.count.ensures.bound;
      bounded = omega (arith, c.quanta_of.ensures.bound, c.count.ensures.value);
    }
