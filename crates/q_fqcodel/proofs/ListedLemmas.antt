-- A selection and a packet that is sent list no flow that was not listed.
use Rattle.std.proofs.Common.{◌≡◌, ℕ, suc, ◌<◌, ◌≤◌, Bool, List, [], ◌∷◌, ◌++◌, map, take, drop, Option, Some, None, refl, ap, ◌∙◌, arith, ⊎_elim}
use Rattle.std.proofs.lemmas.Bool.{cases_lt}
use Rattle.q_packet.specs.Choice.{Choice}
use Rattle.q_fqcodel.specs.Entry.{Entry}
use Rattle.q_fqcodel.specs.Quanta.{need, given, stay}
use Rattle.q_fqcodel.specs.Selection.{chosen, turned, first_ready, moved, with_rest, arranged}
use Rattle.q_fqcodel.specs.FqState.{FqState, is_idle}
use Rattle.q_fqcodel.specs.Lawful.{times}
use Rattle.q_fqcodel.specs.Take.{front, paid, sent_from, selected, after_sending}
use Rattle.q_fqcodel.proofs.LawfulLemmas.{times-cons, times-append, one_same}
use Rattle.q_fqcodel.proofs.QuantaLemmas.{flow-given, stay-nil, stay_kept, stay_dropped}
use Rattle.q_fqcodel.proofs.SentLemmas.{flow-paid, front_is, front_none, after_none, after_sending_written, lists_written}
use Rattle.q_fqcodel.proofs.GivenLemmas.{times_split, times-moved}

times_stayed : (n q k : ℕ) (es : List Entry) → times n (stay q k es) ≤ times n es
times_stayed n q k [] = omega (arith, ap (times n) (stay-nil q k))
times_stayed n q k (e ∷ es) =
    ⊎_elim
    (λ (few : need q e < k). omega (arith, ap (times n) (stay_dropped q k e es few), times_stayed n q k es, times-cons n e es))
    (λ (more : k ≤ need q e).
    omega (
      arith,
      ap (times n) (stay_kept q k e es more),
      times-cons n (given q k e) (stay q k es),
      one_same n e (given q k e) (flow-given q k e),
      times_stayed n q k es,
      times-cons n e es,
    ))
    (cases_lt (need q e) k)

times_turned : (n q : ℕ) (es : List Entry) (o : Option Choice) → times n ((turned q es o).new_flows ++ (turned q es o).old_flows) ≤ times n es
unfolding turned
times_turned n q es None = omega arith
times_turned n q es (Some c) =
    omega (
      arith,
      times-append n (stay q c.rounds (drop c.place es)) (stay q (suc c.rounds) (take c.place es)),
      times_stayed n q c.rounds (drop c.place es),
      times_stayed n q (suc c.rounds) (take c.place es),
      times_split n c.place es,
    )

times_rest : (n q : ℕ) (idle : ℕ → Bool) (rest old : List Entry) → times n ((with_rest q idle rest old).new_flows ++ (with_rest q idle rest old).old_flows) ≤ times n (rest ++ old)
unfolding with_rest
times_rest n q idle [] old = times_turned n q old (chosen q idle old)
times_rest n q idle (r ∷ rs) old = omega arith

pub times_selected : (n : ℕ) (s : FqState) → times n ((selected s).new_flows ++ (selected s).old_flows) ≤ times n (s.new_flows ++ s.old_flows)
unfolding selected arranged
times_selected n s =
    let q : ℕ = s.settings.quantum in
    let p : ℕ = first_ready q (is_idle s.flows) s.new_flows in
    let old : List Entry = s.old_flows ++ map (moved q) (take p s.new_flows) in
    omega (
      arith,
      times_rest n q (is_idle s.flows) (drop p s.new_flows) old,
      times-append n (drop p s.new_flows) old,
      times-append n s.old_flows (map (moved q) (take p s.new_flows)),
      times-moved q n (take p s.new_flows),
      times-append n s.new_flows s.old_flows,
      times_split n p s.new_flows,
    )

pub times_sent : (n now : ℕ) (s : FqState) → times n ((after_sending now s).new_flows ++ (after_sending now s).old_flows) ≡ times n (s.new_flows ++ s.old_flows)
times_sent n now s = by (front s) refl
  where
    by : (o : Option Entry) → front s ≡ o → times n ((after_sending now s).new_flows ++ (after_sending now s).old_flows) ≡ times n (s.new_flows ++ s.old_flows)
    by None f = let none = front_none s f in ap (λ (t : FqState). times n (t.new_flows ++ t.old_flows)) (after_none s now none.0 none.1)
    by (Some e) f =
        let m : Entry = paid (sent_from now s) e in
        let rest : List Entry = drop 1 (s.new_flows ++ s.old_flows) in
        let written : (after_sending now s).new_flows ++ (after_sending now s).old_flows ≡ m ∷ rest =
        ap (λ (t : FqState). t.new_flows ++ t.old_flows) (after_sending_written s e now f) ∙ lists_written s m e f in
        omega (arith, ap (times n) written, times-cons n m rest, one_same n e m (flow-paid (sent_from now s) e), ap (times n) (front_is s e f), times-cons n e rest)
