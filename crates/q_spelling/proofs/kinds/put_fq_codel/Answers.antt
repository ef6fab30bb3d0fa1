use Rattle.std.proofs.Common.{rules, ◌≡◌, ◌++◌, [], ◌∷◌, codes, decimal}
use Rattle.q_line.specs.Spelling.{bytes_word, ecn_words, fq_codel_words, given, time_word}
use Rattle.q_spelling.specs.Words.{spaced}
use Rattle.q_spelling.proofs.Spelled.{then}
use Rattle.q_spelling.proofs.kinds.put_fq_codel.Goals as goal

pub returns-clause-text : goal.returns-clause-text
returns-clause-text c =
    let o = c.args.options.now in
    let end = c.put_given-3.new.text in
    let limit = given (codes "limit") decimal o.limit in
    let flows = given (codes "flows") decimal o.flows in
    let quantum = given (codes "quantum") bytes_word o.quantum in
    let target = given (codes "target") time_word o.target in
    let interval = given (codes "interval") time_word o.interval in
    let ecn = ecn_words o.ecn in
    let batch = given (codes "drop_batch") decimal o.drop_batch in
    let p1 : c.put_given.new.text ≡ c.put.new.self ++ spaced limit = search rules in
    let p2 : c.put_given-2.new.text ≡ c.put_given.new.text ++ spaced flows = search rules in
    let p3 : c.put_given_bytes.new.text ≡ c.put_given-2.new.text ++ spaced quantum = search rules in
    let p4 : c.put_given_time.new.text ≡ c.put_given_bytes.new.text ++ spaced target = search rules in
    let p5 : c.put_given_time-2.new.text ≡ c.put_given_time.new.text ++ spaced interval = search rules in
    let p6 : c.put_ecn.new.text ≡ c.put_given_time-2.new.text ++ spaced ecn = search rules in
    let p7 : end ≡ c.put_ecn.new.text ++ spaced batch = search rules in
    let q6 = then c.put_given_time-2.new.text c.put_ecn.new.text end ecn batch p6 p7 in
    let q5 = then c.put_given_time.new.text c.put_given_time-2.new.text end interval (ecn ++ batch) p5 q6 in
    let q4 = then c.put_given_bytes.new.text c.put_given_time.new.text end target (interval ++ (ecn ++ batch)) p4 q5 in
    let q3 = then c.put_given-2.new.text c.put_given_bytes.new.text end quantum (target ++ (interval ++ (ecn ++ batch))) p3 q4 in
    let q2 = then c.put_given.new.text c.put_given-2.new.text end flows (quantum ++ (target ++ (interval ++ (ecn ++ batch)))) p2 q3 in
    let q1 = then c.put.new.self c.put_given.new.text end limit (flows ++ (quantum ++ (target ++ (interval ++ (ecn ++ batch))))) p1 q2 in
    then c.args.text.now c.put.new.self end (codes "fq_codel" ∷ []) (fq_codel_words o) c.put.ensures.text q1
