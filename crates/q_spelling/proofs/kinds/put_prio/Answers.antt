use Rattle.std.proofs.Common.{rules, ◌≡◌, ◌++◌, [], ◌∷◌, codes, decimal, map}
use Rattle.q_spelling.specs.Words.{spaced}
use Rattle.q_spelling.proofs.Spelled.{then}
use Rattle.q_spelling.proofs.kinds.put_prio.Goals as goal

pub returns-clause-text : goal.returns-clause-text
returns-clause-text c =
    let o = c.args.options.now in
    let bands : c.put_number.new.text ≡ c.put.new.self ++ spaced (codes "bands" ∷ decimal o.bands ∷ []) = search rules in
    let numbers : c.put_bands.new.text ≡ c.put-2.new.self ++ spaced (map decimal o.priomap) = search rules in
    let priomap = then c.put_number.new.text c.put-2.new.self c.put_bands.new.text (codes "priomap" ∷ []) (map decimal o.priomap) c.put-2.ensures.text numbers in
    let options = then c.put.new.self c.put_number.new.text c.put_bands.new.text (codes "bands" ∷ decimal o.bands ∷ []) (codes "priomap" ∷ map decimal o.priomap) bands priomap in
    then c.args.text.now c.put.new.self c.put_bands.new.text (codes "prio" ∷ []) (codes "bands" ∷ decimal o.bands ∷ codes "priomap" ∷ map decimal o.priomap) c.put.ensures.text options
