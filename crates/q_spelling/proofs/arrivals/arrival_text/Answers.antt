use Rattle.std.proofs.Common.{rules, ◌≡◌, ◌++◌, [], ◌∷◌, codes, decimal}
use Rattle.q_packet.specs.Ecn.{codepoint}
use Rattle.q_line.specs.Spelling.{address_words, given, hex, version_in}
use Rattle.q_spelling.specs.Words.{spaced}
use Rattle.q_spelling.proofs.Spelled.{line, then}
use Rattle.q_spelling.proofs.arrivals.arrival_text.Goals as goal

pub returns : goal.returns
returns c =
    let a = c.args.arrival.now in
    let end = c.put_number-5.new.text in
    let hash = given (codes "hash") decimal a.hash in
    let prio = codes "prio" ∷ decimal a.prio ∷ [] in
    let proto = codes "ip_proto" ∷ hex a.key.proto ∷ [] in
    let addresses = address_words (version_in a.key.family) a.key.src a.key.dst in
    let sport = codes "src_port" ∷ decimal a.key.sport ∷ [] in
    let dport = codes "dst_port" ∷ decimal a.key.dport ∷ [] in
    let ecn = codes "ecn" ∷ decimal (codepoint a.ecn) ∷ [] in
    let p1 : c.put_number.new.self ≡ codes "pkt" ++ spaced (decimal a.len ∷ []) = search rules in
    let p2 : c.put_given.new.text ≡ c.put_number.new.self ++ spaced hash = search rules in
    let p3 : c.put_number-2.new.text ≡ c.put_given.new.text ++ spaced prio = search rules in
    let p4 : c.put_hexadecimal.new.text ≡ c.put_number-2.new.text ++ spaced proto = search rules in
    let p5 : c.put_addresses.new.text ≡ c.put_hexadecimal.new.text ++ spaced addresses = search rules in
    let p6 : c.put_number-3.new.text ≡ c.put_addresses.new.text ++ spaced sport = search rules in
    let p7 : c.put_number-4.new.text ≡ c.put_number-3.new.text ++ spaced dport = search rules in
    let p8 : end ≡ c.put_number-4.new.text ++ spaced ecn = search rules in
    let q7 = then c.put_number-3.new.text c.put_number-4.new.text end dport ecn p7 p8 in
    let q6 = then c.put_addresses.new.text c.put_number-3.new.text end sport (dport ++ ecn) p6 q7 in
    let q5 = then c.put_hexadecimal.new.text c.put_addresses.new.text end addresses (sport ++ (dport ++ ecn)) p5 q6 in
    let q4 = then c.put_number-2.new.text c.put_hexadecimal.new.text end proto (addresses ++ (sport ++ (dport ++ ecn))) p4 q5 in
    let q3 = then c.put_given.new.text c.put_number-2.new.text end prio (proto ++ (addresses ++ (sport ++ (dport ++ ecn)))) p3 q4 in
    let q2 = then c.put_number.new.self c.put_given.new.text end hash (prio ++ (proto ++ (addresses ++ (sport ++ (dport ++ ecn))))) p2 q3 in
    line (codes "pkt") (decimal a.len ∷ []) (hash ++ (prio ++ (proto ++ (addresses ++ (sport ++ (dport ++ ecn)))))) c.put_number.new.self end p1 q2
