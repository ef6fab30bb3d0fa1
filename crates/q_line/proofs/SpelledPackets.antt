-- A packet that is written is read as itself: the fields of a `pkt` line one by one, and the bytes of a `frame` line.
use Rattle.std.proofs.Common.{◌≡◌, ◌∙◌, ℕ, ◌+◌, ◌*◌, ◌/◌, ◌%◌, ◌<◌, ◌≤◌, ◌^◌, Bool, true, false, not, List, [], ◌∷◌, ◌++◌, length, ltb, eqb, Option, Some, None, IfSome, IsTrue, Ok, Err, option_map, refl, sym, ap, arith, if◌then◌else◌, codes, lit<}
use Rattle.std.specs.List.{AllByRecursion}
use Rattle.std.specs.Option.{option_map_or}
use Rattle.std.specs.Fmt.{decimal, digit_glyph}
use Rattle.std.specs.Char.{digit_value, is_digit}
use Rattle.std.specs.Str.Parse.{digits_value}
use Rattle.std.proofs.lemmas.Bool.{eq-eqb, eqb-true, lt-ltb}
use Rattle.std.proofs.lemmas.Bool.Decides.{nat_tests}
use Rattle.std.proofs.lemmas.Fmt.{hex_one_digit}
use Rattle.std.proofs.lemmas.Int.Digits.{digits_value_push}
use Rattle.std.proofs.lemmas.List.Elements.{recursion_from_All}
use Rattle.q_packet.specs.Ecn.{codepoint, ecn_of}
use Rattle.q_packet.specs.Head.{head as head_in}
use Rattle.q_packet.specs.Key.{Key, IsKey, address_bits, is_family}
use Rattle.q_packet.specs.declared.ecn.Ecn.{Ecn}
use Rattle.q_packet.specs.declared.ecn.Ecn.TheVariants.{NotEct, Ect1, Ect0, Ce}
use Rattle.q_words.specs.Addresses.{Address, bytes_from, frame_of}
use Rattle.q_words.specs.Values.{is_digits, is_numeral, number_in}
use Rattle.q_words.specs.Words.{is_blank, is_filled}
use Rattle.q_words.specs.declared.wrong.Wrong.TheVariants.{BadNumber, OutOfRange}
use Rattle.q_line.proofs.SpelledWords.{both, digit_not_blank, digit_small, every_digit, left_of, number_read, right_of}
use Rattle.q_model.specs.Filters.{family_of}
use Rattle.q_model.specs.Numbers.{IsWithin, most_u32}
use Rattle.q_model.specs.Options.{bits_of}
use Rattle.q_model.specs.declared.ip_version.IpVersion.{IpVersion}
use Rattle.q_model.specs.declared.ip_version.IpVersion.TheVariants.{V4, V6}
use Rattle.q_line.specs.Drafts.{no_fields}
use Rattle.q_line.specs.Grammar.{framed, of_version, packet_version, same_version, value}
use Rattle.q_line.specs.Positions.{Position, first, pkt, packet, packet_value, frame, frame_bytes, whole}
use Rattle.q_line.specs.Ranges.{IsArrival, IsPacketBytes}
use Rattle.q_line.specs.Spelling.{address_word, address_words, arrival_words, byte_digits, given, hex, packet_word, version_in}
use Rattle.q_line.specs.declared.arrival.Arrival.{Arrival}
use Rattle.q_line.specs.declared.line.Line.TheVariants as line
use Rattle.q_line.specs.declared.packet_draft.PacketDraft.{PacketDraft}
use Rattle.q_line.specs.declared.packet_field.PacketField.TheVariants as field
use Rattle.q_line.proofs.SpelledAddresses6.{address_good, address_read}
use Rattle.q_line.proofs.SpelledProtocols.{proto_read}
use Rattle.q_line.proofs.SpelledSteps.{Path, Says, Word, decimal_word, ended_says, hex_word, nowhere, number_reads, option, pair, chain, word}
use Rattle.q_line.proofs.SpelledValues.{Hex, hex_of}

-- the fields so far
abbrev fields : ℕ → Option ℕ → Option ℕ → Option ℕ → Option Address → Option Address → Option ℕ → Option ℕ → Option Ecn → PacketDraft
fields len hash prio proto src dst sport dport ecn =
    record { len = len; hash = hash; prio = prio; ip_proto = proto; src_ip = src; dst_ip = dst; src_port = sport; dst_port = dport; ecn = ecn }

abbrev begun : ℕ → Option ℕ → Position
begun len hash = packet (fields len hash None None None None None None None)

abbrev addressed : ℕ → Option ℕ → ℕ → ℕ → Option Address → Option Address → Position
addressed len hash prio proto src dst = packet (fields len hash (Some prio) (Some proto) src dst None None None)

start : (len : ℕ) → IsWithin 1 65535 len → Path first (begun len None) (codes "pkt" ∷ decimal len ∷ [])
start len h = let few = h.1 in
    pair first pkt (begun len None) (codes "pkt") (decimal len) (refl, refl) (decimal_word len (omega arith)) (λ i. refl)
    (λ i. ap (λ r. value r (λ n. packet (no_fields n))) (number_read 1 65535 len h.0 h.1 (lit< tt)))

hashed : (len : ℕ) (hash : Option ℕ) → IfSome hash (IsWithin 0 most_u32) → Path (begun len None) (begun len hash) (given (codes "hash") decimal hash)
hashed len hash h =
    option (codes "hash") decimal (number_in 0 most_u32) hash (begun len) (packet_value field.Hash (no_fields len)) (refl, refl) (λ i. refl)
    (λ i a e. ap (λ r. value (value r (λ n. fields len (Some n) None None None None None None None)) packet) e)
    (number_reads 0 most_u32 hash (lit< tt) h)

ranked : (len : ℕ) (hash : Option ℕ) (prio proto : ℕ) → prio ≤ 15 → proto < 2 ^ 8
    → Path (begun len hash) (addressed len hash prio proto None None) (codes "prio" ∷ decimal prio ∷ codes "ip_proto" ∷ hex proto ∷ [])
ranked len hash prio proto h k =
    let d = fields len hash None None None None None None None in
    let e = fields len hash (Some prio) None None None None None None in
    chain (packet d) (packet e) (addressed len hash prio proto None None) (codes "prio" ∷ decimal prio ∷ []) (codes "ip_proto" ∷ hex proto ∷ [])
    (pair (packet d) (packet_value field.Prio d) (packet e) (codes "prio") (decimal prio) (refl, refl) (decimal_word prio (omega arith)) (λ i. refl)
    (λ i. ap (λ r. value (value r (λ n. fields len hash (Some n) None None None None None None)) packet) (number_read 0 15 prio (omega arith) h (lit< tt))))
    (pair (packet e) (packet_value field.IpProto e) (addressed len hash prio proto None None) (codes "ip_proto") (hex proto) (refl, refl) (hex_word proto (omega arith)) (λ i. refl)
    (λ i. ap (λ r. value (value r (λ n. fields len hash (Some prio) (Some n) None None None None None)) packet) (proto_read proto (omega arith))))

abbrev some_address : Option IpVersion → ℕ → Option Address
some_address v a = option_map (λ w. record { version = w; address = a }) v

same : (v : IpVersion) → same_version v v ≡ true
same V4 = refl
same V6 = refl

addresses : (len : ℕ) (hash : Option ℕ) (prio proto src dst : ℕ) (v : Option IpVersion) → IfSome v (λ w. (src < 2 ^ bits_of w) × (dst < 2 ^ bits_of w))
    → Path (addressed len hash prio proto None None) (addressed len hash prio proto (some_address v src) (some_address v dst)) (address_words v src dst)
addresses len hash prio proto src dst None h = nowhere (addressed len hash prio proto None None)
addresses len hash prio proto src dst (Some v) h =
    let d = fields len hash (Some prio) (Some proto) None None None None None in
    let a : Address = record { version = v; address = src } in
    let b : Address = record { version = v; address = dst } in
    let e = fields len hash (Some prio) (Some proto) (Some a) None None None None in
    let q = addressed len hash prio proto (Some a) (Some b) in
    chain (packet d) (packet e) q (codes "src_ip" ∷ address_word v src ∷ []) (codes "dst_ip" ∷ address_word v dst ∷ [])
    (pair (packet d) (packet_value field.SrcIp d) (packet e) (codes "src_ip") (address_word v src) (refl, refl) (address_good v src) (λ i. refl)
    (λ i. ap (λ r. value (value (of_version None (λ (x : Address). x.version) r) (λ x. fields len hash (Some prio) (Some proto) (Some x) None None None None)) packet) (address_read v src h.0)))
    (pair (packet e) (packet_value field.DstIp e) q (codes "dst_ip") (address_word v dst) (refl, refl) (address_good v dst) (λ i. refl)
    (λ i. ap (λ r. value (value (of_version (Some v) (λ (x : Address). x.version) r) (λ x. fields len hash (Some prio) (Some proto) (Some a) (Some x) None None None)) packet) (address_read v dst h.1)
    ∙ ap (λ (t : Bool). value (value (if t then Ok b else Err OutOfRange) (λ x. fields len hash (Some prio) (Some proto) (Some a) (Some x) None None None)) packet) (same v)))

coded : (e : Ecn) → ecn_of (codepoint e) ≡ e
coded NotEct = refl
coded Ect1 = refl
coded Ect0 = refl
coded Ce = refl

code_few : (e : Ecn) → codepoint e ≤ 3
code_few NotEct = omega arith
code_few Ect1 = omega arith
code_few Ect0 = omega arith
code_few Ce = omega arith

ports : (len : ℕ) (hash : Option ℕ) (prio proto sport dport : ℕ) (src dst : Option Address) (ecn : Ecn) → sport < 2 ^ 16 → dport < 2 ^ 16
    → Path (addressed len hash prio proto src dst) (packet (fields len hash (Some prio) (Some proto) src dst (Some sport) (Some dport) (Some ecn)))
    (codes "src_port" ∷ decimal sport ∷ codes "dst_port" ∷ decimal dport ∷ codes "ecn" ∷ decimal (codepoint ecn) ∷ [])
ports len hash prio proto sport dport src dst ecn h k =
    let few = code_few ecn in
    let d = fields len hash (Some prio) (Some proto) src dst None None None in
    let e = fields len hash (Some prio) (Some proto) src dst (Some sport) None None in
    let f = fields len hash (Some prio) (Some proto) src dst (Some sport) (Some dport) None in
    let q = packet (fields len hash (Some prio) (Some proto) src dst (Some sport) (Some dport) (Some ecn)) in
    chain (packet d) (packet e) q (codes "src_port" ∷ decimal sport ∷ []) (codes "dst_port" ∷ decimal dport ∷ codes "ecn" ∷ decimal (codepoint ecn) ∷ [])
    (pair (packet d) (packet_value field.SrcPort d) (packet e) (codes "src_port") (decimal sport) (refl, refl) (decimal_word sport (omega arith)) (λ i. refl)
    (λ i. ap (λ r. value (value r (λ n. fields len hash (Some prio) (Some proto) src dst (Some n) None None)) packet) (number_read 0 65535 sport (omega arith) (omega arith) (lit< tt))))
    (chain (packet e) (packet f) q (codes "dst_port" ∷ decimal dport ∷ []) (codes "ecn" ∷ decimal (codepoint ecn) ∷ [])
    (pair (packet e) (packet_value field.DstPort e) (packet f) (codes "dst_port") (decimal dport) (refl, refl) (decimal_word dport (omega arith)) (λ i. refl)
    (λ i. ap (λ r. value (value r (λ n. fields len hash (Some prio) (Some proto) src dst (Some sport) (Some n) None)) packet) (number_read 0 65535 dport (omega arith) (omega arith) (lit< tt))))
    (pair (packet f) (packet_value field.Ecn f) q (codes "ecn") (decimal (codepoint ecn)) (refl, refl) (decimal_word (codepoint ecn) (omega arith)) (λ i. refl)
    (λ i. ap (λ r. value (value r (λ n. fields len hash (Some prio) (Some proto) src dst (Some sport) (Some dport) (Some (ecn_of n)))) packet)
    (number_read 0 3 (codepoint ecn) (omega arith) few (lit< tt))
    ∙ ap (λ x. Ok (packet (fields len hash (Some prio) (Some proto) src dst (Some sport) (Some dport) (Some x)))) (coded ecn))))

-- the addresses of each family
record OfFamily (k : Key) (v : Option IpVersion) : Type 0 where
  family : option_map_or family_of v 0 ≡ k.family
  src : option_map_or (λ (a : Address). a.address) (some_address v k.src) 0 ≡ k.src
  dst : option_map_or (λ (a : Address). a.address) (some_address v k.dst) 0 ≡ k.dst
  wide : IfSome v (λ w. (k.src < 2 ^ bits_of w) × (k.dst < 2 ^ bits_of w))

of_family : (k : Key) → IsKey k → (k.family ≡ 0 → (k.src ≡ 0) × (k.dst ≡ 0)) → OfFamily k (version_in k.family)
of_family k h plain = by_tests (eqb k.family 4) refl (eqb k.family 6) refl
  where
    by_tests : (t : Bool) → eqb k.family 4 ≡ t → (u : Bool) → eqb k.family 6 ≡ u → OfFamily k (if t then Some V4 else if u then Some V6 else None)
    by_tests true e u f =
        let is : k.family ≡ 4 = eqb-true _ _ e in
        record { family = sym is; src = refl; dst = refl; wide = (rw_width k.src 4 is h.src, rw_width k.dst 4 is h.dst) }
      where
        rw_width : (a : ℕ) (n : ℕ) → k.family ≡ n → a < 2 ^ address_bits k.family → a < 2 ^ address_bits n
        rw_width a n e h = rw (sym e) h
    by_tests false e true f =
        let is : k.family ≡ 6 = eqb-true _ _ f in
        record { family = sym is; src = refl; dst = refl; wide = (rw_width k.src 6 is h.src, rw_width k.dst 6 is h.dst) }
      where
        rw_width : (a : ℕ) (n : ℕ) → k.family ≡ n → a < 2 ^ address_bits k.family → a < 2 ^ address_bits n
        rw_width a n e h = rw (sym e) h
    by_tests false e false f =
        let is : k.family ≡ 0 = zero_left k.family h.family e f in
        let none = plain is in record { family = sym is; src = sym none.0; dst = sym none.1; wide = tt }
      where
        zero_left : (n : ℕ) → IsTrue (is_family n) → eqb n 4 ≡ false → eqb n 6 ≡ false → n ≡ 0
        zero_left n h e f = grind (arith, nat_tests)

version_of_addresses : (len prio proto src dst sport dport : ℕ) (hash : Option ℕ) (ecn : Ecn) (v : Option IpVersion)
    → packet_version (fields len hash (Some prio) (Some proto) (some_address v src) (some_address v dst) (Some sport) (Some dport) (Some ecn)) ≡ v
version_of_addresses len prio proto src dst sport dport hash ecn None = refl
version_of_addresses len prio proto src dst sport dport hash ecn (Some v) = refl

abbrev keyed : Arrival → ℕ → ℕ → ℕ → Arrival
keyed a f s d =
    record { len = a.len; key = record { family = f; proto = a.key.proto; src = s; dst = d; sport = a.key.sport; dport = a.key.dport }; prio = a.prio; ecn = a.ecn; hash = a.hash }

same_key : (a : Arrival) (f s d : ℕ) → f ≡ a.key.family → s ≡ a.key.src → d ≡ a.key.dst → keyed a f s d ≡ a
same_key a f s d e p q = rw (e, p, q) refl

pub arrival_says : (a : Arrival) → IsArrival a → Says first (line.Pkt a) (arrival_words a)
arrival_says a h =
    let k = a.key in
    let v = version_in k.family in
    let own = of_family k h.key h.plain in
    let src = some_address v k.src in
    let dst = some_address v k.dst in
    let last = packet (fields a.len a.hash (Some a.prio) (Some k.proto) src dst (Some k.sport) (Some k.dport) (Some a.ecn)) in
    let port_words = codes "src_port" ∷ decimal k.sport ∷ codes "dst_port" ∷ decimal k.dport ∷ codes "ecn" ∷ decimal (codepoint a.ecn) ∷ [] in
    let rank_words = codes "prio" ∷ decimal a.prio ∷ codes "ip_proto" ∷ hex k.proto ∷ [] in
    let places = address_words v k.src k.dst in
    let all = given (codes "hash") decimal a.hash ++ (rank_words ++ (places ++ port_words)) in
    let path : Path first last ((codes "pkt" ∷ decimal a.len ∷ []) ++ all) =
    chain first (begun a.len None) last (codes "pkt" ∷ decimal a.len ∷ []) all (start a.len h.len)
    (chain (begun a.len None) (begun a.len a.hash) last (given (codes "hash") decimal a.hash) (rank_words ++ (places ++ port_words)) (hashed a.len a.hash (above a.hash h.hash))
    (chain (begun a.len a.hash) (addressed a.len a.hash a.prio k.proto None None) last rank_words (places ++ port_words) (ranked a.len a.hash a.prio k.proto h.prio h.key.proto)
    (chain (addressed a.len a.hash a.prio k.proto None None) (addressed a.len a.hash a.prio k.proto src dst) last places port_words (addresses a.len a.hash a.prio k.proto k.src k.dst v own.wide)
    (ports a.len a.hash a.prio k.proto k.sport k.dport src dst a.ecn h.key.sport h.key.dport)))) in
    let family = ap (λ (o : Option IpVersion). option_map_or family_of o 0) (version_of_addresses a.len a.prio k.proto k.src k.dst k.sport k.dport a.hash a.ecn v) ∙ own.family in
    ended_says first last (line.Pkt a) (arrival_words a) path (λ i. ap (λ x. Ok (line.Pkt x)) (same_key a _ _ _ family own.src own.dst))
  where
    above : (o : Option ℕ) → IfSome o (λ n. n ≤ most_u32) → IfSome o (IsWithin 0 most_u32)
    above None h = tt
    above (Some n) h = (omega arith, h)

-- the bytes of a frame

record Digit (d c : ℕ) : Type 0 where
  form : is_digit c 16 ≡ true
  value : digit_value c ≡ d

digit_of : (d : ℕ) → d < 16 → Digit d (digit_glyph false d)
digit_of d h =
    let x : Hex d (hex d) = hex_of d (omega arith) in
    let e : hex d ≡ digit_glyph false d ∷ [] = hex_one_digit false d h in
    let value : digits_value 16 ([] ++ (digit_glyph false d ∷ [])) ≡ d = sym (ap (digits_value 16) e) ∙ x.value in
    let push : digits_value 16 ([] ++ (digit_glyph false d ∷ [])) ≡ digits_value 16 [] * 16 + digit_value (digit_glyph false d) = digits_value_push 16 [] (digit_glyph false d) in
    let none : digits_value 16 [] ≡ 0 = refl in
    record {
      form = left_of (is_digit (digit_glyph false d) 16) _ (right_of (ltb 0 (length (digit_glyph false d ∷ []))) _ (sym (ap (is_numeral 16) e) ∙ x.form));
      value = omega (arith, value, push, none);
    }

byte_value : (b : ℕ) → b < 256 → digits_value 16 (byte_digits b) ≡ b
byte_value b h =
    let high = digit_of (b / 16) (omega arith) in
    let low = digit_of (b % 16) (omega arith) in
    let x = digit_glyph false (b / 16) in
    let y = digit_glyph false (b % 16) in
    let high_value : digit_value x ≡ b / 16 = high.value in
    let low_value : digit_value y ≡ b % 16 = low.value in
    let none : digits_value 16 [] ≡ 0 = refl in
    let one : digits_value 16 (x ∷ []) ≡ digits_value 16 [] * 16 + digit_value x = digits_value_push 16 [] x in
    let two : digits_value 16 (x ∷ y ∷ []) ≡ digits_value 16 (x ∷ []) * 16 + digit_value y = digits_value_push 16 (x ∷ []) y in
    two ∙ omega (arith, none, one, high_value, low_value)

abbrev Bytes : List ℕ → Type 0
Bytes bytes = AllByRecursion (λ b. b < 256) bytes

packet_digits : (bytes : List ℕ) → Bytes bytes → is_digits 16 (packet_word bytes) ≡ true
packet_digits [] h = refl
packet_digits (b ∷ bytes) h = let few = h.0 in
    both (digit_of (b / 16) (omega arith)).form (both (digit_of (b % 16) (omega arith)).form (packet_digits bytes h.1))

packet_length : (bytes : List ℕ) → length (packet_word bytes) ≡ 2 * length bytes
packet_length [] = refl
packet_length (b ∷ bytes) = let e = packet_length bytes in omega arith

packet_bytes : (bytes : List ℕ) → Bytes bytes → bytes_from (packet_word bytes) ≡ bytes
packet_bytes [] h = refl
packet_bytes (b ∷ bytes) h = ap (λ n. n ∷ bytes_from (packet_word bytes)) (byte_value b h.0) ∙ ap (λ l. b ∷ l) (packet_bytes bytes h.1)

frame_read : (bytes : List ℕ) → 1 ≤ length bytes → Bytes bytes → frame_of (packet_word bytes) ≡ Ok bytes
frame_read bytes some h =
    let l = packet_length bytes in
    let form : is_numeral 16 (packet_word bytes) ≡ true = both (lt-ltb _ _ (omega arith)) (packet_digits bytes h) in
    ap (λ (t : Bool). if t then Ok (bytes_from (packet_word bytes)) else Err BadNumber) (both form (eq-eqb _ _ (omega arith)))
    ∙ ap Ok (packet_bytes bytes h)

packet_good : (bytes : List ℕ) → 1 ≤ length bytes → Bytes bytes → Word (packet_word bytes)
packet_good bytes some h =
    let d = packet_digits bytes h in
    (both (filled bytes some) (every_digit 16 (λ c. not (is_blank c)) digit_not_blank (packet_word bytes) d), every_digit 16 (λ c. ltb c 128) digit_small (packet_word bytes) d)
  where
    filled : (bytes : List ℕ) → 1 ≤ length bytes → is_filled (packet_word bytes) ≡ true
    filled [] h = absurd (omega arith)
    filled (b ∷ bytes) h = refl

pub frame_says : (bytes : List ℕ) (len : ℕ) → IsWithin 1 65535 len → IsPacketBytes bytes → Says first (line.Frame len (head_in bytes)) (codes "frame" ∷ decimal len ∷ packet_word bytes ∷ [])
frame_says bytes len h k =
    let few = h.1 in
    let all : Bytes bytes = recursion_from_All (λ b. b < 256) bytes k.bytes in
    let last = whole (framed len bytes) in
    ended_says first last (line.Frame len (head_in bytes)) (codes "frame" ∷ decimal len ∷ packet_word bytes ∷ [])
    (chain first (frame_bytes len) last (codes "frame" ∷ decimal len ∷ []) (packet_word bytes ∷ [])
    (pair first frame (frame_bytes len) (codes "frame") (decimal len) (refl, refl) (decimal_word len (omega arith)) (λ i. refl)
    (λ i. ap (λ r. value r (λ n. frame_bytes n)) (number_read 1 65535 len h.0 h.1 (lit< tt))))
    (word (frame_bytes len) last (packet_word bytes) (packet_good bytes k.some all) (λ i. ap (λ r. value r (λ b. whole (framed len b))) (frame_read bytes k.some all))))
    (λ i. refl)
