-- Two options of a packet may change places: each says the same of the draft before it and of the one behind it, and two addresses
-- are of one version in either order.
use Rattle.std.proofs.Common.{◌≡◌, ◌∙◌, ℕ, zero, suc, ◌+◌, ◌==◌, ◌||◌, Bool, true, false, not, List, [], ◌∷◌, ◌++◌, length, map, Option, Some, None, is_some, option_map, Result, Ok, Err, refl, sym, ap, subst, arith, codes, if◌then◌else◌, append_assoc}
use Rattle.std.specs.Option.{option_map_or, option_or}
use Rattle.std.specs.Str.{bytes_eq, is_utf8}
use Rattle.q_packet.specs.Ecn.{ecn_of}
use Rattle.q_model.specs.declared.ip_version.IpVersion.{IpVersion}
use Rattle.q_model.specs.declared.ip_version.IpVersion.TheVariants.{V4, V6}
use Rattle.q_words.specs.Addresses.{Address, address_of, protocol_number}
use Rattle.q_words.specs.Values.{number_in}
use Rattle.q_words.specs.declared.wrong.Wrong.{Wrong}
use Rattle.q_words.specs.declared.wrong.Wrong.TheVariants as wrong
use Rattle.q_line.specs.Drafts.{no_fields}
use Rattle.q_line.specs.Grammar.{after, fits, packet_version, packet_with, line_of_words, most, of_version, rest_of, row_of, same_version, value}
use Rattle.q_line.specs.Laws.{reached}
use Rattle.q_line.specs.OtherSpellings.{IsPair, FieldsChangePlaces}
use Rattle.q_line.specs.Positions
use Rattle.q_line.specs.Positions.{Position, Row, first, packet_rows, once}
use Rattle.q_line.specs.declared.packet_draft.PacketDraft.{PacketDraft}
use Rattle.q_line.specs.declared.packet_field.PacketField.{PacketField}
use Rattle.q_line.specs.declared.packet_field.PacketField.TheVariants as field
use Rattle.q_line.specs.declared.line.Line.{Line}
use Rattle.q_line.specs.declared.line.Line.TheVariants.{Blank}
use Rattle.q_line.specs.Reading.{packet_has}
use Rattle.q_line.proofs.OptionOrder.{left_false, read_from, right_false}
use Rattle.q_line.proofs.OptionSteps.{utf8_after, word_fitted}
use Rattle.q_line.proofs.Steps.{word_fits}
use Rattle.q_line.proofs.OptionEntries.{apart, crossed, either, entry_in, not_given, not_some}
use Rattle.q_line.proofs.KeyOrder.{same_either}

abbrev entries : List (List ℕ × PacketField)
entries =
    (codes "hash", field.Hash) ∷ (codes "prio", field.Prio) ∷ (codes "ip_proto", field.IpProto) ∷ (codes "src_ip", field.SrcIp) ∷ (codes "dst_ip", field.DstIp) ∷ (codes "src_port", field.SrcPort) ∷ (codes "dst_port", field.DstPort) ∷ (codes "ecn", field.Ecn) ∷ []

abbrev row : PacketDraft → List ℕ × PacketField → Row
row d e = (e.0, once (packet_has e.1 d) (Positions.packet_value e.1 d))

rows_are : (d : PacketDraft) → packet_rows d ≡ map (row d) entries
rows_are d = refl

abbrev entered : PacketDraft → Option PacketField → Result Position Wrong
entered d None = Err wrong.UnknownWord
entered d (Some f) = once (packet_has f d) (Positions.packet_value f d)

found_in : (d : PacketDraft) (es : List (List ℕ × PacketField)) (word : List ℕ) → row_of (map (row d) es) word ≡ entered d (entry_in es word)
found_in d [] word = refl
found_in d (e ∷ es) word = by_test (found_in d es word) (bytes_eq word e.0)
  where
    by_test : row_of (map (row d) es) word ≡ entered d (entry_in es word) → (b : Bool)
        → (if b then once (packet_has e.1 d) (Positions.packet_value e.1 d) else row_of (map (row d) es) word) ≡ entered d (if b then Some e.1 else entry_in es word)
    by_test more true = refl
    by_test more false = more

found : (d : PacketDraft) (word : List ℕ) → row_of (packet_rows d) word ≡ entered d (entry_in entries word)
found d word = ap (λ rows. row_of rows word) (rows_are d) ∙ found_in d entries word

-- what a field says, and what it asks of the draft before it
abbrev Val : PacketField → Type 0
Val field.Hash = ℕ
Val field.Prio = ℕ
Val field.IpProto = ℕ
Val field.SrcIp = Address
Val field.DstIp = Address
Val field.SrcPort = ℕ
Val field.DstPort = ℕ
Val field.Ecn = ℕ

abbrev parse : (f : PacketField) → List ℕ → Result (Val f) Wrong
parse field.Hash word = number_in 0 most word
parse field.Prio word = number_in 0 15 word
parse field.IpProto word = protocol_number word
parse field.SrcIp word = address_of word
parse field.DstIp word = address_of word
parse field.SrcPort word = number_in 0 65535 word
parse field.DstPort word = number_in 0 65535 word
parse field.Ecn word = number_in 0 3 word

abbrev says : (f : PacketField) → Val f → PacketDraft
says field.Hash val = record (no_fields 0) { hash = Some val }
says field.Prio val = record (no_fields 0) { prio = Some val }
says field.IpProto val = record (no_fields 0) { ip_proto = Some val }
says field.SrcIp val = record (no_fields 0) { src_ip = Some val }
says field.DstIp val = record (no_fields 0) { dst_ip = Some val }
says field.SrcPort val = record (no_fields 0) { src_port = Some val }
says field.DstPort val = record (no_fields 0) { dst_port = Some val }
says field.Ecn val = record (no_fields 0) { ecn = Some (ecn_of val) }

abbrev agrees : (f : PacketField) → Val f → PacketDraft → Bool
agrees field.Hash val d = true
agrees field.Prio val d = true
agrees field.IpProto val d = true
agrees field.SrcIp val d = option_map_or (same_version val.version) (packet_version d) true
agrees field.DstIp val d = option_map_or (same_version val.version) (packet_version d) true
agrees field.SrcPort val d = true
agrees field.DstPort val d = true
agrees field.Ecn val d = true

abbrev over : PacketDraft → PacketDraft → PacketDraft
over e d = record {
  len = d.len;
  hash = option_or e.hash d.hash;
  prio = option_or e.prio d.prio;
  ip_proto = option_or e.ip_proto d.ip_proto;
  src_ip = option_or e.src_ip d.src_ip;
  dst_ip = option_or e.dst_ip d.dst_ip;
  src_port = option_or e.src_port d.src_port;
  dst_port = option_or e.dst_port d.dst_port;
  ecn = option_or e.ecn d.ecn;
}

abbrev judged : (f : PacketField) → PacketDraft → Result (Val f) Wrong → Result PacketDraft Wrong
judged f d (Ok v) = if agrees f v d then Ok (over (says f v) d) else Err wrong.OutOfRange
judged f d (Err e) = Err e

by_agreement : (b : Bool) (p : Address) (g : Address → PacketDraft) → value (if b then Ok p else Err wrong.OutOfRange) g ≡ (if b then Ok (g p) else Err wrong.OutOfRange)
by_agreement true p g = refl
by_agreement false p g = refl

packet_with_as : (f : PacketField) (d : PacketDraft) (word : List ℕ) → packet_with f d word ≡ judged f d (parse f word)
packet_with_as field.Hash d word = by_value (number_in 0 most word)
  where
    by_value : (r : Result ℕ Wrong) → value r (λ n. record d { hash = Some n }) ≡ judged field.Hash d r
    by_value (Ok n) = refl
    by_value (Err e) = refl
packet_with_as field.Prio d word = by_value (number_in 0 15 word)
  where
    by_value : (r : Result ℕ Wrong) → value r (λ n. record d { prio = Some n }) ≡ judged field.Prio d r
    by_value (Ok n) = refl
    by_value (Err e) = refl
packet_with_as field.IpProto d word = by_value (protocol_number word)
  where
    by_value : (r : Result ℕ Wrong) → value r (λ n. record d { ip_proto = Some n }) ≡ judged field.IpProto d r
    by_value (Ok n) = refl
    by_value (Err e) = refl
packet_with_as field.SrcIp d word = by_address (address_of word)
  where
    by_address : (r : Result Address Wrong) → value (of_version (packet_version d) (λ a. a.version) r) (λ p. record d { src_ip = Some p }) ≡ judged field.SrcIp d r
    by_address (Ok p) = by_agreement (option_map_or (same_version p.version) (packet_version d) true) p (λ p. record d { src_ip = Some p })
    by_address (Err e) = refl
packet_with_as field.DstIp d word = by_address (address_of word)
  where
    by_address : (r : Result Address Wrong) → value (of_version (packet_version d) (λ a. a.version) r) (λ p. record d { dst_ip = Some p }) ≡ judged field.DstIp d r
    by_address (Ok p) = by_agreement (option_map_or (same_version p.version) (packet_version d) true) p (λ p. record d { dst_ip = Some p })
    by_address (Err e) = refl
packet_with_as field.SrcPort d word = by_value (number_in 0 65535 word)
  where
    by_value : (r : Result ℕ Wrong) → value r (λ n. record d { src_port = Some n }) ≡ judged field.SrcPort d r
    by_value (Ok n) = refl
    by_value (Err e) = refl
packet_with_as field.DstPort d word = by_value (number_in 0 65535 word)
  where
    by_value : (r : Result ℕ Wrong) → value r (λ n. record d { dst_port = Some n }) ≡ judged field.DstPort d r
    by_value (Ok n) = refl
    by_value (Err e) = refl
packet_with_as field.Ecn d word = by_value (number_in 0 3 word)
  where
    by_value : (r : Result ℕ Wrong) → value r (λ n. record d { ecn = Some (ecn_of n) }) ≡ judged field.Ecn d r
    by_value (Ok n) = refl
    by_value (Err e) = refl

has_over : (f : PacketField) (e d : PacketDraft) → packet_has f (over e d) ≡ (packet_has f e || packet_has f d)
has_over field.Hash e d = either e.hash d.hash
has_over field.Prio e d = either e.prio d.prio
has_over field.IpProto e d = either e.ip_proto d.ip_proto
has_over field.SrcIp e d = either e.src_ip d.src_ip
has_over field.DstIp e d = either e.dst_ip d.dst_ip
has_over field.SrcPort e d = either e.src_port d.src_port
has_over field.DstPort e d = either e.dst_port d.dst_port
has_over field.Ecn e d = either e.ecn d.ecn

record Apart (e d : PacketDraft) : Type 0 where
  hash : apart e.hash d.hash ≡ true
  prio : apart e.prio d.prio ≡ true
  ip_proto : apart e.ip_proto d.ip_proto ≡ true
  src_ip : apart e.src_ip d.src_ip ≡ true
  dst_ip : apart e.dst_ip d.dst_ip ≡ true
  src_port : apart e.src_port d.src_port ≡ true
  dst_port : apart e.dst_port d.dst_port ≡ true
  ecn : apart e.ecn d.ecn ≡ true

says_apart : (f : PacketField) (v : Val f) (e : PacketDraft) → packet_has f e ≡ false → Apart e (says f v)
says_apart field.Hash v e h = record { hash = ap not h; prio = refl; ip_proto = refl; src_ip = refl; dst_ip = refl; src_port = refl; dst_port = refl; ecn = refl }
says_apart field.Prio v e h = record { hash = refl; prio = ap not h; ip_proto = refl; src_ip = refl; dst_ip = refl; src_port = refl; dst_port = refl; ecn = refl }
says_apart field.IpProto v e h = record { hash = refl; prio = refl; ip_proto = ap not h; src_ip = refl; dst_ip = refl; src_port = refl; dst_port = refl; ecn = refl }
says_apart field.SrcIp v e h = record { hash = refl; prio = refl; ip_proto = refl; src_ip = ap not h; dst_ip = refl; src_port = refl; dst_port = refl; ecn = refl }
says_apart field.DstIp v e h = record { hash = refl; prio = refl; ip_proto = refl; src_ip = refl; dst_ip = ap not h; src_port = refl; dst_port = refl; ecn = refl }
says_apart field.SrcPort v e h = record { hash = refl; prio = refl; ip_proto = refl; src_ip = refl; dst_ip = refl; src_port = ap not h; dst_port = refl; ecn = refl }
says_apart field.DstPort v e h = record { hash = refl; prio = refl; ip_proto = refl; src_ip = refl; dst_ip = refl; src_port = refl; dst_port = ap not h; ecn = refl }
says_apart field.Ecn v e h = record { hash = refl; prio = refl; ip_proto = refl; src_ip = refl; dst_ip = refl; src_port = refl; dst_port = refl; ecn = ap not h }

said_apart : (f : PacketField) (v : Val f) (d : PacketDraft) → Apart (says f v) d → packet_has f d ≡ false
said_apart field.Hash v d h = not_given (v) d.hash h.hash
said_apart field.Prio v d h = not_given (v) d.prio h.prio
said_apart field.IpProto v d h = not_given (v) d.ip_proto h.ip_proto
said_apart field.SrcIp v d h = not_given (v) d.src_ip h.src_ip
said_apart field.DstIp v d h = not_given (v) d.dst_ip h.dst_ip
said_apart field.SrcPort v d h = not_given (v) d.src_port h.src_port
said_apart field.DstPort v d h = not_given (v) d.dst_port h.dst_port
said_apart field.Ecn v d h = not_given (ecn_of v) d.ecn h.ecn

over_either : (a b d : PacketDraft) → Apart a b → over b (over a d) ≡ over a (over b d)
over_either a b d h =
    let hash = crossed a.hash b.hash d.hash h.hash in
    let prio = crossed a.prio b.prio d.prio h.prio in
    let ip_proto = crossed a.ip_proto b.ip_proto d.ip_proto h.ip_proto in
    let src_ip = crossed a.src_ip b.src_ip d.src_ip h.src_ip in
    let dst_ip = crossed a.dst_ip b.dst_ip d.dst_ip h.dst_ip in
    let src_port = crossed a.src_port b.src_port d.src_port h.src_port in
    let dst_port = crossed a.dst_port b.dst_port d.dst_port h.dst_port in
    let ecn = crossed a.ecn b.ecn d.ecn h.ecn in
    cc

-- two addresses of one version
-- what two options ask of the drafts before them, in either order
record BothAgree (f g : PacketField) (v : Val f) (x : Val g) (d : PacketDraft) : Type 0 where
  other_first : agrees g x d ≡ true
  one_behind : agrees f v (over (says g x) d) ≡ true

abbrev version : Address → IpVersion
version a = a.version

abbrev agreed : Address → Option Address → Option Address → Bool
agreed v src dst = option_map_or (same_version v.version) (option_map version (option_or src dst)) true

-- nothing but an address changes what is asked of one
agrees_by : (g : PacketField) (x : Val g) (d e : PacketDraft) → e.src_ip ≡ d.src_ip → e.dst_ip ≡ d.dst_ip → agrees g x d ≡ agrees g x e
agrees_by field.Hash x d e s t = refl
agrees_by field.Prio x d e s t = refl
agrees_by field.IpProto x d e s t = refl
agrees_by field.SrcIp x d e s t = ap (λ src. agreed x src d.dst_ip) (sym s) ∙ ap (λ dst. agreed x e.src_ip dst) (sym t)
agrees_by field.DstIp x d e s t = ap (λ src. agreed x src d.dst_ip) (sym s) ∙ ap (λ dst. agreed x e.src_ip dst) (sym t)
agrees_by field.SrcPort x d e s t = refl
agrees_by field.DstPort x d e s t = refl
agrees_by field.Ecn x d e s t = refl

src_dst : (v x : Address) (d : PacketDraft) → is_some d.src_ip ≡ false → is_some d.dst_ip ≡ false → agreed x (Some v) d.dst_ip ≡ true → BothAgree field.SrcIp field.DstIp v x d
src_dst v x d s t b =
    let src = not_some d.src_ip s in
    let dst = not_some d.dst_ip t in
    record {
      other_first = ap (λ o. agreed x o d.dst_ip) src ∙ ap (λ o. agreed x None o) dst;
      one_behind = ap (λ o. agreed v o (Some x)) src ∙ same_either v.version x.version ∙ b;
    }

dst_src : (v x : Address) (d : PacketDraft) → is_some d.dst_ip ≡ false → is_some d.src_ip ≡ false → agreed x d.src_ip (Some v) ≡ true → BothAgree field.DstIp field.SrcIp v x d
dst_src v x d t s b =
    let src = not_some d.src_ip s in
    let dst = not_some d.dst_ip t in
    record {
      other_first = ap (λ o. agreed x o d.dst_ip) src ∙ ap (λ o. agreed x None o) dst;
      one_behind = same_either v.version x.version ∙ ap (λ o. agreed x o (Some v)) (sym src) ∙ b;
    }

both_agree : (f g : PacketField) (v : Val f) (x : Val g) (d : PacketDraft) → packet_has f d ≡ false → packet_has g (over (says f v) d) ≡ false → agrees f v d ≡ true
    → agrees g x (over (says f v) d) ≡ true → BothAgree f g v x d
both_agree field.Hash g v x d fresh free a b = record { other_first = agrees_by g x d (over (says field.Hash v) d) refl refl ∙ b; one_behind = refl }
both_agree field.Prio g v x d fresh free a b = record { other_first = agrees_by g x d (over (says field.Prio v) d) refl refl ∙ b; one_behind = refl }
both_agree field.IpProto g v x d fresh free a b = record { other_first = agrees_by g x d (over (says field.IpProto v) d) refl refl ∙ b; one_behind = refl }
both_agree field.SrcIp field.Hash v x d fresh free a b = record { other_first = refl; one_behind = a }
both_agree field.SrcIp field.Prio v x d fresh free a b = record { other_first = refl; one_behind = a }
both_agree field.SrcIp field.IpProto v x d fresh free a b = record { other_first = refl; one_behind = a }
both_agree field.SrcIp field.SrcIp v x d fresh free a b = absurd (let k : true ≡ false = free in cc)
both_agree field.SrcIp field.DstIp v x d fresh free a b = src_dst v x d fresh free b
both_agree field.SrcIp field.SrcPort v x d fresh free a b = record { other_first = refl; one_behind = a }
both_agree field.SrcIp field.DstPort v x d fresh free a b = record { other_first = refl; one_behind = a }
both_agree field.SrcIp field.Ecn v x d fresh free a b = record { other_first = refl; one_behind = a }
both_agree field.DstIp field.Hash v x d fresh free a b = record { other_first = refl; one_behind = a }
both_agree field.DstIp field.Prio v x d fresh free a b = record { other_first = refl; one_behind = a }
both_agree field.DstIp field.IpProto v x d fresh free a b = record { other_first = refl; one_behind = a }
both_agree field.DstIp field.SrcIp v x d fresh free a b = dst_src v x d fresh free b
both_agree field.DstIp field.DstIp v x d fresh free a b = absurd (let k : true ≡ false = free in cc)
both_agree field.DstIp field.SrcPort v x d fresh free a b = record { other_first = refl; one_behind = a }
both_agree field.DstIp field.DstPort v x d fresh free a b = record { other_first = refl; one_behind = a }
both_agree field.DstIp field.Ecn v x d fresh free a b = record { other_first = refl; one_behind = a }
both_agree field.SrcPort g v x d fresh free a b = record { other_first = agrees_by g x d (over (says field.SrcPort v) d) refl refl ∙ b; one_behind = refl }
both_agree field.DstPort g v x d fresh free a b = record { other_first = agrees_by g x d (over (says field.DstPort v) d) refl refl ∙ b; one_behind = refl }
both_agree field.Ecn g v x d fresh free a b = record { other_first = agrees_by g x d (over (says field.Ecn v) d) refl refl ∙ b; one_behind = refl }

-- an option with its value
record Told (d : PacketDraft) (name word : List ℕ) : Type 0 where
  named : PacketField
  val : Val named
  text : is_utf8 name ≡ true
  is : entry_in entries name ≡ Some named
  fresh : packet_has named d ≡ false
  word_text : is_utf8 word ≡ true
  parsed : parse named word ≡ Ok val
  agree : agrees named val d ≡ true

pair_leads : (d : PacketDraft) (i : ℕ) (name word : List ℕ) (ws : List (List ℕ)) (t : Told d name word)
    → rest_of (Positions.packet d) i (name ∷ word ∷ ws) ≡ rest_of (Positions.packet (over (says t.named t.val) d)) (suc (suc i)) ws
pair_leads d i name word ws t =
    let name_leads : after i (Positions.packet d) name ≡ Ok (Positions.packet_value t.named d) =
    utf8_after i (Positions.packet d) name t.text ∙ found d name ∙ ap (entered d) t.is ∙ ap (λ (b : Bool). once b (Positions.packet_value t.named d)) t.fresh in
    let read : after (suc i) (Positions.packet_value t.named d) word ≡ Ok (Positions.packet (over (says t.named t.val) d)) =
    utf8_after (suc i) (Positions.packet_value t.named d) word t.word_text ∙ ap (λ r. value r (λ e. Positions.packet e)) (packet_with_as t.named d word ∙ ap (judged t.named d) t.parsed)
    ∙ ap (λ (b : Bool). value (if b then Ok (over (says t.named t.val) d) else Err wrong.OutOfRange) (λ e. Positions.packet e)) t.agree in
    word_fits (Positions.packet d) (Positions.packet_value t.named d) i name (word ∷ ws) name_leads
    ∙ word_fits (Positions.packet_value t.named d) (Positions.packet (over (says t.named t.val) d)) (suc i) word ws read

entry_told : (d : PacketDraft) (i : ℕ) (name word : List ℕ) (ws : List (List ℕ)) (line : Line) → is_utf8 name ≡ true → (f : PacketField) → entry_in entries name ≡ Some f
    → packet_has f d ≡ false → rest_of (Positions.packet_value f d) i (word ∷ ws) ≡ Ok line → Told d name word
entry_told d i name word ws line text f is fresh e =
    let fit = word_fitted (Positions.packet_value f d) i word ws line e in
    by_value fit.text fit.next (parse f word) refl (ap (λ r. value r (λ e. Positions.packet e)) (sym (packet_with_as f d word)) ∙ fit.fits_is)
  where
    by_agree : is_utf8 word ≡ true → (q : Position) (v : Val f) → parse f word ≡ Ok v → (b : Bool) → agrees f v d ≡ b
        → value (if b then Ok (over (says f v) d) else Err wrong.OutOfRange) (λ e. Positions.packet e) ≡ Ok q → Told d name word
    by_agree t q v p true a e = record { named = f; val = v; text = text; is = is; fresh = fresh; word_text = t; parsed = p; agree = a }
    by_agree t q v p false a e = absurd (let k : Err wrong.OutOfRange ≡ Ok q = e in cc)

    by_value : is_utf8 word ≡ true → (q : Position) (r : Result (Val f) Wrong) → parse f word ≡ r → value (judged f d (parse f word)) (λ e. Positions.packet e) ≡ Ok q → Told d name word
    by_value t q (Ok v) p e = by_agree t q v p (agrees f v d) refl (ap (λ r. value (judged f d r) (λ e. Positions.packet e)) (sym p) ∙ e)
    by_value t q (Err x) p e = absurd (let k : Err x ≡ Ok q = ap (λ r. value (judged f d r) (λ e. Positions.packet e)) (sym p) ∙ e in cc)

pair_told : (d : PacketDraft) (i : ℕ) (name word : List ℕ) (ws : List (List ℕ)) (line : Line) → rest_of (Positions.packet d) i (name ∷ word ∷ ws) ≡ Ok line → Told d name word
pair_told d i name word ws line e =
    let fit = word_fitted (Positions.packet d) i name (word ∷ ws) line e in
    by_entry fit.text fit.next (entry_in entries name) refl (sym (found d name) ∙ fit.fits_is) fit.rest
  where
    by_fresh : is_utf8 name ≡ true → (q : Position) (f : PacketField) → entry_in entries name ≡ Some f → (b : Bool) → packet_has f d ≡ b → once b (Positions.packet_value f d) ≡ Ok q
        → rest_of q (suc i) (word ∷ ws) ≡ Ok line → Told d name word
    by_fresh t q f is true g e r = absurd (let k : Err wrong.Twice ≡ Ok q = e in cc)
    by_fresh t q f is false g e r =
        let same : q ≡ Positions.packet_value f d = cc in
        entry_told d (suc i) name word ws line t f is g (ap (λ p. rest_of p (suc i) (word ∷ ws)) (sym same) ∙ r)

    by_entry : is_utf8 name ≡ true → (q : Position) (x : Option PacketField) → entry_in entries name ≡ x → entered d (entry_in entries name) ≡ Ok q
        → rest_of q (suc i) (word ∷ ws) ≡ Ok line → Told d name word
    by_entry t q (Some f) is e r = by_fresh t q f is (packet_has f d) refl (ap (entered d) (sym is) ∙ e) r
    by_entry t q None is e r = absurd (let k : Err wrong.UnknownWord ≡ Ok q = ap (entered d) (sym is) ∙ e in cc)

pairs_change_places : (d : PacketDraft) (i : ℕ) (a u b w : List ℕ) (ws : List (List ℕ)) (line : Line)
    → rest_of (Positions.packet d) i (a ∷ u ∷ b ∷ w ∷ ws) ≡ Ok line → rest_of (Positions.packet d) i (b ∷ w ∷ a ∷ u ∷ ws) ≡ Ok line
pairs_change_places d i a u b w ws line e =
    let x = pair_told d i a u (b ∷ w ∷ ws) line e in
    let first_says = says x.named x.val in
    let e2 : rest_of (Positions.packet (over first_says d)) (suc (suc i)) (b ∷ w ∷ ws) ≡ Ok line = sym (pair_leads d i a u (b ∷ w ∷ ws) x) ∙ e in
    let y = pair_told (over first_says d) (suc (suc i)) b w ws line e2 in
    let second_says = says y.named y.val in
    let neither : (packet_has y.named first_says || packet_has y.named d) ≡ false = sym (has_over y.named first_says d) ∙ y.fresh in
    let away = says_apart y.named y.val first_says (left_false (packet_has y.named first_says) (packet_has y.named d) neither) in
    let free : packet_has y.named d ≡ false = right_false (packet_has y.named first_says) (packet_has y.named d) neither in
    let both = both_agree x.named y.named x.val y.val d x.fresh y.fresh x.agree y.agree in
    let y2 : Told d b w = record { named = y.named; val = y.val; text = y.text; is = y.is; fresh = free; word_text = y.word_text; parsed = y.parsed; agree = both.other_first } in
    let fresh2 : packet_has x.named (over second_says d) ≡ false = has_over x.named second_says d
    ∙ ap (λ (c : Bool). c || packet_has x.named d) (said_apart x.named x.val second_says away) ∙ x.fresh in
    let x2 : Told (over second_says d) a u = record { named = x.named; val = x.val; text = x.text; is = x.is; fresh = fresh2; word_text = x.word_text; parsed = x.parsed; agree = both.one_behind } in
    pair_leads d i b w (a ∷ u ∷ ws) y2 ∙ pair_leads (over second_says d) (suc (suc i)) a u ws x2
    ∙ ap (λ k. rest_of (Positions.packet k) (suc (suc (suc (suc i)))) ws) (sym (over_either first_says second_says d away))
    ∙ sym (pair_leads (over first_says d) (suc (suc i)) b w ws y) ∙ e2

pub fields_change_places : FieldsChangePlaces
fields_change_places d before one other behind line at a b e =
    let read = read_from before (Positions.packet d) at (λ same. cc) in
    let i = 1 + length before in
    let one_first : rest_of (Positions.packet d) i (one ++ (other ++ behind)) ≡ rest_of (Positions.packet d) i (a.0 ∷ a.1 ∷ b.0 ∷ b.1 ∷ behind) =
    ap (λ v. rest_of (Positions.packet d) i (v ++ (other ++ behind))) a.2 ∙ ap (λ v. rest_of (Positions.packet d) i (a.0 ∷ a.1 ∷ (v ++ behind))) b.2 in
    let other_first : rest_of (Positions.packet d) i (other ++ (one ++ behind)) ≡ rest_of (Positions.packet d) i (b.0 ∷ b.1 ∷ a.0 ∷ a.1 ∷ behind) =
    ap (λ v. rest_of (Positions.packet d) i (v ++ (one ++ behind))) b.2 ∙ ap (λ v. rest_of (Positions.packet d) i (b.0 ∷ b.1 ∷ (v ++ behind))) a.2 in
    read.1 (other ++ (one ++ behind)) ∙ by_test read.0 one_first other_first (sym (read.1 (one ++ (other ++ behind))) ∙ e)
  where
    by_test : (t : Bool) → rest_of (Positions.packet d) (1 + length before) (one ++ (other ++ behind)) ≡ rest_of (Positions.packet d) (1 + length before) (a.0 ∷ a.1 ∷ b.0 ∷ b.1 ∷ behind)
        → rest_of (Positions.packet d) (1 + length before) (other ++ (one ++ behind)) ≡ rest_of (Positions.packet d) (1 + length before) (b.0 ∷ b.1 ∷ a.0 ∷ a.1 ∷ behind)
        → (if t then Ok Blank else rest_of (Positions.packet d) (1 + length before) (one ++ (other ++ behind))) ≡ Ok line
        → (if t then Ok Blank else rest_of (Positions.packet d) (1 + length before) (other ++ (one ++ behind))) ≡ Ok line
    by_test true p q e = e
    by_test false p q e = q ∙ pairs_change_places d (1 + length before) a.0 a.1 b.0 b.1 behind line (sym p ∙ e)
