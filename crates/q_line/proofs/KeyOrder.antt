-- Two keys of a filter may change places: each says the same of the draft before it and of the one behind it, and two addresses
-- are of one version in either order.
use Rattle.std.proofs.Common.{◌≡◌, ◌∙◌, ℕ, zero, suc, ◌+◌, ◌==◌, ◌||◌, Bool, true, false, not, List, [], ◌∷◌, ◌++◌, length, map, Option, Some, None, is_some, option_map, Result, Ok, Err, refl, sym, ap, subst, arith, codes, if◌then◌else◌, append_assoc}
use Rattle.std.specs.Option.{option_map_or, option_or}
use Rattle.std.specs.Str.{bytes_eq, is_utf8}
use Rattle.q_model.specs.declared.class_id.ClassId.{ClassId}
use Rattle.q_model.specs.declared.ip_version.IpVersion.{IpVersion}
use Rattle.q_model.specs.declared.ip_version.IpVersion.TheVariants.{V4, V6}
use Rattle.q_model.specs.Options.{Prefix}
use Rattle.q_words.specs.Addresses.{class_of, prefix_of, protocol_number}
use Rattle.q_words.specs.Values.{number_in}
use Rattle.q_words.specs.declared.wrong.Wrong.{Wrong}
use Rattle.q_words.specs.declared.wrong.Wrong.TheVariants as wrong
use Rattle.q_line.specs.Drafts.{no_keys}
use Rattle.q_line.specs.Grammar.{after, fits, key_version, key_with, line_of_words, of_version, rest_of, row_of, same_version, value, version_of}
use Rattle.q_line.specs.Laws.{reached}
use Rattle.q_line.specs.OtherSpellings.{IsPair, KeysChangePlaces}
use Rattle.q_line.specs.Positions
use Rattle.q_line.specs.Positions.{Position, Row, first, key_rows, once}
use Rattle.q_line.specs.declared.head_draft.HeadDraft.{HeadDraft}
use Rattle.q_line.specs.declared.key_draft.KeyDraft.{KeyDraft}
use Rattle.q_line.specs.declared.key_name.KeyName.{KeyName}
use Rattle.q_line.specs.declared.key_name.KeyName.TheVariants as key
use Rattle.q_line.specs.declared.line.Line.{Line}
use Rattle.q_line.specs.declared.line.Line.TheVariants.{Blank}
use Rattle.q_line.specs.Reading.{key_has}
use Rattle.q_line.proofs.OptionOrder.{left_false, read_from, right_false}
use Rattle.q_line.proofs.OptionSteps.{utf8_after, word_fitted}
use Rattle.q_line.proofs.Steps.{word_fits}
use Rattle.q_line.proofs.OptionEntries.{apart, crossed, either, entry_in, not_given, not_some}

abbrev entries : List (List ℕ × KeyName)
entries =
    (codes "ip_proto", key.IpProto) ∷ (codes "src_ip", key.SrcIp) ∷ (codes "dst_ip", key.DstIp) ∷ (codes "src_port", key.SrcPort)
    ∷ (codes "dst_port", key.DstPort) ∷ (codes "classid", key.Class) ∷ (codes "flowid", key.Class) ∷ []

abbrev row : HeadDraft → KeyDraft → List ℕ × KeyName → Row
row h d e = (e.0, once (key_has e.1 d) (Positions.key_value e.1 h d))

rows_are : (h : HeadDraft) (d : KeyDraft) → key_rows h d ≡ map (row h d) entries
rows_are h d = refl

abbrev entered : HeadDraft → KeyDraft → Option KeyName → Result Position Wrong
entered h d None = Err wrong.UnknownWord
entered h d (Some f) = once (key_has f d) (Positions.key_value f h d)

found_in : (h : HeadDraft) (d : KeyDraft) (es : List (List ℕ × KeyName)) (word : List ℕ) → row_of (map (row h d) es) word ≡ entered h d (entry_in es word)
found_in h d [] word = refl
found_in h d (e ∷ es) word = by_test (found_in h d es word) (bytes_eq word e.0)
  where
    by_test : row_of (map (row h d) es) word ≡ entered h d (entry_in es word) → (b : Bool)
        → (if b then once (key_has e.1 d) (Positions.key_value e.1 h d) else row_of (map (row h d) es) word) ≡ entered h d (if b then Some e.1 else entry_in es word)
    by_test more true = refl
    by_test more false = more

found : (h : HeadDraft) (d : KeyDraft) (word : List ℕ) → row_of (key_rows h d) word ≡ entered h d (entry_in entries word)
found h d word = ap (λ rows. row_of rows word) (rows_are h d) ∙ found_in h d entries word

-- what a key says, and what it asks of the draft before it
abbrev Val : KeyName → Type 0
Val key.IpProto = ℕ
Val key.SrcIp = Prefix
Val key.DstIp = Prefix
Val key.SrcPort = ℕ
Val key.DstPort = ℕ
Val key.Class = ClassId

abbrev parse : (f : KeyName) → List ℕ → Result (Val f) Wrong
parse key.IpProto word = protocol_number word
parse key.SrcIp word = prefix_of word
parse key.DstIp word = prefix_of word
parse key.SrcPort word = number_in 0 65535 word
parse key.DstPort word = number_in 0 65535 word
parse key.Class word = class_of word

abbrev says : (f : KeyName) → Val f → KeyDraft
says key.IpProto val = record no_keys { keys = record no_keys.keys { ip_proto = Some val } }
says key.SrcIp val = record no_keys { keys = record no_keys.keys { src_ip = Some val } }
says key.DstIp val = record no_keys { keys = record no_keys.keys { dst_ip = Some val } }
says key.SrcPort val = record no_keys { keys = record no_keys.keys { src_port = Some val } }
says key.DstPort val = record no_keys { keys = record no_keys.keys { dst_port = Some val } }
says key.Class val = record no_keys { class = Some val }

abbrev agrees : (f : KeyName) → Val f → HeadDraft → KeyDraft → Bool
agrees key.IpProto val h d = true
agrees key.SrcIp val h d = option_map_or (same_version val.version) (key_version h d) true
agrees key.DstIp val h d = option_map_or (same_version val.version) (key_version h d) true
agrees key.SrcPort val h d = true
agrees key.DstPort val h d = true
agrees key.Class val h d = true

abbrev over : KeyDraft → KeyDraft → KeyDraft
over e d = record {
  keys = record {
    ip_proto = option_or e.keys.ip_proto d.keys.ip_proto;
    src_ip = option_or e.keys.src_ip d.keys.src_ip;
    dst_ip = option_or e.keys.dst_ip d.keys.dst_ip;
    src_port = option_or e.keys.src_port d.keys.src_port;
    dst_port = option_or e.keys.dst_port d.keys.dst_port;
  };
  class = option_or e.class d.class;
}

abbrev judged : (f : KeyName) → HeadDraft → KeyDraft → Result (Val f) Wrong → Result KeyDraft Wrong
judged f h d (Ok v) = if agrees f v h d then Ok (over (says f v) d) else Err wrong.OutOfRange
judged f h d (Err e) = Err e

by_agreement : (b : Bool) (p : Prefix) (g : Prefix → KeyDraft) → value (if b then Ok p else Err wrong.OutOfRange) g ≡ (if b then Ok (g p) else Err wrong.OutOfRange)
by_agreement true p g = refl
by_agreement false p g = refl

key_with_as : (f : KeyName) (h : HeadDraft) (d : KeyDraft) (word : List ℕ) → key_with f h d word ≡ judged f h d (parse f word)
key_with_as key.IpProto h d word = by_value (protocol_number word)
  where
    by_value : (r : Result ℕ Wrong) → value r (λ n. record d { keys = record d.keys { ip_proto = Some n } }) ≡ judged key.IpProto h d r
    by_value (Ok n) = refl
    by_value (Err e) = refl
key_with_as key.SrcIp h d word = by_prefix (prefix_of word)
  where
    by_prefix : (r : Result Prefix Wrong) → value (of_version (key_version h d) (λ p. p.version) r) (λ p. record d { keys = record d.keys { src_ip = Some p } }) ≡ judged key.SrcIp h d r
    by_prefix (Ok p) = by_agreement (option_map_or (same_version p.version) (key_version h d) true) p (λ p. record d { keys = record d.keys { src_ip = Some p } })
    by_prefix (Err e) = refl
key_with_as key.DstIp h d word = by_prefix (prefix_of word)
  where
    by_prefix : (r : Result Prefix Wrong) → value (of_version (key_version h d) (λ p. p.version) r) (λ p. record d { keys = record d.keys { dst_ip = Some p } }) ≡ judged key.DstIp h d r
    by_prefix (Ok p) = by_agreement (option_map_or (same_version p.version) (key_version h d) true) p (λ p. record d { keys = record d.keys { dst_ip = Some p } })
    by_prefix (Err e) = refl
key_with_as key.SrcPort h d word = by_value (number_in 0 65535 word)
  where
    by_value : (r : Result ℕ Wrong) → value r (λ n. record d { keys = record d.keys { src_port = Some n } }) ≡ judged key.SrcPort h d r
    by_value (Ok n) = refl
    by_value (Err e) = refl
key_with_as key.DstPort h d word = by_value (number_in 0 65535 word)
  where
    by_value : (r : Result ℕ Wrong) → value r (λ n. record d { keys = record d.keys { dst_port = Some n } }) ≡ judged key.DstPort h d r
    by_value (Ok n) = refl
    by_value (Err e) = refl
key_with_as key.Class h d word = by_value (class_of word)
  where
    by_value : (r : Result ClassId Wrong) → value r (λ n. record d { class = Some n }) ≡ judged key.Class h d r
    by_value (Ok n) = refl
    by_value (Err e) = refl

has_over : (f : KeyName) (e d : KeyDraft) → key_has f (over e d) ≡ (key_has f e || key_has f d)
has_over key.IpProto e d = either e.keys.ip_proto d.keys.ip_proto
has_over key.SrcIp e d = either e.keys.src_ip d.keys.src_ip
has_over key.DstIp e d = either e.keys.dst_ip d.keys.dst_ip
has_over key.SrcPort e d = either e.keys.src_port d.keys.src_port
has_over key.DstPort e d = either e.keys.dst_port d.keys.dst_port
has_over key.Class e d = either e.class d.class

record Apart (e d : KeyDraft) : Type 0 where
  ip_proto : apart e.keys.ip_proto d.keys.ip_proto ≡ true
  src_ip : apart e.keys.src_ip d.keys.src_ip ≡ true
  dst_ip : apart e.keys.dst_ip d.keys.dst_ip ≡ true
  src_port : apart e.keys.src_port d.keys.src_port ≡ true
  dst_port : apart e.keys.dst_port d.keys.dst_port ≡ true
  class : apart e.class d.class ≡ true

says_apart : (f : KeyName) (v : Val f) (e : KeyDraft) → key_has f e ≡ false → Apart e (says f v)
says_apart key.IpProto v e h = record { ip_proto = ap not h; src_ip = refl; dst_ip = refl; src_port = refl; dst_port = refl; class = refl }
says_apart key.SrcIp v e h = record { ip_proto = refl; src_ip = ap not h; dst_ip = refl; src_port = refl; dst_port = refl; class = refl }
says_apart key.DstIp v e h = record { ip_proto = refl; src_ip = refl; dst_ip = ap not h; src_port = refl; dst_port = refl; class = refl }
says_apart key.SrcPort v e h = record { ip_proto = refl; src_ip = refl; dst_ip = refl; src_port = ap not h; dst_port = refl; class = refl }
says_apart key.DstPort v e h = record { ip_proto = refl; src_ip = refl; dst_ip = refl; src_port = refl; dst_port = ap not h; class = refl }
says_apart key.Class v e h = record { ip_proto = refl; src_ip = refl; dst_ip = refl; src_port = refl; dst_port = refl; class = ap not h }

said_apart : (f : KeyName) (v : Val f) (d : KeyDraft) → Apart (says f v) d → key_has f d ≡ false
said_apart key.IpProto v d h = not_given v d.keys.ip_proto h.ip_proto
said_apart key.SrcIp v d h = not_given v d.keys.src_ip h.src_ip
said_apart key.DstIp v d h = not_given v d.keys.dst_ip h.dst_ip
said_apart key.SrcPort v d h = not_given v d.keys.src_port h.src_port
said_apart key.DstPort v d h = not_given v d.keys.dst_port h.dst_port
said_apart key.Class v d h = not_given v d.class h.class

over_either : (a b d : KeyDraft) → Apart a b → over b (over a d) ≡ over a (over b d)
over_either a b d h =
    let ip_proto = crossed a.keys.ip_proto b.keys.ip_proto d.keys.ip_proto h.ip_proto in
    let src_ip = crossed a.keys.src_ip b.keys.src_ip d.keys.src_ip h.src_ip in
    let dst_ip = crossed a.keys.dst_ip b.keys.dst_ip d.keys.dst_ip h.dst_ip in
    let src_port = crossed a.keys.src_port b.keys.src_port d.keys.src_port h.src_port in
    let dst_port = crossed a.keys.dst_port b.keys.dst_port d.keys.dst_port h.dst_port in
    let class = crossed a.class b.class d.class h.class in
    cc

-- two addresses of one version
pub same_either : (a b : IpVersion) → same_version a b ≡ same_version b a
same_either V4 V4 = refl
same_either V4 V6 = refl
same_either V6 V4 = refl
same_either V6 V6 = refl

-- what two keys ask of the drafts before them, in either order
record BothAgree (f g : KeyName) (v : Val f) (x : Val g) (h : HeadDraft) (d : KeyDraft) : Type 0 where
  other_first : agrees g x h d ≡ true
  one_behind : agrees f v h (over (says g x) d) ≡ true

-- the version that is wanted: that of the protocol, else of an address
abbrev wanted : Option IpVersion → Option Prefix → Option Prefix → Option IpVersion
wanted v src dst = option_or v (elim (option_or src dst) as (λ _. Option IpVersion) [ Some p ↦ Some p.version | None ↦ None ])

src_then_dst : (w : Option IpVersion) (v x : Prefix) → option_map_or (same_version v.version) w true ≡ true → option_map_or (same_version x.version) (option_or w (Some v.version)) true ≡ true
    → (option_map_or (same_version x.version) w true ≡ true) × (option_map_or (same_version v.version) (option_or w (Some x.version)) true ≡ true)
src_then_dst None v x a b = (refl, same_either v.version x.version ∙ b)
src_then_dst (Some w) v x a b = (b, a)

abbrev version : Prefix → IpVersion
version p = p.version

abbrev agreed : Prefix → Option IpVersion → Option Prefix → Option Prefix → Bool
agreed v w src dst = option_map_or (same_version v.version) (option_or w (option_map version (option_or src dst))) true

-- nothing but an address changes what is asked of one
agrees_by : (g : KeyName) (x : Val g) (h : HeadDraft) (d e : KeyDraft) → e.keys.src_ip ≡ d.keys.src_ip → e.keys.dst_ip ≡ d.keys.dst_ip → agrees g x h d ≡ agrees g x h e
agrees_by key.IpProto x h d e s t = refl
agrees_by key.SrcIp x h d e s t = ap (λ src. agreed x (version_of h.protocol) src d.keys.dst_ip) (sym s) ∙ ap (λ dst. agreed x (version_of h.protocol) e.keys.src_ip dst) (sym t)
agrees_by key.DstIp x h d e s t = ap (λ src. agreed x (version_of h.protocol) src d.keys.dst_ip) (sym s) ∙ ap (λ dst. agreed x (version_of h.protocol) e.keys.src_ip dst) (sym t)
agrees_by key.SrcPort x h d e s t = refl
agrees_by key.DstPort x h d e s t = refl
agrees_by key.Class x h d e s t = refl

no_version : (w : Option IpVersion) (v : Prefix) → agreed v w None None ≡ option_map_or (same_version v.version) w true
no_version None v = refl
no_version (Some w) v = refl

src_dst : (v x : Prefix) (h : HeadDraft) (d : KeyDraft) → is_some d.keys.src_ip ≡ false → is_some d.keys.dst_ip ≡ false → agreed v (version_of h.protocol) d.keys.src_ip d.keys.dst_ip ≡ true
    → agreed x (version_of h.protocol) (Some v) d.keys.dst_ip ≡ true → BothAgree key.SrcIp key.DstIp v x h d
src_dst v x h d s t a b =
    let w = version_of h.protocol in
    let src = not_some d.keys.src_ip s in
    let dst = not_some d.keys.dst_ip t in
    let bare : agreed v w None None ≡ true = ap (λ o. agreed v w o None) (sym src) ∙ ap (λ o. agreed v w d.keys.src_ip o) (sym dst) ∙ a in
    let two = src_then_dst w v x (sym (no_version w v) ∙ bare) b in
    record {
      other_first = ap (λ o. agreed x w o d.keys.dst_ip) src ∙ ap (λ o. agreed x w None o) dst ∙ no_version w x ∙ two.0;
      one_behind = ap (λ o. agreed v w o (Some x)) src ∙ two.1;
    }

dst_src : (v x : Prefix) (h : HeadDraft) (d : KeyDraft) → is_some d.keys.dst_ip ≡ false → is_some d.keys.src_ip ≡ false → agreed v (version_of h.protocol) d.keys.src_ip d.keys.dst_ip ≡ true
    → agreed x (version_of h.protocol) d.keys.src_ip (Some v) ≡ true → BothAgree key.DstIp key.SrcIp v x h d
dst_src v x h d t s a b =
    let w = version_of h.protocol in
    let src = not_some d.keys.src_ip s in
    let dst = not_some d.keys.dst_ip t in
    let bare : agreed v w None None ≡ true = ap (λ o. agreed v w o None) (sym src) ∙ ap (λ o. agreed v w d.keys.src_ip o) (sym dst) ∙ a in
    let two = src_then_dst w v x (sym (no_version w v) ∙ bare) (ap (λ o. agreed x w o (Some v)) (sym src) ∙ b) in
    record {
      other_first = ap (λ o. agreed x w o d.keys.dst_ip) src ∙ ap (λ o. agreed x w None o) dst ∙ no_version w x ∙ two.0;
      one_behind = two.1;
    }

twice : {f g : KeyName} {v : Val f} {x : Val g} {h : HeadDraft} {d : KeyDraft} → true ≡ false → BothAgree f g v x h d
twice e = absurd (cc)

both_agree : (f g : KeyName) (v : Val f) (x : Val g) (h : HeadDraft) (d : KeyDraft) → key_has f d ≡ false → key_has g (over (says f v) d) ≡ false → agrees f v h d ≡ true
    → agrees g x h (over (says f v) d) ≡ true → BothAgree f g v x h d
both_agree key.IpProto g v x h d fresh free a b = record { other_first = agrees_by g x h d (over (says key.IpProto v) d) refl refl ∙ b; one_behind = refl }
both_agree key.SrcIp key.IpProto v x h d fresh free a b = record { other_first = refl; one_behind = a }
both_agree key.SrcIp key.SrcIp v x h d fresh free a b = absurd (let k : true ≡ false = free in cc)
both_agree key.SrcIp key.DstIp v x h d fresh free a b = src_dst v x h d fresh free a b
both_agree key.SrcIp key.SrcPort v x h d fresh free a b = record { other_first = refl; one_behind = a }
both_agree key.SrcIp key.DstPort v x h d fresh free a b = record { other_first = refl; one_behind = a }
both_agree key.SrcIp key.Class v x h d fresh free a b = record { other_first = refl; one_behind = a }
both_agree key.DstIp key.IpProto v x h d fresh free a b = record { other_first = refl; one_behind = a }
both_agree key.DstIp key.SrcIp v x h d fresh free a b = dst_src v x h d fresh free a b
both_agree key.DstIp key.DstIp v x h d fresh free a b = absurd (let k : true ≡ false = free in cc)
both_agree key.DstIp key.SrcPort v x h d fresh free a b = record { other_first = refl; one_behind = a }
both_agree key.DstIp key.DstPort v x h d fresh free a b = record { other_first = refl; one_behind = a }
both_agree key.DstIp key.Class v x h d fresh free a b = record { other_first = refl; one_behind = a }
both_agree key.SrcPort g v x h d fresh free a b = record { other_first = agrees_by g x h d (over (says key.SrcPort v) d) refl refl ∙ b; one_behind = refl }
both_agree key.DstPort g v x h d fresh free a b = record { other_first = agrees_by g x h d (over (says key.DstPort v) d) refl refl ∙ b; one_behind = refl }
both_agree key.Class g v x h d fresh free a b = record { other_first = agrees_by g x h d (over (says key.Class v) d) refl refl ∙ b; one_behind = refl }

-- a key with its value
record Told (h : HeadDraft) (d : KeyDraft) (name word : List ℕ) : Type 0 where
  key : KeyName
  val : Val key
  text : is_utf8 name ≡ true
  is : entry_in entries name ≡ Some key
  fresh : key_has key d ≡ false
  word_text : is_utf8 word ≡ true
  parsed : parse key word ≡ Ok val
  agree : agrees key val h d ≡ true

pair_leads : (h : HeadDraft) (d : KeyDraft) (i : ℕ) (name word : List ℕ) (ws : List (List ℕ)) (t : Told h d name word)
    → rest_of (Positions.keys h d) i (name ∷ word ∷ ws) ≡ rest_of (Positions.keys h (over (says t.key t.val) d)) (suc (suc i)) ws
pair_leads h d i name word ws t =
    let named : after i (Positions.keys h d) name ≡ Ok (Positions.key_value t.key h d) =
    utf8_after i (Positions.keys h d) name t.text ∙ found h d name ∙ ap (entered h d) t.is ∙ ap (λ (b : Bool). once b (Positions.key_value t.key h d)) t.fresh in
    let read : after (suc i) (Positions.key_value t.key h d) word ≡ Ok (Positions.keys h (over (says t.key t.val) d)) =
    utf8_after (suc i) (Positions.key_value t.key h d) word t.word_text ∙ ap (λ r. value r (λ e. Positions.keys h e)) (key_with_as t.key h d word ∙ ap (judged t.key h d) t.parsed)
    ∙ ap (λ (b : Bool). value (if b then Ok (over (says t.key t.val) d) else Err wrong.OutOfRange) (λ e. Positions.keys h e)) t.agree in
    word_fits (Positions.keys h d) (Positions.key_value t.key h d) i name (word ∷ ws) named
    ∙ word_fits (Positions.key_value t.key h d) (Positions.keys h (over (says t.key t.val) d)) (suc i) word ws read

entry_told : (h : HeadDraft) (d : KeyDraft) (i : ℕ) (name word : List ℕ) (ws : List (List ℕ)) (line : Line) → is_utf8 name ≡ true → (f : KeyName) → entry_in entries name ≡ Some f
    → key_has f d ≡ false → rest_of (Positions.key_value f h d) i (word ∷ ws) ≡ Ok line → Told h d name word
entry_told h d i name word ws line text f is fresh e =
    let fit = word_fitted (Positions.key_value f h d) i word ws line e in
    by_value fit.text fit.next (parse f word) refl (ap (λ r. value r (λ e. Positions.keys h e)) (sym (key_with_as f h d word)) ∙ fit.fits_is)
  where
    by_agree : is_utf8 word ≡ true → (q : Position) (v : Val f) → parse f word ≡ Ok v → (b : Bool) → agrees f v h d ≡ b
        → value (if b then Ok (over (says f v) d) else Err wrong.OutOfRange) (λ e. Positions.keys h e) ≡ Ok q → Told h d name word
    by_agree t q v p true a e = record { key = f; val = v; text = text; is = is; fresh = fresh; word_text = t; parsed = p; agree = a }
    by_agree t q v p false a e = absurd (let k : Err wrong.OutOfRange ≡ Ok q = e in cc)

    by_value : is_utf8 word ≡ true → (q : Position) (r : Result (Val f) Wrong) → parse f word ≡ r → value (judged f h d (parse f word)) (λ e. Positions.keys h e) ≡ Ok q → Told h d name word
    by_value t q (Ok v) p e = by_agree t q v p (agrees f v h d) refl (ap (λ r. value (judged f h d r) (λ e. Positions.keys h e)) (sym p) ∙ e)
    by_value t q (Err x) p e = absurd (let k : Err x ≡ Ok q = ap (λ r. value (judged f h d r) (λ e. Positions.keys h e)) (sym p) ∙ e in cc)

pair_told : (h : HeadDraft) (d : KeyDraft) (i : ℕ) (name word : List ℕ) (ws : List (List ℕ)) (line : Line) → rest_of (Positions.keys h d) i (name ∷ word ∷ ws) ≡ Ok line → Told h d name word
pair_told h d i name word ws line e =
    let fit = word_fitted (Positions.keys h d) i name (word ∷ ws) line e in
    by_entry fit.text fit.next (entry_in entries name) refl (sym (found h d name) ∙ fit.fits_is) fit.rest
  where
    by_fresh : is_utf8 name ≡ true → (q : Position) (f : KeyName) → entry_in entries name ≡ Some f → (b : Bool) → key_has f d ≡ b → once b (Positions.key_value f h d) ≡ Ok q
        → rest_of q (suc i) (word ∷ ws) ≡ Ok line → Told h d name word
    by_fresh t q f is true g e r = absurd (let k : Err wrong.Twice ≡ Ok q = e in cc)
    by_fresh t q f is false g e r =
        let same : q ≡ Positions.key_value f h d = cc in
        entry_told h d (suc i) name word ws line t f is g (ap (λ p. rest_of p (suc i) (word ∷ ws)) (sym same) ∙ r)

    by_entry : is_utf8 name ≡ true → (q : Position) (x : Option KeyName) → entry_in entries name ≡ x → entered h d (entry_in entries name) ≡ Ok q
        → rest_of q (suc i) (word ∷ ws) ≡ Ok line → Told h d name word
    by_entry t q (Some f) is e r = by_fresh t q f is (key_has f d) refl (ap (entered h d) (sym is) ∙ e) r
    by_entry t q None is e r = absurd (let k : Err wrong.UnknownWord ≡ Ok q = ap (entered h d) (sym is) ∙ e in cc)

pairs_change_places : (h : HeadDraft) (d : KeyDraft) (i : ℕ) (a u b w : List ℕ) (ws : List (List ℕ)) (line : Line)
    → rest_of (Positions.keys h d) i (a ∷ u ∷ b ∷ w ∷ ws) ≡ Ok line → rest_of (Positions.keys h d) i (b ∷ w ∷ a ∷ u ∷ ws) ≡ Ok line
pairs_change_places h d i a u b w ws line e =
    let x = pair_told h d i a u (b ∷ w ∷ ws) line e in
    let first_says = says x.key x.val in
    let e2 : rest_of (Positions.keys h (over first_says d)) (suc (suc i)) (b ∷ w ∷ ws) ≡ Ok line = sym (pair_leads h d i a u (b ∷ w ∷ ws) x) ∙ e in
    let y = pair_told h (over first_says d) (suc (suc i)) b w ws line e2 in
    let second_says = says y.key y.val in
    let neither : (key_has y.key first_says || key_has y.key d) ≡ false = sym (has_over y.key first_says d) ∙ y.fresh in
    let away = says_apart y.key y.val first_says (left_false (key_has y.key first_says) (key_has y.key d) neither) in
    let free : key_has y.key d ≡ false = right_false (key_has y.key first_says) (key_has y.key d) neither in
    let both = both_agree x.key y.key x.val y.val h d x.fresh y.fresh x.agree y.agree in
    let y2 : Told h d b w = record { key = y.key; val = y.val; text = y.text; is = y.is; fresh = free; word_text = y.word_text; parsed = y.parsed; agree = both.other_first } in
    let fresh2 : key_has x.key (over second_says d) ≡ false = has_over x.key second_says d
    ∙ ap (λ (c : Bool). c || key_has x.key d) (said_apart x.key x.val second_says away) ∙ x.fresh in
    let x2 : Told h (over second_says d) a u = record { key = x.key; val = x.val; text = x.text; is = x.is; fresh = fresh2; word_text = x.word_text; parsed = x.parsed; agree = both.one_behind } in
    pair_leads h d i b w (a ∷ u ∷ ws) y2 ∙ pair_leads h (over second_says d) (suc (suc i)) a u ws x2
    ∙ ap (λ k. rest_of (Positions.keys h k) (suc (suc (suc (suc i)))) ws) (sym (over_either first_says second_says d away))
    ∙ sym (pair_leads h (over first_says d) (suc (suc i)) b w ws y) ∙ e2

pub keys_change_places : KeysChangePlaces
keys_change_places h d before one other behind line at a b e =
    let read = read_from before (Positions.keys h d) at (λ same. cc) in
    let i = 1 + length before in
    let one_first : rest_of (Positions.keys h d) i (one ++ (other ++ behind)) ≡ rest_of (Positions.keys h d) i (a.0 ∷ a.1 ∷ b.0 ∷ b.1 ∷ behind) =
    ap (λ v. rest_of (Positions.keys h d) i (v ++ (other ++ behind))) a.2 ∙ ap (λ v. rest_of (Positions.keys h d) i (a.0 ∷ a.1 ∷ (v ++ behind))) b.2 in
    let other_first : rest_of (Positions.keys h d) i (other ++ (one ++ behind)) ≡ rest_of (Positions.keys h d) i (b.0 ∷ b.1 ∷ a.0 ∷ a.1 ∷ behind) =
    ap (λ v. rest_of (Positions.keys h d) i (v ++ (one ++ behind))) b.2 ∙ ap (λ v. rest_of (Positions.keys h d) i (b.0 ∷ b.1 ∷ (v ++ behind))) a.2 in
    read.1 (other ++ (one ++ behind)) ∙ by_test read.0 one_first other_first (sym (read.1 (one ++ (other ++ behind))) ∙ e)
  where
    by_test : (t : Bool) → rest_of (Positions.keys h d) (1 + length before) (one ++ (other ++ behind)) ≡ rest_of (Positions.keys h d) (1 + length before) (a.0 ∷ a.1 ∷ b.0 ∷ b.1 ∷ behind)
        → rest_of (Positions.keys h d) (1 + length before) (other ++ (one ++ behind)) ≡ rest_of (Positions.keys h d) (1 + length before) (b.0 ∷ b.1 ∷ a.0 ∷ a.1 ∷ behind)
        → (if t then Ok Blank else rest_of (Positions.keys h d) (1 + length before) (one ++ (other ++ behind))) ≡ Ok line
        → (if t then Ok Blank else rest_of (Positions.keys h d) (1 + length before) (other ++ (one ++ behind))) ≡ Ok line
    by_test true p q e = e
    by_test false p q e = q ∙ pairs_change_places h d (1 + length before) a.0 a.1 b.0 b.1 behind line (sym p ∙ e)
