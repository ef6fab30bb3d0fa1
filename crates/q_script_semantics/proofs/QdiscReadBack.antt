-- What show prints of a bfifo, prio, tbf or drr is what a line writes of it, and so is read back.
use Rattle.std.proofs.Common.{◌≡◌, ◌∙◌, ℕ, List, [], ◌∷◌, ◌++◌, map, Ok, Some, refl, sym, ap, arith, codes, append-nil, append_assoc}
use Rattle.std.specs.List.{flat_map, join_with_byte}
use Rattle.std.specs.Fmt.{decimal}
use Rattle.q_line.specs.Laws.{IsName}
use Rattle.q_model.specs.Numbers.{IsHandle}
use Rattle.q_model.specs.Ranges
use Rattle.q_model.specs.declared.command.Command.TheVariants.{QdiscAdd}
use Rattle.q_model.specs.declared.kind.Kind.{Kind}
use Rattle.q_model.specs.declared.kind.Kind.TheVariants as kind
use Rattle.q_model.specs.declared.place.Place.{Place}
use Rattle.q_model.specs.declared.place.Place.TheVariants as place
use Rattle.q_model.specs.declared.qdisc_view.QdiscView.TheVariants as qdisc
use Rattle.q_model.specs.declared.tbf_limit.TbfLimit.TheVariants.{Bytes}
use Rattle.q_line.specs.Grammar.{line_of}
use Rattle.q_line.specs.Ranges.{IsBelow}
use Rattle.q_line.specs.Spelling.{change_words, class_word, given, handle_word, kind_words, place_words}
use Rattle.q_line.specs.declared.line.Line.TheVariants.{Tc}
use Rattle.q_line.proofs.SpelledLines.{spellings}
use Rattle.q_show.specs.ShowText.{handle_text, place_text, priomap_text, setting}
use Rattle.q_script_semantics.specs.ReadBack.{IsPlace, adding, QdiscsAreReadBack}

-- a place in which a command puts a qdisc is in range, and below the root's
in_range : (p : Place) → IsPlace p → Ranges.IsPlace p
in_range place.Top h = absurd h
in_range place.Root h = tt
in_range (place.Class class) h = record { major = h.0; minor = h.1 }

below : (p : Place) → IsPlace p → IsBelow p
below place.Top h = absurd h
below place.Root h = tt
below (place.Class class) h = tt

-- the shown parts, of which the last are those of the kind
abbrev shown : List ℕ → Place → ℕ → List ℕ → List ℕ
shown name place handle text = adding (codes "qdisc") name (place_text place ∷ codes "handle" ∷ (handle_text (Some handle) ++ codes ":") ∷ text ∷ [])

abbrev with_head : List ℕ → Place → ℕ → List (List ℕ) → List (List ℕ)
with_head name place handle ws = change_words (codes "qdisc") (codes "add") name ++ (place_words place ++ (given (codes "handle") handle_word (Some handle) ++ ws))

spelled : (name : List ℕ) (p : Place) (handle : ℕ) (text w : List ℕ) (ws : List (List ℕ)) → IsPlace p → text ≡ join_with_byte 32 (w ∷ ws)
    → shown name p handle text ≡ join_with_byte 32 (with_head name p handle (w ∷ ws))
spelled name place.Top handle text w ws p e = absurd p
spelled name place.Root handle text w ws p e =
    ap (λ t. join_with_byte 32 (codes "tc" ∷ codes "qdisc" ∷ codes "add" ∷ codes "dev" ∷ name ∷ codes "root" ∷ codes "handle" ∷ handle_word handle ∷ t ∷ [])) e
spelled name (place.Class class) handle text w ws p e =
    ap (λ t. join_with_byte 32 (codes "tc" ∷ codes "qdisc" ∷ codes "add" ∷ codes "dev" ∷ name ∷ codes "parent" ∷ class_word class ∷ codes "handle" ∷ handle_word handle ∷ t ∷ [])) e

-- a kind whose shown parts are the words of a line
kind_read : (name : List ℕ) (p : Place) (handle : ℕ) (k : Kind) (text w : List ℕ) (ws : List (List ℕ)) → IsName name → IsPlace p → IsHandle handle → Ranges.IsKind k
    → kind_words k ≡ w ∷ ws → text ≡ join_with_byte 32 (w ∷ ws) → line_of (shown name p handle text) ≡ Ok (Tc (QdiscAdd p (Some handle) k))
kind_read name p handle k text w ws is_name in_place h is words e =
    ap (λ t. line_of t) (spelled name p handle text w ws in_place e)
    ∙ ap (λ l. line_of (join_with_byte 32 (with_head name p handle l))) (sym words)
    ∙ spellings name [] (Tc (QdiscAdd p (Some handle) k)) is_name ((in_range p in_place, h, is), below p in_place)

-- the numbers of a priomap, each with a blank before it
bands_spelled : (w : List ℕ) (xs : List ℕ) → w ++ flat_map (λ band. codes " " ++ decimal band) xs ≡ join_with_byte 32 (w ∷ map decimal xs)
bands_spelled w [] = append-nil w
bands_spelled w (x ∷ xs) = ap (λ t. w ++ 32 ∷ t) (bands_spelled (decimal x) xs)

prio_spelled : (bands : ℕ) (priomap : List ℕ)
    → codes "prio" ++ (setting (codes "bands") bands [] ++ priomap_text priomap) ≡ join_with_byte 32 (codes "prio" ∷ codes "bands" ∷ decimal bands ∷ codes "priomap" ∷ map decimal priomap)
prio_spelled bands priomap =
    ap (λ t. codes "prio bands " ++ (t ++ priomap_text priomap)) (append-nil (decimal bands))
    ∙ ap (λ t. codes "prio bands " ++ (decimal bands ++ 32 ∷ t)) (bands_spelled (codes "priomap") priomap)

pub qdiscs_read_back : QdiscsAreReadBack
qdiscs_read_back name handle place (qdisc.Pfifo limit) row is_name h p is = tt
qdiscs_read_back name handle place (qdisc.Bfifo limit) row is_name h p is =
    kind_read name place handle (kind.Bfifo (Some limit)) _ (codes "bfifo") _ is_name p h (omega arith, is) refl refl
qdiscs_read_back name handle place (qdisc.Prio bands priomap) row is_name h p is =
    kind_read name place handle (kind.Prio (record { bands = bands; priomap = priomap })) _ (codes "prio") _ is_name p h is refl (prio_spelled bands priomap)
qdiscs_read_back name handle place (qdisc.Tbf rate burst limit) row is_name h p is =
    kind_read name place handle (kind.Tbf rate burst (Bytes limit)) _ (codes "tbf") _ is_name p h (record { bits = is.0; bytes = is.1; most = is.2 }) refl
    (ap (λ t. codes "tbf rate " ++ t) (append_assoc (decimal rate ++ codes "bit") (setting (codes "burst") burst (codes "b")) (setting (codes "limit") limit (codes "b"))))
qdiscs_read_back name handle place qdisc.Drr row is_name h p is =
    kind_read name place handle kind.Drr _ (codes "drr") [] is_name p h tt refl refl
qdiscs_read_back name handle place (qdisc.FqCodel s) row is_name h p is = tt
