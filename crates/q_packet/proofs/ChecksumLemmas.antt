-- The checksum of an IPv4 header is right after the marks exactly where it was right before.
use Rattle.std.proofs.Common.{◌≡◌, ℕ, zero, suc, ◌+◌, ◌-◌, ◌*◌, ◌/◌, ◌%◌, ◌<◌, ◌≤◌, ◌↔◌, List, slice_index, refl, sym, ap, subst, ◌∙◌, arith}
use Rattle.std.specs.Prelude.{min}
use Rattle.byteorder.specs.Endian.{big_from}
use Rattle.q_packet.specs.Head.{header_length}
use Rattle.q_packet.specs.Marking.{HasRightChecksum, ones_sum, renewed_checksum, words_sum}
use Rattle.q_packet.proofs.MarkingLemmas.{IsIpv4, Marks4, before4, behind4}

-- the plain sum of the n words of 16 bits from byte i
abbrev pub plain_sum : ℕ → ℕ → List ℕ → ℕ
plain_sum i zero packet = 0
plain_sum i (suc n) packet = big_from i 2 packet + plain_sum (i + 2) n packet

-- s is the one's complement sum where `plain` is the plain one: they differ by whole rounds of 65535, and only the empty
-- sum is 0
pub record Folds (s plain : ℕ) : Type 0 where
  pub rounds : ℕ
  pub whole : plain ≡ 65535 * rounds + s
  pub fits : s ≤ 65535
  pub above : min 1 plain ≤ s

-- one more word
fold_more : (a s plain : ℕ) → a ≤ 65535 → Folds s plain → Folds (ones_sum a s) (a + plain)
fold_more a s plain small folds =
    let whole = folds.whole in
    let fits = folds.fits in
    let above = folds.above in
    record {
      rounds = folds.rounds + (a + s) / 65536;
      whole = omega arith;
      fits = omega arith;
      above = omega arith;
    }

-- the n words from byte i have 16 bits
abbrev pub WordsFit : ℕ → ℕ → List ℕ → Type 0
WordsFit i zero packet = Unit {0}
WordsFit i (suc n) packet = (big_from i 2 packet ≤ 65535) × WordsFit (i + 2) n packet

folds : (i n : ℕ) (packet : List ℕ) → WordsFit i n packet → Folds (words_sum i n packet) (plain_sum i n packet)
folds i zero packet fit = record { rounds = 0; whole = omega arith; fits = omega arith; above = omega arith }
folds i (suc n) packet fit =
    fold_more (big_from i 2 packet) (words_sum (i + 2) n packet) (plain_sum (i + 2) n packet) fit.0 (folds (i + 2) n packet fit.1)

-- every item of the list is a byte
abbrev pub AreBytes : List ℕ → Type 0
AreBytes packet = (i : ℕ) → slice_index packet i < 256

word_fits : (i : ℕ) (packet : List ℕ) → AreBytes packet → big_from i 2 packet ≤ 65535
word_fits i packet bytes = let high = bytes i in let low = bytes (suc i) in omega arith

words_fit : (i n : ℕ) (packet : List ℕ) → AreBytes packet → WordsFit i n packet
words_fit i zero packet bytes = tt
words_fit i (suc n) packet bytes = (word_fits i packet bytes, words_fit (i + 2) n packet bytes)

-- the renewed checksum makes up for the word that was `old` and is `new`, whatever the rest of the words sum to
pub renewed_fold : (rest checksum old new s t : ℕ) → checksum ≤ 65535 → 0 < old → old ≤ 65535 → 0 < new → new ≤ 65535
    → Folds s (old + (checksum + rest)) → Folds t (new + (renewed_checksum checksum old new + rest)) → (s ≡ 65535) ↔ (t ≡ 65535)
renewed_fold rest checksum old new s t checksum_fits some_old old_fits some new_fits before after =
    let was = before.whole in
    let was_fits = before.fits in
    let was_above = before.above in
    let now = after.whole in
    let now_fits = after.fits in
    let above = after.above in
    ((λ right. omega arith), (λ right. omega arith))

-- six more, one by one
abbrev pub six : ℕ → ℕ
six more = suc (suc (suc (suc (suc (suc more)))))

-- the plain sum of a header: its first word, its checksum, and the others
others_sum : ℕ → List ℕ → ℕ
others_sum more packet = big_from 2 2 packet + big_from 4 2 packet + big_from 6 2 packet + big_from 8 2 packet + plain_sum 12 more packet

plain_sum_parts : (more : ℕ) (packet : List ℕ) → plain_sum 0 (six more) packet ≡ big_from 0 2 packet + (big_from 10 2 packet + others_sum more packet)
unfolding others_sum
plain_sum_parts more packet = omega arith

behind_sum : (i n : ℕ) (old new : List ℕ) → Marks4 old new → 12 ≤ i → plain_sum i n new ≡ plain_sum i n old
behind_sum i zero old new marks behind = refl
behind_sum i (suc n) old new marks behind =
    let here = behind4 i 2 old new marks behind in
    let rest = behind_sum (i + 2) n old new marks (omega arith) in
    cc

others_stay : (more : ℕ) (old new : List ℕ) → Marks4 old new → others_sum more new ≡ others_sum more old
unfolding others_sum
others_stay more old new marks =
    let a = before4 2 2 old new marks (omega arith) (omega arith) in
    let b = before4 4 2 old new marks (omega arith) (omega arith) in
    let c = before4 6 2 old new marks (omega arith) (omega arith) in
    let d = before4 8 2 old new marks (omega arith) (omega arith) in
    let e = behind_sum 12 more old new marks (omega arith) in
    cc

fit_behind : (i n : ℕ) (old new : List ℕ) → Marks4 old new → AreBytes new → 12 ≤ i → WordsFit i n old
fit_behind i zero old new marks bytes behind = tt
fit_behind i (suc n) old new marks bytes behind =
    (subst (λ (w : ℕ). w ≤ 65535) (behind4 i 2 old new marks behind) (word_fits i new bytes), fit_behind (i + 2) n old new marks bytes (omega arith))

-- the words before the marks have 16 bits where those after them do, and the checksum had
fit_before : (more : ℕ) (old new : List ℕ) → Marks4 old new → AreBytes new → big_from 10 2 old ≤ 65535 → WordsFit 0 (six more) old
fit_before more old new marks bytes checksum_fits =
    let high : slice_index old 0 < 256 = subst (λ (b : ℕ). b < 256) (marks.bytes 0 (omega arith) (omega arith) (omega arith)) (bytes 0) in
    let traffic : slice_index old 1 < 256 = omega (arith, marks.traffic, bytes 1) in
    let first : big_from 0 2 old ≤ 65535 = omega arith in
    let two : big_from 2 2 old ≤ 65535 = omega (arith, word_fits 2 new bytes, before4 2 2 old new marks (omega arith) (omega arith)) in
    let four : big_from 4 2 old ≤ 65535 = omega (arith, word_fits 4 new bytes, before4 4 2 old new marks (omega arith) (omega arith)) in
    let six_on : big_from 6 2 old ≤ 65535 = omega (arith, word_fits 6 new bytes, before4 6 2 old new marks (omega arith) (omega arith)) in
    let eight : big_from 8 2 old ≤ 65535 = omega (arith, word_fits 8 new bytes, before4 8 2 old new marks (omega arith) (omega arith)) in
    (first, (two, (four, (six_on, (eight, (checksum_fits, fit_behind 12 more old new marks bytes (omega arith)))))))

right_stays : (more : ℕ) (old new : List ℕ) → Marks4 old new → AreBytes new → 0 < big_from 0 2 old → big_from 10 2 old ≤ 65535
    → (words_sum 0 (six more) old ≡ 65535) ↔ (words_sum 0 (six more) new ≡ 65535)
right_stays more old new marks bytes some_old checksum_fits =
    let fit = fit_before more old new marks bytes checksum_fits in
    let before = subst (λ (p : ℕ). Folds (words_sum 0 (six more) old) p) (plain_sum_parts more old) (folds 0 (six more) old fit) in
    let rest = others_stay more old new marks in
    let new_parts : plain_sum 0 (six more) new ≡ big_from 0 2 new + (renewed_checksum (big_from 10 2 old) (big_from 0 2 old) (big_from 0 2 new) + others_sum more old) =
    plain_sum_parts more new ∙ cc (rest, marks.checksum) in
    let after = subst (λ (p : ℕ). Folds (words_sum 0 (six more) new) p) new_parts (folds 0 (six more) new (words_fit 0 (six more) new bytes)) in
    let traffic = marks.traffic in
    let some : 0 < big_from 0 2 new = omega arith in
    renewed_fold (others_sum more old) (big_from 10 2 old) (big_from 0 2 old) (big_from 0 2 new) (words_sum 0 (six more) old) (words_sum 0 (six more) new)
    checksum_fits some_old fit.0 some (word_fits 0 new bytes) before after

-- an IPv4 header has six words at least, and the first of them is not 0
pub checksum_stays : (old new : List ℕ) → Marks4 old new → IsIpv4 old → AreBytes new → big_from 10 2 old ≤ 65535 → HasRightChecksum old ↔ HasRightChecksum new
checksum_stays old new marks is bytes checksum_fits =
    let first : slice_index new 0 ≡ slice_index old 0 = marks.bytes 0 (omega arith) (omega arith) (omega arith) in
    let words : header_length old / 2 ≡ six (header_length old / 2 - 6) = omega (arith, is.least) in
    let same : header_length new / 2 ≡ six (header_length old / 2 - 6) = ap (λ (b : ℕ). b % 16 * 4 / 2) first ∙ words in
    let some : 0 < big_from 0 2 old = omega (arith, is.version) in
    let both = right_stays (header_length old / 2 - 6) old new marks bytes some checksum_fits in (
      (λ right. ap (λ (n : ℕ). words_sum 0 n new) same ∙ both.0 (sym (ap (λ (n : ℕ). words_sum 0 n old) words) ∙ right)),
      (λ right. ap (λ (n : ℕ). words_sum 0 n old) words ∙ both.1 (sym (ap (λ (n : ℕ). words_sum 0 n new) same) ∙ right)),
    )
