-- Relay lines that were written.
use Rattle.std.proofs.Common.{◌≡◌, ℕ, ◌+◌, Bool, true, false, List, [], ◌∷◌, ◌++◌, length, Option, Some, None, refl}
use Rattle.std.proofs.Common.{sym, ap, ap₂, ◌∙◌, subst, arith, append_assoc, append-nil, length-append, if◌then◌else◌}
use Rattle.std.proofs.lemmas.{Bool.{and_from, ne_eqb}, Fmt.length-decimal-le, List.Elements.{All-head, All-tail}}
use Rattle.std.{proofs.lemmas.List.Folds.list_all-append, specs.Prelude.{◌<◌, ◌≤◌, ◌==◌, ◌&&◌, not, map, All, codes}}
use Rattle.std.specs.{Prelude.{decimal, is_none}, List.{cons_option, list_all}}
use Rattle.item_terms.specs.{Lines.Line, Words.is_blank}
use Rattle.dir_bytes.{proofs.{ReadAgain.number-decimal, Spelling.length-hex_text}, specs.FieldTexts.hex_text}
use Rattle.dir_values.specs.{Arguments.{Argument, arguments_at}, Digests.fingerprint_text}
use Rattle.dir_values.specs.declared.digest.Fingerprint.{Fingerprint}
use Rattle.dirdoc_grammar.specs.Writers.{is_argument, is_argument_byte}
use Rattle.frame_laws.proofs.{WordTexts.{all_three, both_dark, bytes_of, weaker}, Words.arguments_of_more}
use Rattle.frame_laws.proofs.{Words.{arguments_of_word, word_of_identity, word_of_number}, WrittenItems.identity_again}
use Rattle.bandwidth_file.specs.{declared.{file.Header.Header, said.Row.Row}, Gathered.gathered_behind, Lines.{at, bw}}
use Rattle.bandwidth_file.specs.{Lines.{last_of, max_line, node_id, place_of, vote}, Relays.{last_bandwidth, new_row}}
use Rattle.bandwidth_file.specs.{Relays.{number_of_identities, relay_line, relay_said, row_said}, Files.many_fault}
use Rattle.bandwidth_file.specs.{Files.max_relays, Texts.relay_text}
use Rattle.bandwidth_file.specs.declared.refusal.BandReason.TheVariants as reason
use Rattle.bandwidth_file.specs.declared.said.Said.TheVariants as said
use Rattle.bandwidth_file.specs.declared.section.Section.TheVariants as section
use Rattle.bandwidth_laws.{specs.Again.{IsRelayInRange, is_line_byte}, proofs.Saying.{Says, says_one, whole}}

-- a relay's row
abbrev pub row_of : Fingerprint × ℕ → Row
row_of relay = record { identity = relay.0; bandwidth = relay.1 }

-- its line
abbrev pub line_of : Fingerprint × ℕ → List ℕ
line_of relay = codes "node_id=$" ++ fingerprint_text relay.0 ++ codes " bw=" ++ decimal relay.1

pub relay_line_is : (relay : Fingerprint × ℕ) → relay_text relay ≡ line_of relay ++ 10 ∷ []
relay_line_is relay = refl

-- ---- its two items

abbrev node_word : Fingerprint × ℕ → List ℕ
node_word relay = codes "node_id=$" ++ hex_text relay.0.0

abbrev band_word : Fingerprint × ℕ → List ℕ
band_word relay = codes "bw=" ++ decimal relay.1

in_words : (relay : Fingerprint × ℕ) → line_of relay ≡ node_word relay ++ 32 ∷ band_word relay
in_words relay = append_assoc (node_word relay) (codes " bw=") (decimal relay.1)

node_is_word : (relay : Fingerprint × ℕ) → IsRelayInRange relay → is_argument (node_word relay) ≡ true
node_is_word relay is =
    both_dark (codes "node_id=$") (hex_text relay.0.0) refl
    (bytes_of (hex_text relay.0.0) (word_of_identity relay.0.0 is.identity.count is.identity.each))

band_is_word : (relay : Fingerprint × ℕ) → is_argument (band_word relay) ≡ true
band_is_word relay =
    both_dark (codes "bw=") (decimal relay.1) refl (bytes_of (decimal relay.1) (word_of_number relay.1))

-- the items of the line
items_of : (relay : Fingerprint × ℕ) (place : ℕ) → IsRelayInRange relay → arguments_at place (line_of relay)
    ≡ record { place = place; text = node_word relay }
    ∷ record { place = place + length (node_word relay) + 1; text = band_word relay } ∷ []
items_of relay place is =
    let next = place + length (node_word relay) + 1 in
    ap (arguments_at place) (in_words relay)
    ∙ arguments_of_more place (node_word relay) (band_word relay) (node_is_word relay is)
    ∙ ap (λ (l : List Argument). record { place = place; text = node_word relay } ∷ l)
    (arguments_of_word next (band_word relay) (band_is_word relay))

-- the line says the row
says_row : (relay : Fingerprint × ℕ) (place : ℕ) → IsRelayInRange relay
    → relay_line place (line_of relay) ≡ said.Relay (row_of relay)
says_row relay place is =
    let node : Argument = record { place = place + 8; text = 36 ∷ hex_text relay.0.0 } in
    let band : Argument = record { place = place + length (node_word relay) + 1 + 3; text = decimal relay.1 } in
    ap (λ (l : List Argument). relay_said (last_of node_id l) (last_of bw l) (last_of vote l)) (items_of relay place is)
    ∙ ap₂ (row_said node band) (identity_again relay.0 is.identity.count is.identity.each)
    (number-decimal 4294967295 relay.1 (omega (arith, is.bandwidth)) (omega (arith, is.bandwidth)))

-- ---- its bytes

argument_byte : (b : ℕ) → is_argument_byte b ≡ true → is_line_byte b ≡ true
argument_byte b is =
    let parts = all_three (not (is_blank b)) (not (b == 10)) (not (b == 0)) is in
    and_from (not (b == 10)) (not (b == 0)) parts.1 parts.2

pub line_bytes : (word : List ℕ) → is_argument word ≡ true → list_all is_line_byte word ≡ true
line_bytes word is = weaker is_argument_byte is_line_byte argument_byte word (bytes_of word is)

pub relay_bytes : (relay : Fingerprint × ℕ) → IsRelayInRange relay → list_all is_line_byte (line_of relay) ≡ true
relay_bytes relay is =
    ap (list_all is_line_byte) (in_words relay) ∙ list_all-append is_line_byte (node_word relay) (32 ∷ band_word relay)
    ∙ and_from _ _ (line_bytes (node_word relay) (node_is_word relay is))
    (line_bytes (band_word relay) (band_is_word relay))

relay_size : (relay : Fingerprint × ℕ) → IsRelayInRange relay → length (line_of relay) < max_line
relay_size relay is =
    let digits =
    length-decimal-le 10 relay.1 (omega arith) (omega (arith, is.bandwidth)) (omega (arith, is.bandwidth)) in
    let hex = length-hex_text relay.0.0 in
    let both = length-append (node_word relay) (32 ∷ band_word relay) in
    let same = ap (λ (l : List ℕ). length l) (in_words relay) in
    let node = length-append (codes "node_id=$") (hex_text relay.0.0) in
    let band = length-append (codes "bw=") (decimal relay.1) in
    omega (arith, digits, hex, both, same, node, band, is.identity.count)

-- ---- how many there are

longer : {B : Type 0} (first : Option B) (rest : List B) (n : ℕ) → length rest ≤ n
    → length (cons_option first rest) ≤ n + 1
longer None rest n le = omega (arith, le)
longer (Some x) rest n le = omega (arith, le)

not_more : (says : List Row → Row → Option Row) (before rows : List Row)
    → length (gathered_behind says before rows) ≤ length rows
not_more says before [] = omega arith
not_more says before (row ∷ rows) =
    let rest = gathered_behind says (before ++ row ∷ []) rows in
    let one = longer (says before row) rest (length rows) (not_more says (before ++ row ∷ []) rows) in
    omega (arith, one)

-- one more is not too many
may_follow : (rows : List Row) (row : Row) (place : ℕ) → length rows < max_relays → many_fault rows place row ≡ None
may_follow rows row place few =
    let count : number_of_identities rows ≤ length rows = not_more new_row [] rows in
    let other : (number_of_identities rows == max_relays) ≡ false =
    ne_eqb (number_of_identities rows) max_relays (λ e. omega (arith, few, count, e)) in
    let new = is_none (last_bandwidth rows row.identity) in
    ap (λ (b : Bool). if new && b then Some (at place reason.TooMany) else None) other
    ∙ elim new as (λ b. (if b && false then Some (at place reason.TooMany) else None) ≡ None) [
      | true ↦ refl
      | false ↦ refl
    ]

-- relay lines say their rows
pub relays_say : (before : List Line) (t : List ℕ) (h : List Header) (r : List Row) (more : List (Fingerprint × ℕ))
    → All IsRelayInRange more → length r + length more ≤ max_relays → Says before section.Relays t h r
    → Says (before ++ map (λ relay. whole (line_of relay)) more) section.Relays t h (r ++ map row_of more)
relays_say before t h r [] each few says =
    subst (λ (l : List Line). Says l section.Relays t h (r ++ [])) (sym (append-nil before))
    (subst (λ (l : List Row). Says before section.Relays t h l) (sym (append-nil r)) says)
relays_say before t h r (relay ∷ more) each few says =
    let is = All-head IsRelayInRange relay more each in
    let text = line_of relay in
    let row = row_of relay in
    let one = says_one before text (said.Relay row) section.Relays t h r section.Relays t h (r ++ row ∷ []) says refl
    (relay_bytes relay is) (relay_size relay is) (says_row relay (place_of before) is)
    (may_follow r row (place_of before) (omega (arith, few))) refl (append-nil t) (append-nil h) refl in
    let lines = map (λ other. whole (line_of other)) more in
    let long = length-append r (row ∷ []) in
    subst (λ (l : List Line). Says l section.Relays t h (r ++ row ∷ map row_of more))
    (append_assoc before (whole text ∷ []) lines)
    (subst (λ (l : List Row). Says ((before ++ whole text ∷ []) ++ lines) section.Relays t h l)
    (append_assoc r (row ∷ []) (map row_of more))
    (relays_say (before ++ whole text ∷ []) t h (r ++ row ∷ []) more (All-tail IsRelayInRange relay more each)
    (omega (arith, few, long)) one))
