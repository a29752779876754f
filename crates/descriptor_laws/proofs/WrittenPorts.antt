-- The ports of an exit policy's item that were written are read again.
use Rattle.std.proofs.Common.{◌≡◌, ℕ, ◌+◌, ◌≤◌, ◌<◌, Bool, true, false, List, [], ◌∷◌, ◌++◌, length, take, drop, Option}
use Rattle.std.proofs.Common.{Some, None, refl, sym, ap, ◌∙◌, arith, append_assoc, length-append}
use Rattle.std.proofs.lemmas.{Bool.{and_from, and_parts, eqb-true, le-leb, or_from}, List.{take_at, drop_at}}
use Rattle.std.{proofs.lemmas.List.Folds.list_all-append, specs.Prelude.{decimal, ◌==◌, ◌&&◌, ◌||◌, if◌then◌else◌}}
use Rattle.std.specs.{Prelude.codes, List.{list_all, list_any, before_first, after_first, position_or_len}}
use Rattle.item_terms.specs.{Bytes.hyphen, Words.first_is}
use Rattle.dir_values.specs.Numbers.{port_of}
use Rattle.frame_laws.proofs.{WordTexts.{Dark, both_dark, length-word, weaker}, Words.word_of_number}
use Rattle.dirdoc_grammar.specs.Writers.{is_argument_byte}
use Rattle.exit_summary.specs.{PolicyItems.{is_hyphen, ports_between, ports_of, colon}, Texts.ports_text}
use Rattle.descriptor_laws.proofs.{WrittenLines.port_again, PlainTexts.{Plain, decimal_plain, is_plain, lacks}}
use Rattle.descriptor_laws.proofs.PlainTexts.{no_colon, no_hyphen, no_star, plain_argument}

-- ---- ports

-- no byte of a text is a hyphen
pub no_hyphens : (text : List ℕ) → Plain text → list_any is_hyphen text ≡ false
no_hyphens [] plain = refl
no_hyphens (b ∷ text) plain =
    let parts = and_parts (is_plain b) (list_all is_plain text) plain in
    or_from (is_hyphen b) (list_any is_hyphen text) (no_hyphen b parts.0) (no_hyphens text parts.1)

-- the first hyphen stands behind what has none
pub hyphen_behind : (front back : List ℕ) → Plain front
    → position_or_len is_hyphen (front ++ hyphen ∷ back) ≡ length front
hyphen_behind [] back plain = refl
hyphen_behind (b ∷ front) back plain =
    let parts = and_parts (is_plain b) (list_all is_plain front) plain in
    let more = hyphen_behind front back parts.1 in
    rw (no_hyphen b parts.0) (omega (arith, more))

pub hyphen_there : (front back : List ℕ) → list_any is_hyphen (front ++ hyphen ∷ back) ≡ true
hyphen_there [] back = refl
hyphen_there (b ∷ front) back =
    elim (is_hyphen b) as (λ t. (t || list_any is_hyphen (front ++ hyphen ∷ back)) ≡ true) [
      | true ↦ refl
      | false ↦ hyphen_there front back
    ]

-- ports of a text that begins with a digit
abbrev pub ports_by : Bool → List ℕ → Option (ℕ × ℕ)
ports_by has text =
    if has then ports_between (port_of (before_first is_hyphen text)) (port_of (after_first is_hyphen text))
    else ports_between (port_of text) (port_of text)

pub plain_ports : (text : List ℕ) (has : Bool) → 0 < length text → first_is is_plain text ≡ true
    → list_any is_hyphen text ≡ has → ports_of text ≡ ports_by has text
plain_ports [] has some plain is = absurd (omega (arith, some))
plain_ports (b ∷ rest) has some plain is = rw (no_star b plain, is) refl

pub first_plain : (text : List ℕ) → 0 < length text → Plain text → first_is is_plain text ≡ true
first_plain [] some plain = absurd (omega (arith, some))
first_plain (b ∷ text) some plain = (and_parts (is_plain b) (list_all is_plain text) plain).0

pub first_of_both : (front back : List ℕ) → 0 < length front → first_is is_plain front ≡ true
    → first_is is_plain (front ++ back) ≡ true
first_of_both [] back some plain = absurd (omega (arith, some))
first_of_both (b ∷ front) back some plain = plain

pub one_port : (n : ℕ) → n ≤ 65535 → ports_of (decimal n) ≡ Some (n, n)
one_port n small =
    let text = decimal n in
    let some = length-word text (word_of_number n) in
    let plain = decimal_plain n (omega (arith, small)) in
    plain_ports text false some (first_plain text some plain) (no_hyphens text plain)
    ∙ ap (λ (o : Option ℕ). ports_between o o) (port_again n small)
    ∙ ap (λ (t : Bool). if t then Some (n, n) else None) (le-leb n n (omega arith))

pub two_ports : (low high : ℕ) → low ≤ high → high ≤ 65535
    → ports_of (decimal low ++ hyphen ∷ decimal high) ≡ Some (low, high)
two_ports low high up small =
    let a = decimal low in
    let b = decimal high in
    let text = a ++ hyphen ∷ b in
    let some = length-word a (word_of_number low) in
    let plain = decimal_plain low (omega (arith, up, small)) in
    let place = hyphen_behind a b plain in
    let joined : (a ++ hyphen ∷ []) ++ b ≡ text = append_assoc a (hyphen ∷ []) b in
    let front : before_first is_hyphen text ≡ a =
    ap (λ (n : ℕ). take n text) place ∙ take_at a (hyphen ∷ b) (length a) refl in
    let back : after_first is_hyphen text ≡ b =
    ap (λ (n : ℕ). drop (n + 1) text) place ∙ ap (λ (l : List ℕ). drop (length a + 1) l) (sym joined)
    ∙ drop_at (a ++ hyphen ∷ []) b (length a + 1) (omega (arith, length-append a (hyphen ∷ []))) in
    plain_ports text true (omega (arith, some, length-append a (hyphen ∷ b)))
    (first_of_both a (hyphen ∷ b) some (first_plain a some plain)) (hyphen_there a b)
    ∙ ap (λ (l : List ℕ). ports_between (port_of l) (port_of (after_first is_hyphen text))) front
    ∙ ap (λ (l : List ℕ). ports_between (port_of a) (port_of l)) back
    ∙ ap (λ (o : Option ℕ). ports_between o (port_of b)) (port_again low (omega (arith, up, small)))
    ∙ ap (λ (o : Option ℕ). ports_between (Some low) o) (port_again high small)
    ∙ ap (λ (t : Bool). if t then Some (low, high) else None) (le-leb low high up)

-- What the text of ports is: it spells them, and is a word without a colon.
pub record IsPortsText (text : List ℕ) (low high : ℕ) : Type 0 where
  pub spells : ports_of text ≡ Some (low, high)
  pub no_colon : list_all (lacks colon) text ≡ true
  pub dark : Dark text

pub port_dark : (n : ℕ) → n ≤ 65535 → (list_all (lacks colon) (decimal n) ≡ true) × Dark (decimal n)
port_dark n small =
    let plain = decimal_plain n (omega (arith, small)) in
    (weaker is_plain (lacks colon) no_colon (decimal n) plain, weaker is_plain is_argument_byte plain_argument (decimal n) plain)

pub ports_again : (low high : ℕ) → low ≤ high → high ≤ 65535 → IsPortsText (ports_text low high) low high
ports_again low high up small =
    let by : (all one : Bool) → ((low == 1) && (high == 65535)) ≡ all → (low == high) ≡ one
    → IsPortsText (if all then codes "*" else if one then decimal low else decimal low ++ hyphen ∷ decimal high) low high =
    λ all. elim all as (λ all. (one : Bool) → ((low == 1) && (high == 65535)) ≡ all → (low == high) ≡ one
    → IsPortsText (if all then codes "*" else if one then decimal low else decimal low ++ hyphen ∷ decimal high) low high) [
      | true ↦ λ one each same.
          let parts = and_parts (low == 1) (high == 65535) each in
          record {
            spells = ap (λ (n : ℕ). Some (n, 65535)) (sym (eqb-true low 1 parts.0))
                ∙ ap (λ (n : ℕ). Some (low, n)) (sym (eqb-true high 65535 parts.1));
            no_colon = refl;
            dark = refl;
          }
      | false ↦ λ one. elim one as (λ one. ((low == 1) && (high == 65535)) ≡ false → (low == high) ≡ one
          → IsPortsText (if one then decimal low else decimal low ++ hyphen ∷ decimal high) low high) [
            | true ↦ λ some same.
                let bytes = port_dark low (omega (arith, up, small)) in
                record {
                  spells = one_port low (omega (arith, up, small)) ∙ ap (λ (n : ℕ). Some (low, n)) (eqb-true low high same);
                  no_colon = bytes.0;
                  dark = bytes.1;
                }
            | false ↦ λ some other.
                let first = port_dark low (omega (arith, up, small)) in
                let second = port_dark high small in
                record {
                  spells = two_ports low high up small;
                  no_colon = list_all-append (lacks colon) (decimal low) (hyphen ∷ decimal high)
                      ∙ and_from _ _ first.0 second.0;
                  dark = both_dark (decimal low) (hyphen ∷ decimal high) first.1 second.1;
                }
          ]
    ] in
    by ((low == 1) && (high == 65535)) (low == high) refl refl
