-- The `dir-source` line of a vote, of an authority that a station input names, is no longer than a line may be.
use Rattle.std.proofs.Common.{◌≡◌, ℕ, ◌+◌, ◌≤◌, Bool, true, false, List, [], ◌∷◌, ◌++◌, length, Ok, refl, ap, ◌∙◌}
use Rattle.std.{proofs.{Common.{arith, length-append}, lemmas.Bool.leb-true}, specs.Prelude.{codes, decimal}}
use Rattle.item_terms.specs.{Bytes.{line_feed, space}, Faults.max_line, Items.Item}
use Rattle.dir_bytes.specs.FieldTexts.{address_text, hex_text}
use Rattle.dirdoc_grammar.specs.Writing.{tail}
use Rattle.frame_values.specs.{Arguments.{arguments_of, front, others}, Lines.source_of, Parts.part}
use Rattle.frame_values.specs.declared.{found.DirSource.DirSource, values.Value.Value}
use Rattle.frame_values.specs.declared.values.Value.TheVariants as value
use Rattle.row_laws.proofs.{ItemArguments.IsSound, ReadSteps.{ReadAs, next_reads, no_fault, was_read}}
use Rattle.station_input.specs.{Lines.own_of, Sources.{fits_line, names_part, ports_part, source_line}}
use Rattle.station_input.specs.{Tables.{over_limit, value_at}, declared.frame_said.StationValue.StationValue}
use Rattle.station_input.specs.declared.frame.StationKind.TheVariants as kind
use Rattle.station_input.specs.declared.frame_said.StationValue.TheVariants as own
use Rattle.frame_terms.specs.declared.keyword.Keyword.{Keyword}
use Rattle.range_laws.proofs.{LineReads.{IsNamed, named_reads}, TextSizes.tail_short}
use Rattle.maker_laws.proofs.{ItemLines.FitsLine, StationReads.own_if, StandingLines.SaysShort}

-- ---- the line by its parts

-- who an authority is that stands in these bytes, as a vote says it
abbrev pub rest_of_source : List ℕ → DirSource → List ℕ
rest_of_source bytes source =
    part bytes source.nickname ++ space ∷ hex_text source.identity.0 ++ space ∷ part bytes source.address
    ++ space ∷ (address_text source.ip ++ space ∷ decimal source.dir_port ++ space ∷ decimal source.or_port)

-- the sizes of six texts with a space before each, and of the same one behind the other
same_size : (word a b c d e f : List ℕ)
    → length (word ++ tail (a ++ space ∷ b ++ space ∷ c ++ space ∷ (d ++ space ∷ e ++ space ∷ f))) + 1
    ≤ length ((word ++ space ∷ a ++ space ∷ b ++ space ∷ c) ++ (space ∷ d ++ space ∷ e ++ space ∷ f ++ line_feed ∷ []))
same_size word a b c d e f =
    let names = a ++ space ∷ b ++ space ∷ c in
    let ports = d ++ space ∷ e ++ space ∷ f in
    omega (
      arith,
      length-append word (tail (names ++ space ∷ ports)),
      tail_short (names ++ space ∷ ports),
      length-append names (space ∷ ports),
      length-append (a ++ space ∷ b) (space ∷ c),
      length-append a (space ∷ b),
      length-append (d ++ space ∷ e) (space ∷ f),
      length-append d (space ∷ e),
      length-append (word ++ space ∷ a ++ space ∷ b ++ space ∷ c)
          (space ∷ d ++ space ∷ e ++ space ∷ f ++ line_feed ∷ []),
      length-append (word ++ space ∷ a ++ space ∷ b) (space ∷ c),
      length-append (word ++ space ∷ a) (space ∷ b),
      length-append word (space ∷ a),
      length-append (space ∷ d ++ space ∷ e ++ space ∷ f) (line_feed ∷ []),
      length-append (space ∷ d ++ space ∷ e) (space ∷ f),
      length-append (space ∷ d) (space ∷ e),
    )

line_fits : (nickname host : List ℕ) (source : DirSource) → fits_line nickname host source ≡ true
    → length (names_part nickname host source.identity ++ ports_part source) ≤ max_line
line_fits nickname host source fits = leb-true (length (source_line nickname host source)) max_line fits

-- ---- what is read

-- an authority whose line is short
abbrev pub IsShortSource : List ℕ → DirSource → Type 0
IsShortSource bytes source = FitsLine (codes "dir-source") (rest_of_source bytes source)

own_reads : (bytes : List ℕ) (item : Item) → IsSound bytes item → ReadAs (IsShortSource bytes) (own_of item)
own_reads bytes item sound =
    let name = (front item.place (arguments_of item)).text in
    let host = (front item.place (others (others (arguments_of item)))).text in
    next_reads (IsNamed bytes name host) (IsShortSource bytes) (source_of item)
    (λ source. own_if (fits_line name host source) item.place source) (named_reads bytes item sound)
    (λ source is. by name host source is (fits_line name host source) refl)
  where
    fits_so : (source : DirSource)
        → fits_line (part bytes source.nickname) (part bytes source.address) source ≡ true → IsShortSource bytes source
    fits_so source fits =
        let short = line_fits (part bytes source.nickname) (part bytes source.address) source fits in
        let size =
        same_size (codes "dir-source") (part bytes source.nickname) (hex_text source.identity.0)
        (part bytes source.address) (address_text source.ip) (decimal source.dir_port) (decimal source.or_port) in
        omega (arith, short, size)

    by : (name host : List ℕ) (source : DirSource) → IsNamed bytes name host source → (t : Bool)
        → fits_line name host source ≡ t → ReadAs (IsShortSource bytes) (own_if t item.place source)
    by name host source is false test = tt
    by name host source is true test =
        fits_so source
        (ap (λ (n : List ℕ). fits_line n (part bytes source.address) source) is.0
        ∙ ap (λ (h : List ℕ). fits_line name h source) is.1 ∙ test)

-- what an item says of it
abbrev pub SourceFits : List ℕ → Value StationValue → Type 0
SourceFits bytes (value.Own (own.Source source)) = IsShortSource bytes source
SourceFits bytes _ = ⊥

pub source_fits : {bytes : List ℕ} {keyword : Keyword} {v : Value StationValue}
    → SaysShort bytes keyword kind.Source v → SourceFits bytes v
source_fits {bytes} {keyword} {v} s =
    was_read (SourceFits bytes) (value_at s.remembered kind.Source s.item) v
    (next_reads (IsShortSource bytes) (SourceFits bytes) (own_of s.item)
    (λ source. Ok (value.Own (own.Source source))) (own_reads bytes s.item s.sound) (λ source is. is))
    (no_fault (over_limit kind.Source s.item) (value_at s.remembered kind.Source s.item) v s.says).1
