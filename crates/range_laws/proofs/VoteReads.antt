-- What the items of a vote say is in range, by their kinds.
use Rattle.std.proofs.Common.{◌≡◌, ℕ, ◌≤◌, List, [], length, Option, None, Result, Ok, refl, sym, subst}
use Rattle.std.specs.Prelude.{All}
use Rattle.base64.specs.GeneralPurpose.{IsBytes}
use Rattle.item_terms.specs.{Items.Item, Words.words_of}
use Rattle.dirdoc_grammar.specs.Writing.{IsLineRest}
use Rattle.dir_values.specs.{FlagSets.wrong_flag, Numbers.wrong_number}
use Rattle.frame_terms.specs.declared.row.Limit.TheVariants as limit
use Rattle.frame_values.specs.{Arguments.{arguments_of, next}, Faults.{at_place, unless_fault}, Lines.delays_of}
use Rattle.frame_values.specs.{Lines.{rest_of, rest_unless, source_of}, Parts.part, Signatures.signature_of}
use Rattle.frame_values.specs.declared.found.{DirSource.DirSource, Span.Span, VoteSignature.VoteSignature}
use Rattle.frame_values.specs.declared.values.Value.{Value}
use Rattle.frame_values.specs.declared.values.Value.TheVariants as value
use Rattle.list_values.specs.Params.{wrong_param}
use Rattle.value_groups.specs.{Lines.random_of, declared.{line.RandomLine.RandomLine, value.SharedRandom.SharedRandom}}
use Rattle.group_laws.specs.LineAgain.{IsRandomInRange}
use Rattle.vote_frame.specs.{Tables.{over_limit, vote_tables}, declared.{across.Across.Across, frame.VoteKind.VoteKind}}
use Rattle.vote_frame.specs.declared.frame.VoteValue.{VoteValue}
use Rattle.vote_frame.specs.declared.frame.VoteKind.TheVariants as kind
use Rattle.vote_frame.specs.declared.frame.VoteValue.TheVariants as own
use Rattle.row_laws.proofs.{KindRanges.{KindIs, kind_read, kind_unless}, ReadSteps.ReadAs, Saying.Says}
use Rattle.range_laws.proofs.LineReads.{AreDelays, IsSigned, IsSourceIn, delays_read, few_words, rest_read}
use Rattle.range_laws.proofs.{LineReads.{signature_reads, source_reads, text_reads}, RandomReads.random_reads}
use Rattle.range_laws.proofs.ReadNames.{IsName, names_of_words}

-- ---- kinds

-- an item of this kind of a vote says this
abbrev pub VoteSays : List ℕ → VoteKind → Value VoteValue → Type 0
VoteSays bytes of v = Says vote_tables bytes of v

-- items of this kind say such
abbrev pub VoteIs : {A : Type 0} → VoteKind → (A → Value VoteValue) → (List ℕ → A → Type 0) → Type 0
VoteIs kind of Is = KindIs vote_tables kind of Is

-- items of this kind say texts that are such
abbrev pub TextsAre : VoteKind → (List ℕ → Type 0) → Type 0
TextsAre kind P = VoteIs kind (λ (span : Span). value.Text span) (λ bytes span. P (part bytes span))

-- what follows of what an item says
pub says_so : {A : Type 0} {of : VoteKind} {make : A → Value VoteValue} {Is : List ℕ → A → Type 0} {bytes : List ℕ}
    {v : Value VoteValue} → VoteIs of make Is → IsBytes bytes → (Q : Value VoteValue → Type 0)
    → ((a : A) → Is bytes a → Q (make a)) → VoteSays bytes of v → Q v
says_so {bytes = bytes} {v = v} kind are Q is says =
    let its = kind.says bytes are v says in subst Q (sym its.1) (is its.0 its.2)

-- ---- texts

abbrev pub AreFew : ℕ → List ℕ → Type 0
AreFew most text = length (words_of text) ≤ most

-- flags that a vote may know
pub record AreKnown (text : List ℕ) : Type 0 where
  pub few : AreFew 64 text
  pub names : All IsName (words_of text)

-- a text in which nothing is wrong, of an item that passes no limit
text_kind : {of : VoteKind} (P : List ℕ → Type 0) (wrong : Item → Option ℕ)
    → ((across : Across) (item : Item) → vote_tables.value_of across of item
    ≡ unless_fault (over_limit across.listed of item)
    (at_place (next (rest_unless (wrong item) item) (λ (span : Span). Ok (value.Text span)))))
    → ((across : Across) (item : Item) → over_limit across.listed of item ≡ Ok tt → wrong item ≡ None
    → P item.arguments)
    → TextsAre of P
text_kind {of} P wrong values is =
    kind_unless (λ across item. over_limit across.listed of item) (λ across item. rest_unless (wrong item) item) values
    (λ bytes are across item sound passes.
    text_reads P bytes item (wrong item) sound (λ right. is across item passes right))

pub methods_are : TextsAre kind.Methods (AreFew 64)
methods_are =
    text_kind (AreFew 64) (λ (item : Item). wrong_number (arguments_of item)) (λ across item. refl)
    (λ across item passes right. few_words limit.Methods item passes)

pub params_are : TextsAre kind.Params (AreFew 1024)
params_are =
    text_kind (AreFew 1024) (λ (item : Item). wrong_param (arguments_of item)) (λ across item. refl)
    (λ across item passes right. few_words limit.Params item passes)

pub flags_are : TextsAre kind.KnownFlags AreKnown
flags_are =
    text_kind AreKnown (λ (item : Item). wrong_flag [] (arguments_of item)) (λ across item. refl)
    (λ across item passes right. record {
      few = few_words limit.KnownFlags item passes;
      names = names_of_words item.start item.arguments right;
    })

-- the rest of a line
pub rests_are : TextsAre kind.Rest IsLineRest
rests_are =
    kind_read (λ (item : Item). Ok (rest_of item)) (λ across item. refl)
    (λ bytes are item sound. rest_read VoteValue bytes item sound)

-- ---- values of their own

-- two numbers of seconds
pub delays_are : VoteIs kind.Delays (λ (d : ℕ × ℕ). value.Own (own.Delays d.0 d.1)) (λ bytes d. AreDelays d)
delays_are = kind_read delays_of (λ across item. refl) (λ bytes are item sound. delays_read item)

-- an authority
pub source_is : VoteIs kind.Source (λ (source : DirSource). value.Own (own.Source source)) IsSourceIn
source_is = kind_read source_of (λ across item. refl) (λ bytes are item sound. source_reads bytes item sound)

-- a signature
pub signature_is : VoteIs kind.Signature (λ (s : VoteSignature). value.Own (own.Signature s)) (λ bytes s. IsSigned s)
signature_is = kind_read signature_of (λ across item. refl) (λ bytes are item sound. signature_reads item)

-- a shared random value, where its line has one
pub random_is : (line : RandomLine)
    → VoteIs (kind.Random line) (λ (read : Result SharedRandom ℕ). value.Own (own.Random line read))
    (λ bytes read. ReadAs IsRandomInRange read)
random_is line =
    kind_read (λ (item : Item). Ok (random_of item)) (λ across item. refl)
    (λ bytes are item sound. random_reads bytes item are sound)
