-- What is read of a microdescriptor is in range.
use Rattle.std.{proofs.Common.{◌≡◌, ℕ, Bool, true, false, List, length, Ok, Err, refl, sym, subst}, specs.Prelude.All}
use Rattle.std.specs.{Prelude.{IfSome, codes, if◌then◌else◌}, Option.option_map, Str.bytes_eq}
use Rattle.base64.specs.GeneralPurpose.{IsBytes}
use Rattle.item_terms.specs.Items.{Item}
use Rattle.dirdoc_grammar.specs.{Writers.is_argument, Writing.IsLineRest}
use Rattle.dir_values.specs.{Arguments.Argument, declared.digest.Fingerprint.Fingerprint}
use Rattle.frame_terms.specs.{Keywords.same, declared.{document.Taken.Taken, keyword.Keyword.Keyword}}
use Rattle.frame_terms.specs.declared.keyword.Keyword.TheVariants as the
use Rattle.frame_values.specs.{Arguments.{arguments_of, field, front, next, others}, Lines.rest_of, Parts.part}
use Rattle.frame_values.specs.{Ranges.AreTwenty, Values.text_if, declared.{found.Span.Span, values.Value.Value}}
use Rattle.frame_values.specs.declared.values.Value.TheVariants as value
use Rattle.frame_laws.proofs.StandingParts.{rest_part}
use Rattle.relay_entries.specs.Fields.{identity}
use Rattle.descriptor_frame.specs.{Fields.key, Lines.first_of}
use Rattle.descriptor_doc.specs.Descriptors.{words_in}
use Rattle.micro_desc.specs.{Heads.{head_of, head_with, id_in, key_in, no_head}, Lines.id_of, Micros.micro_in}
use Rattle.micro_desc.specs.{Reading.{max_micro, with_micro}, Tables.micro_tables, declared.said.MicroId.MicroId}
use Rattle.micro_desc.specs.declared.said.{MicroId.TheVariants.{Ed25519, Rsa1024}, MicroValue.MicroValue}
use Rattle.micro_desc.specs.declared.said.MicroKind.TheVariants as kind
use Rattle.micro_desc.specs.declared.said.MicroValue.TheVariants as own
use Rattle.row_laws.proofs.{ItemArguments.{IsSound, are_found, others_found}, ItemWords.words_are_arguments}
use Rattle.row_laws.proofs.{KindRanges.{IsNotInside, KindIs, field_is, kind_read, read_is}, ReadSteps.ReadAs}
use Rattle.row_laws.proofs.{ReadSteps.{base64_made, base64_reads, front_bytes, next_reads}, Saying.EachStands}
use Rattle.descriptor_laws.specs.{Ranges.AreBytes, MicroRanges.{IsIdInRange, SaysInRange}, Read.MicrosReadAreInRange}

-- ---- kinds

key_reads : (argument : Argument) → IsBytes argument.text → ReadAs (AreBytes 32) (field argument (key argument.text))
key_reads argument are =
    base64_reads (AreBytes 32) 32 argument argument.text are (λ b count each. record { count_is = count; each = each })

id_reads : (bytes : List ℕ) (item : Item) → IsBytes bytes → IsSound bytes item → ReadAs IsIdInRange (id_of item)
id_reads bytes item are sound = by (bytes_eq name.text (codes "ed25519")) (bytes_eq name.text (codes "rsa1024"))
  where
    name : Argument
    name = front item.place (arguments_of item)

    second : Argument
    second = front item.place (others (arguments_of item))

    its : IsBytes second.text
    its =
        front_bytes bytes item.place (others (arguments_of item)) are
        (others_found bytes (arguments_of item) (are_found sound))

    by : (t u : Bool) → ReadAs IsIdInRange
        (if t then next (field second (key second.text)) (λ b. Ok (Ed25519 b))
        else if u then next (field second (identity second.text)) (λ rsa. Ok (Rsa1024 rsa))
        else Err name.place)
    by true u = next_reads (AreBytes 32) IsIdInRange _ _ (key_reads second its) (λ b is. is)
    by false true =
        next_reads (λ (rsa : Fingerprint). AreTwenty rsa.0) IsIdInRange _ _
        (base64_made (λ (rsa : Fingerprint). AreTwenty rsa.0) (λ b. record { 0 = b }) 20 second second.text its
        (λ b count each. record { count = count; each = each })) (λ rsa is. is)
    by false false = tt

key_is : KindIs micro_tables kind.Key (λ (b : List ℕ). value.Own (own.Key b)) (λ bytes b. AreBytes 32 b)
key_is =
    kind_read (first_of key) (λ across item. refl) (λ bytes are item sound.
    key_reads (front item.place (arguments_of item))
    (front_bytes bytes item.place (arguments_of item) are (are_found sound)))

rest_is : KindIs micro_tables kind.Rest (λ (span : Span). value.Text span) (λ bytes span. IsLineRest (part bytes span))
rest_is =
    kind_read (λ item. Ok (rest_of item)) (λ across item. refl)
    (λ bytes are item sound. subst IsLineRest (sym (rest_part sound.in_place)) sound.rest)

id_is : KindIs micro_tables kind.Id (λ (id : MicroId). value.Own (own.Id id)) (λ bytes id. IsIdInRange id)
id_is = kind_read id_of (λ across item. refl) (λ bytes are item sound. id_reads bytes item are sound)

-- ---- a microdescriptor

abbrev MicroTaken : Type 0
MicroTaken = Taken (Value MicroValue)

apart : (keyword : Keyword) → IsNotInside micro_tables tt keyword
apart keyword around other named begins = absurd (cc begins)

-- what its items say is in range
section_says : (bytes : List ℕ) → IsBytes bytes → (taken : List MicroTaken) → EachStands micro_tables bytes tt taken
    → SaysInRange (micro_in bytes (head_of taken))
unfolding same
section_says bytes are taken each = record {
  ntor_onion_key =
      field_is micro_tables bytes are tt taken each the.NtorOnionKey _ refl (apart the.NtorOnionKey) key_is key_in
      (λ o. IfSome o (AreBytes 32)) (λ none. tt) (λ one b is. is);
  family =
      field_is micro_tables bytes are tt taken each the.Family _ refl (apart the.Family) rest_is
      (λ o. option_map (words_in bytes) (text_if o)) (λ o. IfSome o
      (λ relays. All (λ relay. is_argument relay ≡ true) relays))
      (λ none. tt) (λ one span is. words_are_arguments (part bytes span) is);
  id =
      field_is micro_tables bytes are tt taken each the.Id _ refl (apart the.Id) id_is id_in
      (λ o. IfSome o IsIdInRange)
      (λ none. tt) (λ one id is. is);
}

pub micro_in_range : MicrosReadAreInRange
micro_in_range bytes micro used are is =
    let found =
    read_is micro_tables bytes 0 max_micro (length bytes) head_with no_head (λ head. SaysInRange (micro_in bytes head))
    (record { ntor_onion_key = tt; family = tt; id = tt })
    (λ head section taken each counts says. section_says bytes are taken each) (micro_in bytes) (with_micro bytes)
    (λ head after. refl) (λ refusal. refl) micro used is in
    subst SaysInRange (sym found.1) found.2
