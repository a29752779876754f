-- The places of what is wrong with the items of a vote, and of the first fault of their document.
use Rattle.std.proofs.Common.{◌≡◌, ℕ, ◌≤◌, Bool, true, false, List, [], length, Option, Result, Ok, Err, subst}
use Rattle.std.specs.Prelude.{◌||◌, codes, nat_lt, if◌then◌else◌}
use Rattle.std.specs.FinSet as set
use Rattle.item_terms.specs.Items.{Item}
use Rattle.dir_values.specs.{FlagSets.wrong_flag, Numbers.wrong_number, declared.digest.Fingerprint.Fingerprint}
use Rattle.list_values.specs.{Params.wrong_param, Protocols.wrong_protocol, VersionLists.wrong_version_list}
use Rattle.frame_terms.specs.{Rows.limit_number, declared.{fault.FrameFault.FrameFault, row.Limit.Limit}}
use Rattle.frame_terms.specs.declared.fault.FrameReason.TheVariants as reason
use Rattle.frame_terms.specs.declared.row.Limit.TheVariants as limit
use Rattle.frame_values.specs.{Arguments.{arguments_of, next}, Faults.{at_place, too_many, unless_fault}}
use Rattle.frame_values.specs.Lines.{argument_of, delays_of, fingerprint_of, literal, rest_unless, source_of, time_of}
use Rattle.frame_values.specs.{Signatures.{has_words, object_if, signature_of}, declared.found.DirSource.DirSource}
use Rattle.frame_values.specs.declared.{found.{Span.Span, VoteSignature.VoteSignature}, values.Value.Value}
use Rattle.frame_values.specs.declared.values.Value.TheVariants as value
use Rattle.authority_certs.specs.{Tables.cert_value, declared.frame.CertKind.CertKind}
use Rattle.authority_certs.specs.declared.frame.CertKind.TheVariants as cert
use Rattle.value_groups.specs.declared.{line.RandomLine.RandomLine, value.SharedRandom.SharedRandom}
use Rattle.relay_entries.specs.{Lines.{entry_value, lifted_entry_value}, Listing.{fault_at, is_next, note_entry}}
use Rattle.relay_entries.specs.{Listing.{too_many_entries, with_key, with_relay}, declared.listed.Listed.Listed}
use Rattle.relay_entries.specs.declared.said.{EntryKind.EntryKind, EntryValue.EntryValue}
use Rattle.relay_entries.specs.declared.said.EdOpinion.TheVariants as opinion
use Rattle.relay_entries.specs.declared.said.EntryKind.TheVariants as entry
use Rattle.relay_entries.specs.declared.said.EntryValue.TheVariants as given
use Rattle.vote_frame.specs.{Across.{has_line, keyword_of, note_random, unless_wrong, with_listed}, Tables.note_value}
use Rattle.vote_frame.specs.{Tables.{over_limit, value_at, vote_tables}, declared.across.Across.Across}
use Rattle.vote_frame.specs.declared.frame.{VoteKind.VoteKind, VoteValue.VoteValue}
use Rattle.vote_frame.specs.declared.frame.VoteKind.TheVariants as kind
use Rattle.vote_frame.specs.declared.frame.VoteValue.TheVariants as own
use Rattle.fault_places.{specs.Within.{FaultIn, FaultsStandIn, HasFaultsWithin}, proofs.FirstFaults.first_faults}
use Rattle.fault_places.proofs.ArgumentPlaces.{PlaceIfIn, PlaceIn, flag_in, number_in, param_in, protocol_in}
use Rattle.fault_places.proofs.{ArgumentPlaces.versions_in, ItemPlaces.{IsItemIn, all_begin, argument_in, delays_in}}
use Rattle.fault_places.proofs.ItemPlaces.{fingerprint_in, item_in, literal_in, object_in, random_in, rest_in}
use Rattle.fault_places.proofs.ItemPlaces.{signature_in, source_in, time_in}
use Rattle.vote_parts.proofs.EntryPlaces.{entry_in}

abbrev Said : Type 0
Said = Value VoteValue

-- ---- what an item says

-- what is wrong with a shared random value stands within so many bytes
abbrev SaidIn : ℕ → Said → Type 0
SaidIn n value.Nothing = Unit {0}
SaidIn n (value.Text text) = Unit {0}
SaidIn n (value.Number number) = Unit {0}
SaidIn n (value.Fingerprint identity) = Unit {0}
SaidIn n (value.Object lines) = Unit {0}
SaidIn n (value.Own (own.Delays vote distribution)) = Unit {0}
SaidIn n (value.Own (own.Source source)) = Unit {0}
SaidIn n (value.Own (own.Random line read)) = PlaceIn n read
SaidIn n (value.Own (own.Signature signature)) = Unit {0}
SaidIn n (value.Own (own.Entry said)) = Unit {0}

-- the same of what is read, or the place of what is wrong does
abbrev SaysIn : ℕ → Result Said ℕ → Type 0
SaysIn n (Ok said) = SaidIn n said
SaysIn n (Err place) = place ≤ n

as_place : (n : ℕ) (read : Result Said ℕ) → SaysIn n read → PlaceIn n read
as_place n (Ok said) is = tt
as_place n (Err place) is = is

says_in : {A : Type 0} (n : ℕ) (make : A → Said) → ((a : A) → SaidIn n (make a)) → (read : Result A ℕ) → PlaceIn n read
    → SaysIn n (next read (λ a. Ok (make a)))
says_in n make each (Ok a) is = each a
says_in n make each (Err place) is = is

module _ (n : ℕ) (item : Item) (is : IsItemIn n item) where
  text_in : (read : Result Span ℕ) → PlaceIn n read → SaysIn n (next read (λ text. Ok (value.Text text)))
  text_in read within = says_in n (λ (text : Span). value.Text text) (λ text. tt) read within

  words_in : (wrong : Option ℕ) → PlaceIfIn n wrong
      → SaysIn n (next (rest_unless wrong item) (λ text. Ok (value.Text text)))
  words_in wrong within = text_in (rest_unless wrong item) (rest_in n item is wrong within)

  object_says : (wanted : Bool)
      → SaysIn n (next (object_if wanted item.place item.object) (λ lines. Ok (value.Object lines)))
  object_says wanted =
      says_in n (λ (lines : Span). value.Object lines) (λ lines. tt) (object_if wanted item.place item.object)
      (object_in n item is wanted item.object)

  number_says : SaysIn n (next (time_of item) (λ number. Ok (value.Number number)))
  number_says = says_in n (λ (number : ℕ). value.Number number) (λ number. tt) (time_of item) (time_in n item is)

  word_says : (word : List ℕ) → SaysIn n (next (literal word item) (λ nothing. Ok value.Nothing))
  word_says word =
      says_in n (λ (nothing : Unit {0}). value.Nothing) (λ nothing. tt) (literal word item) (literal_in n item is word)

  certificate_in : (of_kind : CertKind) → SaysIn n (cert_value of_kind item)
  certificate_in cert.Version = word_says (codes "3")
  certificate_in cert.Address = text_in (argument_of item) (argument_in n item is)
  certificate_in cert.Fingerprint =
      says_in n (λ (identity : Fingerprint). value.Fingerprint identity) (λ identity. tt) (fingerprint_of item)
      (fingerprint_in n item is)
  certificate_in cert.Time = number_says
  certificate_in cert.Key = object_says (has_words item.object (codes "RSA PUBLIC KEY"))
  certificate_in cert.Crosscert =
      object_says (has_words item.object (codes "ID SIGNATURE") || has_words item.object (codes "SIGNATURE"))
  certificate_in cert.Certification = object_says (has_words item.object (codes "SIGNATURE"))

  lifted_in : (said : Value EntryValue) → SaidIn n (lifted_entry_value own.Entry said)
  lifted_in value.Nothing = tt
  lifted_in (value.Text text) = tt
  lifted_in (value.Number number) = tt
  lifted_in (value.Fingerprint identity) = tt
  lifted_in (value.Object lines) = tt
  lifted_in (value.Own said) = tt

  value_in : (of_kind : VoteKind) → SaysIn n (value_at of_kind item)
  value_in kind.Version = word_says (codes "3")
  value_in kind.Status = word_says (codes "vote")
  value_in kind.Methods =
      words_in (wrong_number (arguments_of item)) (number_in n (arguments_of item) (all_begin n item is))
  value_in kind.Time = number_says
  value_in kind.Delays =
      says_in n (λ (delays : ℕ × ℕ). value.Own (own.Delays delays.0 delays.1)) (λ delays. tt) (delays_of item)
      (delays_in n item is)
  value_in kind.KnownFlags =
      words_in (wrong_flag [] (arguments_of item)) (flag_in n [] (arguments_of item) (all_begin n item is))
  value_in kind.Versions =
      words_in (wrong_version_list (arguments_of item)) (versions_in n (arguments_of item) (all_begin n item is))
  value_in kind.Protocols =
      words_in (wrong_protocol (arguments_of item)) (protocol_in n (arguments_of item) (all_begin n item is))
  value_in kind.Params =
      words_in (wrong_param (arguments_of item)) (param_in n (arguments_of item) (all_begin n item is))
  value_in kind.Rest = tt
  value_in kind.Source =
      says_in n (λ (source : DirSource). value.Own (own.Source source)) (λ source. tt) (source_of item)
      (source_in n item is)
  value_in (kind.Random line) = random_in n item is
  value_in kind.Nothing = tt
  value_in kind.Signature =
      says_in n (λ (signature : VoteSignature). value.Own (own.Signature signature)) (λ signature. tt)
      (signature_of item) (signature_in n item is)
  value_in (kind.Certificate of_kind) = certificate_in of_kind
  value_in (kind.Entry of_kind) =
      says_in n (λ (said : Value EntryValue). lifted_entry_value own.Entry said) lifted_in (entry_value of_kind item)
      (entry_in n item is of_kind)

  -- ---- limits

  pub many_in : (of_limit : Limit) → FaultIn n (too_many of_limit item)
  many_in of_limit = by (nat_lt (limit_number of_limit) (length (arguments_of item)))
    where
      by : (t : Bool) → FaultIn {A = Unit {0}} n (if t then Err (record { place = item.place; reason = reason.TooMany of_limit }) else Ok tt)
      by true = is.place
      by false = tt

  entries_in : (listed : Listed) (of_kind : EntryKind) → FaultIn n (too_many_entries listed of_kind item)
  entries_in listed entry.Relay = by (nat_lt listed.count (limit_number limit.Entries))
    where
      by : (t : Bool)
          → FaultIn {A = Unit {0}} n (if t then Ok tt else Err (fault_at item.place (reason.TooMany limit.Entries)))
      by true = tt
      by false = is.place
  entries_in listed entry.Address = tt
  entries_in listed entry.Flags = tt
  entries_in listed entry.Rest = tt
  entries_in listed entry.Bandwidths = tt
  entries_in listed entry.Micro = tt
  entries_in listed entry.Ed = tt

  over_in : (listed : Listed) (of_kind : VoteKind) → FaultIn n (over_limit listed of_kind item)
  over_in listed kind.Version = tt
  over_in listed kind.Status = tt
  over_in listed kind.Methods = many_in limit.Methods
  over_in listed kind.Time = tt
  over_in listed kind.Delays = tt
  over_in listed kind.KnownFlags = many_in limit.KnownFlags
  over_in listed kind.Versions = tt
  over_in listed kind.Protocols = tt
  over_in listed kind.Params = many_in limit.Params
  over_in listed kind.Rest = tt
  over_in listed kind.Source = tt
  over_in listed (kind.Random line) = tt
  over_in listed kind.Nothing = tt
  over_in listed kind.Signature = tt
  over_in listed (kind.Certificate of_kind) = tt
  over_in listed (kind.Entry of_kind) = entries_in listed of_kind

said_at : (n : ℕ) (first : Result (Unit {0}) FrameFault) (read : Result Said ℕ) → FaultIn n first → PlaceIn n read
    → FaultIn n (unless_fault first (at_place read))
said_at n (Err fault) read one other = one
said_at n (Ok u) (Ok said) one other = tt
said_at n (Ok u) (Err place) one other = other

said_there : (n : ℕ) (first : Result (Unit {0}) FrameFault) (read : Result Said ℕ) (said : Said) → SaysIn n read
    → unless_fault first (at_place read) ≡ Ok said → SaidIn n said
said_there n (Err fault) read said is e = absurd (cc e)
said_there n (Ok u) (Err place) said is e = absurd (cc e)
said_there n (Ok u) (Ok other) said is e =
    let same : other ≡ said = cc e in
    subst (SaidIn n) same is

-- ---- what is remembered

module _ (n : ℕ) (across : Across) (place : ℕ) (within : place ≤ n) where
  listed_in : (noted : Result Listed FrameFault) → FaultIn n noted → FaultIn n (with_listed across noted)
  listed_in (Ok listed) is = tt
  listed_in (Err fault) is = is

  entry_noted : (said : EntryValue) → FaultIn n (note_entry across.listed place said)
  entry_noted (given.Relay line) = by (is_next across.listed.last line.identity)
    where
      by : (t : Bool)
          → FaultIn n (if t then Ok (with_relay across.listed line) else Err (fault_at place reason.Unsorted))
      by true = tt
      by false = within
  entry_noted (given.Bandwidths widths) = tt
  entry_noted (given.Micro line) = tt
  entry_noted (given.Ed (opinion.Key key)) = by (set.contains across.listed.keys key)
    where
      by : (t : Bool)
          → FaultIn n (if t then Err (fault_at place reason.DuplicateEd) else Ok (with_key across.listed key))
      by true = within
      by false = tt
  entry_noted (given.Ed opinion.None) = tt
  entry_noted (given.Ed opinion.Absent) = tt

  random_noted : (line : RandomLine) (read : Result SharedRandom ℕ) → PlaceIn n read
      → FaultIn n (note_random across place line read)
  random_noted line read is = by (has_line across line) (wrong read is)
    where
      wrong : (read : Result SharedRandom ℕ) → PlaceIn n read → FaultIn n (unless_wrong across line read)
      wrong (Ok random) is = tt
      wrong (Err other) is = is

      by : (t : Bool) → FaultIn n (unless_wrong across line read)
          → FaultIn n (if t then Err (fault_at place (reason.Twice (keyword_of line))) else unless_wrong across line read)
      by true more = within
      by false more = more

  noted_in : (said : Said) → SaidIn n said → FaultIn n (note_value across place said)
  noted_in value.Nothing is = tt
  noted_in (value.Text text) is = tt
  noted_in (value.Number number) is = tt
  noted_in (value.Fingerprint identity) is = tt
  noted_in (value.Object lines) is = tt
  noted_in (value.Own (own.Delays vote distribution)) is = tt
  noted_in (value.Own (own.Source source)) is = tt
  noted_in (value.Own (own.Random line read)) is = random_noted line read is
  noted_in (value.Own (own.Signature signature)) is = tt
  noted_in (value.Own (own.Entry said)) is = listed_in (note_entry across.listed place said) (entry_noted said)

-- ---- votes

vote_faults_in : FaultsStandIn vote_tables
vote_faults_in = record {
  said = λ bytes across of_kind item there.
      let is = item_in bytes item there in
      said_at (length bytes) (over_limit across.listed of_kind item) (value_at of_kind item)
      (over_in (length bytes) item is across.listed of_kind)
      (as_place (length bytes) (value_at of_kind item) (value_in (length bytes) item is of_kind));
  noted = λ bytes across of_kind keyword item said there e.
      let is = item_in bytes item there in
      noted_in (length bytes) across item.place is.place said
      (said_there (length bytes) (over_limit across.listed of_kind item) (value_at of_kind item) said
      (value_in (length bytes) item is of_kind) e);
}

pub vote_faults : HasFaultsWithin vote_tables
vote_faults = first_faults vote_tables vote_faults_in
