-- The places of what is wrong with the lines of a consensus that a vote has not, or has otherwise.
use Rattle.std.proofs.Common.{◌≡◌, ℕ, ◌+◌, Bool, true, false, List, [], ◌∷◌, length, Option, Some, None, Result, Ok}
use Rattle.std.{proofs.Common.{Err, refl, subst}, specs.{Prelude.{codes, if◌then◌else◌}, Str.bytes_eq}}
use Rattle.item_terms.specs.{Bytes.space, Items.Item}
use Rattle.dir_bytes.specs.Fields.{address, date, time_of_day}
use Rattle.dir_values.specs.{Digests.digest1, Names.is_nickname, Numbers.port_of}
use Rattle.dir_values.specs.declared.algorithm.Algorithm.{Algorithm}
use Rattle.frame_values.specs.{Arguments.{Argument, arguments_of, front, next, others}, Fields.{is_there, span_if}}
use Rattle.frame_values.specs.Signatures.{after_algorithm, algorithm_if, is_space, known_signature_of, signed_by}
use Rattle.frame_values.specs.{Signatures.{signed_if, space_of}, declared.found.VoteSignature.VoteSignature}
use Rattle.relay_entries.specs.Fields.{identity}
use Rattle.consensus_terms.specs.declared.flavour.Flavour.{Flavour, TheVariants.{Microdesc, Ns}}
use Rattle.consensus_frame.specs.Lines.{after_digest, bandwidth_by, bandwidth_of, digest_here, flavour_here}
use Rattle.consensus_frame.specs.Lines.{nothing_said, relay_of, version_of, with_word, with_words, word_here}
use Rattle.consensus_frame.specs.{Tables.signature_of, declared.line.Said.Said}
use Rattle.fault_places.proofs.{ArgumentPlaces.{Begins, EachBegins, PlaceIn, others_begin}, ItemPlaces.IsItemIn}
use Rattle.fault_places.proofs.{ItemPlaces.{all_begin, front_argument_begins, more_in, one_in, then_in}, Placed.last_in}
use Rattle.fault_places.proofs.ItemPlaces as places

module _ (n : ℕ) where
  -- what is read behind what was read
  both_in : {A B : Type 0} (read : Result A ℕ) (more : A → Result B ℕ) → PlaceIn n read
      → ((value : A) → PlaceIn n (more value)) → PlaceIn n (next read more)
  both_in (Err place) more is each = is
  both_in (Ok value) more is each = each value

  word_in : (word : List ℕ) (a : Argument) → Begins n a → PlaceIn n (word_here word a)
  word_in word a front_argument_begins = by (bytes_eq a.text word)
    where
      by : (t : Bool) → PlaceIn {A = Unit {0}} n (if t then Ok tt else Err a.place)
      by true = tt
      by false = front_argument_begins

  words_in : (said : Said) (arguments : List Argument) → EachBegins n arguments → PlaceIn n (with_words said arguments)
  unfolding with_words
  words_in said [] each = tt
  words_in said (argument ∷ rest) each =
      more_in n argument (with_word said argument.text) (λ more. with_words more rest) each.0
      (λ more. words_in more rest each.1)

module _ (n : ℕ) (item : Item) (is : IsItemIn n item) where
  -- ---- the preamble

  flavour_in : (flavour : Flavour) (arguments : List Argument) → EachBegins n arguments
      → PlaceIn n (flavour_here flavour item.place arguments)
  flavour_in Ns [] each = tt
  flavour_in Ns (argument ∷ rest) each = each.0
  flavour_in Microdesc arguments each =
      word_in n (codes "microdesc") (front item.place arguments) (front_argument_begins n item is arguments each)

  pub version_in : (flavour : Flavour) → PlaceIn n (version_of flavour item)
  version_in flavour =
      let l0 = arguments_of item in
      let l1 = others l0 in
      let e0 = all_begin n item is in
      both_in n (word_here (codes "3") (front item.place l0)) _
      (word_in n (codes "3") (front item.place l0) (front_argument_begins n item is l0 e0))
      (λ version. flavour_in flavour l1 (others_begin n l0 e0))

  -- ---- relays

  digest_in : (flavour : Flavour) (arguments : List Argument) → EachBegins n arguments
      → PlaceIn n (digest_here flavour item.place arguments)
  digest_in Ns arguments each =
      let first = front item.place arguments in
      one_in n first (digest1 first.text) (front_argument_begins n item is arguments each)
  digest_in Microdesc arguments each = tt

  behind_digest : (flavour : Flavour) (arguments : List Argument) → EachBegins n arguments
      → EachBegins n (after_digest flavour arguments)
  behind_digest Ns arguments each = others_begin n arguments each
  behind_digest Microdesc arguments each = each

  pub relay_in : (flavour : Flavour) → PlaceIn n (relay_of flavour item)
  relay_in flavour =
      let l0 = arguments_of item in
      let l1 = others l0 in
      let l2 = others l1 in
      let l3 = after_digest flavour l2 in
      let l4 = others l3 in
      let l5 = others l4 in
      let l6 = others l5 in
      let l7 = others l6 in
      let e0 = all_begin n item is in
      let e1 = others_begin n l0 e0 in
      let e2 = others_begin n l1 e1 in
      let e3 = behind_digest flavour l2 e2 in
      let e4 = others_begin n l3 e3 in
      let e5 = others_begin n l4 e4 in
      let e6 = others_begin n l5 e5 in
      let e7 = others_begin n l6 e6 in
      let a = front item.place l0 in
      let b = front item.place l1 in
      let d = front item.place l3 in
      let e = front item.place l4 in
      let f = front item.place l5 in
      let g = front item.place l6 in
      let h = front item.place l7 in
      more_in n a (span_if (is_nickname a.text) a) _ (front_argument_begins n item is l0 e0) (λ nickname.
      more_in n b (identity b.text) _ (front_argument_begins n item is l1 e1) (λ fingerprint.
      both_in n (digest_here flavour item.place l2) _ (digest_in flavour l2 e2) (λ digest.
      more_in n d (date d.text) _ (front_argument_begins n item is l3 e3) (λ days.
      more_in n e (time_of_day e.text) _ (front_argument_begins n item is l4 e4) (λ seconds.
      more_in n f (address f.text) _ (front_argument_begins n item is l5 e5) (λ ip_number.
      more_in n g (port_of g.text) _ (front_argument_begins n item is l6 e6) (λ or_number.
      last_in n h (port_of h.text) _ (front_argument_begins n item is l7 e7))))))))

  -- ---- bandwidth

  pub bandwidth_in : PlaceIn n (bandwidth_of item)
  bandwidth_in =
      both_in n (with_words nothing_said (arguments_of item)) _
      (words_in n nothing_said (arguments_of item) (all_begin n item is)) (λ said. by said said.bandwidths.bandwidth)
    where
      by : (said : Said) (value : Option ℕ) → PlaceIn n (bandwidth_by item.place said value)
      by said None = is.place
      by said (Some value) = tt

  -- ---- signatures

  -- the item with a space behind its keyword, where a signature is read as in a vote
  abbrev spaced : Item
  spaced = record item { separator = Some space }

  signed_in : (named : Result (Option Algorithm) ℕ) → algorithm_if (front item.place (arguments_of item)) ≡ named
      → PlaceIn n (signed_if item named)
  signed_in (Err place) e = tt
  signed_in (Ok name) e =
      then_in n (signed_by name (after_algorithm name (arguments_of item)) item) _
      (subst (λ (read : Result (Option Algorithm) ℕ).
      PlaceIn {A = VoteSignature} n (next read (λ known. signed_by known (after_algorithm known (arguments_of item)) item)))
      e (places.signature_in n spaced (record { place = is.place; keyword = is.keyword; arguments = is.arguments })))

  known_in : PlaceIn n (known_signature_of item)
  known_in =
      by (is_there (front item.place (arguments_of item)).text)
      (signed_in (algorithm_if (front item.place (arguments_of item))) refl)
    where
      by : (t : Bool) → PlaceIn n (signed_if item (algorithm_if (front item.place (arguments_of item))))
          → PlaceIn n (if t then signed_if item (algorithm_if (front item.place (arguments_of item))) else Err item.place)
      by true within = within
      by false within = is.place

  space_in : PlaceIn n (space_of item)
  space_in = by (is_space item.separator)
    where
      by : (t : Bool) → PlaceIn {A = Unit {0}} n (if t then Ok tt else Err (item.place + length item.keyword))
      by true = tt
      by false = is.keyword

  pub signature_in : (is_signed : Bool) → PlaceIn n (signature_of is_signed item)
  signature_in true = known_in
  signature_in false = both_in n (space_of item) _ space_in (λ nothing. known_in)
