-- The places of what is wrong with an item, by what it is read as.
use Rattle.std.proofs.Common.{ℕ, ◌+◌, ◌≤◌, Bool, true, false, List, length, Option, Some, None, Result, Ok, Err, ap}
use Rattle.std.{proofs.Common.{arith, drop, length-drop, length-take}, specs.Prelude.{◌*◌, codes, is_some}}
use Rattle.std.specs.{Prelude.if◌then◌else◌, Str.bytes_eq}
use Rattle.item_terms.specs.Items.{Item, Object}
use Rattle.dirdoc_grammar.specs.InPlace.{InPlace}
use Rattle.dir_bytes.specs.Fields.{address, date, time_of_day}
use Rattle.dir_values.specs.{Arguments.Argument, Digests.{fingerprint, key_digest}, Names.{algorithm, is_nickname}}
use Rattle.dir_values.specs.{Numbers.{number_of, port_of}, declared.algorithm.Algorithm.Algorithm}
use Rattle.dir_values.specs.declared.digest.{Digest1.Digest1, Fingerprint.Fingerprint}
use Rattle.frame_values.specs.{Arguments.{arguments_of, field, front, next, others}, Fields.{is_there, span_if}}
use Rattle.frame_values.specs.Lines.{argument_of, delays_of, fingerprint_of, literal, rest_unless, source_of, time_of}
use Rattle.frame_values.specs.Signatures.{after_algorithm, algorithm_if, has_words, is_space, object_if, signature_of}
use Rattle.frame_values.specs.{Signatures.signed_by, declared.found.{Span.Span, VoteSignature.VoteSignature}}
use Rattle.value_groups.specs.{Lines.random_of, Values.padded_digest}
use Rattle.fault_places.proofs.ArgumentPlaces.{Begins, EachBegins, PlaceIfIn, PlaceIn, each_begins, front_begins}
use Rattle.fault_places.proofs.ArgumentPlaces.{others_begin}

-- An item begins within so many bytes, and its keyword and its arguments end within them.
pub record IsItemIn (n : ℕ) (item : Item) : Type 0 where
  pub place : item.place ≤ n
  pub keyword : item.place + length item.keyword ≤ n
  pub arguments : item.start + length item.arguments ≤ n

module _ (n : ℕ) where
  -- ---- one field after the other

  pub one_in : {A : Type 0} (a : Argument) (x : Option A) → Begins n a → PlaceIn n (field a x)
  one_in a None front_argument_begins = front_argument_begins
  one_in a (Some value) front_argument_begins = tt

  pub then_in : {A B : Type 0} (read : Result A ℕ) (make : A → B) → PlaceIn n read
      → PlaceIn n (next read (λ value. Ok (make value)))
  then_in (Err place) make is = is
  then_in (Ok value) make is = tt

  pub more_in : {A B : Type 0} (a : Argument) (x : Option A) (more : A → Result B ℕ) → Begins n a
      → ((value : A) → PlaceIn n (more value)) → PlaceIn n (next (field a x) more)
  more_in a None more front_argument_begins each = front_argument_begins
  more_in a (Some value) more front_argument_begins each = each value

module _ (n : ℕ) (item : Item) (is : IsItemIn n item) where
  pub all_begin : EachBegins n (arguments_of item)
  all_begin = each_begins n item.start item.arguments is.arguments

  -- the argument in front of some of its
  abbrev pub at_front : List Argument → Argument
  at_front arguments = front item.place arguments

  pub front_argument_begins : (arguments : List Argument) → EachBegins n arguments → Begins n (at_front arguments)
  front_argument_begins arguments each = front_begins n item.place arguments is.place each

  pub first_begins : Begins n (at_front (arguments_of item))
  first_begins = front_argument_begins (arguments_of item) all_begin

  pub second_begins : Begins n (at_front (others (arguments_of item)))
  second_begins = front_argument_begins (others (arguments_of item)) (others_begin n (arguments_of item) all_begin)

  -- ---- lines

  pub literal_in : (word : List ℕ) → PlaceIn n (literal word item)
  literal_in word = by (bytes_eq (at_front (arguments_of item)).text word)
    where
      by : (t : Bool) → PlaceIn {A = Unit {0}} n (if t then Ok tt else Err (at_front (arguments_of item)).place)
      by true = tt
      by false = first_begins

  pub rest_in : (wrong : Option ℕ) → PlaceIfIn n wrong → PlaceIn n (rest_unless wrong item)
  rest_in None within = tt
  rest_in (Some place) within = within

  pub time_in : PlaceIn n (time_of item)
  time_in =
      let first = at_front (arguments_of item) in
      let second = at_front (others (arguments_of item)) in
      by (date first.text) (time_of_day second.text)
    where
      by : (days seconds : Option ℕ)
          → PlaceIn n (next (field (at_front (arguments_of item)) days) (λ d.
          next (field (at_front (others (arguments_of item))) seconds) (λ s. Ok (86400 * d + s))))
      by None seconds = first_begins
      by (Some d) None = second_begins
      by (Some d) (Some s) = tt

  pub delays_in : PlaceIn n (delays_of item)
  delays_in =
      let first = at_front (arguments_of item) in
      let second = at_front (others (arguments_of item)) in
      by (number_of first.text) (number_of second.text)
    where
      by : (vote distribution : Option ℕ)
          → PlaceIn {A = ℕ × ℕ} n (next (field (at_front (arguments_of item)) vote) (λ v.
          next (field (at_front (others (arguments_of item))) distribution) (λ d. Ok (v, d))))
      by None distribution = first_begins
      by (Some v) None = second_begins
      by (Some v) (Some d) = tt

  pub random_in : PlaceIn n (random_of item)
  random_in =
      let first = at_front (arguments_of item) in
      let second = at_front (others (arguments_of item)) in
      more_in n first (number_of first.text) _ first_begins
      (λ count. then_in n (field second (padded_digest second.text)) _
      (one_in n second (padded_digest second.text) second_begins))

  pub argument_in : PlaceIn n (argument_of item)
  argument_in =
      let first = at_front (arguments_of item) in
      one_in n first (span_if (is_there first.text) first) first_begins

  pub fingerprint_in : PlaceIn n (fingerprint_of item)
  fingerprint_in =
      let first = at_front (arguments_of item) in
      one_in n first (fingerprint first.text) first_begins

  pub source_in : PlaceIn n (source_of item)
  source_in =
      let l0 = arguments_of item in
      let l1 = others l0 in
      let l2 = others l1 in
      let l3 = others l2 in
      let l4 = others l3 in
      let l5 = others l4 in
      let e1 = others_begin n l0 all_begin in
      let e2 = others_begin n l1 e1 in
      let e3 = others_begin n l2 e2 in
      let e4 = others_begin n l3 e3 in
      let e5 = others_begin n l4 e4 in
      let a = at_front l0 in
      let b = at_front l1 in
      let c = at_front l2 in
      let d = at_front l3 in
      let e = at_front l4 in
      let f = at_front l5 in
      more_in n a (span_if (is_nickname a.text) a) _ first_begins (λ nickname.
      more_in n b (fingerprint b.text) _ (front_argument_begins l1 e1) (λ digest.
      more_in n c (span_if (is_there c.text) c) _ (front_argument_begins l2 e2) (λ host_name.
      more_in n d (address d.text) _ (front_argument_begins l3 e3) (λ ip_number.
      more_in n e (port_of e.text) _ (front_argument_begins l4 e4) (λ dir_number.
      then_in n (field f (port_of f.text)) _ (one_in n f (port_of f.text) (front_argument_begins l5 e5)))))))

  -- ---- objects and signatures

  pub object_in : (wanted : Bool) (object : Option Object) → PlaceIn n (object_if wanted item.place object)
  object_in wanted None = is.place
  object_in true (Some object) = tt
  object_in false (Some object) = is.place

  algorithm_in : (first : Argument) → Begins n first → PlaceIn n (algorithm_if first)
  algorithm_in first front_argument_begins = by (is_some (fingerprint first.text)) (algorithm first.text)
    where
      by : (t : Bool) (named : Option Algorithm)
          → PlaceIn {A = Option Algorithm} n (if t then Ok None else next (field first named) (λ name. Ok (Some name)))
      by true named = tt
      by false None = front_argument_begins
      by false (Some name) = tt

  signed_in : (name : Option Algorithm) (arguments : List Argument) → EachBegins n arguments
      → PlaceIn n (signed_by name arguments item)
  signed_in name arguments each =
      by (fingerprint identity.text) (key_digest key.text) (object_if (has_words item.object (codes "SIGNATURE")) item.place item.object)
      (object_in (has_words item.object (codes "SIGNATURE")) item.object)
    where
      identity : Argument
      identity = at_front arguments

      key : Argument
      key = at_front (others arguments)

      by : (who : Option Fingerprint) (which : Option Digest1) (lines : Result Span ℕ) → PlaceIn n lines
          → PlaceIn {A = VoteSignature} n (next (field (at_front arguments) who) (λ signer.
          next (field (at_front (others arguments)) which) (λ digest.
          next lines (λ signature.
          Ok (record { algorithm = name; identity = signer; key_digest = digest; signature = signature })))))
      by None which lines within = front_argument_begins arguments each
      by (Some signer) None lines within = front_argument_begins (others arguments) (others_begin n arguments each)
      by (Some signer) (Some digest) (Err place) within = within
      by (Some signer) (Some digest) (Ok signature) within = tt

  behind_algorithm : (name : Option Algorithm) → EachBegins n (after_algorithm name (arguments_of item))
  behind_algorithm None = all_begin
  behind_algorithm (Some name) = others_begin n (arguments_of item) all_begin

  pub signature_in : PlaceIn n (signature_of item)
  signature_in =
      by (is_space item.separator) (algorithm_if (at_front (arguments_of item)))
      (algorithm_in (at_front (arguments_of item)) first_begins)
    where
      by : (t : Bool) (named : Result (Option Algorithm) ℕ) → PlaceIn n named
          → PlaceIn n (if t then next named (λ name. signed_by name (after_algorithm name (arguments_of item)) item)
          else Err (item.place + length item.keyword))
      by false named within = is.keyword
      by true (Err place) within = within
      by true (Ok name) within =
          signed_in name (after_algorithm name (arguments_of item)) (behind_algorithm name)

-- ---- items that stand in some bytes

pub item_in : (bytes : List ℕ) (item : Item) → InPlace bytes item → IsItemIn (length bytes) item
item_in bytes item there =
    let within = there.within in
    let some = there.in_order.some_bytes in
    let size = ap (λ (l : List ℕ). length l) there.keyword in
    let cut = length-take (length item.keyword) (drop item.place bytes) in
    let left = length-drop item.place bytes in
    record {
      place = omega (arith, within, some);
      keyword = omega (arith, within, some, size, cut, left);
      arguments = omega (arith, within, there.in_order.arguments_end);
    }
