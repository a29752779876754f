-- A relay's lines in a consensus that were written are read again: who it is and where, its bandwidth, and the digest
-- of its microdescriptor.
use Rattle.std.proofs.Common.{◌≡◌, ℕ, ◌+◌, ◌*◌, ◌/◌, ◌%◌, ◌≤◌, Bool, true, false, List, [], ◌∷◌, ◌++◌, length, Some, Ok}
use Rattle.std.proofs.Common.{refl, sym, ap, subst, ◌∙◌, arith, append_assoc, Option, None}
use Rattle.std.{proofs.lemmas.List.Elements.{All-cons, All-nil}, specs.Prelude.{codes, decimal, option_map}}
use Rattle.std.specs.List.{join_with_byte}
use Rattle.item_terms.specs.Items.{Item}
use Rattle.dir_bytes.specs.{Causes.last_moment, FieldTexts.{address_text, base64_text, clock_text, date_text}}
use Rattle.dir_bytes.{specs.Fields.{address, date, time_of_day}, proofs.ReadAgain.address-address_text}
use Rattle.dir_bytes.proofs.ReadAgain.{date-date_text, number-decimal, time_of_day-clock_text}
use Rattle.dir_values.specs.{Arguments.{Argument, arguments_at}, Digests.digest2, Names.is_nickname, Numbers.port_of}
use Rattle.dir_values.specs.declared.digest.{Digest1.Digest1, Digest2.Digest2, Fingerprint.Fingerprint}
use Rattle.dirdoc_grammar.specs.Writing.{written}
use Rattle.frame_terms.specs.declared.keyword.Keyword.{Keyword}
use Rattle.frame_values.specs.{Arguments.{arguments_of, field, next}, Fields.span_of, Items.bare, Parts.moment_of}
use Rattle.frame_values.specs.Values.{no_digest}
use Rattle.frame_laws.proofs.{WordTexts.bytes_of, Words.{AreWords, IsWord, arguments_of_word, arguments_of_words}}
use Rattle.frame_laws.proofs.Words.{placed, two_words, word_of_address, word_of_clock, word_of_date, word_of_nickname}
use Rattle.frame_laws.proofs.{Words.word_of_number, WrittenItems.start_of}
use Rattle.relay_entries.specs.{Fields.{bandwidth_if, identity}, Lines.no_bandwidths}
use Rattle.relay_entries.specs.declared.said.{Bandwidths.Bandwidths, RelayLine.RelayLine}
use Rattle.group_laws.specs.{EntryAgain.relay_at, Ranges.{AreThirtyTwo, IsRelayInRange}}
use Rattle.group_laws.proofs.{WrittenMicros.{digest_again, word_of_thirty_two}, WrittenRelays.identity_again}
use Rattle.group_laws.proofs.WrittenRelays.{port_again, relay_again, relay_shape, word_of_twenty}
use Rattle.consensus_terms.specs.{Lines.named_text, Routers.unmeasured_words, declared.flavour.Flavour.Flavour}
use Rattle.consensus_terms.specs.declared.{flavour.Flavour.TheVariants.{Ns, Microdesc}, router.Bandwidth.Bandwidth}
use Rattle.consensus_terms.specs.declared.router.Routerline.{Routerline}
use Rattle.consensus_frame.specs.Lines.{bandwidth_by, bandwidth_of, micro_digest_of, nothing_said, relay_of, with_word}
use Rattle.consensus_frame.specs.{Lines.with_words, declared.line.Said.Said}
use Rattle.consensus_laws.specs.{Again.IsRouterInRange, Items.{router_words, w_text}}

-- ---- who a relay is and where

-- the text of its first line
abbrev pub router_text : Flavour → Routerline → List ℕ
router_text flavour router = join_with_byte 32 (router_words flavour router)

-- the digest of a descriptor as a flavour has it
abbrev pub digest_said : Flavour → Digest1 → Digest1
digest_said Ns digest = digest
digest_said Microdesc digest = record { 0 = no_digest }

-- what the line says whose nickname stands at a place
abbrev pub relay_said : Flavour → ℕ → Routerline → RelayLine
relay_said flavour start r =
    relay_at start r.nickname r.identity (digest_said flavour r.digest) r.published r.ip r.or_port r.dir_port

-- a moment of the calendar is not cut off
pub whole_moment : (moment : ℕ) → moment ≤ last_moment → moment_of moment ≡ moment
whole_moment moment within = omega (arith, within)

-- the line of a microdesc consensus, whose arguments are known
relay_is : (item : Item) (a b d e f g h : Argument) (key : Fingerprint)
    (days seconds ip or_port dir_port : ℕ)
    → arguments_of item ≡ a ∷ b ∷ d ∷ e ∷ f ∷ g ∷ h ∷ [] → is_nickname a.text ≡ true → identity b.text ≡ Some key
    → date d.text ≡ Some days → time_of_day e.text ≡ Some seconds
    → address f.text ≡ Some ip → port_of g.text ≡ Some or_port → port_of h.text ≡ Some dir_port
    → relay_of Microdesc item
    ≡ Ok (record {
      nickname = span_of a;
      identity = key;
      digest = record { 0 = no_digest };
      published = 86400 * days + seconds;
      ip = ip;
      or_port = or_port;
      dir_port = dir_port;
    })
relay_is item a b d e f g h key days seconds ip or_port dir_port args name id day second number or dir =
    rw (args, name, id, day, second, number, or, dir) refl

-- its words
abbrev micro_words : Routerline → ℕ → List (List ℕ)
micro_words r m =
    r.nickname ∷ base64_text r.identity.0 ∷ date_text (m / 86400) ∷ clock_text (m % 86400)
    ∷ address_text r.ip ∷ decimal r.or_port ∷ decimal r.dir_port ∷ []

micro_are : (r : Routerline) (m : ℕ) → IsRouterInRange Microdesc r → AreWords (micro_words r m)
micro_are r m are =
    let b = base64_text r.identity.0 in
    let d = date_text (m / 86400) in
    let e = clock_text (m % 86400) in
    let f = address_text r.ip in
    let g = decimal r.or_port in
    let h = decimal r.dir_port in
    All-cons IsWord r.nickname (b ∷ d ∷ e ∷ f ∷ g ∷ h ∷ []) (word_of_nickname r.nickname are.nickname)
    (All-cons IsWord b (d ∷ e ∷ f ∷ g ∷ h ∷ []) (word_of_twenty r.identity.0 are.identity)
    (All-cons IsWord d (e ∷ f ∷ g ∷ h ∷ []) (word_of_date (m / 86400))
    (All-cons IsWord e (f ∷ g ∷ h ∷ []) (word_of_clock (m % 86400))
    (All-cons IsWord f (g ∷ h ∷ []) (word_of_address r.ip)
    (two_words g h (word_of_number r.or_port) (word_of_number r.dir_port))))))

-- a moment's date and time of day are two words of the line
micro_shape : (r : Routerline) → router_text Microdesc r ≡ join_with_byte 32 (micro_words r r.published)
micro_shape r =
    let m = r.published in
    let rest = 32 ∷ join_with_byte 32 (address_text r.ip ∷ decimal r.or_port ∷ decimal r.dir_port ∷ []) in
    ap (λ (l : List ℕ). r.nickname ++ 32 ∷ (base64_text r.identity.0 ++ 32 ∷ l))
    (append_assoc (date_text (m / 86400)) (32 ∷ clock_text (m % 86400)) rest)

ns_shape : (r : Routerline)
    → router_text Ns r
    ≡ join_with_byte 32 (r.nickname ∷ base64_text r.identity.0 ∷ base64_text r.digest.0
    ∷ date_text (r.published / 86400) ∷ clock_text (r.published % 86400)
    ∷ address_text r.ip ∷ decimal r.or_port ∷ decimal r.dir_port ∷ [])
ns_shape r =
    let m = r.published in
    let rest = 32 ∷ join_with_byte 32 (address_text r.ip ∷ decimal r.or_port ∷ decimal r.dir_port ∷ []) in
    ap (λ (l : List ℕ).
    r.nickname ++ 32 ∷ (base64_text r.identity.0 ++ 32 ∷ (base64_text r.digest.0 ++ 32 ∷ l)))
    (append_assoc (date_text (m / 86400)) (32 ∷ clock_text (m % 86400)) rest)

-- The first line of a relay is read as it was written.
pub router_again : (flavour : Flavour) (place : ℕ) (keyword : Keyword) (r : Routerline) → IsRouterInRange flavour r
    → relay_of flavour (written place (bare keyword (router_text flavour r)))
    ≡ Ok (relay_said flavour (start_of place keyword (router_text flavour r)) r)
router_again Ns place keyword r are =
    let in_range : IsRelayInRange r.nickname r.identity r.digest r.ip r.or_port r.dir_port = record {
      nickname_is = are.nickname;
      identity_is = are.identity;
      digest_is = are.digest;
      ip_is = are.ip;
      or_port_is = are.or_port;
      dir_port_is = are.dir_port;
    } in
    let same =
    relay_shape r.nickname r.identity r.digest r.published r.ip r.or_port r.dir_port
    ∙ ap (λ (m : ℕ). join_with_byte 32 (r.nickname ∷ base64_text r.identity.0 ∷ base64_text r.digest.0
    ∷ date_text (m / 86400) ∷ clock_text (m % 86400) ∷ address_text r.ip ∷ decimal r.or_port ∷ decimal r.dir_port ∷ []))
    (whole_moment r.published are.published)
    ∙ sym (ns_shape r) in
    subst (λ (t : List ℕ).
    relay_of Ns (written place (bare keyword t)) ≡ Ok (relay_said Ns (start_of place keyword t) r))
    same
    (relay_again place keyword r.nickname r.identity r.digest r.published r.ip r.or_port r.dir_port in_range)
router_again Microdesc place keyword r are =
    let m = r.published in
    let text = router_text Microdesc r in
    let a = r.nickname in
    let b = base64_text r.identity.0 in
    let d = date_text (m / 86400) in
    let e = clock_text (m % 86400) in
    let f = address_text r.ip in
    let g = decimal r.or_port in
    let h = decimal r.dir_port in
    let start = start_of place keyword text in
    let second = start + length a + 1 in
    let third = second + length b + 1 in
    let fourth = third + length d + 1 in
    let fifth = fourth + length e + 1 in
    let sixth = fifth + length f + 1 in
    let seventh = sixth + length g + 1 in
    let within = are.published in
    let sum : 86400 * (m / 86400) + m % 86400 ≡ moment_of m = omega (arith, within) in
    relay_is (written place (bare keyword text)) (record { place = start; text = a })
    (record { place = second; text = b }) (record { place = third; text = d }) (record { place = fourth; text = e })
    (record { place = fifth; text = f }) (record { place = sixth; text = g }) (record { place = seventh; text = h })
    r.identity (m / 86400) (m % 86400) r.ip r.or_port r.dir_port
    (ap (arguments_at start) (micro_shape r) ∙ arguments_of_words start (micro_words r m) (micro_are r m are))
    are.nickname (identity_again r.identity are.identity)
    (date-date_text (m / 86400) (omega (arith, within))) (time_of_day-clock_text (m % 86400) (omega arith))
    (address-address_text r.ip are.ip) (port_again r.or_port are.or_port) (port_again r.dir_port are.dir_port)
    ∙ ap (λ (x : ℕ). Ok (record {
      nickname = span_of (record { place = start; text = a });
      identity = r.identity;
      digest = record { 0 = no_digest };
      published = x;
      ip = r.ip;
      or_port = r.or_port;
      dir_port = r.dir_port;
    })) sum

-- ---- the digest of its microdescriptor

digest_is : (item : Item) (a : Argument) (digest : Digest2) → arguments_of item ≡ a ∷ [] → digest2 a.text ≡ Some digest
    → micro_digest_of item ≡ Ok digest
digest_is item a digest args is = rw (args, is) refl

pub micro_digest_again : (place : ℕ) (keyword : Keyword) (digest : Digest2) → AreThirtyTwo digest.0
    → micro_digest_of (written place (bare keyword (base64_text digest.0))) ≡ Ok digest
micro_digest_again place keyword digest are =
    let text = base64_text digest.0 in
    let start = start_of place keyword text in
    digest_is (written place (bare keyword text)) (record { place = start; text = text }) digest
    (arguments_of_word start text (word_of_thirty_two digest.0 are)) (digest_again digest are)

-- ---- its bandwidth

-- this bandwidth, and whether it is unmeasured
abbrev of_both : ℕ → Bool → Said
of_both value unmeasured =
    record { bandwidths = record { bandwidth = Some value; measured = None }; unmeasured = unmeasured }

-- the words of a line
abbrev w_words : Bandwidth → List (List ℕ)
w_words w = named_text (codes "Bandwidth") w.value ∷ unmeasured_words w.unmeasured

value_word : (n : ℕ) → IsWord (named_text (codes "Bandwidth") n)
unfolding named_text
value_word n = bytes_of (decimal n) (word_of_number n)

w_are : (value : ℕ) (unmeasured : Bool)
    → AreWords (named_text (codes "Bandwidth") value ∷ unmeasured_words unmeasured)
w_are value true = two_words (named_text (codes "Bandwidth") value) (codes "Unmeasured=1") (value_word value) refl
w_are value false = All-cons IsWord (named_text (codes "Bandwidth") value) [] (value_word value) (All-nil IsWord)

says_value : (n : ℕ) → n ≤ 4294967295
    → with_word nothing_said (named_text (codes "Bandwidth") n) ≡ Some (of_both n false)
unfolding named_text
says_value n small =
    ap (λ (o : Option ℕ). option_map with_it (bandwidth_if no_bandwidths o))
    (number-decimal 4294967295 n small (omega (arith, small)))
  where
    with_it : Bandwidths → Said
    with_it bandwidths = record { bandwidths = bandwidths; unmeasured = false }

says_more : (said more : Said) (argument : Argument) (rest : List Argument) → with_word said argument.text ≡ Some more
    → with_words said (argument ∷ rest) ≡ with_words more rest
unfolding with_words
says_more said more argument rest is =
    ap (λ (o : Option Said). next (field argument o) (λ (w : Said). with_words w rest)) is

says_all : (said : Said) → with_words said [] ≡ Ok said
unfolding with_words
says_all said = refl

says_both : (place value : ℕ) (unmeasured : Bool) → value ≤ 4294967295
    → with_words nothing_said (placed place (named_text (codes "Bandwidth") value ∷ unmeasured_words unmeasured))
    ≡ Ok (of_both value unmeasured)
says_both place value false small =
    says_more nothing_said (of_both value false) (record { place = place; text = named_text (codes "Bandwidth") value })
    [] (says_value value small)
    ∙ says_all (of_both value false)
says_both place value true small =
    let one = named_text (codes "Bandwidth") value in
    let after = place + length one + 1 in
    says_more nothing_said (of_both value false) (record { place = place; text = one })
    (placed after (codes "Unmeasured=1" ∷ [])) (says_value value small)
    ∙ says_more (of_both value false) (of_both value true) (record { place = after; text = codes "Unmeasured=1" }) []
    refl
    ∙ says_all (of_both value true)

-- The line of a bandwidth is read as it was written.
pub bandwidth_again : (place : ℕ) (keyword : Keyword) (w : Bandwidth) → w.value ≤ 4294967295
    → bandwidth_of (written place (bare keyword (w_text w))) ≡ Ok w
bandwidth_again place keyword w small =
    let start = start_of place keyword (w_text w) in
    ap (λ (l : List Argument). next (with_words nothing_said l)
    (λ (said : Said). bandwidth_by place said said.bandwidths.bandwidth))
    (arguments_of_words start (w_words w) (w_are w.value w.unmeasured))
    ∙ ap (λ r. next r (λ (said : Said). bandwidth_by place said said.bandwidths.bandwidth))
    (says_both start w.value w.unmeasured small)
