-- An input that a vote can be made of is refused only where the verifier or the signer failed.
use Rattle.std.proofs.Common.{◌≡◌, ℕ, List, ◌++◌, length, None, Ok, Err, refl, sym, ap, subst, ◌∙◌, arith, inl, inr}
use Rattle.std.{proofs.lemmas.{Bool.false≢true, List.Elements.All-weaker}, specs.Prelude.{All, IsTrue}}
use Rattle.count_terms.specs.declared.newest.Newest.{Newest}
use Rattle.dir_values.specs.{Rosters.has_member, declared.digest.Fingerprint.Fingerprint}
use Rattle.key_port.specs.{Answers.{Relation, Rules}, Signing.SignerSteps}
use Rattle.authority_certs.specs.declared.checking.CertAnswer.TheVariants as answer
use Rattle.descriptor_doc.specs.{Checks.{IsEdRefused, IsVerified, RefusedBy}, declared.descriptor.Descriptor.Descriptor}
use Rattle.flag_rules.specs.{Relays.ruled_relays, Rules.{AreAllowed, RuleAlike, list_allows}, Rulings.same_ruling}
use Rattle.flag_rules.specs.declared.{operator.OperatorRule.OperatorRule, relay.RelayFacts.RelayFacts}
use Rattle.flag_rules.specs.declared.{relay.RuledRelay.RuledRelay, ruling.Ruling.Ruling}
use Rattle.frame_terms.specs.declared.fault.FrameFault.{FrameFault}
use Rattle.frame_terms.specs.declared.fault.ReadRefusal.TheVariants as doc
use Rattle.daemon_words.specs.declared.stop.Stop.TheVariants as stop
use Rattle.station_input.specs.{Reading.station_of, declared.facts.StationFacts.StationFacts}
use Rattle.vote_pool.specs.Pools.{Pooled}
use Rattle.vote_schedule.specs.{Moments.AnswersNext, Schedules.Schedule}
use Rattle.vote_maker.specs.{Made.{Basis, schedule_in}, Making.RefusesToMake, declared.refusal.MakeRefusal.MakeRefusal}
use Rattle.vote_maker.specs.declared.refusal.MakeRefusal.TheVariants as make
use Rattle.station_commands.specs.Descriptors.{IsPoolOf, RefusesDescriptors, clause_of, descriptor_from, finds_full}
use Rattle.station_commands.specs.{Descriptors.no_pool, Order.{IsInOrder, IsOutOfOrder, roster_in, schedule_given}}
use Rattle.station_commands.specs.{Told.{by_pool, make_refused}, Voting.{IsBasisOf, MakesNone, RefusesVote}}
use Rattle.station_commands.specs.declared.refusal.{DescriptorWord.DescriptorWord, MakeVoteRefusal.MakeVoteRefusal}
use Rattle.station_commands.specs.{declared.refusal.{OrderWord.OrderWord, PoolRefusal.PoolRefusal}, Answerable.CanVote}
use Rattle.station_commands.specs.Answerable.{HoldsAt, IsNotRefused, IsOfKeys, IsShort, SuchAreNotRefused}
use Rattle.station_commands.proofs.{Answers.{not_both, one_value}, Chains.{goes_on, has_next, of_next, one_chain}}
use Rattle.station_commands.proofs.{Chains.one_there, OneBasis.{one_basis, one_station, one_used}}
use Rattle.station_commands.specs.declared.refusal.DescriptorWord.TheVariants as clause
use Rattle.station_commands.specs.declared.refusal.OrderWord.TheVariants as word
use Rattle.station_commands.specs.declared.refusal.PoolRefusal.TheVariants as refusal

-- ---- the station

pub not_faulty : (newest : Newest) (bytes : List ℕ) (given : StationFacts) (used : ℕ) (fault : FrameFault)
    → station_of newest bytes ≡ Ok (given, used) → station_of newest bytes ≡ Err (doc.Frame fault) → ⊥
not_faulty newest bytes given used fault reads is =
    not_both (station_of newest bytes) (given, used) (doc.Frame fault) reads is

pub in_order : (given : StationFacts) (schedule : Schedule) (why : OrderWord) → IsInOrder given schedule
    → IsOutOfOrder given why → ⊥
in_order given schedule word.Roster order has =
    not_both (roster_in given) order.roster has.0 order.members has.1
in_order given schedule word.Schedule order has =
    not_both (schedule_given given) schedule has.fault order.scheduled has.scheduled
in_order given schedule word.Own order has =
    let same = one_value (roster_in given) has.roster order.roster has.members order.members in
    false≢true (sym has.own ∙ ap (λ (r : List Fingerprint). has_member r given.identity) same ∙ order.own)

-- ---- the descriptors

-- neither its Ed25519 signatures are refused, nor its families
neither_refused : (rules : Rules) (d : Descriptor) → IsNotRefused rules d → IsEdRefused rules d → ⊥
neither_refused rules d free (inl ed) = false≢true (sym free.ed_signed ∙ ed)
neither_refused rules d free (inr families) = false≢true (sym free.families ∙ families.1)

one_holds : (rules : Rules) (d : Descriptor) (why : DescriptorWord) → IsVerified rules d → IsNotRefused rules d
    → RefusedBy rules d (clause_of why) → ⊥
one_holds rules d clause.Identity ok free refused = false≢true (sym refused ∙ ok.names_itself)
one_holds rules d clause.Signature ok free refused = false≢true (sym free.signed ∙ refused.1)
one_holds rules d clause.Ed25519 ok free refused = neither_refused rules d free refused.2

pub has_pool : (rules : Rules) (newest : Newest) (start : ℕ) (bytes : List ℕ) (pool : Pooled) (why : PoolRefusal)
    (is : IsPoolOf rules newest start bytes pool) → All (IsNotRefused rules) is.descriptors
    → RefusesDescriptors rules newest start bytes why → why ≡ refusal.Verifier
has_pool rules newest start bytes pool (refusal.Fault fault) is free x =
    let more =
    goes_on newest bytes start is.descriptors x.descriptors is.last x.last is.hold.stand is.ended x.hold.stand in
    let next = has_next newest bytes more.rest is.last x.last more.stands is.ended x.more in
    absurd (not_both (descriptor_from newest x.last bytes) (next.one, next.next) _ next.there x.fails)
has_pool rules newest start bytes pool refusal.Full is free refuses =
    let chain =
    one_chain newest bytes start is.descriptors refuses.descriptors is.last refuses.last is.hold.stand is.ended
    refuses.hold.stand refuses.ended in
    absurd (false≢true (sym is.room ∙ ap (finds_full no_pool) (sym chain) ∙ refuses.full))
has_pool rules newest start bytes pool (refusal.Descriptor k why) is free refuses =
    let more =
    goes_on newest bytes start is.descriptors refuses.descriptors is.last refuses.last is.hold.stand is.ended
    refuses.hold.stand in
    let next = has_next newest bytes more.rest is.last refuses.last more.stands is.ended refuses.more in
    let whole = more.whole ∙ ap (λ (l : List Descriptor). refuses.descriptors ++ l) next.rest_is in
    let ok =
    of_next (IsVerified rules) refuses.descriptors next.others next.one
    (subst (λ (l : List Descriptor). All (IsVerified rules) l) whole is.hold.verified) in
    let unrefused =
    of_next (IsNotRefused rules) refuses.descriptors next.others next.one
    (subst (λ (l : List Descriptor). All (IsNotRefused rules) l) whole free) in
    let same = one_there (descriptor_from newest refuses.last bytes) refuses.descriptor next.one refuses.next next.next
    refuses.stands next.there in
    absurd (one_holds rules next.one why ok unrefused
    (subst (λ (d : Descriptor). RefusedBy rules d (clause_of why)) same refuses.fails))
has_pool rules newest start bytes pool refusal.Verifier is free refuses = refl

-- ---- the period

pub has_period : (rules : Rules) (now : ℕ) (given : StationFacts) (used : ℕ) (bytes : List ℕ) (its : Basis)
    → IsBasisOf rules now given used bytes its → AnswersNext (schedule_in given) 0 now None → ⊥
has_period rules now given used bytes its is none =
    let past = none its.valid_after is.next in
    let life = is.life in
    omega (arith, past, life)

-- ---- the vote

-- rulings that one list allows another allows that rules alike
allowed_alike : (rules others : List OperatorRule) (relays : List RelayFacts) (rulings : List Ruling)
    → RuleAlike rules others → AreAllowed (list_allows others) relays rulings
    → AreAllowed (list_allows rules) relays rulings
allowed_alike rules others relays rulings alike allowed = record {
  one_each = allowed.one_each;
  of_each =
      All-weaker (λ (relay : RuledRelay). IsTrue (list_allows others relay.facts relay.ruling))
      (λ (relay : RuledRelay). IsTrue (list_allows rules relay.facts relay.ruling))
      (λ relay is. subst (λ (r : Ruling). IsTrue (same_ruling relay.ruling r)) (alike relay.facts.identity) is)
      (ruled_relays relays rulings) allowed.of_each;
}

module _ {N : Type 0} (rules : Rules) (gives : Relation) (steps : SignerSteps N) (its : Basis) (old new : N) where
  makes_one : (rulings : List OperatorRule) (found : MakeRefusal) (why : MakeVoteRefusal)
      → HoldsAt rules its.valid_after its.station.certificate → IsShort its → RuleAlike its.station.rules rulings
      → stop.Refused why ≡ make_refused found
      → RefusesToMake rules gives steps (list_allows rulings) its found old new → IsOfKeys why
  makes_one rulings (make.OwnCert answer.Checked) why holds short alike told refuses =
      absurd (false≢true refuses.0)
  makes_one rulings (make.OwnCert answer.WrongFingerprint) why holds short alike told refuses =
      absurd (false≢true (sym refuses.1 ∙ holds.certified.current.fingerprint))
  makes_one rulings (make.OwnCert (answer.Expired at expires)) why holds short alike told refuses =
      let past = refuses.1.1 in
      let before = holds.certified.current.expires in
      absurd (omega (arith, past, before))
  makes_one rulings (make.OwnCert answer.BadCertification) why holds short alike told refuses =
      absurd (false≢true (sym holds.certification ∙ refuses.1.1))
  makes_one rulings (make.OwnCert answer.BadCrosscert) why holds short alike told refuses =
      absurd (false≢true (sym holds.crosscert ∙ refuses.1.2))
  makes_one rulings (make.OwnCert answer.VerifierFault) why holds short alike told refuses =
      absurd (false≢true refuses.0)
  makes_one rulings make.SignerFault why holds short alike told refuses = inr (cc told)
  makes_one rulings make.VerifierFault why holds short alike told refuses = inl (cc told)
  makes_one rulings (make.TooLong count) why holds short alike told refuses =
      let long = refuses.1 in
      let text = long.text_of in
      let fits =
      short text.rulings text.signature (allowed_alike its.station.rules rulings _ text.rulings alike text.allowed)
      text.signed.short in
      let size = ap (λ (l : List ℕ). length l) text.text_is in
      let above = long.above in
      let count_is = long.count_is in
      absurd (omega (arith, fits, size, above, count_is))
  makes_one rulings make.Memory why holds short alike told refuses = absurd (cc told)

-- ---- the station's vote

module _ {N : Type 0} (rules : Rules) (gives : Relation) (steps : SignerSteps N) (now : ℕ) (given : StationFacts) (used : ℕ)
    (bytes : List ℕ) (old new : N) where
  -- why no vote is made of a station of which one can be
  pub none_refused : (why : MakeVoteRefusal) → CanVote rules now given used bytes
      → RefusesVote rules gives steps now given used bytes why old new → IsOfKeys why
  none_refused why can (inl (word, told, has)) =
      absurd (in_order given (schedule_in given) word can.basis.has_pool.order has)
  none_refused why can (inr (inl (order, (pool, told, refuses)))) =
      let of_verifier =
      has_pool rules given.newest used bytes can.basis.pool pool can.basis.has_pool.pool_of can.none_refused refuses in
      inl (told ∙ ap by_pool of_verifier)
  none_refused why can (inr (inr (inl (pool, other, told, none)))) =
      absurd (has_period rules now given used bytes can.its can.basis none)
  none_refused why can (inr (inr (inr (its, basis, none)))) =
      let same = one_basis rules now given used bytes its can.its basis can.basis in
      let own = subst (λ (b : Basis). MakesNone rules gives steps b (stop.Refused why) old new) same none in
      makes_one rules gives steps can.its old new own.rulings own.refusal why can.holds can.short own.alike own.told
      own.refused

-- ---- the command

module _ {N : Type 0} (gives : Relation) (steps : SignerSteps N) where
  pub not_refused : SuchAreNotRefused gives steps
  not_refused rules newest now bytes old new why can (inl (fault, told, faulty)) =
      absurd (not_faulty newest bytes can.given can.used fault can.read faulty)
  not_refused rules newest now bytes old new why can (inr (given, used, read, answer)) =
      let station = one_station newest bytes given can.given used can.used read can.read in
      let behind = one_used newest bytes given can.given used can.used read can.read in
      none_refused rules gives steps now can.given can.used bytes old new why can.can
      (subst (λ (n : ℕ). RefusesVote rules gives steps now can.given n bytes why old new) behind
      (subst (λ (s : StationFacts). RefusesVote rules gives steps now s used bytes why old new) station answer))
