-- Those who have a signature that is held, counted, are the signers of the digest.
use Rattle.std.proofs.Common.{◌≡◌, ℕ, ◌+◌, ◌⊎◌, ◌&&◌, ◌||◌, not, Bool, true, false, cond, List, [], ◌∷◌, length, map}
use Rattle.std.proofs.Common.{Option, Some, None, refl, sym, ap, ◌∙◌, subst, inl, inr, ⊎_elim, arith, bytes_eq}
use Rattle.std.{proofs.{Common.count_by, lemmas.Bool.{false≢true, false_from_ne_true}}, specs.Prelude.AllPairs}
use Rattle.std.specs.Prelude.{Contains}
use Rattle.sha1.specs.Sha1.{sha1}
use Rattle.key_port.specs.Answers.{Rules}
use Rattle.dir_values.specs.{declared.digest.Fingerprint.Fingerprint, Digests.same_identity, Rosters.has_member}
use Rattle.vote_terms.{specs.{Votes.ReadVote, Held.{held, vote_of}}, proofs.{HeldLaw.held_law, Orders.same_one}}
use Rattle.consensus_terms.specs.declared.{consensus.Consensus.Consensus, signature.SignatureLine.SignatureLine}
use Rattle.detached_sigs.specs.{declared.key.SignerKey.SignerKey, Signers.{AreSigners, CountsSigners, is_line_of}}
use Rattle.detached_sigs.specs.Signers.{is_signed, has_good_line, has_bad_lines}
use Rattle.period_terms.specs.{declared.state.State.State, States.{digest_of, lines_of, has_line}, Histories.run}
use Rattle.period_terms.specs.{Histories.accepted, Keys.signer_key}
use Rattle.period_laws.{specs.Checked.{IsChecked, SignersAreCounted}, proofs.Accepted.{are_held, are_wanted}}
use Rattle.period_laws.proofs.{Accepted.roster_stays, Backed.{NamesIt, Counts, named}, Digests.{itself, same_bytes}}
use Rattle.period_laws.proofs.{LinesTold.{IsTold, along_weaker, lines_are_good}, Members.{In, in_to, any_to, any_from}}
use Rattle.period_laws.proofs.{Members.{found, tally, count_is}, SigningKeys.{with_key, picked, of_picked, once}}
use Rattle.period_laws.proofs.SigningKeys.{all_in}

module _ (rules : Rules) (digest : List ℕ) (roster : List Fingerprint) (votes : List ReadVote)
    (held_lines : List SignatureLine) (is : Counts rules digest roster votes held_lines) where
  -- the keys of those of some members who have a signature
  abbrev keys_of : List Fingerprint → List SignerKey
  keys_of ms = picked votes held_lines ms

  -- ---- there is a vote of each that has a signature

  vote_with : (m : Fingerprint) → has_line held_lines m ≡ true
      → (vote : ReadVote) × In vote votes × (vote.says.identity ≡ m)
  vote_with m has =
      let r = any_from (λ (line : SignatureLine). same_identity line.identity m) held_lines has in
      let g = is.good r.0 r.1 in
      (g.vote, g.there, g.same ∙ same_one r.0.identity m r.2)

  found_by : (b : Bool) (v : ReadVote) (vs : List ReadVote) (m : Fingerprint) (x : ReadVote)
      → same_identity v.says.identity m ≡ b → In x (v ∷ vs) → x.says.identity ≡ m
      → (In x vs → (y : ReadVote) × (vote_of vs m ≡ Some y))
      → (y : ReadVote) × (cond b (Some v) (vote_of vs m) ≡ Some y)
  found_by true v vs m x e i same rest = (v, refl)
  found_by false v vs m x e i same rest =
      ⊎_elim
      (λ (q : x ≡ v). absurd (false≢true (sym e
      ∙ subst (λ (a : Fingerprint). same_identity a m ≡ true)
      (sym same ∙ ap (λ (w : ReadVote). w.says.identity) q) (itself m))))
      rest i

  some_found : (vs : List ReadVote) (m : Fingerprint) (x : ReadVote) → In x vs → x.says.identity ≡ m
      → (y : ReadVote) × (vote_of vs m ≡ Some y)
  some_found [] m x i same = absurd i
  some_found (v ∷ vs) m x i same =
      found_by (same_identity v.says.identity m) v vs m x refl i same (λ j. some_found vs m x j same)

  vote_is : (m : Fingerprint) (x : ReadVote) → In x votes → x.says.identity ≡ m → vote_of votes m ≡ Some x
  vote_is m x i same =
      let f = some_found votes m x i same in
      let r = found (λ (v : ReadVote). same_identity v.says.identity m) votes f.0 f.1 in
      f.1 ∙ ap (λ (v : ReadVote). Some v)
      (is.one f.0 x r.0 i (same_one f.0.says.identity m r.1 ∙ sym same))

  -- ---- so many

  counted_by : (b : Bool) (m : Fingerprint) (ms : List Fingerprint) → has_line held_lines m ≡ b
      → length (keys_of ms) ≡ tally (has_line held_lines) ms
      → length (cond b (with_key (vote_of votes m) (keys_of ms)) (keys_of ms))
      ≡ cond b 1 0 + tally (has_line held_lines) ms
  counted_by true m ms e rest =
      let v = vote_with m e in
      let one : with_key (vote_of votes m) (keys_of ms) ≡ signer_key v.0 ∷ keys_of ms =
      ap (λ (x : Option ReadVote). with_key x (keys_of ms)) (vote_is m v.0 v.1 v.2) in
      ap (λ (l : List SignerKey). length l) one ∙ omega (arith, rest)
  counted_by false m ms e rest = omega (arith, rest)

  so_many : (ms : List Fingerprint) → length (keys_of ms) ≡ tally (has_line held_lines) ms
  so_many [] = refl
  so_many (m ∷ ms) = counted_by (has_line held_lines m) m ms refl (so_many ms)

  -- ---- each signed, and of the others none

  in_map : (vs : List ReadVote) (v : ReadVote) → In v vs → In (signer_key v) (map signer_key vs)
  in_map [] v i = absurd i
  in_map (w ∷ vs) v i = ⊎_elim (λ (e : v ≡ w). inl (ap signer_key e)) (λ j. inr (in_map vs v j)) i

  from_map : (vs : List ReadVote) (key : SignerKey) → In key (map signer_key vs)
      → (v : ReadVote) × In v vs × (key ≡ signer_key v)
  from_map [] key i = absurd i
  from_map (w ∷ vs) key i =
      ⊎_elim (λ (e : key ≡ signer_key w). (w, inl refl, e))
      (λ j. let r = from_map vs key j in (r.0, inr r.1, r.2)) i

  good_of : (vote : ReadVote) → In vote votes → has_line held_lines vote.says.identity ≡ true
      → has_good_line rules digest held_lines (signer_key vote) ≡ true
  good_of vote there has =
      let r = any_from (λ (line : SignatureLine). same_identity line.identity vote.says.identity) held_lines has in
      let g = is.good r.0 r.1 in
      let same : g.vote ≡ vote =
      is.one g.vote vote g.there there (g.same ∙ same_one r.0.identity vote.says.identity r.2) in
      let names : NamesIt rules vote.says.certificate.signing_key digest r.0 =
      subst (λ (v : ReadVote). NamesIt rules v.says.certificate.signing_key digest r.0) same g.names in
      let digest_is : bytes_eq r.0.key_digest.0 (sha1 vote.says.certificate.signing_key) ≡ true =
      subst (λ (x : List ℕ). bytes_eq x (sha1 vote.says.certificate.signing_key) ≡ true) (sym names.1)
      (same_bytes (sha1 vote.says.certificate.signing_key)) in
      any_to (λ line. is_line_of (signer_key vote) line && lines_signed vote line) held_lines r.0 r.1
      (rw (r.2, digest_is, names.0) refl)
    where
      lines_signed : ReadVote → SignatureLine → Bool
      lines_signed vote line = is_signed rules.may_accept digest (signer_key vote) line

  none_by : (a b c : Bool) → a ≡ false → (not (a && b) || c) ≡ true
  none_by true b c e = absurd (false≢true (sym e))
  none_by false b c e = refl

  others_bad : (ls : List SignatureLine) (key : SignerKey)
      → ((line : SignatureLine) → In line ls → same_identity line.identity key.authority ≡ false)
      → has_bad_lines rules digest ls key ≡ true
  others_bad [] key f = refl
  others_bad (line ∷ ls) key f =
      let here : (not (is_line_of key line) || is_signed rules.may_refuse digest key line) ≡ true =
      none_by (same_identity line.identity key.authority) (bytes_eq line.key_digest.0 (sha1 key.key))
      (is_signed rules.may_refuse digest key line) (f line (inl refl)) in
      rw here (others_bad ls key (λ other i. f other (inr i)))

  in_picked_with : (m : Fingerprint) (ms : List Fingerprint) (vote : ReadVote) → In vote votes
      → In vote.says.identity (m ∷ ms)
      → (In vote.says.identity ms → In (signer_key vote) (keys_of ms))
      → (found_vote : Option ReadVote) → vote_of votes m ≡ found_vote
      → In (signer_key vote) (with_key found_vote (keys_of ms))
  in_picked_with m ms vote there i rest found_vote f =
      ⊎_elim
      (λ (e : vote.says.identity ≡ m).
      let same : found_vote ≡ Some vote = sym f ∙ vote_is m vote there e in
      subst (λ (x : Option ReadVote). In (signer_key vote) (with_key x (keys_of ms))) (sym same) (inl refl))
      (λ j. behind found_vote (rest j)) i
    where
      behind : (x : Option ReadVote) → In (signer_key vote) (keys_of ms)
          → In (signer_key vote) (with_key x (keys_of ms))
      behind None k = k
      behind (Some v) k = inr k

  in_picked_by : (b : Bool) (m : Fingerprint) (ms : List Fingerprint) (vote : ReadVote) → has_line held_lines m ≡ b
      → In vote votes → has_line held_lines vote.says.identity ≡ true → In vote.says.identity (m ∷ ms)
      → (In vote.says.identity ms → In (signer_key vote) (keys_of ms))
      → In (signer_key vote) (cond b (with_key (vote_of votes m) (keys_of ms)) (keys_of ms))
  in_picked_by true m ms vote e there has i rest = in_picked_with m ms vote there i rest (vote_of votes m) refl
  in_picked_by false m ms vote e there has i rest =
      ⊎_elim
      (λ (q : vote.says.identity ≡ m). absurd (false≢true (sym e
      ∙ subst (λ (a : Fingerprint). has_line held_lines a ≡ true) q has)))
      rest i

  in_picked : (ms : List Fingerprint) (vote : ReadVote) → In vote votes
      → has_line held_lines vote.says.identity ≡ true → In vote.says.identity ms
      → In (signer_key vote) (keys_of ms)
  in_picked [] vote there has i = absurd i
  in_picked (m ∷ ms) vote there has i =
      in_picked_by (has_line held_lines m) m ms vote refl there has i (λ j. in_picked ms vote there has j)

  is_member : (ms : List Fingerprint) (a : Fingerprint) → has_member ms a ≡ true → In a ms
  is_member ms a h =
      let r = any_from (λ (other : Fingerprint). same_identity other a) ms h in
      subst (λ (x : Fingerprint). In x ms) (same_one r.0 a r.2) r.1

  no_line : (vote : ReadVote) → has_line held_lines vote.says.identity ≡ false → (line : SignatureLine)
      → In line held_lines → same_identity line.identity vote.says.identity ≡ false
  no_line vote e line i =
      false_from_ne_true (same_identity line.identity vote.says.identity) (λ h. false≢true (sym e
      ∙ any_to (λ (other : SignatureLine). same_identity other.identity vote.says.identity) held_lines line i h))

  signs_or_not : (b : Bool) (vote : ReadVote) → has_line held_lines vote.says.identity ≡ b → In vote votes
      → Contains (keys_of roster) (signer_key vote)
      ⊎ (has_bad_lines rules digest held_lines (signer_key vote) ≡ true)
  signs_or_not true vote e there =
      inl (in_to (keys_of roster) (signer_key vote)
      (in_picked roster vote there e (is_member roster vote.says.identity (is.member vote there))))
  signs_or_not false vote e there = inr (others_bad held_lines (signer_key vote) (no_line vote e))

  are_signers : AllPairs (λ earlier later. same_identity earlier later ≡ false) roster
      → AreSigners rules digest (map signer_key votes) held_lines (keys_of roster)
  are_signers pairs = record {
    members = all_in (Contains (map signer_key votes)) (keys_of roster) (λ key i.
        let p = of_picked votes held_lines roster key i in
        subst (Contains (map signer_key votes)) (sym p.key_is)
        (in_to (map signer_key votes) (signer_key p.vote) (in_map votes p.vote p.there)));
    once = once votes held_lines roster pairs;
    signed = all_in (λ key. has_good_line rules digest held_lines key ≡ true) (keys_of roster) (λ key i.
        let p = of_picked votes held_lines roster key i in
        subst (λ (k : SignerKey). has_good_line rules digest held_lines k ≡ true) (sym p.key_is)
        (good_of p.vote p.there p.has));
    others = all_in (λ key. Contains (keys_of roster) key ⊎ (has_bad_lines rules digest held_lines key ≡ true))
        (map signer_key votes) (λ key i.
        let v = from_map votes key i in
        subst (λ (k : SignerKey). Contains (keys_of roster) k
        ⊎ (has_bad_lines rules digest held_lines k ≡ true)) (sym v.2)
        (signs_or_not (has_line held_lines v.0.says.identity) v.0 refl v.1));
  }

  pub counts_signers : AllPairs (λ earlier later. same_identity earlier later ≡ false) roster
      → CountsSigners rules digest (map signer_key votes) held_lines (count_by (has_line held_lines) roster)
  counts_signers pairs = record {
    signers = keys_of roster;
    are = are_signers pairs;
    number = count_is (has_line held_lines) roster ∙ sym (so_many roster);
  }

-- ---- the law

some_is : (c d : Consensus) (x : Option Consensus) → x ≡ Some c → x ≡ Some d → d ≡ c
some_is c d x e f = cc

pub are_counted : SignersAreCounted
are_counted may_give rules start events begin checked flavour c computed =
    let s : State = run start events in
    let votes : s.votes ≡ held (accepted start events) = are_held start events begin in
    let law = held_law (accepted start events) in
    let roster : s.roster ≡ start.roster = roster_stays start events begin in
    let in_held : (v : ReadVote) → In v s.votes → Contains (held (accepted start events)) v =
    λ v i. in_to (held (accepted start events)) v (subst (λ (l : List ReadVote). In v l) votes i) in
    let is : Counts rules (digest_of flavour c) start.roster s.votes (lines_of flavour s) = record {
      good = λ line i.
          let g = lines_are_good may_give rules (NamesIt rules) (λ f a key digest bytes given. (given.accepted, refl))
          start events begin (along_weaker (IsChecked may_give rules) (IsTold may_give rules (NamesIt rules))
          (named may_give rules) start events checked) flavour line i in
          record {
            vote = g.vote;
            there = g.there;
            same = g.same;
            names = subst
                (λ (x : Consensus). NamesIt rules g.vote.says.certificate.signing_key (digest_of flavour x) line)
                (some_is c g.c s.computed computed g.is) g.told;
          };
      one = λ a b i j same. law.one a b (in_held a i) (in_held b j) same;
      member = λ v i. (are_wanted start events begin v (law.from v (in_held v i))).authority;
    } in
    subst (λ (l : List Fingerprint). CountsSigners rules (digest_of flavour c) (map signer_key s.votes)
    (lines_of flavour s) (count_by (λ member. has_line (lines_of flavour s) member) l)) (sym roster)
    (counts_signers rules (digest_of flavour c) start.roster s.votes (lines_of flavour s) is begin.members.apart)
