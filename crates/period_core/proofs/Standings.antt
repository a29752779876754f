-- An authority stands so after each change.
use Rattle.std.proofs.Common.{◌≡◌, ℕ, ◌+◌, ◌<◌, ◌≤◌, true, false, Option, Some, None, List, [], ◌∷◌, ◌++◌, length, refl}
use Rattle.std.{proofs.{Common.{sym, ap, ◌∙◌, subst, arith}, lemmas.List.length_push}, specs.{List.filter, Prelude.not}}
use Rattle.dir_bytes.specs.Causes.{last_moment}
use Rattle.dir_values.specs.{declared.digest.Fingerprint.Fingerprint, Digests.same_identity, Rosters.has_member}
use Rattle.consensus_terms.specs.declared.{consensus.Consensus.Consensus, signature.SignatureLine.SignatureLine}
use Rattle.vote_terms.specs.{declared.rank.Rank.Rank, Votes.{ReadVote, rank_of}, Held.votes_with}
use Rattle.period_terms.specs.declared.{change.Change.Change, stage.Stage.{Stage, TheVariants.{Voting, Frozen}}}
use Rattle.period_terms.specs.declared.{stage.Stage.TheVariants.{Computed, Signed, Ended}, state.State.State}
use Rattle.period_terms.specs.{States.{change, with_change, with_signature, has_line}, Offers.most_vote_changes}
use Rattle.period_terms.specs.{Offers.vote_change, KeptFacts.{keeps_vote, keeps_signature, stage_by}}
use Rattle.period_terms.proofs.{Placing.Beats, Telling.{TellsAt, to_parts, from_parts, plain}, TellingVotes.vote_tells}
use Rattle.period_terms.proofs.TellingSigners.{sign_change, signature_change, own_tells, ns_tells, micro_tells}
use Rattle.period_terms.specs.declared.change.ChangeKind.TheVariants as kind
use Rattle.period_core.{specs.Standing.{AreSigners, IsStanding, stage_changes, most_changes}, proofs.Members.few}
use Rattle.period_core.proofs.{Members.{are_more, are_left, none_of_it, one_fewer}, Holding.{few_held, none_held}}
use Rattle.period_core.proofs.Holding.{held_placed}

-- how many changes there are, where so many more come at most
pub room : (s : State) → IsStanding s → length s.changes ≤ s.vote_changes + stage_changes s.stage + 64
room s i =
    let ns = few (λ (line : SignatureLine). line.identity) s.roster s.ns_lines i.ns in
    let micro = few (λ (line : SignatureLine). line.identity) s.roster s.micro_lines i.micro in
    omega (arith, i.logged, ns, micro, i.members.few)

stage_few : (stage : Stage) → stage_changes stage ≤ 4
stage_few Voting = omega arith
stage_few Frozen = omega arith
stage_few Computed = omega arith
stage_few Signed = omega arith
stage_few Ended = omega arith

-- so many signatures are held at most
pub few_ns : (s : State) → IsStanding s → length s.ns_lines ≤ 32
few_ns s i = omega (arith, few (λ (line : SignatureLine). line.identity) s.roster s.ns_lines i.ns, i.members.few)

pub few_micro : (s : State) → IsStanding s → length s.micro_lines ≤ 32
few_micro s i = omega (
  arith,
  few (λ (line : SignatureLine). line.identity) s.roster s.micro_lines i.micro,
  i.members.few,
)

pub few_votes : (s : State) → IsStanding s → length s.votes ≤ 32
few_votes s i = omega (arith, few_held s.roster s.votes i.votes, i.members.few)

-- there is room for a vote's change, and for one that ends a stage
pub room_to_keep : (s : State) → IsStanding s → s.vote_changes < most_vote_changes → length s.changes < most_changes
room_to_keep s i l = omega (arith, room s i, stage_few s.stage, l)

pub room_to_go_on : (s : State) → IsStanding s → stage_changes s.stage ≤ 3 → length s.changes < most_changes
room_to_go_on s i l = omega (arith, room s i, l, i.few)

-- the change of a vote, by what is read of it
pub told_vote : (held one other : ReadVote) (rank : Rank) (identity : Fingerprint) (published : ℕ) (digest : List ℕ)
    → identity ≡ one.says.identity → one ≡ held → published ≡ other.says.published → other ≡ held → digest ≡ rank.whole.0
    → rank ≡ rank_of held → change kind.Vote (Some identity) published digest ≡ vote_change held
told_vote held one other rank identity published digest i a p b d r =
    ap (λ x. change kind.Vote (Some x) published digest) (i ∙ ap (λ (v : ReadVote). v.says.identity) a)
    ∙ ap (λ x. change kind.Vote (Some held.says.identity) x digest) (p ∙ ap (λ (v : ReadVote). v.says.published) b)
    ∙ ap (λ x. change kind.Vote (Some held.says.identity) held.says.published x) (d ∙ ap (λ (x : Rank). x.whole.0) r)

-- a vote of a member is held, which outranks that of its authority
pub with_vote_stands : (s : State) (vote : ReadVote) (one : Change) → one ≡ vote_change vote → Beats s.votes vote
    → IsStanding s → has_member s.roster vote.says.identity ≡ true → s.vote_changes < most_vote_changes
    → IsStanding (with_change one (record s { votes = votes_with s.votes vote; vote_changes = s.vote_changes + 1 }))
with_vote_stands s vote one e beats i m l = record {
  members = i.members;
  own = i.own;
  times = i.times;
  moment = i.moment;
  votes = held_placed s.roster s.votes vote m i.votes;
  few = omega (arith, l);
  ns = i.ns;
  micro = i.micro;
  logged = omega (arith, length_push s.changes one, i.logged);
  agrees = from_parts _ (subst (λ (c : Change). TellsAt
      (with_change c (record s { votes = votes_with s.votes vote; vote_changes = s.vote_changes + 1 })))
      (sym e) (vote_tells s vote beats (to_parts s i.agrees)));
  base = i.base;
}

-- a stage ends, with a change that tells it
pub staged : (s : State) (one made : Change) (stage : Stage) (computed : Option Consensus) (ns micro : Option (List ℕ))
    → one ≡ made → keeps_vote made.kind ≡ false → keeps_signature made.kind ≡ false → stage ≡ stage_by s.stage made.kind
    → IsStanding s → stage_changes s.stage + 1 ≤ stage_changes stage
    → IsStanding (with_change one (record s {
      stage = stage;
      computed = computed;
      ns_current = ns;
      micro_current =
          micro;
    }))
staged s one made stage computed ns micro e v n at i l = record {
  members = i.members;
  own = i.own;
  times = i.times;
  moment = i.moment;
  votes = i.votes;
  few = i.few;
  ns = i.ns;
  micro = i.micro;
  logged = omega (arith, length_push s.changes one, i.logged, l);
  agrees = from_parts _ (subst (λ (c : Change). TellsAt
      (with_change c (record s { stage = stage; computed = computed; ns_current = ns; micro_current = micro })))
      (sym e) (plain s made stage v n at (to_parts s i.agrees)));
  base = i.base;
}

-- the signatures with one of a member in place of its own
signature_put : (roster : List Fingerprint) (lines : List SignatureLine) (line : SignatureLine)
    → AreSigners roster lines → has_member roster line.identity ≡ true → AreSigners roster (with_signature lines line)
signature_put roster lines line a m =
    are_more (λ (other : SignatureLine). other.identity) roster
    (filter (λ (other : SignatureLine). not (same_identity other.identity line.identity)) lines) line
    (are_left (λ (other : SignatureLine). other.identity) roster (λ (other : SignatureLine).
    not (same_identity other.identity line.identity)) lines a) m
    (none_of_it (λ (other : SignatureLine). other.identity) line.identity lines)

no_fewer : (roster : List Fingerprint) (lines : List SignatureLine) (line : SignatureLine) → AreSigners roster lines
    → length lines ≤ length (with_signature lines line)
no_fewer roster lines line a =
    omega (
      arith,
      one_fewer (λ (other : SignatureLine). other.identity) roster line.identity lines a,
      length_push (filter (λ (other : SignatureLine). not (same_identity other.identity line.identity)) lines) line,
    )

-- a signature of a member is held, of whom none was
pub with_ns_stands : (s : State) (line : SignatureLine) (one : Change) (digest : List ℕ)
    → one ≡ signature_change s line.identity digest → length digest ≡ 20 → IsStanding s
    → has_member s.roster line.identity ≡ true → has_line s.ns_lines line.identity ≡ false
    → IsStanding (with_change one (record s { ns_lines = s.ns_lines ++ line ∷ [] }))
with_ns_stands s line one digest e size i m n = record {
  members = i.members;
  own = i.own;
  times = i.times;
  moment = i.moment;
  votes = i.votes;
  few = i.few;
  ns = are_more (λ (other : SignatureLine). other.identity) s.roster s.ns_lines line i.ns m n;
  micro = i.micro;
  logged = omega (arith, length_push s.changes one, i.logged, length_push s.ns_lines line);
  agrees = from_parts _ (subst (λ (c : Change). TellsAt
      (with_change c (record s { ns_lines = s.ns_lines ++ line ∷ [] }))) (sym e)
      (ns_tells s line digest size (to_parts s i.agrees)));
  base = i.base;
}

pub with_micro_stands : (s : State) (line : SignatureLine) (one : Change) (digest : List ℕ)
    → one ≡ signature_change s line.identity digest → length digest ≡ 32 → IsStanding s
    → has_member s.roster line.identity ≡ true → has_line s.micro_lines line.identity ≡ false
    → IsStanding (with_change one (record s { micro_lines = s.micro_lines ++ line ∷ [] }))
with_micro_stands s line one digest e size i m n = record {
  members = i.members;
  own = i.own;
  times = i.times;
  moment = i.moment;
  votes = i.votes;
  few = i.few;
  ns = i.ns;
  micro = are_more (λ (other : SignatureLine). other.identity) s.roster s.micro_lines line i.micro m n;
  logged = omega (arith, length_push s.changes one, i.logged, length_push s.micro_lines line);
  agrees = from_parts _ (subst (λ (c : Change). TellsAt
      (with_change c (record s { micro_lines = s.micro_lines ++ line ∷ [] }))) (sym e)
      (micro_tells s line digest size (to_parts s i.agrees)));
  base = i.base;
}

-- the next period begins
pub begun_stands : (s : State) (next : ℕ) → IsStanding s → s.valid_after < next → next ≤ last_moment
    → IsStanding (record s {
      valid_after = next;
      stage = Voting;
      votes = [];
      vote_changes = 0;
      computed = None;
      ns_lines = [];
      micro_lines = [];
      front = s.front + 1;
      base = s.front + 1;
      changes = [];
    })
begun_stands s next i l m = record {
  members = i.members;
  own = i.own;
  times = i.times;
  moment = m;
  votes = none_held s.roster;
  few = omega arith;
  ns = tt;
  micro = tt;
  logged = omega arith;
  agrees = from_parts _ (record {
    ranks = λ a. refl;
    stage_is = refl;
    ns_signers = λ a. refl;
    micro_signers = λ a. refl;
    count = refl;
    front_is = omega arith;
  });
  base = omega (arith, i.agrees.front, i.base, room s i, stage_few s.stage, i.few, l);
}

-- ---- room for one more signature

-- there is room for a signature's change, of a member of whom none is held
pub room_for_ns : (s : State) (line : SignatureLine) → IsStanding s → has_member s.roster line.identity ≡ true
    → has_line s.ns_lines line.identity ≡ false → length s.changes < most_changes
room_for_ns s line i m n =
    let more = few (λ (other : SignatureLine). other.identity) s.roster (s.ns_lines ++ line ∷ [])
    (are_more (λ (other : SignatureLine). other.identity) s.roster s.ns_lines line i.ns m n) in
    omega (arith, i.logged, i.few, stage_few s.stage, few_micro s i, i.members.few, more, length_push s.ns_lines line)

pub room_for_micro : (s : State) (line : SignatureLine) → IsStanding s → has_member s.roster line.identity ≡ true
    → has_line s.micro_lines line.identity ≡ false → length s.changes < most_changes
room_for_micro s line i m n =
    let more = few (λ (other : SignatureLine). other.identity) s.roster (s.micro_lines ++ line ∷ [])
    (are_more (λ (other : SignatureLine). other.identity) s.roster s.micro_lines line i.micro m n) in
    omega (arith, i.logged, i.few, stage_few s.stage, few_ns s i, i.members.few, more, length_push s.micro_lines line)

-- the own signatures are held
pub with_own_stands : (s : State) (ns micro : SignatureLine) (one : Change) (digests : List ℕ)
    → one ≡ sign_change s digests → length digests ≡ 52 → IsStanding s → s.stage ≡ Computed → ns.identity ≡ s.own
    → micro.identity ≡ s.own
    → IsStanding (with_change one (record s {
      stage = Signed;
      ns_lines = with_signature s.ns_lines ns;
      micro_lines =
          with_signature s.micro_lines micro;
    }))
with_own_stands s ns micro one digests e size i at n m = record {
  members = i.members;
  own = i.own;
  times = i.times;
  moment = i.moment;
  votes = i.votes;
  few = i.few;
  ns = signature_put s.roster s.ns_lines ns i.ns (subst (λ (x : Fingerprint). has_member s.roster x ≡ true) (sym n)
      i.own);
  micro = signature_put s.roster s.micro_lines micro i.micro
      (subst (λ (x : Fingerprint). has_member s.roster x ≡ true) (sym m) i.own);
  logged = omega (
    arith,
    length_push s.changes one,
    i.logged,
    ap stage_changes at,
    no_fewer s.roster s.ns_lines ns
        i.ns,
    no_fewer s.roster s.micro_lines micro i.micro,
  );
  agrees = from_parts _ (subst (λ (c : Change). TellsAt
      (with_change c (record s {
        stage = Signed;
        ns_lines = with_signature s.ns_lines ns;
        micro_lines = with_signature
            s.micro_lines micro;
      })))
      (sym e) (own_tells s digests ns micro size n m (to_parts s i.agrees)));
  base = i.base;
}
