-- Between what moments of a pass something was asked, held or signed.
use Rattle.std.proofs.Common.{◌≡◌, ◌⊎◌, ℕ, Bool, true, false, List, [], ◌∷◌, ◌++◌, map, Option, Some, None, Result, Ok}
use Rattle.std.{proofs.{Common.{inl, inr, refl, sym, subst, ◌∙◌}, lemmas.Bool.true≢false}, specs.Prelude.IfSome}
use Rattle.std.specs.Prelude.{MatchResult, is_some}
use mathlib.Core.List.{IsPrefix}
use Rattle.dir_bytes.specs.declared.fault.Memory.{Memory}
use Rattle.dir_values.specs.declared.digest.Fingerprint.{Fingerprint}
use Rattle.key_port.specs.{Answers.{Relation, Rules}, Signing.SignerSteps}
use Rattle.flag_rules.specs.declared.{relay.RelayFacts.RelayFacts, ruling.Ruling.Ruling}
use Rattle.station_input.specs.declared.facts.StationFacts.{StationFacts}
use Rattle.vote_schedule.specs.declared.phase.Phase.{Phase}
use Rattle.period_lock.specs.Turns.{entries}
use Rattle.period_terms.specs.declared.answer.{Advance.{Advance, TheVariants.Signed}, Answer.TheVariants.Moment}
use Rattle.period_terms.specs.declared.{entry.Entry.Entry, event.Event.TheVariants.Advanced, name.Name.TheVariants.Vote}
use Rattle.period_terms.specs.{declared.state.State.State, Histories.after, Readings.document_of}
use Rattle.checked_sigs.specs.Next.{next_signatures_of}
use Rattle.serve_board.{specs.{Boards.{Locks, Parts, Sees, Advances}, Going.Goes}, proofs.Going.prefix_on}
use Rattle.serve_board.proofs.Going.{prefix_same}
use Rattle.serve_rounds.specs.{declared.round.Round.Round, Exchanges.{AsksAs, BringsSignatures, DoesPhase, HasSigned}}
use Rattle.serve_rounds.specs.{Exchanges.{IsDue, IsOwnText, LinkSteps, StoodSo}, Plans.{Asking, GetVote, GetSignatures}}
use Rattle.serve_rounds.specs.Plans.{PostSignatures, PostVote, turned_round, phase_in, plan_of_phase}
use Rattle.serve_rounds.{specs.Plans.plan_of_signatures, proofs.Lasting.{period_earlier, seen_earlier, seen_later}}
use Rattle.serve_rounds.proofs.{Lasting.{text_earlier, text_later}, AskedOfPlans.asks_wider}

-- ---- where the state stood so

module _ (rules : Rules) (board : Locks) where
  module _ (a b c : Parts) where
    pub stood_earlier : (So : State → Type 0) → Goes a b → StoodSo rules board b c So → StoodSo rules board a c So
    stood_earlier So goes p = record {
      place = p.place;
      seen = seen_earlier a.state.seen b.state.seen c.state.seen p.place goes.state.seen p.seen;
      is_story = p.is_story;
      so = p.so;
    }

    pub stood_later : (So : State → Type 0) → Goes b c → StoodSo rules board a b So → StoodSo rules board a c So
    stood_later So goes p = record {
      place = p.place;
      seen = seen_later a.state.seen b.state.seen c.state.seen p.place goes.state.seen p.seen;
      is_story = p.is_story;
      so = p.so;
    }

    pub due_earlier : Goes a b → (asking : Asking) → IsDue rules board b c asking → IsDue rules board a c asking
    due_earlier goes (PostVote text) due = tt
    due_earlier goes (GetVote authority) due = stood_earlier _ goes due
    due_earlier goes (PostSignatures text) due = tt
    due_earlier goes GetSignatures due = tt

    pub due_later : Goes b c → (asking : Asking) → IsDue rules board a b asking → IsDue rules board a c asking
    due_later goes (PostVote text) due = tt
    due_later goes (GetVote authority) due = stood_later _ goes due
    due_later goes (PostSignatures text) due = tt
    due_later goes GetSignatures due = tt

  pub due_there : (first between next joined : Parts) → joined ≡ next → Goes first between → (asking : Asking)
      → IsDue rules board between next asking → IsDue rules board first joined asking
  due_there first between next joined same goes asking due =
      subst (λ (p : Parts). IsDue rules board first p asking) (sym same)
      (due_earlier first between next goes asking due)

  pub due_same : (first next joined : Parts) → joined ≡ next → (asking : Asking)
      → IsDue rules board first next asking → IsDue rules board first joined asking
  due_same first next joined same asking due = subst (λ (p : Parts). IsDue rules board first p asking) (sym same) due

  none_there : {X : Type 0} (o : Option X) (held : Bool) → held ≡ is_some o → held ≡ false → o ≡ None
  none_there None held is isnt = refl
  none_there (Some x) held is isnt = absurd (true≢false (sym is ∙ isnt))

  -- a vote that is not held when it is asked for
  pub lacks : (a b : Parts) (authority : Fingerprint) (held : Bool)
      → Sees rules board a b (λ state answer. answer ≡ is_some (document_of state (Vote authority))) held
      → held ≡ false
      → StoodSo rules board a b (λ state. document_of state (Vote authority) ≡ None)
  lacks a b authority held sees isnt = record {
    place = b.state.seen;
    seen = record { longer = sees.takes.longer; here = prefix_same b.state.seen };
    is_story = sees.takes.is_story;
    so = none_there _ held sees.takes.right_there isnt;
  }

if_stood : (rules : Rules) (board : Locks) (from to a b : Parts) (So : List ℕ → State → Type 0)
    → ((text : List ℕ) → StoodSo rules board from to (So text) → StoodSo rules board a b (So text))
    → (o : Option (List ℕ)) → IfSome o (λ text. StoodSo rules board from to (So text))
    → IfSome o (λ text. StoodSo rules board a b (So text))
if_stood rules board from to a b So on None stood = tt
if_stood rules board from to a b So on (Some text) stood = on text stood

-- ---- over a longer time

module _ {L : Type 0} (rules : Rules) (station : StationFacts) (board : Locks) (exchanges : LinkSteps L)
    (a b c : Parts)
    (before next : Round) (old new : L) where
  pub brings_earlier : Goes a b → BringsSignatures rules station board exchanges b c before next old new
      → BringsSignatures rules station board exchanges a c before next old new
  brings_earlier goes p = record {
    held = p.held;
    are_held = if_stood rules board b c a c (λ text state. next_signatures_of state ≡ Some text)
        (λ text. stood_earlier rules board a b c _ goes) p.held p.are_held;
    asked = asks_wider exchanges (IsDue rules board b c) (IsDue rules board a c) (due_earlier rules board a b c goes)
        (plan_of_signatures station p.held before) old new p.asked;
    marks = p.marks;
  }

  pub brings_later : Goes b c → BringsSignatures rules station board exchanges a b before next old new
      → BringsSignatures rules station board exchanges a c before next old new
  brings_later goes p = record {
    held = p.held;
    are_held = if_stood rules board a b a c (λ text state. next_signatures_of state ≡ Some text)
        (λ text. stood_later rules board a b c _ goes) p.held p.are_held;
    asked = asks_wider exchanges (IsDue rules board a b) (IsDue rules board a c) (due_later rules board a b c goes)
        (plan_of_signatures station p.held before) old new p.asked;
    marks = p.marks;
  }

module _ {N : Type 0} (rules : Rules) (gives : Relation) (steps : SignerSteps N) (allows : RelayFacts → Ruling → Bool)
    (station : StationFacts) (board : Locks) (a b c : Parts) (valid_after now : ℕ) where
  pub own_text_earlier : Goes a b → (text : List ℕ)
      → IsOwnText rules gives steps allows station board b c valid_after now text
      → IsOwnText rules gives steps allows station board a c valid_after now text
  own_text_earlier goes text p = record {
    vote = p.vote;
    own = record {
      text = p.own.text;
      text_is = text_earlier rules gives steps allows station board a b c valid_after now p.own.text goes
          p.own.text_is;
      is = p.own.is;
      verified = p.own.verified;
    };
    same = p.same;
  }

  pub own_text_later : Goes b c → (text : List ℕ)
      → IsOwnText rules gives steps allows station board a b valid_after now text
      → IsOwnText rules gives steps allows station board a c valid_after now text
  own_text_later goes text p = record {
    vote = p.vote;
    own = record {
      text = p.own.text;
      text_is = text_later rules gives steps allows station board a b c valid_after now p.own.text goes p.own.text_is;
      is = p.own.is;
      verified = p.own.verified;
    };
    same = p.same;
  }

if_own : (P Q : List ℕ → Type 0) → ((text : List ℕ) → P text → Q text) → (o : Option (List ℕ)) → IfSome o P
    → IfSome o Q
if_own P Q on None p = tt
if_own P Q on (Some text) p = on text p

module _ {N L : Type 0} (rules : Rules) (gives : Relation) (steps : SignerSteps N)
    (allows : RelayFacts → Ruling → Bool)
    (station : StationFacts) (board : Locks) (exchanges : LinkSteps L) (a b c : Parts) (phase : Phase) (now : ℕ)
    (before next : Round) (old new : L) where
  pub does_earlier : Goes a b
      → DoesPhase rules gives steps allows station board exchanges b c phase now before next old new
      → DoesPhase rules gives steps allows station board exchanges a c phase now before next old new
  does_earlier goes p = record {
    vote = p.vote;
    is_own = if_own _ _ (own_text_earlier rules gives steps allows station board a b c before.valid_after now
        goes) p.vote
        p.is_own;
    asked = asks_wider exchanges (IsDue rules board b c) (IsDue rules board a c) (due_earlier rules board a b c goes)
        (plan_of_phase station p.vote phase before) old new p.asked;
    marks = p.marks;
  }

module _ {N L : Type 0} (rules : Rules) (gives : Relation) (steps : SignerSteps N)
    (allows : RelayFacts → Ruling → Bool)
    (station : StationFacts) (board : Locks) (exchanges : LinkSteps L) (a b c : Parts) (now : ℕ) (signed : Bool)
    (before next : Round) (old new : L) where
  pub asks_earlier : Goes a b
      → AsksAs rules gives steps allows station board exchanges b c now signed before next old new
      → AsksAs rules gives steps allows station board exchanges a c now signed before next old new
  asks_earlier goes p = record {
    valid_after = p.valid_after;
    period = period_earlier rules board a b c p.valid_after goes p.period;
    marked = p.marked;
    between = p.between;
    brings = brings_earlier rules station board exchanges a b c (turned_round p.valid_after signed before) p.marked old
        p.between goes p.brings;
    does = does_earlier rules gives steps allows station board exchanges a b c (phase_in station p.valid_after now) now
        p.marked next p.between new goes p.does;
  }

-- ---- that the authority signed

pub signed_earlier : (a b c : Parts) → Goes a b → HasSigned b c → HasSigned a c
signed_earlier a b c goes p = record {
  place = p.place;
  entry = p.entry;
  longer = prefix_on a.state.seen b.state.seen p.place goes.state.seen p.longer;
  here = subst (λ (n : ℕ). IsPrefix (p.place ++ (n, p.entry) ∷ []) c.state.seen) goes.state.number p.here;
  answer = p.answer;
}

pub signed_later : (a b c : Parts) → Goes b c → HasSigned a b → HasSigned a c
signed_later a b c goes p = record {
  place = p.place;
  entry = p.entry;
  longer = p.longer;
  here = prefix_on (p.place ++ (a.state.number, p.entry) ∷ []) b.state.seen c.state.seen p.here
      goes.state.seen;
  answer = p.answer;
}

-- by what came before, or by the last advance
pub signed_on : (a b c : Parts) (was : Bool) (Now : Type 0) → Goes a b → Goes b c → (was ≡ true → HasSigned a b)
    → (Now → HasSigned b c) → Now ⊎ (was ≡ true) → HasSigned a c
signed_on a b c was Now here on before last (inl now) = signed_earlier a b c here (last now)
signed_on a b c was Now here on before last (inr is) = signed_later a b c on (before is)

-- by an advance that answers so
pub signed_here : (gives : Relation) (rules : Rules) (board : Locks) (now : ℕ) (a b : Parts)
    (answer : Result Advance Memory) → Advances rules board a b gives now answer → answer ≡ Ok Signed → HasSigned a b
signed_here gives rules board now a b answer moves is =
    let m = subst (λ (r : Result Advance Memory). Advances rules board a b gives now r) is moves in
    record {
      place = m.makes.takes.story;
      entry = record { event = Advanced now m.given; answer = Moment Signed };
      longer = m.makes.takes.longer;
      here =
          subst (λ (l : List (ℕ × Entry)). IsPrefix l b.state.seen) m.makes.takes.seen (prefix_same b.state.seen);
      answer = refl;
    }

pub held_there : (rules : Rules) (board : Locks) (a b : Parts) (answer : Result (Option (List ℕ)) Memory)
    (text : List ℕ)
    → Sees rules board a b
    (λ state answer. MatchResult answer (λ held. held ≡ next_signatures_of state) (λ _. Unit {0})) answer
    → answer ≡ Ok (Some text) → StoodSo rules board a b (λ state. next_signatures_of state ≡ Some text)
held_there rules board a b answer text sees is = record {
  place = b.state.seen;
  seen = record { longer = sees.takes.longer; here = prefix_same b.state.seen };
  is_story = sees.takes.is_story;
  so = sym (subst (λ (r : Result (Option (List ℕ)) Memory). MatchResult r
      (λ held. held ≡ next_signatures_of (after board.state.start (entries b.state.seen))) (λ _. Unit {0})) is
      sees.takes.right_there);
}
