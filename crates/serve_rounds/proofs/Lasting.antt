-- What was told between two moments of a pass holds between an earlier and a later one.
use Rattle.std.proofs.Common.{◌≡◌, ◌⊎◌, ℕ, Bool, List, [], ◌∷◌, ◌++◌, Option, Some, None, inl, inr, subst}
use Rattle.std.specs.Prelude.{IfSome}
use mathlib.Core.List.{IsPrefix}
use Rattle.key_port.specs.{Answers.{Relation, Rules}, Signing.SignerSteps}
use Rattle.flag_rules.specs.declared.{relay.RelayFacts.RelayFacts, ruling.Ruling.Ruling}
use Rattle.station_input.specs.declared.facts.StationFacts.{StationFacts}
use Rattle.vote_terms.specs.Votes.{ReadVote}
use Rattle.period_lock.specs.Turns.{entries}
use Rattle.period_terms.specs.declared.entry.Entry.{Entry}
use Rattle.period_laws.specs.Checked.{IsCheckedHistory}
use Rattle.serve_board.{specs.{Boards.{Locks, Parts, Sees}, Going.Goes}, proofs.Going.{prefix_on, prefix_same}}
use Rattle.serve_rounds.specs.{Duties.{IsAdvance, IsOwn, IsRound}, OwnVotes.{IsOwnVote, IsPeriodOf, IsTextOfBoard}}
use Rattle.serve_rounds.specs.Spans.{AddedKind, Anywhere, Since, WasSeen}

-- An entry of a kind is one over a longer time too.
pub record Lasts (P : AddedKind) : Type 0 where
  pub earlier : (a b c : Parts) (e : Entry) → Goes a b → P b c e → P a c e
  pub later : (a b c : Parts) (e : Entry) → Goes b c → P a b e → P a c e

-- an entry, if there is one
pub if_earlier : (P : AddedKind) (lasts : Lasts P) (a b c : Parts) → Goes a b → (e : Option Entry) → IfSome e (P b c)
    → IfSome e (P a c)
if_earlier P lasts a b c goes None p = tt
if_earlier P lasts a b c goes (Some e) p = lasts.earlier a b c e goes p

module _ {X : Type 0} where
  pub seen_earlier : (a b c place : List (ℕ × X)) → IsPrefix a b → WasSeen b c place → WasSeen a c place
  seen_earlier a b c place on w = record { longer = prefix_on a b place on w.longer; here = w.here }

  pub seen_later : (a b c place : List (ℕ × X)) → IsPrefix b c → WasSeen a b place → WasSeen a c place
  seen_later a b c place on w = record { longer = w.longer; here = prefix_on place b c w.here on }

-- ---- kinds that last

-- one that says nothing of what was seen
pub anywhere_lasts : (P : Entry → Type 0) → Lasts (Anywhere P)
anywhere_lasts P = record { earlier = λ a b c e goes p. p; later = λ a b c e goes p. p }

-- one that is told from an earlier moment on
pub since_lasts : (from : Parts) (P : AddedKind) → Lasts P → Lasts (Since from P)
since_lasts from P lasts = record {
  earlier = λ a b c e goes p. p;
  later = λ a b c e goes p. lasts.later from b c e goes p;
}

pub advance_lasts : (gives : Relation) (rules : Rules) (board : Locks) (now : ℕ)
    → Lasts (IsAdvance gives rules board now)
advance_lasts gives rules board now = record {
  earlier = λ a b c e goes p.
      let same : b.state.number ≡ a.state.number = goes.state.number in
      record {
        given = p.given;
        event = p.event;
        place = p.place;
        longer = prefix_on a.state.seen b.state.seen p.place goes.state.seen p.longer;
        here = subst (λ (n : ℕ). IsPrefix (p.place ++ (n, e) ∷ []) c.state.seen) same p.here;
        is_story =
            subst (λ (n : ℕ). IsCheckedHistory rules board.state.start (entries (p.place ++ (n, e) ∷ []))) same
            p.is_story;
        may = p.may;
      };
  later = λ a b c e goes p. record {
    given = p.given;
    event = p.event;
    place = p.place;
    longer = p.longer;
    here = prefix_on (p.place ++ (a.state.number, e) ∷ []) b.state.seen c.state.seen p.here goes.state.seen;
    is_story = p.is_story;
    may = p.may;
  };
}

module _ (rules : Rules) (board : Locks) (a b c : Parts) (valid_after : ℕ) where
  -- the period that was seen
  pub period_earlier : Goes a b → IsPeriodOf rules board b c valid_after → IsPeriodOf rules board a c valid_after
  period_earlier goes p = record {
    place = p.place;
    seen = seen_earlier a.state.seen b.state.seen c.state.seen p.place goes.state.seen p.seen;
    is_story = p.is_story;
    begins = p.begins;
  }

  pub period_later : Goes b c → IsPeriodOf rules board a b valid_after → IsPeriodOf rules board a c valid_after
  period_later goes p = record {
    place = p.place;
    seen = seen_later a.state.seen b.state.seen c.state.seen p.place goes.state.seen p.seen;
    is_story = p.is_story;
    begins = p.begins;
  }

-- a moment that is asked of the board is that of a period between
pub period_seen : (rules : Rules) (board : Locks) (a b : Parts) (valid_after : ℕ)
    → Sees rules board a b (λ state answer. answer ≡ state.valid_after) valid_after
    → IsPeriodOf rules board a b valid_after
period_seen rules board a b valid_after sees = record {
  place = b.state.seen;
  seen = record { longer = sees.takes.longer; here = prefix_same b.state.seen };
  is_story = sees.takes.is_story;
  begins = sees.takes.right_there;
}

module _ {N : Type 0} (rules : Rules) (gives : Relation) (steps : SignerSteps N) (allows : RelayFacts → Ruling → Bool)
    (station : StationFacts) (board : Locks) where
  module _ (a b c : Parts) (valid_after now : ℕ) where
    -- the own vote's text
    pub text_earlier : (text : List ℕ) → Goes a b
        → IsTextOfBoard rules gives steps allows station board b c valid_after now text
        → IsTextOfBoard rules gives steps allows station board a c valid_after now text
    text_earlier text goes p = record {
      place = p.place;
      seen = seen_earlier a.pool.seen b.pool.seen c.pool.seen p.place goes.pool.seen p.seen;
      are_kept = p.are_kept;
      made = p.made;
    }

    pub text_later : (text : List ℕ) → Goes b c
        → IsTextOfBoard rules gives steps allows station board a b valid_after now text
        → IsTextOfBoard rules gives steps allows station board a c valid_after now text
    text_later text goes p = record {
      place = p.place;
      seen = seen_later a.pool.seen b.pool.seen c.pool.seen p.place goes.pool.seen p.seen;
      are_kept = p.are_kept;
      made = p.made;
    }

    -- and the vote
    pub vote_earlier : (vote : ReadVote) → Goes a b
        → IsOwnVote rules gives steps allows station board b c valid_after now vote
        → IsOwnVote rules gives steps allows station board a c valid_after now vote
    vote_earlier vote goes p = record {
      text = p.text;
      text_is = text_earlier p.text goes p.text_is;
      is = p.is;
      verified = p.verified;
    }

    pub vote_later : (vote : ReadVote) → Goes b c
        → IsOwnVote rules gives steps allows station board a b valid_after now vote
        → IsOwnVote rules gives steps allows station board a c valid_after now vote
    vote_later vote goes p = record {
      text = p.text;
      text_is = text_later p.text goes p.text_is;
      is = p.is;
      verified = p.verified;
    }

  module _ (now : ℕ) where
    pub own_lasts : Lasts (IsOwn rules gives steps allows station board now)
    own_lasts = record {
      earlier = λ a b c e goes p. record {
        vote = p.vote;
        event = p.event;
        valid_after = p.valid_after;
        period = period_earlier rules board a b c p.valid_after goes p.period;
        own = vote_earlier a b c p.valid_after now p.vote goes p.own;
      };
      later = λ a b c e goes p. record {
        vote = p.vote;
        event = p.event;
        valid_after = p.valid_after;
        period = period_later rules board a b c p.valid_after goes p.period;
        own = vote_later a b c p.valid_after now p.vote goes p.own;
      };
    }

    round_earlier : (a b c : Parts) (e : Entry) → Goes a b → IsRound rules gives steps allows station board now b c e
        → IsRound rules gives steps allows station board now a c e
    round_earlier a b c e goes (inl own) = inl (own_lasts.earlier a b c e goes own)
    round_earlier a b c e goes (inr got) = inr got

    round_later : (a b c : Parts) (e : Entry) → Goes b c → IsRound rules gives steps allows station board now a b e
        → IsRound rules gives steps allows station board now a c e
    round_later a b c e goes (inl own) = inl (own_lasts.later a b c e goes own)
    round_later a b c e goes (inr got) = inr got

    pub round_lasts : Lasts (IsRound rules gives steps allows station board now)
    round_lasts = record { earlier = round_earlier; later = round_later }
