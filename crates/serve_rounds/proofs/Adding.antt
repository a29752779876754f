-- What a pass of a board added, over several events and readings.
use Rattle.std.proofs.Common.{◌≡◌, ℕ, Bool, true, false, List, [], ◌∷◌, ◌++◌, map, Option, Some, None, Result, Ok, Err}
use Rattle.std.proofs.Common.{refl, sym, ap, ◌∙◌, subst, append_assoc, append-nil, option_to_list}
use Rattle.std.{proofs.lemmas.List.{map-append, Elements.{All-append, All-cons, All-nil, All-weaker}}, specs.Global.Vec}
use Rattle.std.specs.Prelude.{IfSome, All, if◌then◌else◌}
use mathlib.Core.List.{IsPrefix}
use Rattle.dir_bytes.specs.declared.fault.Memory.{Memory}
use Rattle.key_port.specs.{Answers.{Relation, Rules}, Signing.SignerSteps}
use Rattle.flag_rules.specs.declared.{relay.RelayFacts.RelayFacts, ruling.Ruling.Ruling}
use Rattle.station_input.specs.declared.facts.StationFacts.{StationFacts}
use Rattle.vote_pool.specs.Pools.{Pooled}
use Rattle.period_lock.specs.Turns.{entries, entry_by}
use Rattle.period_terms.specs.declared.answer.{Advance.Advance, Answer.{Answer, TheVariants.Moment}}
use Rattle.period_terms.specs.declared.{entry.Entry.Entry, event.{Event.{Event, TheVariants.Advanced}, Signing.Signing}}
use Rattle.period_terms.specs.{declared.state.State.State, Advances.MayGiveAt, Histories.{after, entry_if}}
use Rattle.period_terms.specs.Steps.{changes}
use Rattle.period_laws.specs.Checked.{IsCheckedHistory}
use Rattle.serve_board.specs.{Boards.{Locks, Parts, Makes, Sees, Looks, Advances}, Stocks.stock_after, Going.Goes}
use Rattle.serve_board.proofs.Going.{goes_same, goes_on, goes_makes, goes_sees, goes_looks, prefix_same}
use Rattle.serve_rounds.specs.{Duties.{AdvancesAll, IsAdvance}, OwnVotes.{IsTextMade, IsTextOfBoard}, Spans.AddedKind}
use Rattle.serve_rounds.{specs.Spans.{Adds, AddsNone, Since}, proofs.Lasting.{Lasts, advance_lasts, if_earlier}}

-- a text that was made of the board's pool at a reading, where there is one
pub text_there : {N : Type 0} (rules : Rules) (gives : Relation) (steps : SignerSteps N)
    (allows : RelayFacts → Ruling → Bool) (station : StationFacts) (board : Locks) (a b : Parts) (valid_after now : ℕ)
    {A : Type 0} (right : Pooled → A → Type 0) (answer : A) → Looks rules board a b right answer → (reply : Option (Vec ℕ))
    → IfSome reply (λ (text : Vec ℕ). IsTextMade rules gives steps allows station
    (stock_after board.pool.start (entries b.pool.seen)).descriptors valid_after now text.items)
    → IfSome reply (λ (text : Vec ℕ). IsTextOfBoard rules gives steps allows station board a b valid_after now
    text.items)
text_there rules gives steps allows station board a b valid_after now right answer looks None made = tt
text_there rules gives steps allows station board a b valid_after now right answer looks (Some text) made = record {
  place = b.pool.seen;
  seen = record { longer = looks.takes.longer; here = prefix_same b.pool.seen };
  are_kept = looks.takes.is_story;
  made = made;
}

-- ---- nothing

-- a pass that is as it was
pub none_same : (a : Parts) → AddsNone a a
none_same a = record { mine = refl; pool = refl; goes = goes_same a }

-- nothing, and then nothing
pub none_more : (a b c : Parts) → AddsNone a b → AddsNone b c → AddsNone a c
none_more a b c g h = record {
  mine = h.mine ∙ g.mine;
  pool = h.pool ∙ g.pool;
  goes = goes_on a b c g.goes h.goes;
}

module _ (rules : Rules) (board : Locks) (b c : Parts) where
  -- a reading of the state adds nothing
  pub none_sees : {A : Type 0} (right : State → A → Type 0) (answer : A) → Sees rules board b c right answer
      → AddsNone b c
  none_sees right answer sees = record {
    mine = sees.takes.mine;
    pool = ap (λ k. k.mine) sees.pool;
    goes = goes_sees rules board b c right answer sees;
  }

  -- nor does one of the pool
  pub none_looks : {A : Type 0} (right : Pooled → A → Type 0) (answer : A) → Looks rules board b c right answer
      → AddsNone b c
  none_looks right answer looks = record {
    mine = ap (λ k. k.mine) looks.state;
    pool = looks.takes.mine;
    goes = goes_looks rules board b c right answer looks;
  }

-- ---- entries of a kind

-- the entry of an event, if it has one, is all that it adds
pub entry_by-map : {X : Type 0} (n : ℕ) (e : Option X) → entry_by n e ≡ map (λ x. (n, x)) (option_to_list e)
entry_by-map n None = refl
entry_by-map n (Some e) = refl

pub all_one : {X : Type 0} (P : X → Type 0) (e : Option X) → IfSome e P → All P (option_to_list e)
all_one P None is = All-nil P
all_one P (Some e) is = All-cons P e [] is (All-nil P)

-- the own entries, where some were added and then more
pub own_more : {X : Type 0} (n m : ℕ) (xs ys zs : List (ℕ × X)) (added more : List X) → m ≡ n
    → ys ≡ xs ++ map (λ e. (n, e)) added → zs ≡ ys ++ map (λ e. (m, e)) more
    → zs ≡ xs ++ map (λ e. (n, e)) (added ++ more)
own_more n m xs ys zs added more same first second =
    second ∙ ap (λ k. ys ++ map (λ e. (k, e)) more) same ∙ ap (λ l. l ++ map (λ e. (n, e)) more) first
    ∙ append_assoc xs (map (λ e. (n, e)) added) (map (λ e. (n, e)) more)
    ∙ ap (λ l. xs ++ l) (sym (map-append (λ e. (n, e)) added more))

module _ (P : AddedKind) where
  -- a pass that is as it was
  pub adds_same : (a : Parts) → Adds P a a
  adds_same a = record {
    added = [];
    each = All-nil (P a a);
    mine = sym (append-nil a.state.mine);
    pool = refl;
    goes = goes_same a;
  }

  -- what is added is of a wider kind
  pub adds_wider : (Q : AddedKind) (a b : Parts) → ((e : Entry) → P a b e → Q a b e) → Adds P a b → Adds Q a b
  adds_wider Q a b wider g = record {
    added = g.added;
    each = All-weaker (P a b) (Q a b) wider g.added g.each;
    mine = g.mine;
    pool = g.pool;
    goes = g.goes;
  }

  module _ (lasts : Lasts P) where
    -- a pass that added something, and adds more, of the kind over both
    adds_on : (a b c : Parts) → Adds P a b → (more : List Entry) → All (P a c) more
        → c.state.mine ≡ b.state.mine ++ map (λ e. (b.state.number, e)) more → c.pool.mine ≡ b.pool.mine
        → Goes b c → Adds P a c
    adds_on a b c g more each mine pool goes = record {
      added = g.added ++ more;
      each =
          All-append (P a c) g.added more
          (All-weaker (P a b) (P a c) (λ e p. lasts.later a b c e goes p) g.added g.each) each;
      mine = own_more a.state.number b.state.number a.state.mine b.state.mine c.state.mine g.added more
          g.goes.state.number g.mine mine;
      pool = pool ∙ g.pool;
      goes = goes_on a b c g.goes goes;
    }

    -- the same, of what another part of the call added
    pub adds_more : (a b c : Parts) → Adds P a b → Adds P b c → Adds P a c
    adds_more a b c g h =
        adds_on a b c g h.added
        (All-weaker (P b c) (P a c) (λ e p. lasts.earlier a b c e g.goes p) h.added h.each) h.mine h.pool h.goes

    -- a pass that added something, and then nothing
    pub adds_none : (a b c : Parts) → Adds P a b → AddsNone b c → Adds P a c
    adds_none a b c before none =
        adds_on a b c before [] (All-nil (P a c)) (none.mine ∙ sym (append-nil b.state.mine)) none.pool none.goes

    -- the same, where what is added by none is known of each beginning
    pub adds_still : (a b c : Parts) → Adds P a b → ((x : Parts) → AddsNone x b → AddsNone x c) → Adds P a c
    adds_still a b c before none = adds_none a b c before (none b (none_same b))

    module _ (rules : Rules) (board : Locks) (a b c : Parts) (before : Adds P a b) where
      -- by a reading of the state
      pub adds_sees : {A : Type 0} (right : State → A → Type 0) (answer : A) → Sees rules board b c right answer
          → Adds P a c
      adds_sees right answer sees = adds_none a b c before (none_sees rules board b c right answer sees)

      -- by an event whose entry, if it has one, is of the kind
      pub adds_makes : (event : Event) (answer : Answer) → IfSome (entry_if event answer) (P a c)
          → Makes rules board b c event answer → Adds P a c
      adds_makes event answer is makes =
          adds_on a b c before (option_to_list (entry_if event answer))
          (all_one (P a c) (entry_if event answer) is)
          (makes.takes.mine ∙ ap (λ l. b.state.mine ++ l) (entry_by-map b.state.number (entry_if event answer)))
          (ap (λ k. k.mine) makes.pool) (goes_makes rules board b c event answer makes)

-- the entry is of a kind, where there is one
if_kind : (P : Entry → Type 0) (changed : Bool) (entry : Entry) → P entry
    → IfSome (if changed then Some entry else None) P
if_kind P true entry is = is
if_kind P false entry is = tt

pub entry_kind : (P : Entry → Type 0) (event : Event) (answer : Answer)
    → P (record { event = event; answer = answer }) → IfSome (entry_if event answer) P
entry_kind P event answer is = if_kind P (changes answer) (record { event = event; answer = answer }) is

-- what was added of one kind is added of a wider one
pub adds_part : (P Q : AddedKind) → Lasts Q → (a b c : Parts) → ((e : Entry) → P b c e → Q b c e) → Adds Q a b
    → ((x : Parts) → Adds P x b → Adds P x c) → Adds Q a c
adds_part P Q lasts a b c wider before part =
    adds_more Q lasts a b c before (adds_wider P Q b c wider (part b (adds_same P b)))

-- a kind that is told from the same moment on
pub since_here : (P : AddedKind) (a b : Parts) → Adds P a b → Adds (Since a P) a b
since_here P a b g = record { added = g.added; each = g.each; mine = g.mine; pool = g.pool; goes = g.goes }

pub here_since : (P : AddedKind) (a b : Parts) → Adds (Since a P) a b → Adds P a b
here_since P a b g = record { added = g.added; each = g.each; mine = g.mine; pool = g.pool; goes = g.goes }

-- ---- advances

module _ (gives : Relation) (rules : Rules) (board : Locks) (now : ℕ) where
  -- the entry of an advance is one, where there is one
  if_moved : (changed : Bool) (b c : Parts) (entry : Entry) (given : Signing) → entry.event ≡ Advanced now given
      → (place : List (ℕ × Entry)) → IsPrefix b.state.seen place
      → c.state.seen ≡ place ++ entry_by b.state.number (if changed then Some entry else None)
      → IsCheckedHistory rules board.state.start (entries c.state.seen)
      → MayGiveAt gives rules (after board.state.start (entries place)) given
      → IfSome (if changed then Some entry else None) (IsAdvance gives rules board now b c)
  if_moved true b c entry given event place longer seen is_story may = record {
    given = given;
    event = event;
    place = place;
    longer = longer;
    here = subst (λ (l : List (ℕ × Entry)). IsPrefix l c.state.seen) seen (prefix_same c.state.seen);
    is_story =
        subst (λ (l : List (ℕ × Entry)). IsCheckedHistory rules board.state.start (entries l)) seen is_story;
    may = may;
  }
  if_moved false b c entry given event place longer seen is_story may = tt

  -- by an advance, or where there was no memory
  pub adds_advances : (a b c : Parts) → Adds (IsAdvance gives rules board now) a b
      → (answer : Result Advance Memory) → Advances rules board b c gives now answer
      → Adds (IsAdvance gives rules board now) a c
  adds_advances a b c before (Ok answer) moves =
      let lasts = advance_lasts gives rules board now in
      adds_makes (IsAdvance gives rules board now) lasts rules board a b c before (Advanced now moves.given)
      (Moment answer)
      (if_earlier (IsAdvance gives rules board now) lasts a b c before.goes
      (entry_if (Advanced now moves.given) (Moment answer))
      (if_moved (changes (Moment answer)) b c (record { event = Advanced now moves.given; answer = Moment answer })
      moves.given refl moves.makes.takes.story moves.makes.takes.longer moves.makes.takes.seen
      moves.makes.takes.is_story moves.may)) moves.makes
  adds_advances a b c before (Err fault) sees =
      adds_sees (IsAdvance gives rules board now) (advance_lasts gives rules board now) rules board a b c before
      (λ state answer. Unit {0}) fault sees

  -- and by as many as there are
  pub adds_advanced : (a b : Parts) (answer : Result Advance Memory)
      → AdvancesAll gives rules board a b now answer → Adds (IsAdvance gives rules board now) a b
  adds_advanced a b answer all = adds_advances a all.from b all.begun answer all.last
